use Rattle.std.proofs.Common.{◌≡◌, suc, length, sym, ap, ◌∙◌, arith}
use Rattle.lb_types_text.specs.Parts.{parts}
use Rattle.haproxy_admin.proofs.Lines.{few_parts}
use Rattle.haproxy_admin.proofs.servers.read_servers.Goals as goal

pub read_below-requires : goal.read_below-requires
read_below-requires c =
    let few = few_parts 10 c.args.text.now in
    let all : length (parts 10 c.args.text.now) ≡ suc (length c.next_part.new.self) = ap length (sym c.new-lines.ensures ∙ c.in-Some.ensures.first) in
    omega (arith, few, all)
