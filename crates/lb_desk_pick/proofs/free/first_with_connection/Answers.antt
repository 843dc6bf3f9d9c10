use Rattle.std.proofs.Common.{◌≡◌, ℕ, Bool, ◌&&◌, ◌<◌, Some, length, sym, ap, ◌∙◌, arith}
use Rattle.lb_types.specs.Servers.{has}
use Rattle.lb_desk_pick.specs.Walks.{has_connection}
use Rattle.lb_desk_pick.proofs.Ranges.{found_number, none_next_number}
use Rattle.lb_desk_pick.proofs.free.first_with_connection.Goals as goal

pub returns-then-is_free : goal.returns-then-is_free
returns-then-is_free c =
    let test : ℕ → Bool = λ s. has c.args.candidates s && has_connection c.args.farm.now c.args.book.now s in
    let many : c.len-i-end.result ≡ length c.args.farm.now.servers = c.len-i-end.ensures.exact in
    let within : c.loop-i.i < length c.args.farm.now.servers = omega arith in
    ap (λ (s : ℕ). Some s) c.new-server.ensures
    ∙ found_number test c.loop-i.i (length c.args.farm.now.servers) within c.loop-i.invariant
    (ap test (sym c.new-server.ensures) ∙ (sym c.is_free.ensures ∙ c.if-is_free.true))

pub loop-i-preserved : goal.loop-i-preserved
loop-i-preserved c =
    let test : ℕ → Bool = λ s. has c.args.candidates s && has_connection c.args.farm.now c.args.book.now s in
    none_next_number test c.loop-i.i c.loop-i.invariant
    (ap test (sym c.new-server.ensures) ∙ (sym c.is_free.ensures ∙ c.if-is_free.false))
