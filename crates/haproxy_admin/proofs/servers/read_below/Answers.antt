use Rattle.std.proofs.Common.{◌≡◌, suc, length, ap, arith}
use Rattle.haproxy_admin.proofs.servers.read_below.Goals as goal

pub read_rows-requires : goal.read_rows-requires
read_rows-requires c =
    let all : length c.args.lines.now ≡ suc (length c.next_part.new.self) = ap length c.in-Some.ensures.first in
    omega (arith, all, c.requires)
