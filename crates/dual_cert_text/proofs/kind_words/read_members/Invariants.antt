use Rattle.std.proofs.Common.{◌≡◌, ◌≤◌, length}
use Rattle.dual_cert_text.specs.RowLines.{members_of}
use Rattle.dual_cert_text.proofs.SetWords.{with_members}
use Rattle.dual_cert_text.proofs.kind_words.read_members.Given as goal

abbrev pub invariant-loop-name : goal.invariant-loop-name
invariant-loop-name l = (with_members l.servers l.from l.found l.names ≡ members_of l.fn.servers l.fn.names) × (l.from ≤ length l.servers)

abbrev pub decreases-loop-name : goal.decreases-loop-name
decreases-loop-name l = length l.names
