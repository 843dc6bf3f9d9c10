use Rattle.std.proofs.Common.{◌≡◌, length}
use Rattle.command_socket_serve.specs.Requests.{up_to_last_word}
use Rattle.command_socket_serve.proofs.request.up_to_last_word.Given as goal

abbrev pub invariant-loop-last : goal.invariant-loop-last
invariant-loop-last l = up_to_last_word l.text ≡ up_to_last_word l.fn.line

abbrev pub decreases-loop-last : goal.decreases-loop-last
decreases-loop-last l = length l.text
