-- A request on its way to a server, as contracts see it.
use Rattle.std.specs.Prelude.{ℕ, ◌==◌, Bool, ◌||◌, not, List, [], length, cond}
use Rattle.http_relay_forward.specs.declared.framing.BodyKind.{BodyKind}

-- the head that the server gets, how the end of the body is told, what was read behind the client's head, and whether the client
-- waits to be told to go on
pub record OutgoingView : Type 0 where
  pub head : List ℕ
  pub kind : BodyKind
  pub behind : List ℕ
  pub expects_continue : Bool

-- what the server may get with the dial, before anything else is done: the head; but nothing where the client is told to go on before that, or
-- where bytes of a body go out with the head
abbrev pub opening : OutgoingView → List ℕ
opening request = cond (request.expects_continue || not (length request.behind == 0)) [] request.head
