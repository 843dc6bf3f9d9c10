-- What sendings from the first one on have written.
use Rattle.std.proofs.Common.{ℕ, List, [], ◌∷◌, ◌++◌, Result, Ok}
use Rattle.lb_types_counted.specs.Writers.{WriterState}
use Rattle.dual_cert_write.specs.Sending.{Sends}
use Rattle.dual_cert_write.proofs.Sends.{Sends-then, WasSent-whole, WasSent-failed, WasSent-front}
use Rattle.lb_answers.specs.Answers.{Wrote}

pub Sends-wrote : {E : Type 0} (old new : WriterState) (sent : Result (Unit {0}) E) (text : List ℕ) → Sends old (Ok tt) new sent text → Wrote old new sent text
Sends-wrote old new sent text did =
    record {
      whole = WasSent-whole old new sent text did;
      failed = WasSent-failed old new sent text did;
      front = WasSent-front old new sent text did;
    }

-- the same of a line and its end
pub Sends-wrote_line : {E : Type 0} (old mid new : WriterState) (between sent : Result (Unit {0}) E) (line : List ℕ) → Sends old (Ok tt) mid between line → Sends mid between new sent (10 ∷ []) → Wrote old new sent (line ++ 10 ∷ [])
Sends-wrote_line old mid new between sent line words end =
    Sends-wrote old new sent (line ++ 10 ∷ []) (Sends-then old mid new (Ok tt) between sent line (10 ∷ []) words end)
