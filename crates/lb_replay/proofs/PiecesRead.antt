-- Pieces of a script that were read.
use Rattle.std.proofs.Common.{◌≡◌, ℕ, ◌+◌, true, false, cond, Option, Some, None, List, [], ◌∷◌, ◌++◌, length, sym, ap, subst, ◌∙◌, arith, append-nil}
use Rattle.lb_script.specs.declared.script_line.ScriptLine.{ScriptLine}
use Rattle.lb_replay_lines.specs.Lines.{behind_end, through_end}
use Rattle.lb_replay_lines.specs.Readings.{ReadingView, AddsLine, AddsThroughEnd}
use Rattle.lb_replay.specs.Farms.{FarmView}
use Rattle.lb_replay.specs.Pieces.{is_plan_text, piece_at, said_by}
use Rattle.lb_replay.specs.Replays.{joined}
use Rattle.lb_replay.specs.Steps.{SaysNext, TakesPiece}

-- the line that was read says this
pub says_next : (farm : FarmView) (lines : Option (List (List ℕ))) (piece : List ℕ) (left : Option (List (List ℕ))) (said : Option ScriptLine)
    → AddsLine lines [] piece left → said ≡ said_by farm piece → SaysNext farm lines said
says_next farm None piece left said adds says = tt
says_next farm (Some lines) piece left said (line, more, split, is, rest) says = (line, more, split, ap (said_by farm) (sym is) ∙ sym says)

-- a line that begins no plan's text is a piece
pub line_taken : (farm : FarmView) (lines : Option (List (List ℕ))) (old new : ReadingView) (said : ScriptLine) → AddsLine lines [] new.piece new.left
    → new.count ≡ old.count + 1 → Some said ≡ said_by farm new.piece → is_plan_text (Some said) ≡ false → TakesPiece farm lines old said new
line_taken farm None old new said adds count says plain = tt
line_taken farm (Some lines) old new said (line, more, split, is, rest) count says plain =
    let says_it : said_by farm line ≡ Some said = ap (said_by farm) (sym is) ∙ sym says in
    let test : is_plan_text (said_by farm line) ≡ false = ap is_plan_text says_it ∙ plain in
    let piece : piece_at farm line more ≡ line ∷ [] = ap (λ b. cond b (line ∷ through_end more) (line ∷ [])) test in
    record {
      line = line;
      more = more;
      split = split;
      says = says_it;
      left = rest ∙ ap Some (sym (ap (λ b. cond b (behind_end more) more) test));
      piece = is ∙ (sym (append-nil line) ∙ ap joined (sym piece));
      count = count ∙ ap (λ (ls : List (List ℕ)). old.count + length ls) (sym piece);
    }

-- a plan's text is one too
pub text_taken : (farm : FarmView) (lines : Option (List (List ℕ))) (old mid new : ReadingView) (said : ScriptLine) → AddsLine lines [] mid.piece mid.left
    → mid.count ≡ old.count + 1 → Some said ≡ said_by farm mid.piece → is_plan_text (Some said) ≡ true → AddsThroughEnd mid.left mid new
    → TakesPiece farm lines old said new
text_taken farm None old mid new said adds count says text more_lines = tt
text_taken farm (Some lines) old mid new said (line, more, split, is, rest) count says text more_lines =
    let says_it : said_by farm line ≡ Some said = ap (said_by farm) (sym is) ∙ sym says in
    let test : is_plan_text (said_by farm line) ≡ true = ap is_plan_text says_it ∙ text in
    let piece : piece_at farm line more ≡ line ∷ through_end more = ap (λ b. cond b (line ∷ through_end more) (line ∷ [])) test in
    let added = subst (λ (l : Option (List (List ℕ))). AddsThroughEnd l mid new) rest more_lines in
    record {
      line = line;
      more = more;
      split = split;
      says = says_it;
      left = added.0 ∙ ap Some (sym (ap (λ b. cond b (behind_end more) more) test));
      piece = added.1 ∙ (ap (λ t. t ++ joined (through_end more)) is ∙ ap joined (sym piece));
      count = omega (arith, added.2, count, ap length piece);
    }
