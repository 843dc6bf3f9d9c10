-- A replay, piece by piece.
use Rattle.std.proofs.Common.{◌≡◌, ℕ, ◌+◌, Bool, true, false, Option, Some, None, IfSome, List, [], ◌∷◌, ◌++◌, length, map, flat_map, option_map, refl, sym, ap, subst, ◌∙◌, arith, append-nil, length-append}
use Rattle.std.specs.Prelude.{if◌then◌else◌}
use Rattle.std.specs.Io.KnownBytes.{Appends}
use Rattle.std.proofs.lemmas.Grind.{flat_map-append}
use Rattle.std.proofs.lemmas.List.{map_push}
use Rattle.std.proofs.lemmas.Option.{same_Some}
use Rattle.lb_types_counted.proofs.Writes.{Appends-nil, Appends-then}
use Rattle.lb_desk_model.specs.declared.entry.Entry.{Entry}
use Rattle.lb_desk_step.specs.Desk.{StandsAt}
use Rattle.lb_script.specs.declared.script_line.ScriptLine.{ScriptLine}
use Rattle.lb_replay_lines.specs.Lines.{lines_of, through_end}
use Rattle.lb_replay_lines.specs.Readings.{ReadingView, IsReadWhole}
use Rattle.lb_replay.specs.Farms.{FarmView}
use Rattle.lb_replay.specs.Days.{DayView, Outcome, opening_day}
use Rattle.lb_replay.specs.Pieces.{AreCut, behind_piece, is_plan_text, piece_at, said_by}
use Rattle.lb_replay.specs.Answers.{Answers, IsNotBad, is_bad}
use Rattle.lb_replay.specs.Replays.{Answered, AreAnswered, IsAnswered, Output, bad_line, day_behind, joined, line_count, log_of, text_of}
use Rattle.lb_replay.specs.Steps.{AreGiven, Does, GoneSoFar, HasGone, HasPiece, Replays, SaysNext, TakesPiece}
use Rattle.lb_replay.proofs.Given.{given_answered, not_bad}
use Rattle.lb_replay.proofs.Outcomes.{stands_answered}

-- ---- a piece more

cut_more : (farm : FarmView) (lines : List (List ℕ)) (pieces : List (List (List ℕ))) (line : List ℕ) (more : List (List ℕ))
    → AreCut farm lines pieces (line ∷ more) → AreCut farm lines (pieces ++ piece_at farm line more ∷ []) (behind_piece farm line more)
cut_more farm lines [] line more is =
    subst (λ (ls : List (List ℕ)). AreCut farm ls (piece_at farm line more ∷ []) (behind_piece farm line more)) (sym is) (refl, refl)
cut_more farm [] (piece ∷ pieces) line more cut = absurd cut
cut_more farm (first ∷ lines) (piece ∷ pieces) line more cut =
    (cut.0, cut_more farm (behind_piece farm first lines) pieces line more cut.1)

answered_more : (farm : FarmView) (day : DayView) (done : List Answered) (a : Answered) → AreAnswered farm day done
    → IsAnswered farm (day_behind day done) a.lines a.outcome → AreAnswered farm day (done ++ a ∷ [])
answered_more farm day [] a all last = (last, tt)
answered_more farm day (d ∷ done) a all last = (all.0, answered_more farm d.outcome.day done a all.1 last)

day_more : (day : DayView) (done : List Answered) (a : Answered) → day_behind day (done ++ a ∷ []) ≡ a.outcome.day
day_more day [] a = refl
day_more day (d ∷ done) a = day_more d.outcome.day done a

-- either way a piece begins with its first line
answers_first : (farm : FarmView) (day : DayView) (line : List ℕ) (more : List (List ℕ)) (is_text : Bool) (outcome : Outcome)
    → Answers farm day (joined (if is_text then line ∷ through_end more else line ∷ [])) (said_by farm line) outcome
    × IsNotBad (said_by farm line) outcome
    → IsAnswered farm day (if is_text then line ∷ through_end more else line ∷ []) outcome
answers_first farm day line more true outcome answers = answers
answers_first farm day line more false outcome answers = answers

-- the piece has a first line, which says what it asks for
answers_piece : (farm : FarmView) (day : DayView) (line : List ℕ) (more : List (List ℕ)) (said : ScriptLine) (outcome : Outcome)
    → said_by farm line ≡ Some said → Answers farm day (joined (piece_at farm line more)) (Some said) outcome → IsNotBad (Some said) outcome
    → IsAnswered farm day (piece_at farm line more) outcome
answers_piece farm day line more said outcome says answers good =
    answers_first farm day line more (is_plan_text (said_by farm line)) outcome (
      subst (λ (s : Option ScriptLine). Answers farm day (joined (piece_at farm line more)) s outcome) (sym says) answers,
      subst (λ (s : Option ScriptLine). IsNotBad s outcome) (sym says) good,
    )

module _ (farm : FarmView) (all : List (List ℕ)) (old new : ReadingView) (day behind : DayView) (before mid after : Option (List ℕ)) where
  gone_piece : HasGone farm all old day before mid → (left : List (List ℕ)) → old.left ≡ Some left → (said : ScriptLine) → HasPiece farm left old said new
      → Does (Answers farm day new.piece (Some said)) behind mid after → HasGone farm all new behind before after
  gone_piece gone left is said piece did =
      let lines = piece_at farm piece.line piece.more in
      let a : Answered = record { lines = lines; outcome = did.outcome } in
      let left_is : gone.left ≡ piece.line ∷ piece.more = same_Some _ _ (sym gone.now ∙ is) ∙ piece.split in
      let answers : Answers farm day (joined lines) (Some said) did.outcome =
      subst (λ (t : List ℕ). Answers farm day t (Some said) did.outcome) piece.piece did.is in
      let good : IsNotBad (Some said) did.outcome =
      not_bad farm (log_of gone.done) day (joined lines) said did.outcome answers gone.stands gone.given in
      let given : AreGiven (log_of gone.done ++ did.outcome.entries) did.outcome.day.sheets =
      given_answered farm (log_of gone.done) day (joined lines) (Some said) did.outcome answers gone.stands gone.given in
      let here : IsAnswered farm day lines did.outcome = answers_piece farm day piece.line piece.more said did.outcome piece.says answers good in
      let pushed : map (λ (d : Answered). d.lines) (gone.done ++ a ∷ []) ≡ map (λ d. d.lines) gone.done ++ lines ∷ [] = map_push (λ (d : Answered). d.lines) gone.done a in
      let log_is : log_of (gone.done ++ a ∷ []) ≡ log_of gone.done ++ did.outcome.entries =
      flat_map-append (λ (d : Answered). d.outcome.entries) gone.done (a ∷ []) ∙ ap (λ es. log_of gone.done ++ es) (append-nil did.outcome.entries) in
      let text_is : text_of (gone.done ++ a ∷ []) ≡ text_of gone.done ++ did.outcome.text =
      flat_map-append (λ (d : Answered). d.outcome.text) gone.done (a ∷ []) ∙ ap (λ es. text_of gone.done ++ es) (append-nil did.outcome.text) in
      let lines_are : line_count (gone.done ++ a ∷ []) ≡ line_count gone.done + length lines =
      ap length (flat_map-append (λ (d : Answered). d.lines) gone.done (a ∷ [])) ∙ (length-append (flat_map (λ (d : Answered). d.lines) gone.done) (lines ++ [])
      ∙ ap (λ (ls : List (List ℕ)). line_count gone.done + length ls) (append-nil lines)) in
      let stands : StandsAt farm.backend (log_of gone.done ++ did.outcome.entries) did.outcome.day.desk =
      stands_answered farm.backend (log_of gone.done) farm day (joined lines) (Some said) did.outcome answers gone.stands in
      record {
        done = gone.done ++ a ∷ [];
        left = behind_piece farm piece.line piece.more;
        now = piece.left;
        cut =
            subst (λ (ps : List (List (List ℕ))). AreCut farm all ps (behind_piece farm piece.line piece.more)) (sym pushed)
            (cut_more farm all (map (λ d. d.lines) gone.done) piece.line piece.more
            (subst (λ (ls : List (List ℕ)). AreCut farm all (map (λ (d : Answered). d.lines) gone.done) ls) left_is gone.cut));
        answered =
            answered_more farm (opening_day farm) gone.done a gone.answered
            (subst (λ (d : DayView). IsAnswered farm d lines did.outcome) (sym gone.arrived) here);
        arrived = day_more (opening_day farm) gone.done a ∙ did.day;
        stands =
            subst (λ (es : List Entry). StandsAt farm.backend es behind.desk) (sym log_is)
            (subst (λ (d : DayView). StandsAt farm.backend (log_of gone.done ++ did.outcome.entries) d.desk) did.day stands);
        given =
            subst (λ (es : List Entry). AreGiven es behind.sheets) (sym log_is)
            (subst (λ (d : DayView). AreGiven (log_of gone.done ++ did.outcome.entries) d.sheets) did.day given);
        went = subst (Appends before after) (sym text_is) (Appends-then before mid after (text_of gone.done) did.outcome.text gone.went did.went);
        count = omega (arith, piece.count, gone.count, lines_are);
      }

-- one piece more
pub gone_more : (farm : FarmView) (start : Option (List (List ℕ))) (old new : ReadingView) (day behind : DayView) (before mid after : Option (List ℕ)) (said : ScriptLine)
    → GoneSoFar farm start old day before mid → TakesPiece farm old.left old said new
    → Does (Answers farm day new.piece (Some said)) behind mid after → GoneSoFar farm start new behind before after
gone_more farm None old new day behind before mid after said gone takes did = tt
gone_more farm (Some all) old new day behind before mid after said gone takes did =
    let piece = subst (λ (l : Option (List (List ℕ))). TakesPiece farm l old said new) gone.now takes in
    gone_piece farm all old new day behind before mid after gone gone.left gone.now said piece did

-- the first line of a piece says what the piece does
pub says_first : (farm : FarmView) (left : Option (List (List ℕ))) (old : ReadingView) (said : ScriptLine) (new : ReadingView)
    → TakesPiece farm left old said new → SaysNext farm left (Some said)
says_first farm None old said new takes = tt
says_first farm (Some lines) old said new piece = (piece.line, piece.more, piece.split, piece.says)

-- ---- the first and the last

pub some_weaker : {A : Type 0} (o : Option A) (P Q : A → Type 0) → ((x : A) → P x → Q x) → IfSome o P → IfSome o Q
some_weaker None P Q weaker h = tt
some_weaker (Some x) P Q weaker h = weaker x h

pub gone_none : (farm : FarmView) (start : Option (List (List ℕ))) (lines : ReadingView) (day : DayView) (before : Option (List ℕ))
    → lines.left ≡ start → lines.count ≡ 0 → day ≡ opening_day farm → StandsAt farm.backend [] day.desk
    → GoneSoFar farm start lines day before before
gone_none farm None lines day before left count opening stands = tt
gone_none farm (Some all) lines day before left count opening stands = record {
  done = [];
  left = all;
  now = left;
  cut = refl;
  answered = tt;
  arrived = sym opening;
  stands = stands;
  given = subst (λ (d : DayView). AreGiven [] d.sheets) (sym opening) (λ place sheet at. absurd cc);
  went = Appends-nil before;
  count = count;
}

-- behind all lines
pub gone_whole : (farm : FarmView) (script : Option (List ℕ)) (lines : ReadingView) (day : DayView) (before after : Option (List ℕ))
    → GoneSoFar farm (option_map lines_of script) lines day before after → IsReadWhole lines.left
    → IfSome script (λ text. Replays farm text None before after)
gone_whole farm None lines day before after gone whole = tt
gone_whole farm (Some text) lines day before after gone whole =
    let none : gone.left ≡ [] = subst IsReadWhole gone.now whole in
    let output : Output = record { out = text_of gone.done; err = []; is_whole = true } in
    record {
      output = output;
      is = record {
        done = gone.done;
        left = [];
        cut = subst (λ (ls : List (List ℕ)). AreCut farm (lines_of text) (map (λ (d : Answered). d.lines) gone.done) ls) none gone.cut;
        answered = gone.answered;
        history = subst (λ (d : DayView). StandsAt farm.backend (log_of gone.done) d.desk) (sym gone.arrived) gone.stands;
        out = refl;
        end = (refl, refl);
      };
      out = gone.went;
      err = refl;
      whole = refl;
    }

-- at a bad line
pub gone_bad : (farm : FarmView) (script : Option (List ℕ)) (lines : ReadingView) (day : DayView) (before after : Option (List ℕ)) (said : Option ScriptLine) (number : ℕ)
    → GoneSoFar farm (option_map lines_of script) lines day before after → SaysNext farm lines.left said → is_bad day said ≡ true
    → number ≡ lines.count + 1 → IfSome script (λ text. Replays farm text (Some number) before after)
gone_bad farm None lines day before after said number gone next bad is = tt
gone_bad farm (Some text) lines day before after said number gone next bad is =
    let line = subst (λ (l : Option (List (List ℕ))). SaysNext farm l said) gone.now next in
    let number_is : number ≡ line_count gone.done + 1 = omega (arith, is, gone.count) in
    let output : Output = record { out = text_of gone.done; err = bad_line number; is_whole = false } in
    let bad_here : is_bad (day_behind (opening_day farm) gone.done) (said_by farm line.0) ≡ true =
    ap (λ (d : DayView). is_bad d (said_by farm line.0)) gone.arrived ∙ (ap (is_bad day) line.3 ∙ bad) in
    record {
      output = output;
      is = record {
        done = gone.done;
        left = line.0 ∷ line.1;
        cut = subst (λ (ls : List (List ℕ)). AreCut farm (lines_of text) (map (λ (d : Answered). d.lines) gone.done) ls) line.2 gone.cut;
        answered = gone.answered;
        history = subst (λ (d : DayView). StandsAt farm.backend (log_of gone.done) d.desk) (sym gone.arrived) gone.stands;
        out = refl;
        end = (bad_here, ap bad_line number_is, refl);
      };
      out = gone.went;
      err = refl;
      whole = refl;
    }
