-- The faults that `check --all` reports.
use Rattle.std.proofs.Common.{◌≡◌, ◌∙◌, ◌<◌, ℕ, zero, suc, true, refl, ap, sym, subst, arith, List, [], ◌∷◌, ◌++◌, length, map, append_assoc, append-nil, if◌then◌else◌}
use Rattle.std.proofs.Common.{Option, Some, None, Result, Ok, Err, codes}
use Rattle.std.proofs.lemmas.Fmt.{decimal_digit}
use Rattle.std.specs.Fmt.{decimal}
use Rattle.std.specs.List.{flat_map}
use Rattle.lb_config_sections.specs.declared.cause.LocatedFault.{LocatedFault}
use Rattle.lb_config_sections.specs.References.{checked_in}
use Rattle.lb_config_sections.specs.SectionsView.{SectionsView}
use Rattle.lb_config_hints.specs.declared.hint.Hint.{Hint}
use Rattle.lb_cli_faults.specs.Faults.{fault_line}
use Rattle.lb_cli.specs.AllFaults.{BeginsAsCheck, OneFaultIsOne, NoOtherIsLeft, last_line, without_lines}
use Rattle.lb_cli.specs.Checking.{is_valid, report_of}
use Rattle.lb_cli.specs.CheckingAll.{IsFullReport, aside, count_line, faults_after, faults_text, first_faults, full_report, hint_line, next_fault, said_lines, without_line}
use Rattle.lb_cli.specs.declared.check_all_job.TheConstants.{MOST_FAULTS}
use Rattle.lb_cli.proofs.FaultSteps.{no_fault, one_fault}

-- a valid text
right : (text : List ℕ) (faults : List (LocatedFault × Option Hint)) (concerns : List (List ℕ)) (sections : SectionsView) → checked_in text ≡ Ok sections
    → full_report faults concerns text ≡ report_of (checked_in text) ++ flat_map aside concerns
right text faults concerns sections is =
    subst (λ reading. (if is_valid reading then report_of reading ++ flat_map aside concerns else faults_text faults) ≡ report_of reading ++ flat_map aside concerns)
    (sym is) refl

-- a text with a fault
wrong : (text : List ℕ) (faults : List (LocatedFault × Option Hint)) (concerns : List (List ℕ)) (fault : LocatedFault) → checked_in text ≡ Err fault
    → full_report faults concerns text ≡ faults_text faults
wrong text faults concerns fault is =
    ap (λ reading. if is_valid reading then report_of reading ++ flat_map aside concerns else faults_text faults) is

-- the first of some faults, with its hint
front : (faults : List (LocatedFault × Option Hint)) (fault : LocatedFault) (others : List LocatedFault) → map (λ said. said.0) faults ≡ fault ∷ others
    → (hint : Option Hint) × (more : List (LocatedFault × Option Hint)) × (faults ≡ (fault, hint) ∷ more) × (map (λ said. said.0) more ≡ others)
front [] fault others is = absurd (let e : [] ≡ fault ∷ others = is in cc)
front (said ∷ more) fault others is =
    let all : said.0 ∷ map (λ said. said.0) more ≡ fault ∷ others = is in
    let one : said.0 ≡ fault = cc in
    let rest : map (λ said. said.0) more ≡ others = cc in
    (said.1, more, ap (λ it. (it, said.1) ∷ more) one, rest)

-- the faults behind the first one
abbrev others : List ℕ → LocatedFault → List LocatedFault
others text fault = faults_after (Some fault.line) 99 (without_line fault.line text)

first : (text : List ℕ) (fault : LocatedFault) → checked_in text ≡ Err fault → first_faults MOST_FAULTS text ≡ fault ∷ others text fault
first text fault is = one_fault None 99 text fault (ap (next_fault None) is)

pub begins_as_check : BeginsAsCheck
begins_as_check text report full = go (checked_in text) refl
  where
    go : (reading : Result SectionsView LocatedFault) → checked_in text ≡ reading → (more : List ℕ) × (report ≡ report_of (checked_in text) ++ more)
    go (Ok sections) is = (flat_map aside full.concerns, full.is ∙ right text full.faults full.concerns sections is)
    go (Err fault) is =
        let said = front full.faults fault (others text fault) (full.found ∙ first text fault is) in
        let behind : List ℕ = flat_map said_lines said.1 ++ count_line (length ((fault, said.0) ∷ said.1)) in
        let more : List ℕ = hint_line said.0 ++ behind in (
          more,
          full.is ∙ wrong text full.faults full.concerns fault is ∙ ap faults_text said.2
              ∙ append_assoc (fault_line fault ++ hint_line said.0) (flat_map said_lines said.1) (count_line (length ((fault, said.0) ∷ said.1)))
              ∙ append_assoc (fault_line fault) (hint_line said.0) behind
              ∙ ap (λ line. line ++ more) (sym (ap report_of is)),
        )

-- a valid text has no fault
none_in_valid : (last : Option ℕ) (reading : Result SectionsView LocatedFault) → is_valid reading ≡ true → next_fault last reading ≡ None
none_in_valid last (Ok sections) valid = refl
none_in_valid last (Err fault) valid = cc

-- what is printed of a valid text
pub valid_report : (text report : List ℕ) (concerns : List (List ℕ)) → is_valid (checked_in text) ≡ true
    → report ≡ report_of (checked_in text) ++ flat_map aside concerns → IsFullReport text report
valid_report text report concerns valid is =
    record {
      faults = [];
      found = sym (no_fault None 99 text (none_in_valid None (checked_in text) valid));
      concerns = concerns;
      is = is ∙ sym (ap (λ right. if right then report_of (checked_in text) ++ flat_map aside concerns else faults_text []) valid);
    }

one_fault_line : count_line 1 ≡ codes "1 fault\n"
one_fault_line =
    let number : decimal 1 ≡ 49 ∷ [] = decimal_digit 1 (omega arith) in
    ap (λ digits. digits ++ codes " fault\n") number

none_said : (faults : List (LocatedFault × Option Hint)) → map (λ said. said.0) faults ≡ [] → faults ≡ []
none_said [] is = refl
none_said (said ∷ faults) is = absurd (let e : said.0 ∷ map (λ said. said.0) faults ≡ [] = is in cc)

pub one_fault_is_one : OneFaultIsOne
one_fault_is_one text report fault full is valid =
    let left : List ℕ = without_line fault.line text in
    let no_other = no_fault (Some fault.line) 98 left (none_in_valid (Some fault.line) (checked_in left) valid) in
    let said = front full.faults fault [] (full.found ∙ first text fault is ∙ ap (λ more. fault ∷ more) no_other) in
    let line : List ℕ = fault_line fault ++ hint_line said.0 in (
      said.0,
      full.is ∙ wrong text full.faults full.concerns fault is ∙ ap faults_text (said.2 ∙ ap (λ more. (fault, said.0) ∷ more) (none_said said.1 said.3))
          ∙ ap (λ lines. lines ++ count_line 1) (append-nil line) ∙ ap (λ count. line ++ count) one_fault_line,
    )

-- no other fault is left behind so many faults of any text
abbrev IsLeft : ℕ → Type 0
IsLeft most = (last : Option ℕ) (text : List ℕ) → length (faults_after last most text) < most
    → next_fault (last_line last (faults_after last most text)) (checked_in (without_lines (faults_after last most text) text)) ≡ None

one_more_left : (most : ℕ) → IsLeft most → IsLeft (suc most)
one_more_left most rest last text few = go (next_fault last (checked_in text)) refl
  where
    go : (found : Option LocatedFault) → next_fault last (checked_in text) ≡ found →
        next_fault (last_line last (faults_after last (suc most) text)) (checked_in (without_lines (faults_after last (suc most) text) text)) ≡ None
    go None none =
        subst (λ faults. next_fault (last_line last faults) (checked_in (without_lines faults text)) ≡ None) (sym (no_fault last most text none)) none
    go (Some fault) some =
        let all = one_fault last most text fault some in
        let left : List ℕ = without_line fault.line text in
        let fewer : length (faults_after (Some fault.line) most left) < most = omega (arith, ap length all) in
        subst (λ faults. next_fault (last_line last faults) (checked_in (without_lines faults text)) ≡ None) (sym all)
        (rest (Some fault.line) left fewer)

all_left : (most : ℕ) → IsLeft most
all_left zero last text few = absurd (omega arith)
all_left (suc most) last text few = one_more_left most (all_left most) last text few

pub no_other_is_left : NoOtherIsLeft
no_other_is_left text few = all_left MOST_FAULTS None text few
