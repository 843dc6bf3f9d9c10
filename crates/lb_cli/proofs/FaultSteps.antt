-- Faults, one after another.
use Rattle.std.proofs.Common.{◌≡◌, ◌∙◌, ◌<◌, ◌≤◌, ◌+◌, ◌-◌, ℕ, zero, suc, refl, ap, sym, arith, List, [], ◌∷◌, ◌++◌, append_assoc, append-nil}
use Rattle.std.proofs.Common.{Option, Some, None}
use Rattle.std.specs.Option.{option_map_or}
use Rattle.lb_config_sections.specs.declared.cause.LocatedFault.{LocatedFault}
use Rattle.lb_config_sections.specs.References.{checked_in}
use Rattle.lb_cli.specs.CheckingAll.{faults_after, next_fault, without_line}

-- none are looked for
pub none_wanted : (last : Option ℕ) (text : List ℕ) → faults_after last zero text ≡ []
unfolding faults_after
none_wanted last text = refl

-- no fault is left
pub no_fault : (last : Option ℕ) (most : ℕ) (text : List ℕ) → next_fault last (checked_in text) ≡ None → faults_after last (suc most) text ≡ []
unfolding faults_after
no_fault last most text none =
    ap (λ found. option_map_or (λ fault. fault ∷ faults_after (Some fault.line) most (without_line fault.line text)) found []) none

-- a fault, and then those behind it
pub one_fault : (last : Option ℕ) (most : ℕ) (text : List ℕ) (fault : LocatedFault) → next_fault last (checked_in text) ≡ Some fault
    → faults_after last (suc most) text ≡ fault ∷ faults_after (Some fault.line) most (without_line fault.line text)
unfolding faults_after
one_fault last most text fault some =
    ap (λ found. option_map_or (λ fault. fault ∷ faults_after (Some fault.line) most (without_line fault.line text)) found []) some

-- one fault more was found: those so far, and those of the text without its line
pub one_more_found : (faults all : List LocatedFault) (last : Option ℕ) (n i : ℕ) (text left : List ℕ) (fault : LocatedFault) → i < n
    → next_fault last (checked_in text) ≡ Some fault → left ≡ without_line fault.line text → faults ++ faults_after last (n - i) text ≡ all
    → (faults ++ fault ∷ []) ++ faults_after (Some fault.line) (n - (i + 1)) left ≡ all
one_more_found faults all last n i text left fault within some is so_far =
    let fewer : n - i ≡ suc (n - (i + 1)) = omega arith in
    append_assoc faults (fault ∷ []) (faults_after (Some fault.line) (n - (i + 1)) left)
    ∙ ap (λ rest. faults ++ fault ∷ faults_after (Some fault.line) (n - (i + 1)) rest) is
    ∙ ap (λ rest. faults ++ rest) (sym (ap (λ most. faults_after last most text) fewer ∙ one_fault last (n - (i + 1)) text fault some))
    ∙ so_far

-- there is none more
pub none_more_found : (faults all : List LocatedFault) (last : Option ℕ) (n i : ℕ) (text : List ℕ) → i < n
    → next_fault last (checked_in text) ≡ None → faults ++ faults_after last (n - i) text ≡ all → faults ≡ all
none_more_found faults all last n i text within none so_far =
    let fewer : n - i ≡ suc (n - (i + 1)) = omega arith in
    sym (append-nil faults) ∙ ap (λ rest. faults ++ rest) (sym (ap (λ most. faults_after last most text) fewer ∙ no_fault last (n - (i + 1)) text none))
    ∙ so_far

-- no more are looked for
pub most_found : (faults all : List LocatedFault) (last : Option ℕ) (n i : ℕ) (text : List ℕ) → n ≤ i
    → faults ++ faults_after last (n - i) text ≡ all → faults ≡ all
most_found faults all last n i text past so_far =
    let none : n - i ≡ 0 = omega arith in
    sym (append-nil faults) ∙ ap (λ rest. faults ++ rest) (sym (ap (λ most. faults_after last most text) none ∙ none_wanted last text)) ∙ so_far
