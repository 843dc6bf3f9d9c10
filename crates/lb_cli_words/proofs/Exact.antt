-- What the kinds of an error say, where the command is the program's.
use Rattle.std.proofs.Common.{◌≡◌, ◌∙◌, ◌⊎◌, Bool, true, false, refl, sym, ap, subst, List, [], ◌∷◌, true≢false, inl, inr}
use Rattle.clap.specs.Faults.{fault_of, is_simple_and_free}
use Rattle.clap.specs.Words.{App, HasKind, Kinds, kind_of}
use Rattle.clap.specs.declared.error.Error.{Error}
use Rattle.clap.specs.declared.error.kind.ErrorKind.TheVariants as kind
use Rattle.clap.proofs.OnLiterals.{clap_on_literals}
use Rattle.lb_cli_words.specs.Words.{Text}
use Rattle.lb_cli_words.specs.Clap.{commands_app}

is_exact : is_simple_and_free commands_app ≡ true
unfolding clap_on_literals
is_exact = refl

-- the kinds are exact of the program's commands
pub exact : (app : App) → app ≡ commands_app → is_simple_and_free app ≡ true
exact app same = ap is_simple_and_free same ∙ is_exact

-- an error for words that only ask for help is that, or memory ran out
pub help_or_memory : (app : App) (words : List Text) (e : Error) → app ≡ commands_app → fault_of commands_app words ≡ kind.DisplayHelp ∷ []
    → (is_simple_and_free app ≡ true → HasKind (fault_of app words) e) → (kind_of e ≡ kind.DisplayHelp) ⊎ (kind_of e ≡ kind.OutOfMemory)
help_or_memory app words e same asks has = go (subst (λ kinds. HasKind kinds e) (ap (λ a. fault_of a words) same ∙ asks) (has (exact app same)))
  where
    go : HasKind (kind.DisplayHelp ∷ []) e → (kind_of e ≡ kind.DisplayHelp) ⊎ (kind_of e ≡ kind.OutOfMemory)
    go (inl out) = inr out
    go (inr (inl is)) = inl is
    go (inr (inr none)) = absurd none

abbrev is_empty : Kinds → Bool
is_empty [] = true
is_empty (k ∷ ks) = false

-- such words are never taken
pub never_taken : (app : App) (words : List Text) → app ≡ commands_app → fault_of commands_app words ≡ kind.DisplayHelp ∷ []
    → (is_simple_and_free app ≡ true → fault_of app words ≡ []) → ⊥
never_taken app words same asks taken =
    true≢false (sym (ap is_empty (taken (exact app same))) ∙ ap is_empty (ap (λ a. fault_of a words) same ∙ asks))
