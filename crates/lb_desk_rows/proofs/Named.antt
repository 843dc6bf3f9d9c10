-- Servers whose names are the letters a and b.
use Rattle.std.proofs.Common.{◌≡◌, ◌≢◌, ℕ, Bool, true, Option, Ok, List, [], ◌∷◌, refl, sym, ap, ◌∙◌, arith}
use Rattle.std.specs.Prelude.{AllPairs, slice_index}
use Rattle.std.proofs.lemmas.List.Elements.{All-cons, All-nil}
use Rattle.std.proofs.lemmas.List.Kept.{AllPairs-cons}
use Rattle.lb_types.specs.Names.{is_name, name_of}
use Rattle.lb_desk_model.specs.declared.backend.BackendServer.{BackendServer}
use Rattle.lb_types.specs.declared.table_settings.TableSettings.{TableSettings}
use Rattle.lb_types.specs.declared.balance.Balance.{Balance}
use Rattle.lb_desk_model.specs.Backends.{IsBackend, backend_of_parts}

abbrev IsNamed : BackendServer → Type 0
IsNamed s = is_name s.name ≡ true

abbrev Differ : BackendServer → BackendServer → Type 0
Differ s t = s.name ≢ t.name

record Letter (s : BackendServer) (letter : ℕ) : Type 0 where
  is : s.name ≡ letter ∷ []
  named : IsNamed s

a_is : (s : BackendServer) → name_of (97 ∷ []) ≡ Ok s.name → Letter s 97
a_is s read =
    let both : Ok (97 ∷ []) ≡ Ok s.name = read in
    let e : 97 ∷ [] ≡ s.name = cc in
    record { is = sym e; named = rw (sym e) refl }

b_is : (s : BackendServer) → name_of (98 ∷ []) ≡ Ok s.name → Letter s 98
b_is s read =
    let both : Ok (98 ∷ []) ≡ Ok s.name = read in
    let e : 98 ∷ [] ≡ s.name = cc in
    record { is = sym e; named = rw (sym e) refl }

differ : (s t : BackendServer) (i j : ℕ) → i ≢ j → Letter s i → Letter t j → Differ s t
differ s t i j other first second = λ same.
    let e : i ∷ [] ≡ j ∷ [] = sym first.is ∙ (same ∙ second.is) in
    other (ap (λ (xs : List ℕ). slice_index xs 0) e)

none : AllPairs Differ []
none = λ i j d below within. absurd (omega arith)

pub two_make_a_backend : (balance : Balance) (all : Bool) (table : Option TableSettings) (a b : BackendServer)
    → name_of (97 ∷ []) ≡ Ok a.name → name_of (98 ∷ []) ≡ Ok b.name → IsBackend (backend_of_parts balance all table (a ∷ b ∷ []))
two_make_a_backend balance all table a b first second =
    let x = a_is a first in
    let y = b_is b second in
    let a_b : Differ a b = differ a b 97 98 (omega arith) x y in
    record {
      few = omega arith;
      named = All-cons IsNamed a (b ∷ []) x.named (All-cons IsNamed b [] y.named (All-nil IsNamed));
      distinct =
          AllPairs-cons Differ a (b ∷ []) (All-cons (Differ a) b [] a_b (All-nil (Differ a)))
          (AllPairs-cons Differ b [] (All-nil (Differ b)) none);
    }
