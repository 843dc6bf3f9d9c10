-- Pins changed one after another.
use Rattle.std.proofs.Common.{◌≡◌, ℕ, ◌+◌, ◌<◌, Result, List, [], ◌∷◌, ◌++◌, length, take, get_or, refl, sym, ap, subst, ◌∙◌, append_assoc, append-nil}
use Rattle.std.proofs.lemmas.List.{take_more}
use mathlib.Core.List.{map-append}
use Rattle.lb_types_counted.specs.Writers.{WriterState}
use Rattle.pin_set.specs.declared.pin.PinId.{PinId}
use Rattle.pin_set.specs.declared.table_pin.TablePin.{TablePin}
use Rattle.lb_answers.specs.declared.named_backend.NamedBackend.{NamedBackend}
use Rattle.command_socket.specs.declared.socket.PinChange.{PinChange}
use Rattle.command_socket_serve.specs.Desks.{DeskSeen}
use Rattle.command_socket_serve.specs.Outcomes.{Says}
use Rattle.command_socket_serve.specs.Tasks.{ChangesEach, ChangesPin, names_of}
use Rattle.command_socket_serve.proofs.Printings.{prints_none, prints_then}

module _ (named : NamedBackend) (change : PinChange) (moment : ℕ) where
  -- one pin more
  each_more : (names : List PinId) (name : PinId) (old mid new : DeskSeen) (t u : List ℕ) → ChangesEach named change moment names old mid t
      → ChangesPin named change moment name mid new u → ChangesEach named change moment (names ++ name ∷ []) old new (t ++ u)
  each_more [] name old mid new t u (same, none) pin =
      let said = subst (λ (v : List ℕ). ChangesPin named change moment name mid new v) (sym (ap (λ (w : List ℕ). w ++ u) none)) pin in
      (new, t ++ u, [], sym (append-nil (t ++ u)), subst (λ (d : DeskSeen). ChangesPin named change moment name d new (t ++ u)) same said, (refl, refl))
  each_more (n ∷ more) name old mid new t u (between, first, rest, is, here, others) pin =
      (between, first, rest ++ u, ap (λ (w : List ℕ). w ++ u) is ∙ append_assoc first rest u, here, each_more more name between mid new rest u others pin)

  -- no pin yet
  pub says_none : {E : Type 0} (out : WriterState) (sent : Result (Unit {0}) E) (desk : DeskSeen)
      → Says (ChangesEach named change moment [] desk desk) out sent out sent
  says_none out sent desk = record { text = []; is = (refl, refl); prints = prints_none out sent }

  names_more : (pins : List TablePin) (i : ℕ) (kept : TablePin) → i < length pins → kept ≡ get_or pins i kept
      → names_of (take (i + 1) pins) ≡ names_of (take i pins) ++ kept.pin.id ∷ []
  names_more pins i kept within here =
      ap names_of (take_more pins i kept within ∙ ap (λ (p : TablePin). take i pins ++ p ∷ []) (sym here))
      ∙ map-append (λ (p : TablePin). p.pin.id) (take i pins) (kept ∷ [])

  -- one pin more, and what is printed of it
  pub says_more : {E : Type 0} (pins : List TablePin) (i : ℕ) (kept : TablePin) (old mid new : DeskSeen) (out between after : WriterState)
      (sent printed last : Result (Unit {0}) E) → i < length pins → kept ≡ get_or pins i kept
      → Says (ChangesEach named change moment (names_of (take i pins)) old mid) out sent between printed
      → Says (ChangesPin named change moment kept.pin.id mid new) between printed after last
      → Says (ChangesEach named change moment (names_of (take (i + 1) pins)) old new) out sent after last
  says_more pins i kept old mid new out between after sent printed last within here before pin = record {
    text = before.text ++ pin.text;
    is =
        subst (λ (ns : List PinId). ChangesEach named change moment ns old new (before.text ++ pin.text)) (sym (names_more pins i kept within here))
        (each_more (names_of (take i pins)) kept.pin.id old mid new before.text pin.text before.is pin.is);
    prints = prints_then out between after sent printed last before.text pin.text before.prints pin.prints;
  }
