-- What is asked of the pins of a key.
use Rattle.std.proofs.Common.{◌≡◌, ◌≢◌, ℕ, inr, Option, Some, Result, List, [], ◌∷◌, length, refl, sym, subst, append-nil}
use Rattle.lb_types_counted.specs.Writers.{WriterState}
use Rattle.pin_set.specs.declared.pin.PinId.{PinId}
use Rattle.pin_set.specs.declared.pin_key.PinKey.{PinKey}
use Rattle.pin_set.specs.declared.table_pin.TablePin.{TablePin}
use Rattle.command_socket.specs.declared.socket.PinChange.{PinChange}
use Rattle.command_socket_keys.specs.Keys.{key_in}
use Rattle.lb_answers.specs.declared.named_backend.NamedBackend.{NamedBackend}
use Rattle.lb_desk_steer.specs.Steering.{SeesPins}
use Rattle.command_socket_serve.specs.Desks.{DeskSeen, LooksAt}
use Rattle.command_socket_serve.specs.Outcomes.{PrintsOn, Says}
use Rattle.command_socket_serve.specs.Tasks.{ChangesEach, ChangesKey, ChangesPin, OfKey, OfWord, ShowsKey, names_for, names_of, of_key, type_of}

is_nil : (pins : List TablePin) → length pins ≡ 0 → pins ≡ []
is_nil [] none = refl
is_nil (p ∷ more) none = cc

names_are : (key : PinKey) (pins : List TablePin) → length pins ≢ 0 → names_for key pins ≡ names_of pins
names_are key [] some = absurd (some refl)
names_are key (p ∷ more) some = refl

abbrev plain_name : PinKey → PinId
plain_name key = record { key = key; want = 0 }

module _ (named : NamedBackend) (word : List ℕ) (key : PinKey) (found : Some key ≡ key_in (type_of named) word) where
  -- what is asked of the key is asked of the word
  of_word : (Is : PinKey → DeskSeen → DeskSeen → List ℕ → Type 0) (old new : DeskSeen) (text : List ℕ) → Is key old new text → OfWord named word Is old new text
  of_word Is old new text is = inr (subst (λ (k : Option PinKey). OfKey k Is old new text) found is)

  -- the rows are printed
  pub shows : {E : Type 0} (old new : DeskSeen) (text : List ℕ) (out after : WriterState) (sent last : Result (Unit {0}) E)
      → ShowsKey named key old new text → PrintsOn out sent after last text
      → Says (OfWord named word (ShowsKey named) old new) out sent after last
  shows old new text out after sent last is prints = record { text = text; is = of_word (ShowsKey named) old new text is; prints = prints }

  module _ (change : PinChange) (moment : ℕ) (pins kept : List TablePin) (old mid new : DeskSeen)
      (at : SeesPins old.backend old.entries old.sights mid.sights pins) (looks : LooksAt old mid) (of : kept ≡ of_key key pins) where
    each_is : (text : List ℕ) → ChangesEach named change moment (names_for key kept) mid new text → ChangesKey named change moment key old new text
    each_is text each =
        (pins, mid, at, looks, subst (λ (ps : List TablePin). ChangesEach named change moment (names_for key ps) mid new text) of each)

    -- the key has no pin, and the plain one is changed
    pub one_changed : {E : Type 0} (out after : WriterState) (sent last : Result (Unit {0}) E) → length kept ≡ 0
        → Says (ChangesPin named change moment (plain_name key) mid new) out sent after last
        → Says (OfWord named word (ChangesKey named change moment) old new) out sent after last
    one_changed out after sent last none pin =
        let one : ChangesEach named change moment (plain_name key ∷ []) mid new pin.text =
        (new, pin.text, [], sym (append-nil pin.text), pin.is, (refl, refl)) in
        let each : ChangesEach named change moment (names_for key kept) mid new pin.text =
        subst (λ (ps : List TablePin). ChangesEach named change moment (names_for key ps) mid new pin.text) (sym (is_nil kept none)) one in
        record { text = pin.text; is = of_word (ChangesKey named change moment) old new pin.text (each_is pin.text each); prints = pin.prints }

    -- all pins of the key are changed
    pub all_changed : {E : Type 0} (out after : WriterState) (sent last : Result (Unit {0}) E) → length kept ≢ 0
        → Says (ChangesEach named change moment (names_of kept) mid new) out sent after last
        → Says (OfWord named word (ChangesKey named change moment) old new) out sent after last
    all_changed out after sent last some all =
        let each : ChangesEach named change moment (names_for key kept) mid new all.text =
        subst (λ (ns : List PinId). ChangesEach named change moment ns mid new all.text) (sym (names_are key kept some)) all.is in
        record { text = all.text; is = of_word (ChangesKey named change moment) old new all.text (each_is all.text each); prints = all.prints }
