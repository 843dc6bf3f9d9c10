-- Pieces of a text that are sent one after another: once a write failed, nothing more is sent.
use Rattle.std.specs.Prelude.{◌≡◌, ℕ, ◌<◌, Bool, true, List, [], ◌∷◌, ◌++◌, map, codes, Result, Ok, Err, if◌then◌else◌}
use Rattle.std.specs.Borrow.{Bor}
use Rattle.std.specs.Fmt.{decimal}
use Rattle.lb_types.specs.Servers.{has}
use Rattle.lb_types_pins.specs.declared.kind.PinKind.{PinKind}
use Rattle.dual_cert_plan.specs.declared.server.PricedServer.{PricedServer}
use Rattle.dual_cert_text.specs.Spellings.{line_of_words, name_at, set_word}
use Rattle.lb_types_counted.specs.Writers.{WriterState, WritesWhole, WritesFront}

-- what a sending did, by how it went
abbrev pub WasSent : {E : Type 0} → WriterState → WriterState → Result (Unit {0}) E → List ℕ → Type 0
WasSent old new (Ok _) text = WritesWhole old new text
WasSent old new (Err e) text = WritesFront old new text

-- what one more sending did, by how those before it went
abbrev pub Sends : {E : Type 0} → WriterState → Result (Unit {0}) E → WriterState → Result (Unit {0}) E → List ℕ → Type 0
Sends old (Ok _) new sent text = WasSent old new sent text
Sends old (Err e) new sent text = (sent ≡ Err e) × (new ≡ old)

-- the words, with the first one apart
abbrev pub words_of : List ℕ → List (Bor (List ℕ)) → List (List ℕ)
words_of first more = first ∷ map (λ word. word.now) more

-- the word for the version of the format
abbrev pub form_word : Bool → List ℕ
form_word is_second = if is_second then codes "2" else codes "1"

-- a server's name behind a comma, if the set holds the server
abbrev pub member_text : List PricedServer → ℕ → ℕ → List ℕ
member_text servers set server = if has set server then 44 ∷ name_at servers server else []

-- the word for a cost, in a text of version 2
abbrev pub cost_words : Bool → ℕ → List (List ℕ)
cost_words has_costs cost = if has_costs then decimal cost ∷ [] else []

-- a cost behind a space, in a text of version 2
abbrev pub cost_text : Bool → ℕ → List ℕ
cost_text has_costs cost = if has_costs then 32 ∷ decimal cost else []

-- the last words of the line of a row or a group, behind a space, and the line's end
unfoldable pub line_end : Bool → List PricedServer → PinKind → List ℕ
line_end has_costs servers kind = 32 ∷ (line_of_words (set_word servers kind.permitted ∷ cost_words has_costs kind.cost) ++ 10 ∷ [])

-- the pins may be at some of the first `count` servers alone
abbrev pub HasListedSet : ℕ → PinKind → Type 0
HasListedSet count kind = (server : ℕ) → has kind.permitted server ≡ true → server < count
