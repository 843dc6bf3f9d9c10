-- The one spelling of each file of pins. Lines end with a line feed (byte 10), words are separated by one space (byte 32), names of wanted
-- servers by a comma (byte 44), and numbers are decimal. Keys are words as `show table` has them.
use Rattle.std.specs.Prelude.{ℕ, Option, Some, None, List, [], ◌∷◌, ◌++◌, map, codes}
use Rattle.std.specs.Fmt.{decimal}
use Rattle.std.specs.List.{flat_map, join_with_byte}
use Rattle.dual_cert_text.specs.Spellings.{line_of_words, text_of_lines}
use Rattle.pin_file.specs.KeyWords.{text_word}
use Rattle.pin_file.specs.declared.file_pin.FilePin.{FilePin}
use Rattle.pin_file.specs.declared.backend_pins.BackendPins.{BackendPins}

-- the names of wanted servers, with `-` for none
abbrev pub wanted_word : List (List ℕ) → List ℕ
wanted_word [] = codes "-"
wanted_word (name ∷ names) = join_with_byte 44 (name ∷ names)

-- the server's name, with `-` for none
abbrev pub server_word : Option (List ℕ) → List ℕ
server_word None = codes "-"
server_word (Some name) = name

-- the line of a pin
unfoldable pub pin_line : FilePin → List ℕ
pin_line p = line_of_words (codes "pin" ∷ text_word p.key ∷ wanted_word p.wanted ∷ server_word p.server ∷ decimal p.cost ∷ decimal p.age ∷ [])

-- the line in front of a backend's pins
unfoldable pub backend_line : List ℕ → List ℕ
backend_line name = line_of_words (codes "backend" ∷ name ∷ [])

-- the lines of a backend
unfoldable pub backend_lines : BackendPins → List (List ℕ)
backend_lines b = backend_line b.name ∷ map (λ p. pin_line p) b.pins

-- the text of a file
unfoldable pub spelling : List BackendPins → List ℕ
spelling file = text_of_lines (codes "stickypins 1" ∷ flat_map (λ b. backend_lines b) file ++ codes "end" ∷ [])
