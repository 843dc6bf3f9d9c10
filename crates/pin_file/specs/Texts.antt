-- Texts of files of pins, read line by line.
use Rattle.std.specs.Prelude.{ℕ, ◌+◌, ◌-◌, ◌^◌, Bool, true, ◌==◌, nat_lt, nat_le, Option, Some, None, List, [], ◌∷◌, ◌++◌, length, slice_get, codes, Result, Ok, Err, if◌then◌else◌}
use Rattle.std.specs.List.{list_all, list_any}
use Rattle.std.specs.Option.{ok_or, option_map_or}
use Rattle.std.specs.Str.{bytes_eq}
use Rattle.lb_types.specs.declared.limits.TheConstants.{MAX_COST, MAX_PINS}
use Rattle.lb_types.specs.Names.{is_name}
use Rattle.lb_types_text.specs.Numbers.{numeral_of}
use Rattle.lb_types_text.specs.Parts.{parts}
use Rattle.command_socket_keys.specs.Keys.{bytes_in}
use Rattle.pin_file.specs.KeyWords.{text_word}
use Rattle.dual_cert_text.specs.declared.fault.TextFault.{TextFault}
use Rattle.dual_cert_text.specs.declared.fault.TextFault.TheVariants.{BadLine, TooLarge, Truncated}
use Rattle.dual_cert_text.specs.Faults.{◌>>=◌}
use Rattle.dual_cert_text.specs.Texts.{is_nothing}
use Rattle.dual_cert_text.specs.Words.{positive_of, ◌>>=◌ as ◌>>?◌}
use Rattle.pin_file.specs.declared.file_pin.FilePin.{FilePin}
use Rattle.pin_file.specs.declared.backend_pins.BackendPins.{BackendPins}

-- ---- words

-- the bytes of the key that the word is, in the one spelling that it has
unfoldable pub key_of : List ℕ → Option (List ℕ)
key_of word = bytes_in word >>? λ bytes. (if bytes_eq (text_word bytes) word then Some bytes else None)

-- these words, if each is a name
abbrev pub names_of : List (List ℕ) → Option (List (List ℕ))
names_of words = if list_all is_name words then Some words else None

-- the names of wanted servers, with `-` for none
unfoldable pub wanted_of : List ℕ → Option (List (List ℕ))
wanted_of word = if bytes_eq word (codes "-") then Some [] else names_of (parts 44 word)

-- the name of a server, with `-` for none
unfoldable pub server_of : List ℕ → Option (Option (List ℕ))
server_of word = if bytes_eq word (codes "-") then Some None else (if is_name word then Some (Some word) else None)

-- 1 to 1000
unfoldable pub cost_of : List ℕ → Option ℕ
cost_of word = positive_of word >>? λ cost. (if nat_le cost MAX_COST then Some cost else None)

-- milliseconds, below 2^64 - 1
unfoldable pub age_of : List ℕ → Option ℕ
age_of word = numeral_of word >>? λ age. (if nat_lt age (2 ^ 64 - 1) then Some age else None)

-- the pin that five words say
unfoldable pub pin_said : List ℕ → List ℕ → List ℕ → List ℕ → List ℕ → Option FilePin
pin_said key wanted server cost age =
    server_of server >>? λ s. (cost_of cost >>? λ c. (age_of age >>? λ a. (key_of key >>? λ k. (wanted_of wanted >>? λ w.
    Some (record { key = k; wanted = w; server = s; cost = c; age = a })))))

-- the pin that the words behind `pin` say
unfoldable pub pin_of : List (List ℕ) → Option FilePin
pin_of (key ∷ wanted ∷ server ∷ cost ∷ age ∷ []) = pin_said key wanted server cost age
pin_of _ = None

-- the pin that the words of a line say
unfoldable pub pin_in : List (List ℕ) → Option FilePin
pin_in [] = None
pin_in (word ∷ words) = if bytes_eq word (codes "pin") then pin_of words else None

-- the name that the words behind `backend` say
unfoldable pub backend_of : List (List ℕ) → Option (List ℕ)
backend_of (name ∷ []) = if is_name name then Some name else None
backend_of _ = None

-- ---- lines

-- a file, as far as it was read: the backends, the last one apart
pub record PinFileDraft : Type 0 where
  pub before : List BackendPins
  pub last : Option BackendPins

abbrev pub draft_of : List BackendPins → Option BackendPins → PinFileDraft
draft_of before last = record { before = before; last = last }

-- the last backend, if there is one
abbrev pub as_list : Option BackendPins → List BackendPins
as_list None = []
as_list (Some b) = b ∷ []

-- all backends that were read
abbrev pub backends_of : PinFileDraft → List BackendPins
backends_of draft = draft.before ++ as_list draft.last

abbrev pub has_name : List ℕ → BackendPins → Bool
has_name name b = bytes_eq b.name name

-- some backend has the name
abbrev pub is_taken : PinFileDraft → List ℕ → Bool
is_taken draft name = list_any (has_name name) (backends_of draft)

-- no pin yet
abbrev pub no_pins : List ℕ → BackendPins
no_pins name = record { name = name; pins = [] }

-- the backend with a pin more
abbrev pub with_pin : BackendPins → FilePin → BackendPins
with_pin b p = record b { pins = b.pins ++ p ∷ [] }

-- the pin was used no earlier than the last of these pins
abbrev pub comes_next : List FilePin → FilePin → Bool
comes_next pins p = option_map_or (λ last. nat_le p.age last.age) (slice_get pins (length pins - 1)) true

-- the backend with the pin that line n says
abbrev pub next_pin : ℕ → BackendPins → FilePin → Result BackendPins TextFault
next_pin n b p = if nat_le MAX_PINS (length b.pins) then Err TooLarge else (if comes_next b.pins p then Ok (with_pin b p) else Err (BadLine n))

-- line n begins a backend, which may not be named twice
unfoldable pub add_backend : ℕ → PinFileDraft → List (List ℕ) → Result PinFileDraft TextFault
add_backend n draft words =
    ok_or (backend_of words) (BadLine n) >>= λ name.
    (if is_taken draft name then Err (BadLine n) else Ok (draft_of (backends_of draft) (Some (no_pins name))))

-- line n says a pin of the last backend
unfoldable pub add_pin : ℕ → PinFileDraft → List (List ℕ) → Result PinFileDraft TextFault
add_pin n draft words =
    ok_or (pin_of words) (BadLine n) >>= λ p.
    ok_or draft.last (BadLine n) >>= λ b.
    next_pin n b p >>= λ more.
    Ok (draft_of draft.before (Some more))

-- line n, by its first word
unfoldable pub add_line : ℕ → PinFileDraft → List (List ℕ) → Result PinFileDraft TextFault
add_line n draft [] = Err (BadLine n)
add_line n draft (word ∷ words) =
    if bytes_eq word (codes "pin") then add_pin n draft words else (if bytes_eq word (codes "backend") then add_backend n draft words else Err (BadLine n))

-- ---- texts. A text is its parts between the line ends. The last part, behind the last line end, has to be empty

-- the lines from line n on, behind a draft
unfoldable pub lines_at : ℕ → PinFileDraft → List (List ℕ) → Result PinFileDraft TextFault
lines_at n draft [] = Err Truncated
lines_at n draft (line ∷ rest) =
    if length rest == 0 then Err Truncated
    else (if bytes_eq line (codes "end") then (if is_nothing rest then Ok draft else Err (BadLine (n + 1)))
    else (add_line n draft (parts 32 line) >>= λ next. lines_at (n + 1) next rest))

-- the first line, and those behind it
unfoldable pub draft_at : List (List ℕ) → Result PinFileDraft TextFault
draft_at [] = Err Truncated
draft_at (line ∷ rest) =
    if length rest == 0 then Err Truncated
    else (if bytes_eq line (codes "stickypins 1") then lines_at 2 (draft_of [] None) rest else Err (BadLine 1))

-- the file that a text is read as, or the text's first fault
unfoldable pub file_of_text : List ℕ → Result (List BackendPins) TextFault
file_of_text text = draft_at (parts 10 text) >>= λ draft. Ok (backends_of draft)
