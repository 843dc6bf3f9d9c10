-- Lines of pins and of backends, read and spelled.
use Rattle.std.proofs.Common.{◌≡◌, ℕ, ◌<◌, true, false, Some, List, [], ◌∷◌, codes, refl, arith}
use Rattle.std.specs.Fmt.{decimal}
use Rattle.std.specs.List.{All}
use Rattle.std.specs.Str.{bytes_eq}
use Rattle.std.proofs.lemmas.List.Elements.{All-nil, All-cons}
use Rattle.lb_types.specs.Names.{is_name, is_name_byte}
use Rattle.lb_types_text.specs.Parts.{parts}
use Rattle.lb_types_text.proofs.Joins.{HasNo, parts_join, free_join}
use Rattle.pin_file.specs.KeyWords.{text_word}
use Rattle.dual_cert_text.proofs.ServerTexts.{name_free, above_mark, digits_free}
use Rattle.dual_cert_text.proofs.Steps.{bind_some, if_none}
use Rattle.dual_cert_text.proofs.WholeTexts.{gap_is_no_end}
use Rattle.pin_file.specs.declared.file_pin.FilePin.{FilePin}
use Rattle.pin_file.specs.Files.{IsFilePin}
use Rattle.pin_file.specs.Spellings.{wanted_word, server_word, pin_line, backend_line}
use Rattle.pin_file.specs.Texts.{key_of, wanted_of, server_of, cost_of, age_of, pin_said, pin_of, backend_of}
use Rattle.pin_file.proofs.Escapes.{key_again, key_found, key_free}
use Rattle.pin_file.proofs.Words.{wanted_again, wanted_found, wanted_free, server_again, server_found, server_free, cost_again, cost_found, age_again, age_found}

-- ---- pins

-- the words behind `pin`
abbrev pub words_of : FilePin → List (List ℕ)
words_of p = text_word p.key ∷ wanted_word p.wanted ∷ server_word p.server ∷ decimal p.cost ∷ decimal p.age ∷ []

pub pin_again : (p : FilePin) → IsFilePin p → pin_of (words_of p) ≡ Some p
unfolding pin_of pin_said
pin_again p kept =
    rw (server_again p.server kept.server, cost_again p.cost kept.cost_from kept.cost_to, age_again p.age kept.age, key_again p.key kept.key, wanted_again p.wanted kept.wanted) refl

five : (a b c d e v w x y z : List ℕ) → a ≡ v → b ≡ w → c ≡ x → d ≡ y → e ≡ z → a ∷ b ∷ c ∷ d ∷ e ∷ [] ≡ v ∷ w ∷ x ∷ y ∷ z ∷ []
five a b c d e v w x y z f g h i j = rw (f, g, h, i, j) refl

said_found : (key wanted server cost age : List ℕ) (p : FilePin) → pin_said key wanted server cost age ≡ Some p → (key ∷ wanted ∷ server ∷ cost ∷ age ∷ [] ≡ words_of p) × IsFilePin p
unfolding pin_said
said_found key wanted server cost age p is =
    let s = bind_some (server_of server) _ p is in
    let c = bind_some (cost_of cost) _ p s.2 in
    let a = bind_some (age_of age) _ p c.2 in
    let k = bind_some (key_of key) _ p a.2 in
    let w = bind_some (wanted_of wanted) _ p k.2 in
    let made : FilePin = record { key = k.0; wanted = w.0; server = s.0; cost = c.0; age = a.0 } in
    let same : made ≡ p = (let e = w.2 in cc) in
    let server' = server_found server s.0 s.1 in
    let cost' = cost_found cost c.0 c.1 in
    let age' = age_found age a.0 a.1 in
    let key' = key_found key k.0 k.1 in
    let wanted' = wanted_found wanted w.0 w.1 in
    let words : key ∷ wanted ∷ server ∷ cost ∷ age ∷ [] ≡ words_of made = five _ _ _ _ _ _ _ _ _ _ key'.0 wanted'.0 server'.0 cost'.0 age'.0 in
    let kept : IsFilePin made = record { key = key'.1; wanted = wanted'.1; server = server'.1; cost_from = cost'.1; cost_to = cost'.2; age = age'.1 } in
    rw (← same) (words, kept)

pub pin_found : (words : List (List ℕ)) (p : FilePin) → pin_of words ≡ Some p → (words ≡ words_of p) × IsFilePin p
unfolding pin_of
pin_found [] p is = cc
pin_found (a ∷ []) p is = cc
pin_found (a ∷ b ∷ []) p is = cc
pin_found (a ∷ b ∷ c ∷ []) p is = cc
pin_found (a ∷ b ∷ c ∷ d ∷ []) p is = cc
pin_found (a ∷ b ∷ c ∷ d ∷ e ∷ []) p is = said_found a b c d e p is
pin_found (a ∷ b ∷ c ∷ d ∷ e ∷ f ∷ more) p is = cc

words_free : (mark : ℕ) (p : FilePin) → mark < 33 → is_name_byte mark ≡ false → IsFilePin p → All (HasNo mark) (codes "pin" ∷ words_of p)
words_free mark p below other kept =
    All-cons (HasNo mark) (codes "pin") (words_of p) (above_mark mark (codes "pin") (omega arith) refl)
    (All-cons (HasNo mark) (text_word p.key) (wanted_word p.wanted ∷ server_word p.server ∷ decimal p.cost ∷ decimal p.age ∷ []) (key_free mark p.key below)
    (All-cons (HasNo mark) (wanted_word p.wanted) (server_word p.server ∷ decimal p.cost ∷ decimal p.age ∷ []) (wanted_free mark p.wanted (omega arith) other kept.wanted)
    (All-cons (HasNo mark) (server_word p.server) (decimal p.cost ∷ decimal p.age ∷ []) (server_free mark p.server (omega arith) other kept.server)
    (All-cons (HasNo mark) (decimal p.cost) (decimal p.age ∷ []) (digits_free mark p.cost (omega arith) (omega (arith, kept.cost_to)))
    (All-cons (HasNo mark) (decimal p.age) [] (digits_free mark p.age (omega arith) (omega (arith, kept.age)))
    (All-nil (HasNo mark)))))))

-- a pin's line comes apart again
pub pin_line_apart : (p : FilePin) → IsFilePin p → parts 32 (pin_line p) ≡ codes "pin" ∷ words_of p
unfolding pin_line
pin_line_apart p kept = parts_join 32 (codes "pin") (words_of p) (words_free 32 p (omega arith) refl kept)

pub pin_line_free : (p : FilePin) → IsFilePin p → HasNo 10 (pin_line p)
unfolding pin_line
pin_line_free p kept = free_join 10 32 (codes "pin") (words_of p) gap_is_no_end (words_free 10 p (omega arith) refl kept)

pub pin_line_goes_on : (p : FilePin) → bytes_eq (pin_line p) (codes "end") ≡ false
unfolding pin_line
pin_line_goes_on p = refl

-- ---- backends

pub backend_again : (name : List ℕ) → is_name name ≡ true → backend_of (name ∷ []) ≡ Some name
unfolding backend_of
backend_again name named = rw named refl

pub backend_found : (words : List (List ℕ)) (name : List ℕ) → backend_of words ≡ Some name → (words ≡ name ∷ []) × (is_name name ≡ true)
unfolding backend_of
backend_found [] name is = cc
backend_found (word ∷ []) name is =
    let named = if_none (is_name word) _ _ is in
    let same : word ≡ name = (let e = named.1 in cc) in
    rw (← same) (refl, named.0)
backend_found (word ∷ other ∷ more) name is = cc

backend_free : (mark : ℕ) (name : List ℕ) → mark < 33 → is_name_byte mark ≡ false → is_name name ≡ true → All (HasNo mark) (codes "backend" ∷ name ∷ [])
backend_free mark name below other named =
    All-cons (HasNo mark) (codes "backend") (name ∷ []) (above_mark mark (codes "backend") (omega arith) refl)
    (All-cons (HasNo mark) name [] (name_free mark name other named) (All-nil (HasNo mark)))

pub backend_line_apart : (name : List ℕ) → is_name name ≡ true → parts 32 (backend_line name) ≡ codes "backend" ∷ name ∷ []
unfolding backend_line
backend_line_apart name named = parts_join 32 (codes "backend") (name ∷ []) (backend_free 32 name (omega arith) refl named)

pub backend_line_free : (name : List ℕ) → is_name name ≡ true → HasNo 10 (backend_line name)
unfolding backend_line
backend_line_free name named = free_join 10 32 (codes "backend") (name ∷ []) gap_is_no_end (backend_free 10 name (omega arith) refl named)

pub backend_line_goes_on : (name : List ℕ) → bytes_eq (backend_line name) (codes "end") ≡ false
unfolding backend_line
backend_line_goes_on name = refl
