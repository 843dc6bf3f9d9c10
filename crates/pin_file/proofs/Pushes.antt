-- Texts that grow line by line, and word by word.
use Rattle.std.proofs.Common.{◌≡◌, ℕ, ◌+◌, ◌<◌, List, [], ◌∷◌, ◌++◌, length, take, get_or, map, codes, refl, sym, ap, ◌∙◌, append_assoc, append-nil}
use Rattle.std.specs.List.{flat_map, join_with_byte}
use Rattle.std.proofs.lemmas.List.{map_more, take_more}
use Rattle.std.proofs.lemmas.List.Concat.{flat_map-append}
use Rattle.dual_cert_text.specs.Spellings.{line_of_words, text_of_lines}
use Rattle.pin_file.specs.declared.backend_pins.BackendPins.{BackendPins}
use Rattle.pin_file.specs.Spellings.{pin_line, backend_line, backend_lines, spelling}

-- ---- lines

pub text_nil : text_of_lines [] ≡ []
unfolding text_of_lines
text_nil = refl

text_cons : (line : List ℕ) (lines : List (List ℕ)) → text_of_lines (line ∷ lines) ≡ line ++ 10 ∷ text_of_lines lines
unfolding text_of_lines
text_cons line lines = append_assoc line (10 ∷ []) (text_of_lines lines)

text_one : (line : List ℕ) → text_of_lines (line ∷ []) ≡ line ++ 10 ∷ []
text_one line = text_cons line [] ∙ ap (λ l. line ++ 10 ∷ l) text_nil

text_append : (lines more : List (List ℕ)) → text_of_lines (lines ++ more) ≡ text_of_lines lines ++ text_of_lines more
text_append [] more = ap (λ l. l ++ text_of_lines more) (sym text_nil)
text_append (line ∷ lines) more =
    text_cons line (lines ++ more) ∙ ap (λ l. line ++ 10 ∷ l) (text_append lines more)
    ∙ sym (append_assoc line (10 ∷ text_of_lines lines) (text_of_lines more)) ∙ ap (λ l. l ++ text_of_lines more) (sym (text_cons line lines))

-- no line yet
pub none_pushed : (old : List ℕ) → old ≡ old ++ text_of_lines []
none_pushed old = sym (append-nil old) ∙ ap (λ l. old ++ l) (sym text_nil)

-- a line more behind the first ones of some lines
pub line_pushed : {A : Type 0} (old mid new : List ℕ) (line_of : A → List ℕ) (xs : List A) (i : ℕ) (x : A) → i < length xs → x ≡ get_or xs i x → mid ≡ old ++ text_of_lines (map line_of (take i xs)) → new ≡ (mid ++ line_of x) ++ 10 ∷ [] → new ≡ old ++ text_of_lines (map line_of (take (i + 1) xs))
line_pushed old mid new line_of xs i x within here so_far more =
    let lines = map line_of (take i xs) in
    let last = line_of x in
    let all : map line_of (take (i + 1) xs) ≡ lines ++ last ∷ [] = map_more line_of xs i x within ∙ ap (λ y. lines ++ line_of y ∷ []) (sym here) in
    let text : text_of_lines (map line_of (take (i + 1) xs)) ≡ text_of_lines lines ++ (last ++ 10 ∷ []) = ap text_of_lines all ∙ text_append lines (last ∷ []) ∙ ap (λ t. text_of_lines lines ++ t) (text_one last) in
    more ∙ append_assoc mid last (10 ∷ []) ∙ ap (λ t. t ++ (last ++ 10 ∷ [])) so_far ∙ append_assoc old (text_of_lines lines) (last ++ 10 ∷ []) ∙ ap (λ t. old ++ t) (sym text)

backend_text : (b : BackendPins) → text_of_lines (backend_lines b) ≡ (backend_line b.name ++ 10 ∷ []) ++ text_of_lines (map (λ p. pin_line p) b.pins)
unfolding backend_lines
backend_text b = text_cons (backend_line b.name) (map (λ p. pin_line p) b.pins) ∙ sym (append_assoc (backend_line b.name) (10 ∷ []) (text_of_lines (map (λ p. pin_line p) b.pins)))

-- the lines of a backend, after a text
pub backend_pushed : (old named new : List ℕ) (b : BackendPins) → named ≡ (old ++ backend_line b.name) ++ 10 ∷ [] → new ≡ named ++ text_of_lines (map (λ p. pin_line p) b.pins) → new ≡ old ++ text_of_lines (backend_lines b)
backend_pushed old named new b name pins = rw (pins, name, backend_text b) (simp append_assoc)

-- the lines of one thing more, after those of the first ones
pub lines_pushed : {A : Type 0} (old mid new : List ℕ) (lines_of : A → List (List ℕ)) (xs : List A) (i : ℕ) (x : A) → i < length xs → x ≡ get_or xs i x → mid ≡ old ++ text_of_lines (flat_map lines_of (take i xs)) → new ≡ mid ++ text_of_lines (lines_of x) → new ≡ old ++ text_of_lines (flat_map lines_of (take (i + 1) xs))
lines_pushed old mid new lines_of xs i x within here so_far more =
    let front = flat_map lines_of (take i xs) in
    let all : take (i + 1) xs ≡ take i xs ++ x ∷ [] = take_more xs i x within ∙ ap (λ y. take i xs ++ y ∷ []) (sym here) in
    let lines : flat_map lines_of (take (i + 1) xs) ≡ front ++ lines_of x = ap (flat_map lines_of) all ∙ flat_map-append lines_of (take i xs) (x ∷ []) ∙ ap (λ l. front ++ l) (append-nil (lines_of x)) in
    let text : text_of_lines (flat_map lines_of (take (i + 1) xs)) ≡ text_of_lines front ++ text_of_lines (lines_of x) = ap text_of_lines lines ∙ text_append front (lines_of x) in
    rw (more, so_far, text) (append_assoc old (text_of_lines front) (text_of_lines (lines_of x)))

pub file_pushed : (old first mid new : List ℕ) (file : List BackendPins) → first ≡ old ++ codes "stickypins 1\n" → mid ≡ first ++ text_of_lines (flat_map (λ b. backend_lines b) file) → new ≡ mid ++ codes "end\n" → new ≡ old ++ spelling file
unfolding spelling
file_pushed old first mid new file one body end =
    let lines = flat_map (λ b. backend_lines b) file in
    rw (end, body, one, text_cons (codes "stickypins 1") (lines ++ codes "end" ∷ []), text_append lines (codes "end" ∷ []), text_one (codes "end")) (simp append_assoc)

-- ---- words

pub pin_pushed : (old a b c d e f g key wanted server cost age : List ℕ) → a ≡ old ++ codes "pin " → b ≡ a ++ key → c ≡ b ++ 32 ∷ [] → d ≡ c ++ wanted → e ≡ d ++ 32 ∷ [] → f ≡ e ++ server → g ≡ f ++ 32 ∷ cost ++ 32 ∷ age ++ 10 ∷ [] → g ≡ old ++ line_of_words (codes "pin" ∷ key ∷ wanted ∷ server ∷ cost ∷ age ∷ []) ++ 10 ∷ []
pin_pushed old a b c d e f g key wanted server cost age one two three four five six seven =
    rw (seven, six, five, four, three, two, one) (simp append_assoc)

join_push : (words : List (List ℕ)) (first word : List ℕ) → join_with_byte 44 (first ∷ words ++ word ∷ []) ≡ (join_with_byte 44 (first ∷ words) ++ 44 ∷ []) ++ word
join_push [] first word = sym (append_assoc first (44 ∷ []) word)
join_push (next ∷ words) first word =
    ap (λ l. first ++ 44 ∷ l) (join_push words next word)
    ∙ (simp append_assoc)

pub name_pushed : (old mid comma new first : List ℕ) (more : List (List ℕ)) (i : ℕ) (name : List ℕ) → i < length more → name ≡ get_or more i name → mid ≡ old ++ join_with_byte 44 (first ∷ take i more) → comma ≡ mid ++ 44 ∷ [] → new ≡ comma ++ name → new ≡ old ++ join_with_byte 44 (first ∷ take (i + 1) more)
name_pushed old mid comma new first more i name within here so_far one two =
    let all : take (i + 1) more ≡ take i more ++ name ∷ [] = take_more more i name within ∙ ap (λ n. take i more ++ n ∷ []) (sym here) in
    rw (two, one, so_far, all, join_push (take i more) first name) (simp append_assoc)
