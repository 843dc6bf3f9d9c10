-- Words and commands as they are written, read symbol by symbol.
use Rattle.std.proofs.Common.{◌≡◌, ℕ, Bool, true, false, cond, eqb, List, [], ◌∷◌, ◌++◌, map, refl, sym, ap, ◌∙◌, append_assoc, arith}
use Rattle.std.specs.List.{flat_map}
use Rattle.std.proofs.lemmas.Bool.Decides.{nat_tests}
use Rattle.haproxy_commands.specs.Reading.{Symbol, Bare, Escaped, symbols_in}
use Rattle.haproxy_commands.specs.Writing.{needs_backslash, escaped, spelled, command_text}

-- a byte of a word
abbrev pub mark : ℕ → Symbol
mark byte = cond (needs_backslash byte) (Escaped byte) (Bare byte)

-- the words after the first one
abbrev pub symbols_behind : List (List ℕ) → List Symbol
symbols_behind words = flat_map (λ word. Bare 32 ∷ map mark word) words

abbrev pub symbols_of : List (List ℕ) → List Symbol
symbols_of [] = []
symbols_of (first ∷ more) = map mark first ++ symbols_behind more

pub bare : (byte : ℕ) (rest : List ℕ) → eqb byte 92 ≡ false → symbols_in (byte ∷ rest) ≡ Bare byte ∷ symbols_in rest
unfolding symbols_in
bare byte [] other = refl
bare byte (next ∷ more) other = rw other refl

behind_backslash : (byte : ℕ) (rest : List ℕ) → symbols_in (92 ∷ byte ∷ rest) ≡ Escaped byte ∷ symbols_in rest
unfolding symbols_in
behind_backslash byte rest = refl

no_backslash : (byte : ℕ) → needs_backslash byte ≡ false → eqb byte 92 ≡ false
no_backslash byte none = grind (arith, nat_tests)

byte_read : (byte : ℕ) (rest : List ℕ) → symbols_in (escaped byte ++ rest) ≡ mark byte ∷ symbols_in rest
byte_read byte rest = by_case (needs_backslash byte) refl
  where
    by_case : (b : Bool) → needs_backslash byte ≡ b → symbols_in (cond b (92 ∷ byte ∷ []) (byte ∷ []) ++ rest) ≡ cond b (Escaped byte) (Bare byte) ∷ symbols_in rest
    by_case true needs = behind_backslash byte rest
    by_case false none = bare byte rest (no_backslash byte none)

word_read : (word rest : List ℕ) → symbols_in (spelled word ++ rest) ≡ map mark word ++ symbols_in rest
unfolding spelled
word_read [] rest = refl
word_read (byte ∷ more) rest =
    ap symbols_in (append_assoc (escaped byte) (spelled more) rest) ∙ byte_read byte (spelled more ++ rest) ∙ ap (λ ss. mark byte ∷ ss) (word_read more rest)

abbrev text_behind : List (List ℕ) → List ℕ
text_behind words = flat_map (λ word. 32 ∷ spelled word) words

words_read : (words : List (List ℕ)) (rest : List ℕ) → symbols_in (text_behind words ++ rest) ≡ symbols_behind words ++ symbols_in rest
words_read [] rest = refl
words_read (word ∷ more) rest =
    bare 32 ((spelled word ++ text_behind more) ++ rest) refl
    ∙ ap (λ ss. Bare 32 ∷ ss)
    (ap symbols_in (append_assoc (spelled word) (text_behind more) rest)
    ∙ word_read word (text_behind more ++ rest)
    ∙ ap (λ ss. map mark word ++ ss) (words_read more rest)
    ∙ sym (append_assoc (map mark word) (symbols_behind more) (symbols_in rest)))

command_read : (words : List (List ℕ)) (rest : List ℕ) → symbols_in (command_text words ++ rest) ≡ symbols_of words ++ symbols_in rest
unfolding command_text
command_read [] rest = refl
command_read (first ∷ more) rest =
    ap symbols_in (append_assoc (spelled first) (text_behind more) rest)
    ∙ word_read first (text_behind more ++ rest)
    ∙ ap (λ ss. map mark first ++ ss) (words_read more rest)
    ∙ sym (append_assoc (map mark first) (symbols_behind more) (symbols_in rest))

regroup : (a b rest : List ℕ) → ((a ++ 59 ∷ b) ++ 10 ∷ []) ++ rest ≡ a ++ (59 ∷ (b ++ 10 ∷ rest))
regroup a b rest = append_assoc (a ++ 59 ∷ b) (10 ∷ []) rest ∙ append_assoc a (59 ∷ b) (10 ∷ rest)

-- two commands of a line, and what follows it
pub line_read : (first second : List (List ℕ)) (rest : List ℕ) → symbols_in (((command_text first ++ 59 ∷ command_text second) ++ 10 ∷ []) ++ rest) ≡ symbols_of first ++ (Bare 59 ∷ (symbols_of second ++ (Bare 10 ∷ symbols_in rest)))
line_read first second rest =
    ap symbols_in (regroup (command_text first) (command_text second) rest)
    ∙ command_read first (59 ∷ (command_text second ++ 10 ∷ rest))
    ∙ ap (λ ss. symbols_of first ++ ss)
    (bare 59 (command_text second ++ 10 ∷ rest) refl
    ∙ ap (λ ss. Bare 59 ∷ ss) (command_read second (10 ∷ rest) ∙ ap (λ ss. symbols_of second ++ ss) (bare 10 rest refl)))
