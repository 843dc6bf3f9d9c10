-- The words of a command, found again among its symbols.
use Rattle.std.proofs.Common.{◌≡◌, ℕ, Bool, true, false, cond, eqb, List, [], ◌∷◌, ◌++◌, map, refl, ap, ◌∙◌, append-nil, arith}
use Rattle.std.specs.List.{All, filter, slice_split}
use Rattle.std.proofs.lemmas.Bool.Decides.{nat_tests}
use Rattle.std.proofs.lemmas.List.Elements.{All-nil, All-cons, All-head, All-tail, All-append, All-map, All-weaker}
use Rattle.std.proofs.lemmas.List.Splits.{slice_split_at, slice_split_none}
use Rattle.haproxy_commands.specs.Names.{can_stand}
use Rattle.haproxy_commands.specs.Reading.{Symbol, Bare, Escaped, byte_of, ends_word, without_return, has_any, words_in}
use Rattle.haproxy_commands.specs.Writing.{needs_backslash}
use Rattle.haproxy_commands.proofs.Symbols.{mark, symbols_behind, symbols_of}

-- a word that a command can have
pub record IsWord (word : List ℕ) : Type 0 where
  pub some : has_any word ≡ true
  pub stands : All (λ byte. can_stand byte ≡ true) word

abbrev pub AreWords : List (List ℕ) → Type 0
AreWords [] = Unit {0}
AreWords (word ∷ words) = IsWord word × AreWords words

-- what holds of each byte of words and of a blank holds of each symbol of a command
word_all : (P : Symbol → Type 0) → ((byte : ℕ) → can_stand byte ≡ true → P (mark byte)) → (word : List ℕ) → IsWord word → All P (map mark word)
word_all P each word is =
    All-map P mark word (All-weaker (λ byte. can_stand byte ≡ true) (λ byte. P (mark byte)) each word is.stands)

behind_all : (P : Symbol → Type 0) → P (Bare 32) → ((byte : ℕ) → can_stand byte ≡ true → P (mark byte)) → (words : List (List ℕ)) → AreWords words → All P (symbols_behind words)
behind_all P blank each [] are = All-nil P
behind_all P blank each (word ∷ words) are =
    All-cons P (Bare 32) (map mark word ++ symbols_behind words) blank
    (All-append P (map mark word) (symbols_behind words) (word_all P each word are.0) (behind_all P blank each words are.1))

pub command_all : (P : Symbol → Type 0) → P (Bare 32) → ((byte : ℕ) → can_stand byte ≡ true → P (mark byte)) → (words : List (List ℕ)) → AreWords words → All P (symbols_of words)
command_all P blank each [] are = All-nil P
command_all P blank each (word ∷ words) are =
    All-append P (map mark word) (symbols_behind words) (word_all P each word are.0) (behind_all P blank each words are.1)

byte_mark : (byte : ℕ) → byte_of (mark byte) ≡ byte
byte_mark byte = by_case (needs_backslash byte)
  where
    by_case : (b : Bool) → byte_of (cond b (Escaped byte) (Bare byte)) ≡ byte
    by_case true = refl
    by_case false = refl

word_bytes : (word : List ℕ) → map byte_of (map mark word) ≡ word
word_bytes [] = refl
word_bytes (byte ∷ more) = ap (λ b. b ∷ map byte_of (map mark more)) (byte_mark byte) ∙ ap (λ bs. byte ∷ bs) (word_bytes more)

abbrev marked : List (List ℕ) → List (List Symbol)
marked words = map (λ word. map mark word) words

words_bytes : (words : List (List ℕ)) → map (λ word. map byte_of word) (marked words) ≡ words
words_bytes [] = refl
words_bytes (word ∷ more) = ap (λ w. w ∷ map (λ v. map byte_of v) (marked more)) (word_bytes word) ∙ ap (λ ws. word ∷ ws) (words_bytes more)

-- no carriage return is dropped
no_return : (byte : ℕ) → can_stand byte ≡ true → eqb byte 13 ≡ false
no_return byte stands = grind (arith, nat_tests)

mark_no_return : (byte : ℕ) → can_stand byte ≡ true → eqb (byte_of (mark byte)) 13 ≡ false
mark_no_return byte stands = ap (λ b. eqb b 13) (byte_mark byte) ∙ no_return byte stands

abbrev IsNoReturn : Symbol → Type 0
IsNoReturn symbol = eqb (byte_of symbol) 13 ≡ false

kept : (symbols : List Symbol) → All IsNoReturn symbols → without_return symbols ≡ symbols
kept [] none = refl
kept (last ∷ []) none = ap (λ (b : Bool). cond b [] (last ∷ [])) (All-head IsNoReturn last [] none)
kept (symbol ∷ next ∷ more) none = ap (λ ss. symbol ∷ ss) (kept (next ∷ more) (All-tail IsNoReturn symbol (next ∷ more) none))

-- no byte of a word ends it
bare_no_gap : (byte : ℕ) → needs_backslash byte ≡ false → ends_word (Bare byte) ≡ false
bare_no_gap byte none = grind (arith, nat_tests)

mark_no_gap : (byte : ℕ) → ends_word (mark byte) ≡ false
mark_no_gap byte = by_case (needs_backslash byte) refl
  where
    by_case : (b : Bool) → needs_backslash byte ≡ b → ends_word (cond b (Escaped byte) (Bare byte)) ≡ false
    by_case true needs = refl
    by_case false none = bare_no_gap byte none

word_no_gap : (word : List ℕ) → All (λ symbol. ends_word symbol ≡ false) (map mark word)
word_no_gap [] = All-nil (λ symbol. ends_word symbol ≡ false)
word_no_gap (byte ∷ more) = All-cons (λ symbol. ends_word symbol ≡ false) (mark byte) (map mark more) (mark_no_gap byte) (word_no_gap more)

words_apart : (first : List ℕ) (more : List (List ℕ)) → slice_split ends_word (map mark first ++ symbols_behind more) ≡ map mark first ∷ marked more
words_apart first [] = ap (slice_split ends_word) (append-nil (map mark first)) ∙ slice_split_none ends_word (map mark first) (word_no_gap first)
words_apart first (next ∷ more) =
    slice_split_at ends_word (map mark first) (Bare 32) (map mark next ++ symbols_behind more) (word_no_gap first) refl
    ∙ ap (λ parts. map mark first ∷ parts) (words_apart next more)

-- no word is empty
some_marked : (word : List ℕ) → has_any word ≡ true → has_any (map mark word) ≡ true
some_marked [] some = some
some_marked (byte ∷ more) some = refl

all_marked : (words : List (List ℕ)) → AreWords words → filter has_any (marked words) ≡ marked words
all_marked [] are = refl
all_marked (word ∷ more) are =
    ap (λ (b : Bool). cond b (map mark word ∷ filter has_any (marked more)) (filter has_any (marked more))) (some_marked word are.0.some)
    ∙ ap (λ ws. map mark word ∷ ws) (all_marked more are.1)

-- the words of a command are read again
pub words_again : (words : List (List ℕ)) → AreWords words → words_in (symbols_of words) ≡ words
unfolding words_in
words_again [] are = refl
words_again (first ∷ more) are =
    ap (λ ss. map (λ word. map byte_of word) (filter has_any (slice_split ends_word ss)))
    (kept (symbols_of (first ∷ more)) (command_all IsNoReturn refl mark_no_return (first ∷ more) are))
    ∙ ap (λ parts. map (λ word. map byte_of word) (filter has_any parts)) (words_apart first more)
    ∙ ap (λ parts. map (λ word. map byte_of word) parts) (all_marked (first ∷ more) are)
    ∙ words_bytes (first ∷ more)
