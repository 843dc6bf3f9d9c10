-- A text that grows by bytes, words and lines.
use Rattle.std.proofs.Common.{◌≡◌, ℕ, ◌+◌, ◌<◌, List, [], ◌∷◌, ◌++◌, length, take, get_or, map, refl, sym, ap, ◌∙◌, append_assoc, append-nil}
use Rattle.std.specs.Borrow.{Bor}
use Rattle.std.specs.List.{flat_map}
use Rattle.std.proofs.lemmas.List.{take_more, map_more}
use Rattle.std.proofs.lemmas.List.Concat.{flat_map-append}
use Rattle.haproxy_commands.specs.declared.moves.Move.{Move}
use Rattle.haproxy_commands.specs.Writing.{escaped, spelled, command_text, words_of, pair_text, line_of, text_of}

-- the pieces of one element more
flat_more : {X : Type 0} (f : X → List ℕ) (xs : List X) (i : ℕ) (d : X) → i < length xs → flat_map f (take (i + 1) xs) ≡ flat_map f (take i xs) ++ f (get_or xs i d)
flat_more f xs i d within =
    ap (flat_map f) (take_more xs i d within)
    ∙ flat_map-append f (take i xs) (get_or xs i d ∷ [])
    ∙ ap (λ t. flat_map f (take i xs) ++ t) (append-nil (f (get_or xs i d)))

-- one byte more
pub word_more : (old text word : List ℕ) (i d : ℕ) → i < length word → text ≡ old ++ spelled (take i word) → text ++ escaped (get_or word i d) ≡ old ++ spelled (take (i + 1) word)
unfolding spelled
word_more old text word i d within so_far =
    ap (λ t. t ++ escaped (get_or word i d)) so_far
    ∙ append_assoc old (flat_map escaped (take i word)) (escaped (get_or word i d))
    ∙ ap (λ t. old ++ t) (sym (flat_more escaped word i d within))

pub word_none : (old : List ℕ) → old ≡ old ++ spelled []
unfolding spelled
word_none old = sym (append-nil old)

-- one word more
abbrev behind : List ℕ → List ℕ
behind word = 32 ∷ spelled word

command_push : (first : List ℕ) (words : List (List ℕ)) (word : List ℕ) → command_text (first ∷ (words ++ word ∷ [])) ≡ (command_text (first ∷ words) ++ 32 ∷ []) ++ spelled word
unfolding command_text
command_push first words word =
    let front = spelled first in
    let middle = flat_map behind words in
    ap (λ t. front ++ t) (flat_map-append behind words (word ∷ []))
    ∙ ap (λ t. front ++ (middle ++ 32 ∷ t)) (append-nil (spelled word))
    ∙ sym (append_assoc front middle (32 ∷ spelled word))
    ∙ sym (append_assoc (front ++ middle) (32 ∷ []) (spelled word))

pub command_one : (first : List ℕ) → command_text (first ∷ []) ≡ spelled first
unfolding command_text
command_one first = append-nil (spelled first)

pub command_more : (old text first : List ℕ) (more : List (Bor (List ℕ))) (i : ℕ) (d : Bor (List ℕ)) → i < length more → text ≡ old ++ command_text (words_of first (take i more)) → (text ++ 32 ∷ []) ++ spelled (get_or more i d).now ≡ old ++ command_text (words_of first (take (i + 1) more))
command_more old text first more i d within so_far =
    let front = command_text (words_of first (take i more)) in
    let word = spelled (get_or more i d).now in
    ap (λ t. (t ++ 32 ∷ []) ++ word) so_far
    ∙ ap (λ t. t ++ word) (append_assoc old front (32 ∷ []))
    ∙ append_assoc old (front ++ 32 ∷ []) word
    ∙ ap (λ t. old ++ t) (sym (command_push first (map (λ w. w.now) (take i more)) (get_or more i d).now))
    ∙ ap (λ ws. old ++ command_text (first ∷ ws)) (sym (map_more (λ w. w.now) more i d within))

-- the two commands of a line
pub pair_pushed : (old : List ℕ) (first second : List (List ℕ)) → (((old ++ command_text first) ++ 59 ∷ []) ++ command_text second) ++ 10 ∷ [] ≡ old ++ pair_text first second
unfolding pair_text
pair_pushed old first second =
    let a = command_text first in
    let b = command_text second in
    ap (λ t. t ++ 10 ∷ []) (append_assoc (old ++ a) (59 ∷ []) b ∙ append_assoc old a (59 ∷ b))
    ∙ append_assoc old (a ++ 59 ∷ b) (10 ∷ [])

-- one line more
pub text_more : (table text : List ℕ) (moves : List Move) (i : ℕ) (d : Move) → i < length moves → text ≡ text_of table (take i moves) → text ++ line_of table (get_or moves i d) ≡ text_of table (take (i + 1) moves)
unfolding text_of
text_more table text moves i d within so_far =
    ap (λ t. t ++ line_of table (get_or moves i d)) so_far ∙ sym (flat_more (λ entry. line_of table entry) moves i d within)

pub text_none : (table : List ℕ) → [] ≡ text_of table []
unfolding text_of
text_none table = refl
