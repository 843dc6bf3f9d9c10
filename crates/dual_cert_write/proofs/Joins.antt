-- Words joined by a mark.
use Rattle.std.proofs.Common.{◌≡◌, ℕ, ◌<◌, List, [], ◌∷◌, ◌++◌, length, take, get_or, ◌+◌, refl, sym, ap, ◌∙◌, arith, append_assoc}
use Rattle.std.specs.Borrow.{Bor}
use Rattle.std.specs.List.{join_with_byte}
use Rattle.std.proofs.lemmas.List.{map_more}
use Rattle.dual_cert_text.specs.Spellings.{line_of_words}
use Rattle.dual_cert_write.specs.Sending.{words_of}

-- words behind other words
pub join-append : (mark : ℕ) (words more : List (List ℕ)) → 0 < length words → 0 < length more → join_with_byte mark (words ++ more) ≡ join_with_byte mark words ++ mark ∷ join_with_byte mark more
join-append mark [] more some others = absurd (omega arith)
join-append mark words [] some others = absurd (omega arith)
join-append mark (word ∷ []) (next ∷ more) some others = refl
join-append mark (word ∷ next ∷ words) (other ∷ more) some others =
    ap (λ l. word ++ mark ∷ l) (join-append mark (next ∷ words) (other ∷ more) (omega arith) (omega arith)) ∙ sym (append_assoc word (mark ∷ join_with_byte mark (next ∷ words)) (mark ∷ join_with_byte mark (other ∷ more)))

-- one word more
pub join-push : (mark : ℕ) (words : List (List ℕ)) (word : List ℕ) → 0 < length words → join_with_byte mark (words ++ word ∷ []) ≡ (join_with_byte mark words ++ mark ∷ []) ++ word
join-push mark words word some = join-append mark words (word ∷ []) some (omega arith) ∙ sym (append_assoc (join_with_byte mark words) (mark ∷ []) word)

-- one word more behind the first ones of some words
pub words-more : (first : List ℕ) (more : List (Bor (List ℕ))) (i : ℕ) (d : Bor (List ℕ)) → i < length more → line_of_words (words_of first (take (i + 1) more)) ≡ (line_of_words (words_of first (take i more)) ++ 32 ∷ []) ++ (get_or more i d).now
words-more first more i d within =
    ap (λ words. line_of_words (first ∷ words)) (map_more (λ word. word.now) more i d within) ∙ join-push 32 (words_of first (take i more)) (get_or more i d).now (omega arith)
