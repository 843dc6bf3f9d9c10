-- One step of taking each word.
use Rattle.std.proofs.Common.{◌≡◌, ℕ, List, [], ◌∷◌, Option, Some, None, Result, Ok, Err, refl, ap, ◌∙◌}
use Rattle.lb_config_words.specs.declared.fault.SpellingFault.{SpellingFault}
use Rattle.lb_config_arguments.specs.declared.fault.Fault.{Fault}
use Rattle.lb_config_arguments.specs.declared.fault.LineError.{LineError}
use Rattle.lb_config_arguments.specs.declared.fault.LineError.TheVariants as errors
use Rattle.lb_config_arguments.specs.Faults.{Fails, ◌>>=◌}
use Rattle.lb_config_arguments.specs.Rest.{Rest}
use Rattle.lb_config_arguments.specs.Reading.{words_in, each_word, word_or_end_in, word_or_end_at, rest_of}

-- the word that was taken, and what is left
abbrev taken : Result (Option (List ℕ) × Rest) Fault → Option (List ℕ)
taken (Ok x) = x.0
taken (Err e) = None

abbrev left_of : Rest → Result (Option (List ℕ) × Rest) Fault → Rest
left_of d (Ok x) = x.1
left_of d (Err e) = d

next_in : {S : Type 0} (take : S → List ℕ → Result S Fault) (state : S) (words : List (List ℕ)) (ending : Option SpellingFault) (word : List ℕ) (left : Rest) → word_or_end_in words ending ≡ Ok (Some word, left) → words_in take state words ending ≡ (take state word >>= λ next. words_in take next left.words left.ending)
next_in take state [] None word left h = let none : None ≡ Some word = ap taken h in cc
next_in take state [] (Some fault) word left h = cc
next_in take state (w ∷ ws) ending word left h =
    let some : Some w ≡ Some word = ap taken h in
    let same : w ≡ word = cc in
    let rest : rest_of ws ending ≡ left = ap (left_of left) h in
    ap (λ v. take state v >>= λ next. words_in take next ws ending) same ∙ ap (λ (r : Rest). take state word >>= λ next. words_in take next r.words r.ending) rest

end_in : {S : Type 0} (take : S → List ℕ → Result S Fault) (state : S) (words : List (List ℕ)) (ending : Option SpellingFault) (left : Rest) → word_or_end_in words ending ≡ Ok (None, left) → words_in take state words ending ≡ Ok state
end_in take state [] None left h = refl
end_in take state [] (Some fault) left h = cc
end_in take state (w ∷ ws) ending left h = let none : Some w ≡ None = ap taken h in cc

fault_in : {S : Type 0} (take : S → List ℕ → Result S Fault) (state : S) (words : List (List ℕ)) (ending : Option SpellingFault) (fault : Fault) → word_or_end_in words ending ≡ Err fault → words_in take state words ending ≡ Err fault
fault_in take state [] None fault h = cc
fault_in take state [] (Some f) fault h = cc
fault_in take state (w ∷ ws) ending fault h = cc

-- the next word is taken, and then each word behind it
pub each_word-next : {S : Type 0} (take : S → List ℕ → Result S Fault) (state : S) (rest : Rest) (word : List ℕ) (left : Rest) → word_or_end_at rest ≡ Ok (Some word, left) → each_word take state rest ≡ (take state word >>= λ next. each_word take next left)
unfolding each_word word_or_end_at
each_word-next take state rest word left h = next_in take state rest.words rest.ending word left h

-- at the line's end nothing is taken
pub each_word-end : {S : Type 0} (take : S → List ℕ → Result S Fault) (state : S) (rest : Rest) (left : Rest) → word_or_end_at rest ≡ Ok (None, left) → each_word take state rest ≡ Ok state
unfolding each_word word_or_end_at
each_word-end take state rest left h = end_in take state rest.words rest.ending left h

-- a fault of the line's spelling is told at the end
pub each_word-fault : {S : Type 0} (take : S → List ℕ → Result S Fault) (state : S) (rest : Rest) (fault : Fault) → word_or_end_at rest ≡ Err fault → each_word take state rest ≡ Err fault
unfolding each_word word_or_end_at
each_word-fault take state rest fault h = fault_in take state rest.words rest.ending fault h

-- a step that finds a fault ends the taking
pub each_word-refused : {S : Type 0} (take : S → List ℕ → Result S Fault) (state : S) (rest : Rest) (word : List ℕ) (left : Rest) (fault : Fault) → word_or_end_at rest ≡ Ok (Some word, left) → take state word ≡ Err fault → each_word take state rest ≡ Err fault
each_word-refused take state rest word left fault h e =
    each_word-next take state rest word left h ∙ ap (λ r. r >>= λ next. each_word take next left) e

-- a step that finds none goes on
pub each_word-taken : {S : Type 0} (take : S → List ℕ → Result S Fault) (state : S) (rest : Rest) (word : List ℕ) (left : Rest) (next : S) → word_or_end_at rest ≡ Ok (Some word, left) → take state word ≡ Ok next → each_word take state rest ≡ each_word take next left
each_word-taken take state rest word left next h e =
    each_word-next take state rest word left h ∙ ap (λ r. r >>= λ n. each_word take n left) e

-- the call that wants the next word failed
pub each_word_at_fault : {S : Type 0} (take : S → List ℕ → Result S Fault) (state : S) (rest : Rest) (e : LineError) → Fails e (word_or_end_at rest) → Fails e (each_word take state rest)
each_word_at_fault take state rest errors.Memory h = h
each_word_at_fault take state rest (errors.Fault fault) h = each_word-fault take state rest fault h

-- the call that takes the next word failed
pub each_word_at_refused : {S : Type 0} (take : S → List ℕ → Result S Fault) (state : S) (rest : Rest) (word : List ℕ) (left : Rest) (e : LineError) → word_or_end_at rest ≡ Ok (Some word, left) → Fails e (take state word) → Fails e (each_word take state rest)
each_word_at_refused take state rest word left errors.Memory h f = f
each_word_at_refused take state rest word left (errors.Fault fault) h f = each_word-refused take state rest word left fault h f
