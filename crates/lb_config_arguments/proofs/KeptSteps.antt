-- What holds of what a reading gives, step by step.
use Rattle.std.proofs.Common.{◌≡◌, ℕ, Bool, true, false, cond, refl, List, [], ◌∷◌, Option, Some, None, Result, Ok, Err, IfOk}
use Rattle.lb_config_words.specs.declared.fault.SpellingFault.{SpellingFault}
use Rattle.lb_config_arguments.specs.declared.fault.Fault.{Fault}
use Rattle.lb_config_arguments.specs.Faults.{◌>>=◌}
use Rattle.lb_config_arguments.specs.Reading.{each_word, words_in}
use Rattle.lb_config_arguments.specs.Rest.{Rest}

-- the second step, by what the first one gave
pub bind_ok : {A B : Type 0} (P : A → Type 0) (Q : B → Type 0) (r : Result A Fault) (f : A → Result B Fault) →
    IfOk r P → ((x : A) → P x → IfOk (f x) Q) → IfOk (r >>= f) Q
bind_ok P Q (Ok x) f first second = second x first
bind_ok P Q (Err e) f first second = tt

-- the second step, whatever the first one gave
pub then_ok : {A B : Type 0} (Q : B → Type 0) (r : Result A Fault) (f : A → Result B Fault) → ((x : A) → IfOk (f x) Q) → IfOk (r >>= f) Q
then_ok Q (Ok x) f second = second x
then_ok Q (Err e) f second = tt

-- one of two, by a test
pub cond_ok : {A E : Type 0} (P : A → Type 0) (b : Bool) (x y : Result A E) → (b ≡ true → IfOk x P) → (b ≡ false → IfOk y P) → IfOk (cond b x y) P
cond_ok P true x y met unmet = met refl
cond_ok P false x y met unmet = unmet refl

pub weaker : {A E : Type 0} (P Q : A → Type 0) (r : Result A E) → IfOk r P → ((x : A) → P x → Q x) → IfOk r Q
weaker P Q (Ok x) is less = less x is
weaker P Q (Err e) is less = tt

words_ok : {S : Type 0} (P : S → Type 0) (take : S → List ℕ → Result S Fault) → ((state : S) (word : List ℕ) → P state → IfOk (take state word) P) →
    (state : S) (words : List (List ℕ)) (ending : Option SpellingFault) → P state → IfOk (words_in take state words ending) P
words_ok P take step state [] None is = is
words_ok P take step state [] (Some fault) is = tt
words_ok P take step state (word ∷ words) ending is =
    bind_ok P P (take state word) (λ next. words_in take next words ending) (step state word is) (λ next holds. words_ok P take step next words ending holds)

-- what each word keeps
pub each_word_ok : {S : Type 0} (P : S → Type 0) (take : S → List ℕ → Result S Fault) → ((state : S) (word : List ℕ) → P state → IfOk (take state word) P) →
    (state : S) (rest : Rest) → P state → IfOk (each_word take state rest) P
unfolding each_word
each_word_ok P take step state rest is = words_ok P take step state rest.words rest.ending is
