-- Readings of words that tell their first fault: what is told stands, whatever follows, and where a word is missing,
-- some words do follow.
use Rattle.std.proofs.Common.{◌≡◌, ◌≢◌, Bool, true, false, cond, List, [], ◌∷◌, ◌++◌, Result, Ok, Err, refl, sym, ap, ◌∙◌}
use Rattle.std.specs.Str.{bytes_eq}
use Rattle.command_socket_words.specs.declared.fault.CommandFault.{CommandFault}
use Rattle.command_socket_words.specs.declared.fault.CommandFault.TheVariants.{UnknownCommand, MissingWord}
use Rattle.command_socket_words.specs.Faults.{◌>>=◌}
use Rattle.command_socket_words.specs.Words.{Word, at_end, last, behind}
use Rattle.command_socket_words.proofs.Steps.{bind_ok, mapped_err, bytes_same}

-- the reading tells its first fault
pub record IsReading (A : Type 0) (f : List Word → Result A CommandFault) : Type 0 where
  pub stays : (words more : List Word) (fault : CommandFault) → fault ≢ MissingWord → f words ≡ Err fault → f (words ++ more) ≡ Err fault
  pub ends : (words : List Word) (word : Word) (more : List Word) (x : A) → f words ≡ Ok x → f (words ++ word ∷ more) ≡ Err UnknownCommand
  pub goes_on : (words : List Word) → f words ≡ Err MissingWord → (more : List Word) × (x : A) × (f (words ++ more) ≡ Ok x)

-- a fault from the start
pub reading-fault : (A : Type 0) (fault : CommandFault) → fault ≢ MissingWord → IsReading A (λ words. Err fault)
reading-fault A fault some = record {
  stays = λ words more other _ is. is;
  ends = λ words word more x is. cc;
  goes_on = λ words is. let same : fault ≡ MissingWord = cc in absurd (some same);
}

-- one of two readings
pub reading-if : (A : Type 0) (b : Bool) (f g : List Word → Result A CommandFault) → IsReading A f → IsReading A g → IsReading A (λ words. cond b (f words) (g words))
reading-if A true f g first second = first
reading-if A false f g first second = second

-- a reading of the words behind the first one, which it depends on
pub reading-first : (A : Type 0) (g : List Word → Result A CommandFault) (f : Word → List Word → Result A CommandFault) → g [] ≡ Err MissingWord → ((word : Word) (more : List Word) → g (word ∷ more) ≡ f word more) → ((word : Word) → IsReading A (f word)) → (word : Word) (more : List Word) (x : A) → f word more ≡ Ok x → IsReading A g
reading-first A g f none some each word more x is = record { stays = stays; ends = ends; goes_on = goes_on }
  where
    stays : (words behind : List Word) (fault : CommandFault) → fault ≢ MissingWord → g words ≡ Err fault → g (words ++ behind) ≡ Err fault
    stays [] behind fault other told = let same : fault ≡ MissingWord = cc in absurd (other same)
    stays (w ∷ words) behind fault other told = some w (words ++ behind) ∙ (each w).stays words behind fault other (sym (some w words) ∙ told)

    ends : (words : List Word) (last : Word) (behind : List Word) (y : A) → g words ≡ Ok y → g (words ++ last ∷ behind) ≡ Err UnknownCommand
    ends [] last behind y told = cc
    ends (w ∷ words) last behind y told = some w (words ++ last ∷ behind) ∙ (each w).ends words last behind y (sym (some w words) ∙ told)

    goes_on : (words : List Word) → g words ≡ Err MissingWord → (behind : List Word) × (y : A) × (g (words ++ behind) ≡ Ok y)
    goes_on [] told = (word ∷ more, x, some word more ∙ is)
    goes_on (w ∷ words) told =
        let rest = (each w).goes_on words (sym (some w words) ∙ told) in
        (rest.0, rest.1, some w (words ++ rest.0) ∙ rest.2)

-- a reading, and a step without a fault behind it
pub reading-map : (A B : Type 0) (f : List Word → Result A CommandFault) (h : A → B) → IsReading A f → IsReading B (λ words. f words >>= λ x. Ok (h x))
reading-map A B f h kept = record {
  stays = λ words more fault other is. let now = kept.stays words more fault other (mapped_err (f words) h fault is) in rw now refl;
  ends = λ words word more y is. let found = bind_ok (f words) (λ x. Ok (h x)) y is in let now = kept.ends words word more found.0 found.1 in rw now refl;
  goes_on = λ words is. let rest = kept.goes_on words (mapped_err (f words) h MissingWord is) in (rest.0, h rest.1, rw rest.2 refl);
}

-- a reading behind a step that misses no word
pub reading-given : (A B : Type 0) (r : Result A CommandFault) (f : A → List Word → Result B CommandFault) → r ≢ Err MissingWord → ((x : A) → IsReading B (f x)) → IsReading B (λ words. r >>= λ x. f x words)
reading-given A B (Ok x) f some each = each x
reading-given A B (Err e) f some each = reading-fault B e (λ same. some (ap Err same))

abbrev done : {A : Type 0} → A → List Word → Result A CommandFault
done x words = at_end words >>= λ _. Ok x

done_stays : (A : Type 0) (x : A) (words more : List Word) (fault : CommandFault) → fault ≢ MissingWord → done x words ≡ Err fault → done x (words ++ more) ≡ Err fault
unfolding at_end
done_stays A x [] more fault other is = cc
done_stays A x (w ∷ words) more fault other is = is

done_ends : (A : Type 0) (x : A) (words : List Word) (word : Word) (more : List Word) (y : A) → done x words ≡ Ok y → done x (words ++ word ∷ more) ≡ Err UnknownCommand
unfolding at_end
done_ends A x [] word more y is = refl
done_ends A x (w ∷ words) word more y is = cc

done_goes_on : (A : Type 0) (x : A) (words : List Word) → done x words ≡ Err MissingWord → (more : List Word) × (y : A) × (done x (words ++ more) ≡ Ok y)
unfolding at_end
done_goes_on A x [] is = cc
done_goes_on A x (w ∷ words) is = cc

-- no word is left
pub reading-end : (A : Type 0) (x : A) → IsReading A (λ words. at_end words >>= λ _. Ok x)
reading-end A x = record { stays = done_stays A x; ends = done_ends A x; goes_on = done_goes_on A x }

-- one word that means something
pub reading-last : (A : Type 0) (meaning : Word → Result A CommandFault) → ((word : Word) → meaning word ≢ Err MissingWord) → (word : Word) (x : A) → meaning word ≡ Ok x → IsReading A (last meaning)
unfolding last at_end
reading-last A meaning some word x is =
    reading-first A (last meaning) (λ w more. meaning w >>= λ y. (at_end more >>= λ _. Ok y)) refl (λ w more. refl)
    (λ w. reading-given A A (meaning w) (λ y more. at_end more >>= λ _. Ok y) (some w) (λ y. reading-end A y)) word [] x (rw is refl)

-- a word that has to stand there, and a reading behind it
pub reading-behind : (A : Type 0) (key : Word) (f : List Word → Result A CommandFault) → IsReading A f → (more : List Word) (x : A) → f more ≡ Ok x → IsReading A (behind key f)
unfolding behind
reading-behind A key f kept more x is =
    reading-first A (behind key f) (λ w rest. cond (bytes_eq w key) (f rest) (Err UnknownCommand)) refl (λ w rest. refl)
    (λ w. reading-if A (bytes_eq w key) f (λ rest. Err UnknownCommand) kept (reading-fault A UnknownCommand (λ same. cc))) key more x (rw (bytes_same key) is)
