-- Laws of what is taught. The first bytes of an answer that aren't unfinished say what the whole answer teaches.
use Rattle.std.specs.Prelude.{◌≡◌, ℕ, true, false, List, ◌++◌, None}
use Rattle.set_cookie.specs.Answers.{is_unfinished, taught}

-- what is taught stays so, whatever follows
abbrev pub TaughtStays : Type 0
TaughtStays = (answer more name : List ℕ) → is_unfinished answer ≡ false → taught (answer ++ more) name ≡ taught answer name

-- and nothing more is to be awaited
abbrev pub StaysFinished : Type 0
StaysFinished = (answer more : List ℕ) → is_unfinished answer ≡ false → is_unfinished (answer ++ more) ≡ false

-- while more is to be awaited, nothing is taught
abbrev pub TeachesNothingYet : Type 0
TeachesNothingYet = (answer name : List ℕ) → is_unfinished answer ≡ true → taught answer name ≡ None
