-- The words behind `stick`: HAProxy Configuration Manual 2.8, section 4.2. Where the manual has a word that this balancer leaves out by
-- name, that word is told.
use Rattle.std.specs.Prelude.{ℕ, List, [], ◌∷◌, Option, Some, None, Result, Ok, Err, codes, bytes_eq, if◌then◌else◌}
use Rattle.lb_acl.specs.declared.key.KeySample.{KeySample}
use Rattle.lb_config_arguments.specs.declared.fault.Fault.{Fault}
use Rattle.lb_config_arguments.specs.declared.fault.Fault.TheVariants.{UnknownWord, LeftOut}
use Rattle.lb_config_arguments.specs.Faults.{◌>>=◌}
use Rattle.lb_config_arguments.specs.Reading.{word_at, word_or_end_at}
use Rattle.lb_config_arguments.specs.Rest.{Rest}
use Rattle.lb_config_conditions.specs.Criteria.{pattern_in}
use Rattle.lb_config_keywords.specs.Sections.{is_one_of}

-- the line ends here: one of these words is left out, and any other is one too many
abbrev pub end_or_one_of : List (List ℕ) → Option (List ℕ) → Result (Unit {0}) Fault
end_or_one_of words None = Ok tt
end_or_one_of words (Some word) = if is_one_of words word then Err (LeftOut word) else Err UnknownWord

-- `stick on`: a condition or a table of another section is left out
unfoldable pub pattern_at : Rest → Result KeySample Fault
pattern_at rest = do
  word ← word_at rest
  sample ← pattern_in word.0
  next ← word_or_end_at word.1
  end ← end_or_one_of (codes "if" ∷ codes "unless" ∷ codes "table" ∷ []) next.0
  Ok sample

-- the word behind `stick`
unfoldable pub stick_in : List ℕ → Result (Unit {0}) Fault
stick_in word =
    if bytes_eq word (codes "on") then Ok tt
    else (if is_one_of (codes "match" ∷ codes "store-request" ∷ []) word then Err (LeftOut word) else Err UnknownWord)

unfoldable pub stick_at : Rest → Result KeySample Fault
stick_at rest = do
  word ← word_at rest
  known ← stick_in word.0
  pattern_at word.1
