-- What the functions under `read_words` give, as lists. No public clause cites this module.
use Rattle.std.specs.Prelude.{Bool, List, [], ◌∷◌, ◌++◌, Option, Some, None, option_map, if◌then◌else◌}
use Rattle.std.specs.Borrow.{Bor}
use Rattle.lb_cli_words.specs.Words.{Text, texts}
use Rattle.lb_cli_words.specs.declared.own_option.Given.{Given}
use Rattle.lb_cli_words.specs.declared.run_options.RunOptions.{RunOptions as ReadOptions}
use Rattle.lb_cli_words.specs.RunWords.{RunOptions}

-- no operand, where there is none
abbrev pub nothing_if : Bool → Option (List Text)
nothing_if is_end = if is_end then Some [] else None

-- one file
abbrev pub one_of : Option (Bor Text) → Option (List Text)
one_of = option_map (λ file. file.now ∷ [])

-- two files
abbrev pub two_of : Option (Bor Text × Bor Text) → Option (List Text)
two_of = option_map (λ files. files.0.now ∷ files.1.now ∷ [])

-- three words
abbrev pub three_of : Option (Bor Text × Bor Text × Bor Text) → Option (List Text)
three_of = option_map (λ words. words.0.now ∷ words.1.now ∷ words.2.now ∷ [])

-- four words
abbrev pub four_of : Option (Bor Text × Bor Text × Bor Text × Bor Text) → Option (List Text)
four_of = option_map (λ words. words.0.now ∷ words.1.now ∷ words.2.now ∷ words.3.now ∷ [])

-- the values of an option that has at most one
abbrev pub values_of : Option (Bor Text) → List Text
values_of None = []
values_of (Some value) = value.now ∷ []

-- an option's values, and the words behind it
abbrev pub given_of : Option Given → Option (List Text × List Text)
given_of = option_map (λ given. (values_of given.value, texts given.rest.now))

-- the values of all options of `run`, and the words behind them
abbrev pub options_of : ReadOptions → RunOptions
options_of o = record { file = values_of o.file; pins = values_of o.pins; every = values_of o.every; rest = texts o.rest.now }

-- an option's values, and one file
abbrev pub files_of : Option (Option (Bor Text) × Bor Text) → Option (List Text)
files_of = option_map (λ files. values_of files.0 ++ files.1.now ∷ [])
