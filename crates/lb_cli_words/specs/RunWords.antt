-- The options of `run`: `-f FILE`, `--pins PINS` and `--pins-every TIME`, each at most once, in any order.
use Rattle.std.specs.Prelude.{List, [], ◌∷◌, Option, Some, None, option_map, codes}
use Rattle.std.specs.Option.{option_map_or, option_or}
use Rattle.lb_cli_words.specs.Words.{Text, Reader, lettered, named}

-- the values that options at the front of words have, each none or one, and the words behind these options
pub record RunOptions : Type 0 where
  pub file : List Text
  pub pins : List Text
  pub every : List Text
  pub rest : List Text

-- the option at the front of the words, where it has no value yet
abbrev pub new_value : List Text → Reader → Reader
new_value [] option words = option words
new_value (value ∷ values) option words = None

-- with the value of one option more
abbrev pub with_file : RunOptions → Option RunOptions
with_file o = option_map (λ given. record o { file = given.0; rest = given.1 }) (new_value o.file (lettered 102) o.rest)

abbrev pub with_pins : RunOptions → Option RunOptions
with_pins o = option_map (λ given. record o { pins = given.0; rest = given.1 }) (new_value o.pins (named (codes "--pins")) o.rest)

abbrev pub with_every : RunOptions → Option RunOptions
with_every o = option_map (λ given. record o { every = given.0; rest = given.1 }) (new_value o.every (named (codes "--pins-every")) o.rest)

-- with one option more, where the next word is one
abbrev pub further : RunOptions → RunOptions
further o = option_map_or (λ more. more) (option_or (with_file o) (option_or (with_pins o) (with_every o))) o

-- all of the three that stand at the front of the words
abbrev pub options_in : List Text → RunOptions
options_in words = further (further (further (record { file = []; pins = []; every = []; rest = words })))

-- `run` with its file, and `run --pins` with its two files and, where it is given, the time
abbrev pub row_of_values : (file pins every : List Text) → Option (Text × List Text)
row_of_values (file ∷ []) [] [] = Some (codes "run", file ∷ [])
row_of_values (file ∷ []) (pins ∷ []) every = Some (codes "run --pins", file ∷ pins ∷ every)
row_of_values _ _ _ = None

abbrev pub row_of_options : RunOptions → Option (Text × List Text)
row_of_options o = row_of_values o.file o.pins o.every
