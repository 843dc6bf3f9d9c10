-- What standard error is given of pins that came back. Our own words.
use Rattle.std.specs.Prelude.{ℕ, ◌++◌, List, codes}
use Rattle.std.specs.Fmt.{decimal}

-- `pins web kept 1584 left out 12`
abbrev pub kept_line : List ℕ → ℕ → ℕ → List ℕ
kept_line backend kept left_out = codes "pins " ++ backend ++ codes " kept " ++ decimal kept ++ codes " left out " ++ decimal left_out ++ codes "\n"
