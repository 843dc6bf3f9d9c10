-- Bytes cut at a mark.
use Rattle.std.specs.Prelude.{ℕ, ◌==◌, List, [], Option}
use Rattle.std.specs.List.{slice_split}
use Rattle.std.specs.Option.{option_copied, option_map_or}
use Rattle.std.specs.Borrow.{Bor}

-- what stands between the marks: one part more than there are marks
abbrev pub parts : ℕ → List ℕ → List (List ℕ)
parts mark bytes = slice_split (λ b. b == mark) bytes

-- the parts of what is left, and none where nothing is
abbrev pub parts_left : ℕ → Option (Bor (List ℕ)) → List (List ℕ)
parts_left mark rest = option_map_or (parts mark) (option_copied rest) []
