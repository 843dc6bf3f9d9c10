-- What the lines of an answer say together.
use Rattle.std.specs.Prelude.{ℕ, ◌+◌, is_none, List, ◌∷◌, [], ◌++◌, position, Option, Some, None, Result, Ok, Err}
use Rattle.std.specs.List.{filter_map}
use Rattle.std.specs.Option.{option_flatten, option_map_or}

-- What lines say together, of which the first is line n. A line gives `None` where it isn't of the form,
-- `Some None` where it is passed over, and else some value. Together they say the values in order, or the number of the first line that
-- isn't of the form
unfoldable pub said_from : {X : Type 0} → (List ℕ → Option (Option X)) → ℕ → List (List ℕ) → Result (List X) ℕ
said_from said n lines =
    option_map_or (λ i. Err (n + i)) (position (λ line. is_none (said line)) lines) (Ok (filter_map (λ line. option_flatten (said line)) lines))

-- the values, and what line n says. No public clause cites this
unfoldable pub with_said : {X : Type 0} → ℕ → Option (Option X) → List X → Result (List X) ℕ
with_said n None values = Err n
with_said n (Some None) values = Ok values
with_said n (Some (Some value)) values = Ok (values ++ value ∷ [])
