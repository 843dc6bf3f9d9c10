-- The bytes of a text that was written into a vector.
use Rattle.std.proofs.Common.{◌≡◌, ℕ, List, [], Option, Some, None, sym, subst, ◌∙◌}
use Rattle.std.specs.Io.KnownBytes.{Appends}
use Rattle.std.proofs.lemmas.Option.{none-some, same_Some}

-- what was written behind nothing is all that is there
pub whole_text : (old new : Option (List ℕ)) (text out : List ℕ) → old ≡ Some [] → Appends old new text → Some out ≡ new → out ≡ text
whole_text old new text out empty grows same = go new (subst (λ o. Appends o new text) empty grows) same
  where
    go : (n : Option (List ℕ)) → Appends (Some []) n text → Some out ≡ n → out ≡ text
    go None more is = absurd (none-some out (sym is))
    go (Some ys) more is = same_Some out ys is ∙ more
