-- Keys of which no byte has to be escaped.
use Rattle.std.proofs.Common.{◌≡◌, ℕ, true, List, [], ◌∷◌, refl}
use Rattle.dual_cert_text.proofs.Steps.{and_true}
use Rattle.std.specs.List.{flat_map, list_all}
use Rattle.lb_answers.specs.Keys.{is_plain, escaped}

pub plain-flat_map : (bytes : List ℕ) → list_all (λ byte. is_plain byte) bytes ≡ true → flat_map (λ byte. escaped byte) bytes ≡ bytes
plain-flat_map [] all = refl
plain-flat_map (byte ∷ bytes) all =
    let both = and_true (is_plain byte) (list_all (λ b. is_plain b) bytes) all in
    rw (both.0, plain-flat_map bytes both.1) refl
