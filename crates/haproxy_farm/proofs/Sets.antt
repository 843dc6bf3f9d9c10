-- A set that lies below a number.
use Rattle.std.proofs.Common.{◌≡◌, ℕ, ◌<◌, Bool, true, false, ◌&&◌, refl, sym, ap, ◌∙◌}
use Rattle.std.specs.Prelude.{◌↔◌}
use Rattle.lb_types.specs.Servers.{has}
use Rattle.lb_types.proofs.Sets.{same_sets}

and_kept : (a b : Bool) → (a ≡ true → b ≡ true) → (a && b) ≡ a
and_kept true b implies = implies refl
and_kept false b implies = refl

and_right : (a b : Bool) → (a && b) ≡ true → b ≡ true
and_right true b both = both
and_right false b both = cc

-- a set that lies below n is what it has in common with all servers below n
pub below_meet : (n servers first meet : ℕ) → ((s : ℕ) → has meet s ≡ (has servers s && has first s)) → ((s : ℕ) → (has first s ≡ true) ↔ (s < n)) → ((s : ℕ) → has servers s ≡ true → s < n) → meet ≡ servers
below_meet n servers first meet is_meet is_first below =
    same_sets meet servers (λ s. is_meet s ∙ and_kept (has servers s) (has first s) (λ held. (is_first s).1 (below s held)))

pub meet_below : (n servers first meet : ℕ) → ((s : ℕ) → has meet s ≡ (has servers s && has first s)) → ((s : ℕ) → (has first s ≡ true) ↔ (s < n)) → meet ≡ servers → (s : ℕ) → has servers s ≡ true → s < n
meet_below n servers first meet is_meet is_first same s held =
    let both : (has servers s && has first s) ≡ true = sym (is_meet s) ∙ (ap (λ m. has m s) same ∙ held) in
    (is_first s).0 (and_right (has servers s) (has first s) both)
