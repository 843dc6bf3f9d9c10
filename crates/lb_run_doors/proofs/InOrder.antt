-- Doors of a list of frontends.
use Rattle.std.proofs.Common.{◌≡◌, ◌<◌, ◌∙◌, ℕ, zero, suc, ◌+◌, List, [], ◌∷◌, ◌++◌, length, take, get_or, sym, ap, append_assoc, append-nil, arith}
use Rattle.lb_config.specs.ConfigViews.{FrontendView}
use Rattle.lb_run_doors.specs.Doors.{doors_at, doors_from}

doors_from-next : (n i : ℕ) (frontends : List FrontendView) (d : FrontendView) → i < length frontends
    → doors_from n (take (suc i) frontends) ≡ doors_from n (take i frontends) ++ doors_at (n + i) (get_or frontends i d)
doors_from-next n i [] d within = absurd (omega arith)
doors_from-next n zero (f ∷ fs) d within =
    let same : n ≡ n + 0 = omega arith in
    append-nil (doors_at n f) ∙ ap (λ (m : ℕ). doors_at m f) same
doors_from-next n (suc i) (f ∷ fs) d within =
    let same : (n + 1) + i ≡ n + suc i = omega arith in
    ap (λ l. doors_at n f ++ l) (doors_from-next (n + 1) i fs d (omega arith)) ∙ sym (append_assoc (doors_at n f) (doors_from (n + 1) (take i fs)) (doors_at ((n + 1) + i) (get_or fs i d)))
    ∙ ap (λ (m : ℕ). (doors_at n f ++ doors_from (n + 1) (take i fs)) ++ doors_at m (get_or fs i d)) same

-- one frontend more
pub doors_from-take : (n i : ℕ) (frontends : List FrontendView) (d : FrontendView) → i < length frontends
    → doors_from n (take (i + 1) frontends) ≡ doors_from n (take i frontends) ++ doors_at (n + i) (get_or frontends i d)
doors_from-take n i frontends d within =
    let same : i + 1 ≡ suc i = omega arith in
    ap (λ (m : ℕ). doors_from n (take m frontends)) same ∙ doors_from-next n i frontends d within
