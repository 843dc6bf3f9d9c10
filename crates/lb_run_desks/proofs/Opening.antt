-- Desks of a list of backends, one more at a time.
use Rattle.std.proofs.Common.{◌≡◌, ◌<◌, ◌∙◌, ℕ, zero, suc, ◌+◌, List, [], ◌∷◌, ◌++◌, length, take, get_or, refl, ap, subst, arith}
use Rattle.lb_config.specs.ConfigViews.{BackendView}
use Rattle.lb_run_desks.specs.NewDeskView.{NewDeskView}
use Rattle.lb_run_desks.specs.NewDesks.{Open, OpensAs}

Open-next : (i : ℕ) (configs : List BackendView) (desks : List NewDeskView) (config : BackendView) (desk : NewDeskView)
    → i < length configs → config ≡ get_or configs i config → Open (take i configs) desks → OpensAs config desk
    → Open (take (suc i) configs) (desks ++ desk ∷ [])
Open-next i [] desks config desk within here opens is = absurd (omega arith)
Open-next zero (c ∷ cs) [] config desk within here opens is = (subst (λ (b : BackendView). OpensAs b desk) here is, tt)
Open-next zero (c ∷ cs) (d ∷ ds) config desk within here opens is = absurd opens
Open-next (suc i) (c ∷ cs) [] config desk within here opens is = absurd opens
Open-next (suc i) (c ∷ cs) (d ∷ ds) config desk within here opens is = (opens.0, Open-next i cs ds config desk (omega arith) here opens.1 is)

-- the desk of the next backend
pub Open-more : (i : ℕ) (configs : List BackendView) (desks : List NewDeskView) (config : BackendView) (desk : NewDeskView)
    → i < length configs → config ≡ get_or configs i config → Open (take i configs) desks → OpensAs config desk
    → Open (take (i + 1) configs) (desks ++ desk ∷ [])
Open-more i configs desks config desk within here opens is =
    let same : suc i ≡ i + 1 = omega arith in
    subst (λ (n : ℕ). Open (take n configs) (desks ++ desk ∷ [])) same (Open-next i configs desks config desk within here opens is)

-- there are as many desks as backends
pub Open-length : (configs : List BackendView) (desks : List NewDeskView) → Open configs desks → length desks ≡ length configs
Open-length [] [] opens = refl
Open-length [] (d ∷ ds) opens = absurd opens
Open-length (c ∷ cs) [] opens = absurd opens
Open-length (c ∷ cs) (d ∷ ds) opens = ap suc (Open-length cs ds opens.1)
