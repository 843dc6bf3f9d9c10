-- Desks that are numbered by their places, and the lines of those that were closed.
use Rattle.std.proofs.Common.{◌≡◌, ◌<◌, ◌∙◌, ℕ, zero, suc, ◌+◌, List, [], ◌∷◌, ◌++◌, length, take, get_or, Option, Some, None, slice_get, refl, sym, ap, subst, append_assoc, append-nil, arith}
use Rattle.std.specs.Io.KnownBytes.{Appends}
use Rattle.lb_config.specs.ConfigViews.{BackendView}
use Rattle.lb_desk_backend.specs.Configured.{IsBackendOf}
use Rattle.lb_desk_model.specs.Backends.{BackendParts}
use Rattle.lb_run_desks.specs.NewDeskView.{NewDeskView}
use Rattle.lb_run_desks.specs.NewDesks.{Open, numbers, numbers_from}
use Rattle.lb_run.specs.Runs.{AllClosed, AreOpened, ClosedAs, IsOpened}

module _ (opening : ℕ → BackendParts) (sizes : ℕ → ℕ) where
  -- the names say that of a desk
  abbrev IsNamed : ℕ → NewDeskView → Type 0
  IsNamed place desk = (desk.backend ≡ opening place) × (desk.journal ≡ sizes place)

  opened_from : (n : ℕ) (configs : List BackendView) (desks : List NewDeskView)
      → ((place : ℕ) (desk : NewDeskView) → slice_get desks place ≡ Some desk → IsNamed (n + place) desk)
      → Open configs desks → AreOpened opening sizes configs (numbers_from n desks)
  opened_from n [] [] named opens = tt
  opened_from n [] (d ∷ ds) named opens = absurd opens
  opened_from n (c ∷ cs) [] named opens = absurd opens
  opened_from n (c ∷ cs) (d ∷ ds) named opens =
      let here : n + 0 ≡ n = omega arith in
      let first : IsNamed n d = subst (λ (m : ℕ). IsNamed m d) here (named 0 d refl) in (
        (subst (λ (b : BackendParts). IsBackendOf c b) first.0 opens.0.0, sym first.1 ∙ opens.0.1),
        opened_from (n + 1) cs ds (λ place desk at.
            let there : n + suc place ≡ (n + 1) + place = omega arith in
            subst (λ (m : ℕ). IsNamed m desk) there (named (suc place) desk at)) opens.1,
      )

  -- desks that are named by their places opened as what is configured there
  pub all_opened : (configs : List BackendView) (desks : List NewDeskView)
      → ((place : ℕ) (desk : NewDeskView) → slice_get desks place ≡ Some desk → IsNamed place desk)
      → Open configs desks → AreOpened opening sizes configs (numbers desks)
  all_opened configs desks named opens =
      opened_from 0 configs desks (λ place desk at.
      let same : place ≡ 0 + place = omega arith in
      subst (λ (m : ℕ). IsNamed m desk) same (named place desk at)) opens

  -- there are as many desks as backends
  pub as_many : (configs : List BackendView) (desks : List ℕ) → AreOpened opening sizes configs desks → length desks ≡ length configs
  as_many [] [] are = refl
  as_many [] (d ∷ ds) are = absurd are
  as_many (c ∷ cs) [] are = absurd are
  as_many (c ∷ cs) (d ∷ ds) are = ap suc (as_many cs ds are.1)

  -- the next desk, of which some are closed
  pub next_opened : (configs : List BackendView) (done later : List ℕ) (desk : ℕ) (config : BackendView)
      → AreOpened opening sizes configs (done ++ desk ∷ later) → IsOpened opening sizes (get_or configs (length done) config) desk
  next_opened [] [] later desk config are = absurd are
  next_opened (c ∷ cs) [] later desk config are = are.0
  next_opened [] (d ∷ ds) later desk config are = absurd are
  next_opened (c ∷ cs) (d ∷ ds) later desk config are = next_opened cs ds later desk config are.1

-- one backend more is closed
closed_next : (i : ℕ) (configs : List BackendView) (config : BackendView) (text line : List ℕ)
    → i < length configs → config ≡ get_or configs i config → AllClosed (take i configs) text → ClosedAs config line
    → AllClosed (take (suc i) configs) (text ++ line)
closed_next i [] config text line within here closed is = absurd (omega arith)
closed_next zero (c ∷ cs) config text line within here closed is = (
  line,
  [],
  subst (λ (b : BackendView). ClosedAs b line) here is,
  refl,
  ap (λ (l : List ℕ). l ++ line) closed ∙ sym (append-nil line),
)
closed_next (suc i) (c ∷ cs) config text line within here closed is = (
  closed.0,
  closed.1 ++ line,
  closed.2,
  closed_next i cs config (closed.1) line (omega arith) here closed.3 is,
  ap (λ (l : List ℕ). l ++ line) closed.4 ∙ append_assoc closed.0 closed.1 line,
)

pub closed_more : (i : ℕ) (configs : List BackendView) (config : BackendView) (text line : List ℕ)
    → i < length configs → config ≡ get_or configs i config → AllClosed (take i configs) text → ClosedAs config line
    → AllClosed (take (i + 1) configs) (text ++ line)
closed_more i configs config text line within here closed is =
    let same : suc i ≡ i + 1 = omega arith in
    subst (λ (n : ℕ). AllClosed (take n configs) (text ++ line)) same (closed_next i configs config text line within here closed is)

longer : (done later : List ℕ) (desk : ℕ) → length done < length (done ++ desk ∷ later)
longer [] later desk = omega arith
longer (d ∷ ds) later desk = let more = longer ds later desk in omega (arith, more)

-- all desks: those that are closed, the next one, and the others
whole : (done rest all later : List ℕ) (desk : ℕ) → done ++ rest ≡ all → rest ≡ desk ∷ later → done ++ desk ∷ later ≡ all
whole done rest all later desk is next = ap (λ (l : List ℕ). done ++ l) (sym next) ∙ is

-- the next desk has a place among all
pub within_all : (done rest all later : List ℕ) (desk place : ℕ) → done ++ rest ≡ all → rest ≡ desk ∷ later → place ≡ length done → place < length all
within_all done rest all later desk place is next here =
    let there : length done < length all =
    subst (λ (l : List ℕ). length done < length l) (whole done rest all later desk is next) (longer done later desk) in
    omega (arith, there, here)

-- it opened as what is configured there
pub next_configured : (opening : ℕ → BackendParts) (sizes : ℕ → ℕ) (configs backends : List BackendView) (done rest all later : List ℕ)
    (desk place : ℕ) (config : BackendView) → AreOpened opening sizes configs all → done ++ rest ≡ all → rest ≡ desk ∷ later → place ≡ length done
    → backends ≡ configs → config ≡ get_or backends place config → IsOpened opening sizes config desk
next_configured opening sizes configs backends done rest all later desk place config are is next here same at =
    let there : config ≡ get_or configs (length done) config =
    at ∙ ap (λ (l : List BackendView). get_or l place config) same ∙ ap (λ (n : ℕ). get_or configs n config) here in
    let opened = subst (λ (l : List ℕ). AreOpened opening sizes configs l) (sym (whole done rest all later desk is next)) are in
    subst (λ (b : BackendView). IsOpened opening sizes b desk) (sym there) (next_opened opening sizes configs done later desk config opened)

take_whole : (configs : List BackendView) → take (length configs) configs ≡ configs
take_whole [] = refl
take_whole (c ∷ cs) = ap (λ (l : List BackendView). c ∷ l) (take_whole cs)

-- with no desk left, all backends are closed
pub closed_whole : (configs : List BackendView) (text : List ℕ) (n : ℕ) → n ≡ length configs → AllClosed (take n configs) text → AllClosed configs text
closed_whole configs text n all closed =
    let is : take n configs ≡ configs = ap (λ (m : ℕ). take m configs) all ∙ take_whole configs in
    subst (λ (l : List BackendView). AllClosed l text) is closed

-- what goes out in two parts
pub appends_both : (a b c : Option (List ℕ)) (xs ys : List ℕ) → Appends a b xs → Appends b c ys → Appends a c (xs ++ ys)
appends_both None b c xs ys first second = tt
appends_both (Some old) None c xs ys first second = absurd first
appends_both (Some old) (Some mid) None xs ys first second = absurd second
appends_both (Some old) (Some mid) (Some new) xs ys first second =
    second ∙ ap (λ (l : List ℕ). l ++ ys) first ∙ append_assoc old xs ys
