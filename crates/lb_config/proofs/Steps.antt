-- Sections and settings taken one after another.
use Rattle.std.proofs.Common.{◌≡◌, ℕ, ◌+◌, ◌<◌, ◌≤◌, List, [], ◌∷◌, ◌++◌, length, get_or, drop, Option, Some, None, refl, sym, ap, ◌∙◌}
use Rattle.std.specs.List.{cons_option, filter_map}
use Rattle.std.specs.Option.{option_to_list}
use Rattle.std.proofs.lemmas.List.{drop_all, at_drop_more, append_assoc, append-nil}
use Rattle.lb_config_sections.specs.SectionView.{SectionView}
use Rattle.lb_config.specs.BasisView.{BasisView}
use Rattle.lb_config.specs.ProxiesSoFarView.{ProxiesSoFarView}
use Rattle.lb_config.specs.ProxiesSoFar.{with_section, with_sections}

pub cons_first : {Y : Type 0} (o : Option Y) (ys : List Y) → cons_option o ys ≡ option_to_list o ++ ys
cons_first None ys = refl
cons_first (Some y) ys = refl

-- what an item gives more
pub gather_more : {X Y : Type 0} (f : X → Option Y) (front : List Y) (xs : List X) (i : ℕ) (x : X) → i < length xs → x ≡ get_or xs i x →
    front ++ filter_map f (drop i xs) ≡ (front ++ option_to_list (f x)) ++ filter_map f (drop (i + 1) xs)
gather_more f front xs i x within is =
    at_drop_more (λ rest. front ++ filter_map f rest) xs i x within ∙ ap (λ first. front ++ filter_map f (first ∷ drop (i + 1) xs)) (sym is)
    ∙ ap (λ rest. front ++ rest) (cons_first (f x) (filter_map f (drop (i + 1) xs)))
    ∙ sym (append_assoc front (option_to_list (f x)) (filter_map f (drop (i + 1) xs)))

pub gather_end : {X Y : Type 0} (f : X → Option Y) (front : List Y) (xs : List X) (i : ℕ) → length xs ≤ i → front ++ filter_map f (drop i xs) ≡ front
gather_end f front xs i past = ap (λ rest. front ++ filter_map f rest) (drop_all i xs past) ∙ append-nil front

-- one section more
pub sections_push : (basis : BasisView) (draft : ProxiesSoFarView) (sections : List SectionView) (section : SectionView) →
    with_sections basis draft (sections ++ section ∷ []) ≡ with_section basis (with_sections basis draft sections) section
sections_push basis draft [] section = refl
sections_push basis draft (first ∷ more) section = sections_push basis (with_section basis draft first) more section
