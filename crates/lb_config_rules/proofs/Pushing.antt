-- Lists made one item after another.
use Rattle.std.proofs.Common.{◌≡◌, ℕ, ◌+◌, ◌<◌, ◌≤◌, List, [], ◌∷◌, ◌++◌, length, get_or, drop, Option, Some, None, refl, sym, ap, ◌∙◌}
use Rattle.std.specs.List.{cons_option, filter_map}
use Rattle.std.specs.Option.{option_to_list}
use Rattle.std.proofs.lemmas.List.{drop_all, at_drop_more, append_assoc, append-nil}
use Rattle.std.proofs.lemmas.List.Elements.{filter_map-append}
use Rattle.lb_config_conditions.specs.declared.rules.AclDeclaration.{AclDeclaration}
use Rattle.lb_config_rules.specs.GroupView.{GroupView}
use Rattle.lb_config_rules.specs.Groups.{with_line, with_lines}

cons_first : {Y : Type 0} (o : Option Y) (ys : List Y) → cons_option o ys ≡ option_to_list o ++ ys
cons_first None ys = refl
cons_first (Some y) ys = refl

-- what an item gives more, where the items are counted
pub gather_more : {X Y : Type 0} (f : X → Option Y) (front : List Y) (xs : List X) (i : ℕ) (x : X) → i < length xs → x ≡ get_or xs i x →
    front ++ filter_map f (drop i xs) ≡ (front ++ option_to_list (f x)) ++ filter_map f (drop (i + 1) xs)
gather_more f front xs i x within is =
    at_drop_more (λ rest. front ++ filter_map f rest) xs i x within ∙ ap (λ first. front ++ filter_map f (first ∷ drop (i + 1) xs)) (sym is)
    ∙ ap (λ rest. front ++ rest) (cons_first (f x) (filter_map f (drop (i + 1) xs)))
    ∙ sym (append_assoc front (option_to_list (f x)) (filter_map f (drop (i + 1) xs)))

pub gather_end : {X Y : Type 0} (f : X → Option Y) (front : List Y) (xs : List X) (i : ℕ) → length xs ≤ i → front ++ filter_map f (drop i xs) ≡ front
gather_end f front xs i past = ap (λ rest. front ++ filter_map f rest) (drop_all i xs past) ∙ append-nil front

-- what an item gives more
pub filter_map_push : {X Y : Type 0} (f : X → Option Y) (xs : List X) (x : X) → filter_map f (xs ++ x ∷ []) ≡ filter_map f xs ++ option_to_list (f x)
filter_map_push f xs x =
    filter_map-append f xs (x ∷ []) ∙ ap (λ ys. filter_map f xs ++ ys) (cons_first (f x) [] ∙ append-nil (option_to_list (f x)))

-- one line of an ACL more
pub lines_push : (groups : List GroupView) (acls : List AclDeclaration) (acl : AclDeclaration) →
    with_lines groups (acls ++ acl ∷ []) ≡ with_line (with_lines groups acls) acl
lines_push groups [] acl = refl
lines_push groups (first ∷ more) acl = lines_push (with_line groups first) more acl
