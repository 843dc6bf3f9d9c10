-- The names of a set's servers, server by server.
use Rattle.std.proofs.Common.{◌≡◌, ℕ, zero, suc, ◌+◌, Bool, true, false, cond, Option, Some, None, List, [], ◌∷◌, ◌++◌, option_to_list, refl, sym, ap, ◌∙◌, append-nil, add-one}
use Rattle.std.specs.Prelude.{filter_map}
use Rattle.std.proofs.lemmas.List.Elements.{filter_map-append}
use Rattle.lb_types.specs.Servers.{has, members, members_below}
use Rattle.lb_types.proofs.Sets.{has-empty}
use Rattle.lb_config_values.specs.ServerView.{ServerView}
use Rattle.pin_file_return.specs.Saves.{name_at}

none_below : (k : ℕ) → members_below k 0 ≡ []
unfolding members_below
none_below zero = refl
none_below (suc k) =
    ap (λ (b : Bool). members_below k 0 ++ cond b (k ∷ []) []) (has-empty k) ∙ (append-nil (members_below k 0) ∙ none_below k)

pub none_named : (servers : List ServerView) (set : ℕ) → set ≡ 0 → [] ≡ filter_map (name_at servers) (members set)
unfolding members
none_named servers set e = sym (ap (λ (s : ℕ). filter_map (name_at servers) (members_below 128 s)) e ∙ ap (filter_map (name_at servers)) (none_below 128))

pub none_yet : (servers : List ServerView) (set : ℕ) → [] ≡ filter_map (name_at servers) (members_below 0 set)
unfolding members_below
none_yet servers set = refl

one_name : (servers : List ServerView) (i : ℕ) (o : Option (List ℕ)) → name_at servers i ≡ o → filter_map (name_at servers) (i ∷ []) ≡ option_to_list o
one_name servers i None e = ap (λ (o : Option (List ℕ)). Rattle.std.specs.List.cons_option o []) e
one_name servers i (Some name) e = ap (λ (o : Option (List ℕ)). Rattle.std.specs.List.cons_option o []) e

pub next_name : (servers : List ServerView) (set i : ℕ)
    → filter_map (name_at servers) (members_below (i + 1) set)
    ≡ filter_map (name_at servers) (members_below i set) ++ option_to_list (cond (has set i) (name_at servers i) None)
unfolding members_below
next_name servers set i =
    ap (λ (k : ℕ). filter_map (name_at servers) (members_below k set)) (add-one i) ∙ by (has set i)
  where
    by : (b : Bool) → filter_map (name_at servers) (members_below i set ++ cond b (i ∷ []) [])
        ≡ filter_map (name_at servers) (members_below i set) ++ option_to_list (cond b (name_at servers i) None)
    by true =
        filter_map-append (name_at servers) (members_below i set) (i ∷ [])
        ∙ ap (λ (l : List (List ℕ)). filter_map (name_at servers) (members_below i set) ++ l) (one_name servers i (name_at servers i) refl)
    by false = filter_map-append (name_at servers) (members_below i set) []

pub all_names : (servers : List ServerView) (set : ℕ) → filter_map (name_at servers) (members_below 128 set) ≡ filter_map (name_at servers) (members set)
unfolding members
all_names servers set = refl
