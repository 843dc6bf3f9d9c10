-- What is known of a pin that came back.
use Rattle.std.proofs.Common.{◌≡◌, ℕ, zero, suc, ◌-◌, ◌<◌, Bool, true, false, cond, ◌||◌, Option, Some, None, List, [], ◌∷◌, ◌++◌, length, eqb, nat_lt, position, refl, sym, ap, ◌∙◌, subst, arith}
use Rattle.std.specs.Prelude.{All}
use Rattle.std.specs.List.{list_any}
use Rattle.std.specs.Str.{bytes_eq}
use Rattle.std.proofs.lemmas.Bool.{false≢true}
use Rattle.std.proofs.lemmas.Bool.Decides.{nat_tests}
use Rattle.std.proofs.lemmas.List.Elements.{All-nil, All-cons, All-head, All-tail, All-append}
use Rattle.std.proofs.lemmas.List.Quantifiers.{position-Some}
use Rattle.std.proofs.lemmas.Option.{cond_some, same_Some}
use Rattle.lb_types.specs.declared.limits.TheConstants.{MAX_SERVERS}
use Rattle.lb_types.specs.Servers.{has, members, members_below}
use Rattle.lb_acl.specs.declared.key.TableType.{TableType}
use Rattle.pin_set.specs.declared.pin_key.PinKey.{PinKey}
use Rattle.pin_set.specs.declared.table_pin.TablePin.{TablePin}
use Rattle.server_state.specs.Farm.{set_of}
use Rattle.server_state.proofs.Picked.{has-set_of}
use Rattle.dual_cert_text.proofs.Steps.{bind_some}
use Rattle.lb_config_rules.specs.Rules.{within_limit}
use Rattle.lb_config_values.specs.ServerView.{ServerView}
use Rattle.lb_config.specs.Finds.{server_place}
use Rattle.pin_file.specs.declared.file_pin.FilePin.{FilePin}
use Rattle.pin_file_return.specs.Returns.{come_back, held_key, places_of, standing}

-- ---- servers that were found

limited : (found : Option ℕ) (server : ℕ) → within_limit found ≡ Some server → found ≡ Some server
limited None server is = cc
limited (Some place) server is = ap (λ (n : ℕ). Some n) (cond_some (nat_lt place MAX_SERVERS) place server is).1

pub found_within : (servers : List ServerView) (name : List ℕ) (server : ℕ) → server_place servers name ≡ Some server → server < length servers
found_within [] name server is =
    let found = limited (position (λ (s : ServerView). bytes_eq s.name name) []) server is in cc
found_within (s ∷ servers) name server is =
    (position-Some (λ (t : ServerView). bytes_eq t.name name) (s ∷ servers) server s
    (limited (position (λ (t : ServerView). bytes_eq t.name name) (s ∷ servers)) server is)).0

pub places_within : (servers : List ServerView) (names : List (List ℕ)) (places : List ℕ) → places_of servers names ≡ Some places
    → All (λ server. server < length servers) places
places_within servers [] places is =
    subst (λ (l : List ℕ). All (λ (server : ℕ). server < length servers) l) (same_Some [] places is) (All-nil (λ (server : ℕ). server < length servers))
places_within servers (name ∷ names) places is =
    let first = bind_some (server_place servers name) _ places is in
    let rest = bind_some (places_of servers names) _ places first.2 in
    subst (λ (l : List ℕ). All (λ (server : ℕ). server < length servers) l) (same_Some (first.0 ∷ rest.0) places rest.2)
    (All-cons (λ (server : ℕ). server < length servers) first.0 rest.0 (found_within servers name first.0 first.1)
    (places_within servers names rest.0 rest.1))

-- ---- the set of servers

any_below : (n s : ℕ) (places : List ℕ) → All (λ server. server < n) places → list_any (λ u. eqb s u) places ≡ true → s < n
any_below n s [] all any = absurd (false≢true any)
any_below n s (p ∷ places) all any = by (eqb s p) refl (any_below n s places (All-tail (λ (server : ℕ). server < n) p places all))
  where
    by : (t : Bool) → eqb s p ≡ t → (list_any (λ u. eqb s u) places ≡ true → s < n) → s < n
    by true same rest = let first = All-head (λ (server : ℕ). server < n) p places all in grind (arith, nat_tests)
    by false other rest = rest (sym (ap (λ (t : Bool). t || list_any (λ u. eqb s u) places) other) ∙ any)

pub members_pass : (P : ℕ → Type 0) (k set : ℕ) → ((s : ℕ) → has set s ≡ true → P s) → All P (members_below k set)
unfolding members_below
members_pass P zero set holds = All-nil P
members_pass P (suc k) set holds = go (has set k) refl (members_pass P k set holds)
  where
    go : (b : Bool) → has set k ≡ b → All P (members_below k set) → All P (members_below k set ++ cond b (k ∷ []) [])
    go true there rest = All-append P (members_below k set) (k ∷ []) rest (All-cons P k [] (holds k there) (All-nil P))
    go false there rest = All-append P (members_below k set) [] rest (All-nil P)

-- where the places are below a number, so are the members of their set
pub set_within : (n : ℕ) (places : List ℕ) → All (λ server. server < n) places → All (λ server. server < n) (members (set_of places))
unfolding members
set_within n places all =
    members_pass (λ (s : ℕ). s < n) 128 (set_of places) (λ s there. any_below n s places all (sym (has-set_of places s) ∙ there))

-- ---- the pin

-- why it came back, and as what
pub record CameBack (servers : List ServerView) (kind : TableType) (now : ℕ) (p : FilePin) (q : TablePin) : Type 0 where
  pub name : List ℕ
  pub server : ℕ
  pub places : List ℕ
  pub key : PinKey
  pub at : p.server ≡ Some name
  pub found : server_place servers name ≡ Some server
  pub wanted : places_of servers p.wanted ≡ Some places
  pub held : held_key kind p.key ≡ Some key
  pub is : standing key (set_of places) server p.cost (now - p.age) ≡ q

pub came_back : (servers : List ServerView) (kind : TableType) (now : ℕ) (p : FilePin) (q : TablePin) → come_back servers kind now p ≡ Some q
    → CameBack servers kind now p q
unfolding come_back
came_back servers kind now p q is =
    let name = bind_some p.server _ q is in
    let server = bind_some (server_place servers name.0) _ q name.2 in
    let places = bind_some (places_of servers p.wanted) _ q server.2 in
    let key = bind_some (held_key kind p.key) _ q places.2 in
    record {
      name = name.0;
      server = server.0;
      places = places.0;
      key = key.0;
      at = name.1;
      found = server.1;
      wanted = places.1;
      held = key.1;
      is = same_Some _ q key.2;
    }
