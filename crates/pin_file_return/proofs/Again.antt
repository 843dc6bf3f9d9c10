-- What was saved of a table comes back.
use Rattle.std.proofs.Common.{◌≡◌, ℕ, zero, suc, ◌-◌, ◌<◌, ◌≤◌, Bool, true, false, cond, ◌||◌, eqb, nat_lt, Option, Some, None, is_some, List, [], ◌∷◌, ◌++◌, length, get_or, map, filter, refl, sym, ap, ◌∙◌, arith}
use Rattle.std.specs.Prelude.{All, AllPairs, filter_map}
use Rattle.std.specs.List.{list_any, position_or_len}
use Rattle.std.specs.Option.{option_map, option_map_or, option_and_then}
use Rattle.std.specs.Str.{bytes_eq}
use Rattle.std.specs.Net.Addr.{ipv4_octets}
use Rattle.std.specs.Net.Text.{ipv4_text}
use Rattle.std.specs.Cmp.Lexicographic.{bytes_decides}
use Rattle.std.proofs.Math.Bool.{or-false}
use Rattle.std.proofs.lemmas.Bool.{false_from_ne_true, lt-ltb, ltb-true, ltb-false, le-leb}
use Rattle.std.specs.declared.net.ipv4_addr.Ipv4Addr.{Ipv4Addr}
use Rattle.std.proofs.lemmas.List.Folds.{list_any-append}
use Rattle.std.proofs.lemmas.Bool.Decides.{nat_tests}
use Rattle.std.proofs.lemmas.List.Elements.{All-head, All-tail}
use Rattle.std.proofs.lemmas.List.Sums.{position_or_len_is}
use Rattle.std.proofs.lemmas.Option.{cond_some, slice_get-get_or}
use Rattle.lb_types_pins.proofs.Pairs.{AllPairs-head, AllPairs-tail}
use Rattle.lb_types.specs.declared.limits.TheConstants.{MAX_SERVERS}
use Rattle.lb_types.specs.Servers.{has, members, members_below}
use Rattle.lb_types.proofs.Sets.{same_sets}
use Rattle.lb_acl.specs.declared.key.TableType.{TableType}
use Rattle.lb_acl.specs.declared.key.TableType.TheVariants as Table
use Rattle.pin_set.specs.declared.pin_key.PinKey.{PinKey}
use Rattle.pin_set.specs.declared.pin_key.PinKey.TheVariants.{Ipv4, Text}
use Rattle.pin_set.specs.declared.table_pin.TablePin.{TablePin}
use Rattle.pin_set.specs.Names.{names_decide}
use Rattle.pin_set.specs.Views.{IsBelow}
use Rattle.server_state.specs.Farm.{set_of}
use Rattle.server_state.proofs.Picked.{has-set_of}
use Rattle.dual_cert_text.specs.Words.{◌>>=◌}
use Rattle.lb_config_rules.specs.Rules.{within_limit}
use Rattle.lb_config_values.specs.ServerView.{ServerView}
use Rattle.lb_config_parameters.specs.TableViews.{StickTableView}
use Rattle.lb_config.specs.Finds.{server_place}
use Rattle.lb_config.specs.Kept.{IsServers}
use Rattle.pin_file.specs.declared.file_pin.FilePin.{FilePin}
use Rattle.pin_file_return.specs.Returns.{back_in_table, come_back, held_key, is_named, last_of_each, last_ones, pins_of, places_of, standing}
use Rattle.pin_file_return.specs.Saves.{IsHeld, SavedPinsComeBack, as_old, is_placed, key_bytes, name_at, saved_pin}
use Rattle.pin_file_return.proofs.Addresses.{address_again}
use Rattle.pin_file_return.proofs.CameBack.{members_pass}
use Rattle.pin_file_return.proofs.Names.{Differ, last_few, same}
use Rattle.pin_file_return.proofs.Parts.{mapped-AllPairs, mapped-length}

-- ---- servers by their names

name_of : (servers : List ServerView) (server : ℕ) (d : ServerView) → server < length servers → name_at servers server ≡ Some (get_or servers server d).name
name_of servers server d below = ap (option_map (λ (s : ServerView). s.name)) (slice_get-get_or servers server d below)

found_again : (servers : List ServerView) (server : ℕ) (d : ServerView) → IsServers servers → server < length servers
    → server_place servers (get_or servers server d).name ≡ Some server
found_again servers server d is below =
    let test : ServerView → Bool = λ s. bytes_eq s.name (get_or servers server d).name in
    let first : position_or_len test servers ≡ server = position_or_len_is test servers server d (omega (arith, below))
    (λ k before. false_from_ne_true (test (get_or servers k d))
    (λ e. is.distinct k server d before below ((bytes_decides (get_or servers k d).name (get_or servers server d).name).0 e)))
    (λ within. (bytes_decides (get_or servers server d).name (get_or servers server d).name).1 refl) in
    let small : nat_lt server (length servers) ≡ true = lt-ltb server (length servers) below in
    let few : nat_lt server MAX_SERVERS ≡ true = lt-ltb server MAX_SERVERS (omega (arith, below, is.few)) in
    ap within_limit
    (ap (λ (k : ℕ). cond (nat_lt k (length servers)) (Some k) None) first ∙ ap (λ (b : Bool). cond b (Some server) None) small)
    ∙ ap (λ (b : Bool). cond b (Some server) None) few

places_again : (servers : List ServerView) → IsServers servers → (l : List ℕ) → All (λ s. s < length servers) l
    → places_of servers (filter_map (name_at servers) l) ≡ Some l
places_again [] is [] all = refl
places_again [] is (s ∷ l) all = absurd (omega (arith, All-head (λ (x : ℕ). x < 0) s l all))
places_again (v ∷ more) is [] all = refl
places_again (v ∷ more) is (s ∷ l) all =
    let servers = v ∷ more in
    let below : s < length servers = All-head (λ (x : ℕ). x < length (v ∷ more)) s l all in
    ap (λ (o : Option (List ℕ)). places_of (v ∷ more) (Rattle.std.specs.List.cons_option o (filter_map (name_at (v ∷ more)) l))) (name_of (v ∷ more) s v below)
    ∙ (ap (λ (o : Option ℕ). o >>= λ server. (places_of (v ∷ more) (filter_map (name_at (v ∷ more)) l) >>= λ rest. Some (server ∷ rest)))
    (found_again (v ∷ more) s v is below)
    ∙ ap (λ (o : Option (List ℕ)). o >>= λ rest. Some (s ∷ rest))
    (places_again (v ∷ more) is l (All-tail (λ (x : ℕ). x < length (v ∷ more)) s l all)))

-- ---- a set by its members

any-push : (s : ℕ) (xs ys : List ℕ) → list_any (λ u. eqb s u) (xs ++ ys) ≡ (list_any (λ u. eqb s u) xs || list_any (λ u. eqb s u) ys)
any-push s xs ys = list_any-append (λ u. eqb s u) xs ys

unlisted : (k set s : ℕ) → k ≤ s → list_any (λ u. eqb s u) (members_below k set) ≡ false
unfolding members_below
unlisted zero set s past = refl
unlisted (suc k) set s past = go (has set k) (unlisted k set s (omega (arith, past)))
  where
    go : (b : Bool) → list_any (λ u. eqb s u) (members_below k set) ≡ false → list_any (λ u. eqb s u) (members_below k set ++ cond b (k ∷ []) []) ≡ false
    go true none =
        let apart : eqb s k ≡ false = grind (arith, nat_tests) in
        any-push s (members_below k set) (k ∷ []) ∙ rw (none, apart) refl
    go false none = any-push s (members_below k set) [] ∙ rw none refl

listed : (k set s : ℕ) → s < k → list_any (λ u. eqb s u) (members_below k set) ≡ has set s
unfolding members_below
listed zero set s below = absurd (omega (arith, below))
listed (suc k) set s below = by (has set k) refl (eqb s k) refl (listed k set s)
  where
    by : (b : Bool) → has set k ≡ b → (t : Bool) → eqb s k ≡ t → (s < k → list_any (λ u. eqb s u) (members_below k set) ≡ has set s)
        → list_any (λ u. eqb s u) (members_below k set ++ cond b (k ∷ []) []) ≡ has set s
    by true there true e known =
        let is : s ≡ k = grind (arith, nat_tests) in
        any-push s (members_below k set) (k ∷ []) ∙ rw (unlisted k set s (omega (arith, is)), e) (sym (ap (has set) is ∙ there))
    by false there true e known =
        let is : s ≡ k = grind (arith, nat_tests) in
        any-push s (members_below k set) [] ∙ rw (unlisted k set s (omega (arith, is))) (sym (ap (has set) is ∙ there))
    by true there false e known =
        let less : s < k = grind (arith, nat_tests) in
        any-push s (members_below k set) (k ∷ []) ∙ rw (known less, e) (or-false (has set s))
    by false there false e known =
        let less : s < k = grind (arith, nat_tests) in
        any-push s (members_below k set) [] ∙ rw (known less) (or-false (has set s))

set_again : (set n : ℕ) → n ≤ 128 → ((s : ℕ) → has set s ≡ true → s < n) → set_of (members set) ≡ set
unfolding members
set_again set n few within = same_sets (set_of (members_below 128 set)) set (λ s. has-set_of (members_below 128 set) s ∙ each s (nat_lt s 128) refl)
  where
    each : (s : ℕ) (b : Bool) → nat_lt s 128 ≡ b → list_any (λ u. eqb s u) (members_below 128 set) ≡ has set s
    each s true less = listed 128 set s (ltb-true s 128 less)
    each s false past =
        let from : 128 ≤ s = ltb-false s 128 past in
        unlisted 128 set s from ∙ sym (false_from_ne_true (has set s) (λ there. let below = within s there in omega (arith, below, from, few)))

-- ---- one pin

key_again : (kind : TableType) (key : PinKey) → IsHeld kind key → held_key kind (key_bytes key) ≡ Some key
key_again Table.Ip (Ipv4 address) is = ap (option_map (λ (a : Ipv4Addr). Ipv4 a)) (address_again (ipv4_text (ipv4_octets address)) address is)
key_again Table.Ip (Text bytes) is = absurd is
key_again (Table.Text len) (Ipv4 address) is = absurd is
key_again (Table.Text len) (Text bytes) is = ap (λ (b : Bool). cond b (Some (Text bytes)) None) (le-leb (length bytes) len is)

-- what comes back of a pin
abbrev stays : ℕ → ℕ → TablePin → Option TablePin
stays now saved p = cond (is_placed p) (Some (as_old now saved p)) None

module _ (servers : List ServerView) (is : IsServers servers) (kind : TableType) (now saved : ℕ) (p : TablePin) (held : IsHeld kind p.pin.id.key)
    (placed : IsBelow (length servers) p.pin.place) (wanted : (server : ℕ) → has p.pin.id.want server ≡ true → server < length servers) where
  names : List (List ℕ)
  names = filter_map (name_at servers) (members p.pin.id.want)

  all_there : All (λ s. s < length servers) (members p.pin.id.want)
  unfolding members
  all_there = members_pass (λ (s : ℕ). s < length servers) 128 p.pin.id.want wanted

  finish : ℕ → Option TablePin
  finish server = places_of servers names >>= λ places. (held_key kind (key_bytes p.pin.id.key) >>= λ key.
      Some (standing key (set_of places) server p.pin.cost (now - (saved - p.last_use))))

  finished : (server : ℕ) → p.pin.place ≡ Some server → finish server ≡ Some (as_old now saved p)
  unfolding finish names
  finished server at =
      ap (λ (o : Option (List ℕ)). o >>= λ places. (held_key kind (key_bytes p.pin.id.key) >>= λ key.
      Some (standing key (set_of places) server p.pin.cost (now - (saved - p.last_use))))) (places_again servers is (members p.pin.id.want) all_there)
      ∙ (ap (λ (o : Option PinKey). o >>= λ key. Some (standing key (set_of (members p.pin.id.want)) server p.pin.cost (now - (saved - p.last_use))))
      (key_again kind p.pin.id.key held)
      ∙ (ap (λ (want : ℕ). Some (standing p.pin.id.key want server p.pin.cost (now - (saved - p.last_use))))
      (set_again p.pin.id.want (length servers) is.few wanted)
      ∙ ap (λ (place : Option ℕ). Some (pin_at place)) (sym at)))
    where
      pin_at : Option ℕ → TablePin
      pin_at place = record { pin = record { id = p.pin.id; place = place; cost = p.pin.cost }; last_use = now - (saved - p.last_use) }

  from_server : Option (List ℕ) → Option TablePin
  from_server name = name >>= λ n. (server_place servers n >>= λ server. finish server)

  opened : come_back servers kind now (saved_pin servers saved p) ≡ from_server (option_and_then (name_at servers) p.pin.place)
  unfolding come_back saved_pin from_server finish names
  opened = refl

  placed_again : (place : Option ℕ) → p.pin.place ≡ place → from_server (option_and_then (name_at servers) place) ≡ cond (is_some place) (Some (as_old now saved p)) None
  unfolding from_server
  placed_again None at = refl
  placed_again (Some server) at = by servers refl
    where
      below : server < length servers
      below = placed server at

      by : (l : List ServerView) → servers ≡ l → from_server (name_at servers server) ≡ Some (as_old now saved p)
      by [] e = absurd (omega (arith, below, ap (λ (l : List ServerView). length l) e))
      by (v ∷ more) e =
          ap from_server (name_of servers server v below)
          ∙ (ap (λ (o : Option ℕ). o >>= λ s. finish s) (found_again servers server v is below) ∙ finished server at)

  pub pin_again : come_back servers kind now (saved_pin servers saved p) ≡ stays now saved p
  pin_again = opened ∙ placed_again p.pin.place refl

-- ---- all pins

not_named : (p : TablePin) (pins : List TablePin) → All (Differ p) pins → is_named p.pin.id pins ≡ false
not_named p [] differ = refl
not_named p (q ∷ pins) differ =
    let first : same p.pin.id q.pin.id ≡ false = false_from_ne_true (same p.pin.id q.pin.id)
    (λ e. All-head (Differ p) q pins differ ((names_decide p.pin.id q.pin.id).0 e)) in
    ap (λ (b : Bool). b || is_named p.pin.id pins) first ∙ not_named p pins (All-tail (Differ p) q pins differ)

last_same : (pins : List TablePin) → AllPairs Differ pins → last_of_each pins ≡ pins
unfolding last_of_each
last_same [] differ = refl
last_same (p ∷ pins) differ =
    ap (λ (b : Bool). cond b (last_of_each pins) (p ∷ last_of_each pins)) (not_named p pins (AllPairs-head Differ p pins differ))
    ∙ ap (λ (l : List TablePin). p ∷ l) (last_same pins (AllPairs-tail Differ p pins differ))

module _ (now saved : ℕ) where
  stay_all : (pins : List TablePin) → filter_map (stays now saved) pins ≡ map (as_old now saved) (filter is_placed pins)
  stay_all [] = refl
  stay_all (p ∷ pins) = by (is_placed p) (stay_all pins)
    where
      by : (b : Bool) → filter_map (stays now saved) pins ≡ map (as_old now saved) (filter is_placed pins)
          → Rattle.std.specs.List.cons_option (cond b (Some (as_old now saved p)) None) (filter_map (stays now saved) pins)
          ≡ map (as_old now saved) (cond b (p ∷ filter is_placed pins) (filter is_placed pins))
      by true rest = ap (λ (l : List TablePin). as_old now saved p ∷ l) rest
      by false rest = rest

  stay_named : (x v : TablePin) → stays now saved x ≡ Some v → v.pin.id ≡ x.pin.id
  stay_named x v e = ap (λ (t : TablePin). t.pin.id) (sym (cond_some (is_placed x) (as_old now saved x) v e).1)

  stay_differ : (pins : List TablePin) → AllPairs Differ pins → AllPairs Differ (filter_map (stays now saved) pins)
  stay_differ pins differ = mapped-AllPairs (stays now saved) Differ Differ
      (λ x y v w apart one two e. apart (sym (stay_named x v one) ∙ (e ∙ stay_named y w two))) pins differ

module _ (servers : List ServerView) (is : IsServers servers) (kind : TableType) (now saved : ℕ) where
  come_all : (pins : List TablePin) → All (λ p. IsHeld kind p.pin.id.key) pins → All (λ p. IsBelow (length servers) p.pin.place) pins
      → All (λ p. (server : ℕ) → has p.pin.id.want server ≡ true → server < length servers) pins
      → filter_map (come_back servers kind now) (map (saved_pin servers saved) pins) ≡ filter_map (stays now saved) pins
  come_all [] held placed wanted = refl
  come_all (p ∷ pins) held placed wanted =
      ap (λ (o : Option TablePin). Rattle.std.specs.List.cons_option o (filter_map (come_back servers kind now) (map (saved_pin servers saved) pins)))
      (pin_again servers is kind now saved p (All-head (λ (q : TablePin). IsHeld kind q.pin.id.key) p pins held)
      (All-head (λ (q : TablePin). IsBelow (length servers) q.pin.place) p pins placed)
      (All-head (λ (q : TablePin). (server : ℕ) → has q.pin.id.want server ≡ true → server < length servers) p pins wanted))
      ∙ ap (λ (l : List TablePin). Rattle.std.specs.List.cons_option (stays now saved p) l)
      (come_all pins (All-tail (λ (q : TablePin). IsHeld kind q.pin.id.key) p pins held)
      (All-tail (λ (q : TablePin). IsBelow (length servers) q.pin.place) p pins placed)
      (All-tail (λ (q : TablePin). (server : ℕ) → has q.pin.id.want server ≡ true → server < length servers) p pins wanted))

pub saved_come_back : SavedPinsComeBack
saved_come_back backend table pins file saved now is there rows said =
    let came : List TablePin = filter_map (stays now saved) pins in
    let few : length came ≤ table.size = let short = mapped-length (stays now saved) pins in omega (arith, short, rows.few) in
    ap (λ (t : Option StickTableView). option_map_or (λ s. back_in_table backend.servers s now (pins_of backend.name file)) t []) there
    ∙ (ap (λ (l : List FilePin). back_in_table backend.servers table now l) said
    ∙ (ap (λ (l : List TablePin). last_ones table.size (last_of_each l))
    (come_all backend.servers is table.kind now saved pins rows.held rows.placed rows.wanted)
    ∙ (ap (last_ones table.size) (last_same came (stay_differ now saved pins rows.distinct))
    ∙ (last_few table.size came few ∙ stay_all now saved pins))))
