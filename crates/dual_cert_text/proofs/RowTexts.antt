-- Lines of rows, read and spelled.
use Rattle.std.proofs.Common.{◌≡◌, ◌≢◌, ℕ, ◌-◌, ◌^◌, ◌<◌, ◌≤◌, Bool, true, false, eqb, ltb, cond, inl, inr, Option, Some, None, List, [], ◌∷◌, length, map, codes, refl, sym, ap, subst, ◌∙◌, arith}
use Rattle.std.specs.Fmt.{decimal}
use Rattle.std.specs.List.{All, list_all, join_with_byte, slice_get}
use Rattle.std.specs.Option.{option_map, option_and_then, ForSome, is_some}
use Rattle.std.specs.Str.{bytes_eq}
use Rattle.std.proofs.lemmas.Bool.{cases_Bool, eqb-true}
use Rattle.std.proofs.lemmas.Bool.Decides.{nat_tests}
use Rattle.std.proofs.lemmas.List.{length-map}
use Rattle.std.proofs.lemmas.List.Elements.{All-nil, All-cons}
use Rattle.std.proofs.lemmas.Option.{slice_get-map, slice_get_within}
use Rattle.lb_types.specs.Names.{is_name, is_name_byte}
use Rattle.lb_types.specs.Servers.{has, members}
use Rattle.lb_types.proofs.Sets.{has-empty}
use Rattle.lb_types_text.specs.Parts.{parts}
use Rattle.lb_types_text.specs.Numbers.{numeral_of}
use Rattle.lb_types_text.proofs.Cuts.{some_part}
use Rattle.lb_types_text.proofs.Joins.{HasNo, parts_join, free_join, join_parts}
use Rattle.lb_types_text.proofs.Numerals.{numeral_again, spelled_as}
use Rattle.lb_types_pins.specs.declared.kind.Row.{Row}
use Rattle.dual_cert_plan.specs.declared.server.PricedServer.{PricedServer}
use Rattle.dual_cert_plan.specs.Plans.{servers_of}
use Rattle.dual_cert_plan.specs.Sheets.{is_usable}
use Rattle.dual_cert_text.specs.declared.kind_words.SetWord.{SetWord}
use Rattle.dual_cert_text.specs.declared.row_line.RowWords.{RowWords}
use Rattle.dual_cert_text.specs.PlanTexts.{row_of}
use Rattle.dual_cert_text.specs.RowLines.{place_of, is_open, usable_named, usable_servers_of, are_rising, set_with, members_of, set_of, cost_of, row_words_of}
use Rattle.dual_cert_text.specs.ServerLines.{server_named}
use Rattle.dual_cert_text.specs.Spellings.{name_at, place_word, set_word, row_line}
use Rattle.dual_cert_text.specs.Words.{◌>>=◌, positive_of}
use Rattle.dual_cert_text.proofs.Members.{is_among, are_below, has-set_with, members-set_with, rising-members, set_with-members, all_among, all-members, some_set, no_members}
use Rattle.dual_cert_text.proofs.ServerTexts.{Distinct, nobody, named_found, named_again, name_at_is, name_free, name_not_dash, above_mark, digits_free, differ_bytes}
use Rattle.dual_cert_text.proofs.Steps.{and_true, bind_some, unless_none, if_none, either, bytes_is}
use Rattle.dual_cert_text.proofs.WholeTexts.{gap_is_no_end}

-- a number of at least 1, spelled
pub positive_found : (word : List ℕ) (n : ℕ) → positive_of word ≡ Some n → n < 2 ^ 64 - 1 → (word ≡ decimal n) × (1 ≤ n)
unfolding positive_of
positive_found word n is small =
    let read = bind_some (numeral_of word) _ n is in
    let some = unless_none (eqb read.0 0) _ n read.2 in
    let same : read.0 ≡ n = (let e = some.1 in cc) in
    let at_least : 1 ≤ n = (let h = some.0 in grind (arith, nat_tests)) in
    (spelled_as word n (read.1 ∙ ap (λ k. Some k) same) small, at_least)

pub positive_again : (n : ℕ) → 1 ≤ n → n < 2 ^ 64 → positive_of (decimal n) ≡ Some n
unfolding positive_of
positive_again n some small =
    let z : eqb n 0 ≡ false = grind (arith, nat_tests) in
    rw (numeral_again n small, z) refl

-- a place, spelled
pub place_found : (servers : List PricedServer) (word : List ℕ) (place : Option ℕ) → place_of servers word ≡ Some place → (word ≡ place_word servers place) × ForSome place (λ s. s < length servers)
unfolding place_of place_word
place_found servers word place is =
    let F : Option ℕ → Type 0 = λ p. (word ≡ place_word servers p) × ForSome p (λ s. s < length servers) in
    elim (either (bytes_eq word (codes "-")) _ _ _ is) [
      | inl dash ↦
          let same : None ≡ place = (let e = dash.1 in cc) in
          subst F same (bytes_is word (codes "-") dash.0, λ s e. absurd (none_some s e))
      | inr named ↦
          let found = bind_some (server_named servers word) _ place named.1 in
          let same : Some found.0 ≡ place = (let e = found.2 in cc) in
          let at = named_found servers word found.0 found.1 in
          subst F same (sym at.1, λ s e. let t : found.0 ≡ s = cc in rw (← t) at.0)
    ]
  where
    none_some : (s : ℕ) → None ≡ Some s → ⊥
    none_some s e = cc

pub place_again : (servers : List PricedServer) (place : Option ℕ) → Distinct servers → All (λ s. is_name s.server.name ≡ true) servers → ForSome place (λ s. s < length servers) → place_of servers (place_word servers place) ≡ Some place
unfolding place_of place_word
place_again servers None distinct names listed = refl
place_again servers (Some s) distinct names listed =
    let within : s < length servers = listed s refl in
    let name : is_name (name_at servers s) ≡ true = rw (name_at_is servers s within) (names s nobody within) in
    rw (name_not_dash (name_at servers s) name, named_again servers s distinct within) refl

-- the usable server of a name
pub usable_found : (servers : List PricedServer) (word : List ℕ) (s : ℕ) → usable_named servers word ≡ Some s → (s < length servers) × (name_at servers s ≡ word) × (is_open servers s ≡ true)
unfolding usable_named
usable_found servers word s is =
    let named = bind_some (server_named servers word) _ s is in
    let usable = if_none (is_open servers named.0) _ s named.2 in
    let same : named.0 ≡ s = (let e = usable.1 in cc) in
    let at = named_found servers word named.0 named.1 in
    rw (← same) (at.0, at.1, usable.0)

usable_again : (servers : List PricedServer) (s : ℕ) → Distinct servers → s < length servers → is_open servers s ≡ true → usable_named servers (name_at servers s) ≡ Some s
unfolding usable_named
usable_again servers s distinct within usable = rw (named_again servers s distinct within, usable) refl

-- usable servers, spelled
servers_found : (servers : List PricedServer) (words : List (List ℕ)) (found : List ℕ) → usable_servers_of servers words ≡ Some found → (map (λ s. name_at servers s) found ≡ words) × (list_all (is_open servers) found ≡ true) × (are_below (length servers) found ≡ true)
unfolding usable_servers_of
servers_found servers [] found is =
    let same : [] ≡ found = cc in
    rw (← same) (refl, refl, refl)
servers_found servers (word ∷ words) found is =
    let first = bind_some (usable_named servers word) _ found is in
    let more = bind_some (usable_servers_of servers words) _ found first.2 in
    let same : first.0 ∷ more.0 ≡ found = (let e = more.2 in cc) in
    let at = usable_found servers word first.0 first.1 in
    let rest = servers_found servers words more.0 more.1 in
    let below : ltb first.0 (length servers) ≡ true = (let h = at.0 in grind (arith, nat_tests)) in
    let F : List ℕ → Type 0 = λ xs. (map (λ s. name_at servers s) xs ≡ words_of word words) × (list_all (is_open servers) xs ≡ true) × (are_below (length servers) xs ≡ true) in
    subst F same (rw (at.1, rest.0) refl, rw (at.2, rest.1) refl, rw (below, rest.2) refl)
  where
    words_of : List ℕ → List (List ℕ) → List (List ℕ)
    words_of w ws = w ∷ ws

servers_again : (servers : List PricedServer) (all : List ℕ) → Distinct servers → are_below (length servers) all ≡ true → list_all (is_open servers) all ≡ true → usable_servers_of servers (map (λ s. name_at servers s) all) ≡ Some all
unfolding usable_servers_of
servers_again servers [] distinct below usable = refl
servers_again servers (s ∷ all) distinct below usable =
    let under = and_true (ltb s (length servers)) _ below in
    let open' = and_true (is_open servers s) _ usable in
    let within : s < length servers = (let h = under.0 in grind (arith, nat_tests)) in
    rw (usable_again servers s distinct within open'.0, servers_again servers all distinct under.1 open'.1) refl

-- a server that is open is there
open_within : (servers : List PricedServer) (s : ℕ) → is_open servers s ≡ true → s < length servers
unfolding is_open
open_within servers s usable =
    let at = some_of (slice_get servers s) usable in
    slice_get_within servers s at.0 at.1
  where
    some_of : (o : Option PricedServer) → is_some (o >>= λ t. t.server.capacity) ≡ true → (x : PricedServer) × (o ≡ Some x)
    some_of None no' = cc
    some_of (Some x) yes' = (x, refl)

option_same : (o : Option PricedServer) → is_some (o >>= λ t. t.server.capacity) ≡ is_some (option_and_then (λ s. s.capacity) (option_map (λ p. p.server) o))
option_same None = refl
option_same (Some x) = refl

-- open in a plan is usable in its sheet
pub open_is_usable : (servers : List PricedServer) (s : ℕ) → is_open servers s ≡ is_usable (servers_of servers) s
unfolding is_open
open_is_usable servers s =
    option_same (slice_get servers s) ∙ ap (λ o. is_some (option_and_then (λ t. t.capacity) o)) (sym (slice_get-map (λ p. p.server) servers s))

below_more : (low high : ℕ) (all : List ℕ) → low ≤ high → are_below low all ≡ true → are_below high all ≡ true
below_more low high [] at below = refl
below_more low high (s ∷ all) at below =
    let parts = and_true (ltb s low) _ below in
    let first : ltb s high ≡ true = (let h = parts.0 in grind (arith, nat_tests)) in
    rw (first, below_more low high all at parts.1) refl

first_among : (all : List ℕ) → 0 < length all → (s : ℕ) × (is_among s all ≡ true)
first_among [] some = absurd (omega arith)
first_among (s ∷ all) some = (s, let e : eqb s s ≡ true = grind (arith, nat_tests) in rw e refl)

names_spelled : (servers : List PricedServer) (word : List ℕ) (found : List ℕ) → length servers ≤ 128 → usable_servers_of servers (parts 44 word) ≡ Some found → are_rising 0 found ≡ true → (word ≡ set_word servers (set_with found)) × ((s : ℕ) → has (set_with found) s ≡ true → is_open servers s ≡ true)
unfolding set_word
names_spelled servers word found few read rising =
    let at = servers_found servers (parts 44 word) found read in
    let some : 0 < length found = omega (arith, some_part 44 word, ap length at.0, length-map found (λ s. name_at servers s)) in
    let first = first_among found some in
    let nonzero = some_set found first.0 first.1 in
    let same = members-set_with found rising (below_more (length servers) 128 found few at.2) in
    let spelled = sym (join_parts 44 word) ∙ ap (join_with_byte 44) (sym at.0) ∙ ap (λ ms. join_with_byte 44 (map (λ s. name_at servers s) ms)) (sym same) in
    (rw nonzero spelled, λ s held. all_among (is_open servers) s found at.1 (sym (has-set_with found s) ∙ held))

-- a set, spelled
pub set_found : (servers : List PricedServer) (word : List ℕ) (said : SetWord) → length servers ≤ 128 → set_of servers word ≡ Some said → said.is_rising ≡ true → (word ≡ set_word servers said.servers) × ((s : ℕ) → has said.servers s ≡ true → is_open servers s ≡ true)
unfolding set_of members_of set_word
set_found servers word said few is rising =
    let F : SetWord → Type 0 = λ v. (word ≡ set_word servers v.servers) × ((s : ℕ) → has v.servers s ≡ true → is_open servers s ≡ true) in
    elim (either (bytes_eq word (codes "-")) _ _ _ is) [
      | inl dash ↦
          let empty : SetWord = record { is_rising = true; servers = 0 } in
          let same : empty ≡ said = (let e = dash.1 in cc) in
          subst F same (bytes_is word (codes "-") dash.0, λ s held. absurd (let e : true ≡ false = sym held ∙ has-empty s in cc))
      | inr names ↦
          let found = bind_some (usable_servers_of servers (parts 44 word)) _ said names.1 in
          let made : SetWord = record { is_rising = are_rising 0 found.0; servers = set_with found.0 } in
          let same : made ≡ said = (let e = found.2 in cc) in
          let up : are_rising 0 found.0 ≡ true = ap (λ v. v.is_rising) same ∙ rising in
          subst F same (names_spelled servers word found.0 few found.1 up)
    ]

-- names of servers
name_is : (servers : List PricedServer) (s : ℕ) → All (λ t. is_name t.server.name ≡ true) servers → s < length servers → is_name (name_at servers s) ≡ true
name_is servers s names within = rw (name_at_is servers s within) (names s nobody within)

names_are : (servers : List PricedServer) (all : List ℕ) → All (λ t. is_name t.server.name ≡ true) servers → are_below (length servers) all ≡ true → list_all is_name (map (λ s. name_at servers s) all) ≡ true
names_are servers [] names below = refl
names_are servers (s ∷ all) names below =
    let parts = and_true (ltb s (length servers)) _ below in
    let within : s < length servers = (let h = parts.0 in grind (arith, nat_tests)) in
    rw (name_is servers s names within, names_are servers all names parts.1) refl

names_free : (mark : ℕ) (servers : List PricedServer) (all : List ℕ) → is_name_byte mark ≡ false → All (λ t. is_name t.server.name ≡ true) servers → are_below (length servers) all ≡ true → All (HasNo mark) (map (λ s. name_at servers s) all)
names_free mark servers [] other names below = All-nil (HasNo mark)
names_free mark servers (s ∷ all) other names below =
    let parts = and_true (ltb s (length servers)) _ below in
    let within : s < length servers = (let h = parts.0 in grind (arith, nat_tests)) in
    All-cons (HasNo mark) (name_at servers s) _ (name_free mark (name_at servers s) other (name_is servers s names within)) (names_free mark servers all other names parts.1)

parts_join_all : (mark : ℕ) (words : List (List ℕ)) → 0 < length words → All (HasNo mark) words → parts mark (join_with_byte mark words) ≡ words
parts_join_all mark [] some free = absurd (omega arith)
parts_join_all mark (word ∷ words) some free = parts_join mark word words free

some_list : {X : Type 0} (xs : List X) → (xs ≡ [] → ⊥) → 0 < length xs
some_list [] never = absurd (never refl)
some_list (x ∷ xs) never = omega arith

-- a set is read again
set_again_some : (servers : List PricedServer) (set : ℕ) → length servers ≤ 128 → Distinct servers → All (λ t. is_name t.server.name ≡ true) servers → ((s : ℕ) → has set s ≡ true → is_open servers s ≡ true) → eqb set 0 ≡ false → set_of servers (set_word servers set) ≡ Some (record { is_rising = true; servers = set })
unfolding set_of set_word members_of
set_again_some servers set few distinct names usable nonzero =
    let small : (s : ℕ) → has set s ≡ true → s < 128 = λ s held. (let w = open_within servers s (usable s held) in omega arith) in
    let below = all-members (λ s. ltb s (length servers)) set (λ s held. (let w = open_within servers s (usable s held) in grind (arith, nat_tests))) in
    let open' = all-members (is_open servers) set usable in
    let some = some_list (members set) (λ none. (let z : set ≡ 0 = no_members set small none in grind (arith, nat_tests))) in
    let words = map (λ s. name_at servers s) (members set) in
    let some_words : 0 < length words = omega (arith, some, length-map (members set) (λ s. name_at servers s)) in
    let apart = parts_join_all 44 words some_words (names_free 44 servers (members set) refl names below) in
    let dash = differ_bytes (join_with_byte 44 words) (codes "-") (λ same. dash_alone words (names_are servers (members set) names below) (sym apart ∙ ap (parts 44) same)) in
    let again = servers_again servers (members set) distinct below open' in
    rw (nonzero, dash, apart, again, rising-members set, set_with-members set small) refl
  where
    dash_alone : (words : List (List ℕ)) → list_all is_name words ≡ true → words ≡ codes "-" ∷ [] → ⊥
    dash_alone words all same = let e : true ≡ false = sym all ∙ ap (list_all is_name) same in cc

no_set : (servers : List PricedServer) → set_of servers (set_word servers 0) ≡ Some (record { is_rising = true; servers = 0 })
unfolding set_of set_word
no_set servers = refl

pub set_again : (servers : List PricedServer) (set : ℕ) → length servers ≤ 128 → Distinct servers → All (λ t. is_name t.server.name ≡ true) servers → ((s : ℕ) → has set s ≡ true → is_open servers s ≡ true) → set_of servers (set_word servers set) ≡ Some (record { is_rising = true; servers = set })
set_again servers set few distinct names usable =
    elim (cases_Bool (eqb set 0)) [
      | inl zero_set ↦
          let F : ℕ → Type 0 = λ k. set_of servers (set_word servers k) ≡ Some (record { is_rising = true; servers = k }) in
          subst F (sym (eqb-true set 0 zero_set)) (no_set servers)
      | inr nonzero ↦ set_again_some servers set few distinct names usable nonzero
    ]

-- a cost, spelled
pub cost_found : (has_costs : Bool) (words : List (List ℕ)) (c : ℕ) → cost_of has_costs words ≡ Some c → c < 2 ^ 64 - 1 → (words ≡ cond has_costs (decimal c ∷ []) []) × (1 ≤ c) × (has_costs ≡ false → c ≡ 1)
unfolding cost_of
cost_found false [] c is small = let one : 1 ≡ c = cc in (refl, omega arith, λ plain. sym one)
cost_found false (word ∷ words) c is small = cc
cost_found true [] c is small = cc
cost_found true (word ∷ []) c is small =
    let said = positive_found word c is small in
    (ap (λ w. w ∷ []) said.0, said.1, λ plain. absurd (true_false plain))
  where
    true_false : true ≡ false → ⊥
    true_false e = cc
cost_found true (word ∷ next ∷ words) c is small = cc

pub cost_again : (has_costs : Bool) (c : ℕ) → 1 ≤ c → c < 2 ^ 64 → (has_costs ≡ false → c ≡ 1) → cost_of has_costs (cond has_costs (decimal c ∷ []) []) ≡ Some c
unfolding cost_of
cost_again true c some small plain = positive_again c some small
cost_again false c some small plain = rw (plain refl) refl

-- what is kept of the words behind `row`
pub record IsRow (has_costs : Bool) (servers : List PricedServer) (row : Row) : Type 0 where
  pub count : 1 ≤ row.count
  pub place : ForSome row.kind.place (λ s. s < length servers)
  pub new_place : ForSome row.new_place (λ s. s < length servers)
  pub permitted : (s : ℕ) → has row.kind.permitted s ≡ true → is_open servers s ≡ true
  pub cost : 1 ≤ row.kind.cost
  pub plain : has_costs ≡ false → row.kind.cost ≡ 1

-- the words of a row behind `row`
abbrev pub words_of_row : Bool → List PricedServer → Row → List (List ℕ)
words_of_row has_costs servers r =
    decimal r.count ∷ place_word servers r.kind.place ∷ place_word servers r.new_place ∷ set_word servers r.kind.permitted ∷ cond has_costs (decimal r.kind.cost ∷ []) []

spelled_four : (a b c d a' b' c' d' : List ℕ) (e e' : List (List ℕ)) → a ≡ a' → b ≡ b' → c ≡ c' → d ≡ d' → e ≡ e' → a ∷ b ∷ c ∷ d ∷ e ≡ a' ∷ b' ∷ c' ∷ d' ∷ e'
spelled_four a b c d a' b' c' d' e e' one two three four five = rw (one, two, three, four, five) refl

-- a row that is read is spelled so
pub row_found : (has_costs : Bool) (servers : List PricedServer) (words : List (List ℕ)) (said : RowWords) → length servers ≤ 128 → row_words_of has_costs servers words ≡ Some said → said.permitted.is_rising ≡ true → said.count ≤ 16777216 → said.cost ≤ 1000 → IsRow has_costs servers (row_of said) × (words ≡ words_of_row has_costs servers (row_of said))
unfolding row_words_of
row_found has_costs servers [] said few is rising count cost = cc
row_found has_costs servers (a ∷ []) said few is rising count cost = cc
row_found has_costs servers (a ∷ b ∷ []) said few is rising count cost = cc
row_found has_costs servers (a ∷ b ∷ c ∷ []) said few is rising count cost = cc
row_found has_costs servers (a ∷ b ∷ c ∷ d ∷ e) said few is rising count cost =
    let n = bind_some (positive_of a) _ said is in
    let p = bind_some (place_of servers b) _ said n.2 in
    let q = bind_some (place_of servers c) _ said p.2 in
    let s = bind_some (set_of servers d) _ said q.2 in
    let x = bind_some (cost_of has_costs e) _ said s.2 in
    let made : RowWords = record { count = n.0; place = p.0; new_place = q.0; permitted = s.0; cost = x.0 } in
    let same : made ≡ said = (let t = x.2 in cc) in
    let F : RowWords → Type 0 = λ v. v.permitted.is_rising ≡ true → v.count ≤ 16777216 → v.cost ≤ 1000 → IsRow has_costs servers (row_of v) × (a ∷ b ∷ c ∷ d ∷ e ≡ words_of_row has_costs servers (row_of v)) in
    subst F same (row_made has_costs servers a b c d e few n.0 p.0 q.0 s.0 x.0 n.1 p.1 q.1 s.1 x.1) rising count cost
  where
    row_made : (has_costs : Bool) (servers : List PricedServer) (a b c d : List ℕ) (e : List (List ℕ)) → length servers ≤ 128 → (n : ℕ) (p q : Option ℕ) (s : SetWord) (x : ℕ) → positive_of a ≡ Some n → place_of servers b ≡ Some p → place_of servers c ≡ Some q → set_of servers d ≡ Some s → cost_of has_costs e ≡ Some x → s.is_rising ≡ true → n ≤ 16777216 → x ≤ 1000 → IsRow has_costs servers (row_of (record { count = n; place = p; new_place = q; permitted = s; cost = x })) × (a ∷ b ∷ c ∷ d ∷ e ≡ words_of_row has_costs servers (row_of (record { count = n; place = p; new_place = q; permitted = s; cost = x })))
    row_made has_costs servers a b c d e few n p q s x is_n is_p is_q is_s is_x rising count cost =
        let one = positive_found a n is_n (omega arith) in
        let two = place_found servers b p is_p in
        let three = place_found servers c q is_q in
        let four = set_found servers d s few is_s rising in
        let five = cost_found has_costs e x is_x (omega arith) in
        (record { count = one.1; place = two.1; new_place = three.1; permitted = four.1; cost = five.1; plain = five.2 }, spelled_four a b c d _ _ _ _ e _ one.0 two.0 three.0 four.0 five.0)

-- a row that is spelled is read
pub row_again : (has_costs : Bool) (servers : List PricedServer) (row : Row) → length servers ≤ 128 → Distinct servers → All (λ t. is_name t.server.name ≡ true) servers → IsRow has_costs servers row → row.count ≤ 16777216 → row.kind.cost ≤ 1000 → row_words_of has_costs servers (words_of_row has_costs servers row) ≡ Some (record { count = row.count; place = row.kind.place; new_place = row.new_place; permitted = record { is_rising = true; servers = row.kind.permitted }; cost = row.kind.cost })
unfolding row_words_of
row_again has_costs servers row few distinct names kept count cost =
    let one = positive_again row.count kept.count (omega arith) in
    let two = place_again servers row.kind.place distinct names kept.place in
    let three = place_again servers row.new_place distinct names kept.new_place in
    let four = set_again servers row.kind.permitted few distinct names kept.permitted in
    let five = cost_again has_costs row.kind.cost kept.cost (omega arith) kept.plain in
    rw (one, two, three, four, five) refl

-- the words of a row hold no gap and no line end
pub place_free : (mark : ℕ) (servers : List PricedServer) (place : Option ℕ) → mark < 44 → is_name_byte mark ≡ false → All (λ t. is_name t.server.name ≡ true) servers → ForSome place (λ s. s < length servers) → HasNo mark (place_word servers place)
unfolding place_word
place_free mark servers None below other names listed = above_mark mark (codes "-") below refl
place_free mark servers (Some s) below other names listed = name_free mark (name_at servers s) other (name_is servers s names (listed s refl))

join_free : (mark : ℕ) (words : List (List ℕ)) → 44 ≢ mark → All (HasNo mark) words → HasNo mark (join_with_byte 44 words)
join_free mark [] differs free = All-nil (λ b. eqb b mark ≡ false)
join_free mark (word ∷ words) differs free = free_join mark 44 word words differs free

set_cond : (b : Bool) (mark : ℕ) (one two : List ℕ) → HasNo mark one → HasNo mark two → HasNo mark (cond b one two)
set_cond true mark one two free_one free_two = free_one
set_cond false mark one two free_one free_two = free_two

pub set_free : (mark : ℕ) (servers : List PricedServer) (set : ℕ) → mark < 44 → is_name_byte mark ≡ false → All (λ t. is_name t.server.name ≡ true) servers → ((s : ℕ) → has set s ≡ true → is_open servers s ≡ true) → HasNo mark (set_word servers set)
unfolding set_word
set_free mark servers set below other names usable =
    let within = all-members (λ s. ltb s (length servers)) set (λ s held. (let w = open_within servers s (usable s held) in grind (arith, nat_tests))) in
    let differs : 44 ≢ mark = omega arith in
    set_cond (eqb set 0) mark (codes "-") (join_with_byte 44 (map (λ s. name_at servers s) (members set))) (above_mark mark (codes "-") below refl)
    (join_free mark (map (λ s. name_at servers s) (members set)) differs (names_free mark servers (members set) other names within))

pub cost_free : (mark : ℕ) (has_costs : Bool) (c : ℕ) → mark < 44 → c < 2 ^ 64 → All (HasNo mark) (cond has_costs (decimal c ∷ []) [])
cost_free mark true c below small = All-cons (HasNo mark) (decimal c) [] (digits_free mark c below small) (All-nil (HasNo mark))
cost_free mark false c below small = All-nil (HasNo mark)

row_words_free : (mark : ℕ) (has_costs : Bool) (servers : List PricedServer) (row : Row) → mark < 44 → is_name_byte mark ≡ false → All (λ t. is_name t.server.name ≡ true) servers → IsRow has_costs servers row → row.count ≤ 16777216 → row.kind.cost ≤ 1000 → All (HasNo mark) (codes "row" ∷ words_of_row has_costs servers row)
row_words_free mark has_costs servers row below other names kept count cost =
    let cost_words = cond has_costs (decimal row.kind.cost ∷ []) [] in
    let set = set_word servers row.kind.permitted in
    let new = place_word servers row.new_place in
    let place = place_word servers row.kind.place in
    All-cons (HasNo mark) (codes "row") (decimal row.count ∷ place ∷ new ∷ set ∷ cost_words) (above_mark mark (codes "row") below refl)
    (All-cons (HasNo mark) (decimal row.count) (place ∷ new ∷ set ∷ cost_words) (digits_free mark row.count below (omega arith))
    (All-cons (HasNo mark) place (new ∷ set ∷ cost_words) (place_free mark servers row.kind.place below other names kept.place)
    (All-cons (HasNo mark) new (set ∷ cost_words) (place_free mark servers row.new_place below other names kept.new_place)
    (All-cons (HasNo mark) set cost_words (set_free mark servers row.kind.permitted below other names kept.permitted)
    (cost_free mark has_costs row.kind.cost below (omega arith))))))

-- a row line comes apart again, holds no line end, and isn't the line `end`
pub row_line_apart : (has_costs : Bool) (servers : List PricedServer) (row : Row) → All (λ t. is_name t.server.name ≡ true) servers → IsRow has_costs servers row → row.count ≤ 16777216 → row.kind.cost ≤ 1000 → parts 32 (row_line has_costs servers row) ≡ codes "row" ∷ words_of_row has_costs servers row
unfolding row_line
row_line_apart has_costs servers row names kept count cost =
    parts_join 32 (codes "row") (words_of_row has_costs servers row) (row_words_free 32 has_costs servers row (omega arith) refl names kept count cost)

pub row_line_free : (has_costs : Bool) (servers : List PricedServer) (row : Row) → All (λ t. is_name t.server.name ≡ true) servers → IsRow has_costs servers row → row.count ≤ 16777216 → row.kind.cost ≤ 1000 → HasNo 10 (row_line has_costs servers row)
unfolding row_line
row_line_free has_costs servers row names kept count cost =
    free_join 10 32 (codes "row") (words_of_row has_costs servers row) gap_is_no_end (row_words_free 10 has_costs servers row (omega arith) refl names kept count cost)

pub row_line_goes_on : (has_costs : Bool) (servers : List PricedServer) (row : Row) → bytes_eq (row_line has_costs servers row) (codes "end") ≡ false
unfolding row_line
row_line_goes_on has_costs servers row = refl
