-- What is read of servers and groups keeps the rules of a sheet.
use Rattle.std.proofs.Common.{◌≡◌, ◌≢◌, ℕ, zero, suc, ◌+◌, ◌^◌, ◌<◌, ◌≤◌, true, false, ◌&&◌, leb, Option, Some, List, [], ◌∷◌, ◌++◌, length, get_or, codes, Ok, refl, sym, subst, ◌∙◌, inl, inr, arith, length-append}
use Rattle.std.specs.List.{list_all}
use Rattle.std.specs.Option.{ForSome, ok_or}
use Rattle.std.specs.Str.{bytes_eq}
use Rattle.std.proofs.lemmas.Bool.Decides.{nat_tests}
use Rattle.std.proofs.lemmas.List.{length-map, get_or-map, map_push}
use Rattle.std.proofs.lemmas.List.Elements.{All-push}
use Rattle.std.proofs.lemmas.List.Quantifiers.{all_pairs_push}
use Rattle.std.proofs.lemmas.List.Sums.{sum_by_push}
use Rattle.lb_types.specs.Names.{is_name}
use Rattle.lb_types.specs.Servers.{has}
use Rattle.lb_types.proofs.Sets.{has-empty}
use Rattle.lb_types_text.specs.Parts.{parts}
use Rattle.lb_types_text.specs.Numbers.{numeral_of}
use Rattle.lb_types_pins.specs.declared.kind.PinKind.{PinKind}
use Rattle.lb_types_pins.specs.declared.kind.Group.{Group}
use Rattle.dual_cert_plan.specs.declared.server.Server.{Server}
use Rattle.dual_cert_plan.specs.declared.server.PricedServer.{PricedServer}
use Rattle.dual_cert_plan.specs.Plans.{servers_of}
use Rattle.dual_cert_plan.specs.Sheets.{AreServers, IsKind, is_usable}
use Rattle.dual_cert_text.specs.declared.fault.TextFault.TheVariants.{BadLine}
use Rattle.dual_cert_text.specs.declared.kind_words.SetWord.{SetWord}
use Rattle.dual_cert_text.specs.RowLines.{place_of, set_of, members_of, usable_named, usable_servers_of, set_with, is_open, are_rising}
use Rattle.dual_cert_text.specs.ServerLines.{server_at}
use Rattle.dual_cert_text.proofs.Members.{has-set_with, all_among}
use Rattle.dual_cert_text.proofs.RowTexts.{positive_found, place_found, usable_found, open_is_usable}
use Rattle.dual_cert_text.proofs.ServerTexts.{named_none}
use Rattle.dual_cert_text.proofs.Steps.{and_true, bind_ok, bind_some, either, if_err, ok_or_ok}
use Rattle.dual_cert_sheet.specs.SheetTexts.{free_server, needs_costs}
use Rattle.dual_cert_sheet.proofs.RoomTexts.{IsRoomLine, server_found}
use Rattle.dual_cert_sheet.proofs.Totals.{KeepsTotals-server}
use Rattle.sheet_format.specs.declared.group_line.GroupWords.{GroupWords}
use Rattle.sheet_format.specs.GroupLines.{cost_of, group_words_of}
use Rattle.sheet_format.specs.Kept.{IsKept}
use Rattle.sheet_format.specs.Texts.{group_at, group_of}

-- ---- a server more

usable_more : (servers : List Server) (s : Server) (p : ℕ) → is_usable servers p ≡ true → is_usable (servers ++ s ∷ []) p ≡ true
usable_more [] s p is = absurd (let e : false ≡ true = is in cc)
usable_more (t ∷ servers) s zero is = is
usable_more (t ∷ servers) s (suc p) is = usable_more servers s p is

kind_more : (servers : List Server) (s : Server) (kind : PinKind) → IsKind servers kind → IsKind (servers ++ s ∷ []) kind
kind_more servers s kind kept =
    record {
      place = λ p is. (let b = kept.place p is in omega (arith, b, length-append servers (s ∷ [])));
      permitted = λ p held. usable_more servers s p (kept.permitted p held);
      cost_from = kept.cost_from;
      cost_to = kept.cost_to;
    }

servers_more : (servers : List PricedServer) (s : PricedServer) (words : List (List ℕ)) → AreServers (servers_of servers) → IsRoomLine servers words s.server → AreServers (servers_of servers ++ s.server ∷ [])
servers_more servers s words kept line =
    let own = length-map servers (λ p. p.server) in
    record {
      few = omega (arith, line.few, own, length-append (servers_of servers) (s.server ∷ []));
      named = All-push (λ t. is_name t.name ≡ true) (servers_of servers) s.server kept.named line.name;
      distinct = all_pairs_push (λ a b. a.name ≢ b.name) (servers_of servers) s.server kept.distinct (λ k d within.
          let inside : k < length servers = omega (arith, within, own) in
          rw (get_or-map (λ p. p.server) servers k (free_server d) d inside) (named_none servers s.server.name line.new k (free_server d) inside));
      capacities = All-push (λ t. ForSome t.capacity (λ c. c < 2 ^ 32)) (servers_of servers) s.server kept.capacities line.capacity;
    }

pub IsKept-server : (version : Option ℕ) (servers : List PricedServer) (groups : List Group) (count n : ℕ) (words : List (List ℕ)) (s : PricedServer)
    → IsKept version servers groups count → length servers < 128 → server_at n false servers words ≡ Ok s → IsKept version (servers ++ s ∷ []) groups count
IsKept-server version servers groups count n words s kept few is =
    let found = server_found n servers words s is in
    let line = found.0 in
    let totals = KeepsTotals-server servers groups count (needs_costs groups) s (record { few = kept.few; distinct = kept.distinct; free = kept.free; sum = kept.sum; small = kept.small; need = refl }) few line.new found.1 in
    let own = map_push (λ p. p.server) servers s in
    record {
      early = kept.early;
      few = totals.few;
      distinct = totals.distinct;
      free = totals.free;
      lawful = rw own (servers_more servers s words kept.lawful line);
      kinds = rw own (λ i d within. kind_more (servers_of servers) s.server (get_or groups i d).kind (kept.kinds i d within));
      sum = kept.sum;
      small = kept.small;
    }

-- ---- a group more

named_open : (servers : List PricedServer) (words : List (List ℕ)) (found : List ℕ) → usable_servers_of servers words ≡ Some found → list_all (is_open servers) found ≡ true
unfolding usable_servers_of
named_open servers [] found is = let same : [] ≡ found = cc in rw (← same) refl
named_open servers (word ∷ words) found is =
    let first = bind_some (usable_named servers word) _ found is in
    let more = bind_some (usable_servers_of servers words) _ found first.2 in
    let same : first.0 ∷ more.0 ≡ found = (let e = more.2 in cc) in
    let at = usable_found servers word first.0 first.1 in
    let F : List ℕ → Type 0 = λ xs. list_all (is_open servers) xs ≡ true in
    subst F same (rw (at.2, named_open servers words more.0 more.1) refl)

-- a set that is read holds servers that aren't off
set_open : (servers : List PricedServer) (word : List ℕ) (said : SetWord) → set_of servers word ≡ Some said → (s : ℕ) → has said.servers s ≡ true → is_open servers s ≡ true
unfolding set_of members_of
set_open servers word said is =
    let F : SetWord → Type 0 = λ v. (s : ℕ) → has v.servers s ≡ true → is_open servers s ≡ true in
    elim (either (bytes_eq word (codes "-")) _ _ _ is) [
      | inl dash ↦
          let empty : SetWord = record { is_rising = true; servers = 0 } in
          let same : empty ≡ said = (let e = dash.1 in cc) in
          subst F same (λ s held. absurd (let e : true ≡ false = sym held ∙ has-empty s in cc))
      | inr names ↦
          let found = bind_some (usable_servers_of servers (parts 44 word)) _ said names.1 in
          let made : SetWord = record { is_rising = are_rising 0 found.0; servers = set_with found.0 } in
          let same : made ≡ said = (let e = found.2 in cc) in
          let opened = named_open servers (parts 44 word) found.0 found.1 in
          subst F same (λ s held. all_among (is_open servers) s found.0 opened (sym (has-set_with found.0 s) ∙ held))
    ]

cost_some : (words : List (List ℕ)) (c : ℕ) → cost_of words ≡ Some c → c ≤ 1000 → 1 ≤ c
unfolding cost_of
cost_some [] c is small = let same : 1 ≡ c = cc in omega arith
cost_some (word ∷ []) c is small = (positive_found word c is (omega arith)).1
cost_some (word ∷ other ∷ words) c is small = cc

-- the kind of a group that is read is lawful
kind_found : (servers : List PricedServer) (words : List (List ℕ)) (said : GroupWords) → group_words_of servers words ≡ Some said → said.cost ≤ 1000 → IsKind (servers_of servers) (group_of said).kind
unfolding group_words_of
kind_found servers [] said is cheap = cc
kind_found servers (a ∷ []) said is cheap = cc
kind_found servers (a ∷ b ∷ []) said is cheap = cc
kind_found servers (a ∷ b ∷ c ∷ d) said is cheap =
    let n = bind_some (numeral_of a) _ said is in
    let p = bind_some (place_of servers b) _ said n.2 in
    let s = bind_some (set_of servers c) _ said p.2 in
    let x = bind_some (cost_of d) _ said s.2 in
    let made : GroupWords = record { count = n.0; place = p.0; permitted = s.0.servers; cost = x.0 } in
    let same : made ≡ said = (let t = x.2 in cc) in
    let F : GroupWords → Type 0 = λ v. v.cost ≤ 1000 → IsKind (servers_of servers) (group_of v).kind in
    let lawful : F made = λ low. record {
      place = λ q e. (let w = (place_found servers b p.0 p.1).1 q e in omega (arith, w, length-map servers (λ t. t.server)));
      permitted = λ q held. sym (open_is_usable servers q) ∙ set_open servers c s.0 s.1 q held;
      cost_from = cost_some d x.0 x.1 low;
      cost_to = low;
    } in
    subst F same lawful cheap

pub group_found : (n pins : ℕ) (servers : List PricedServer) (words : List (List ℕ)) (g : Group) → group_at n pins servers words ≡ Ok g → IsKind (servers_of servers) g.kind
unfolding group_at
group_found n pins servers words g is =
    let read = bind_ok (ok_or (group_words_of servers words) (BadLine n)) _ g is in
    let due = if_err (leb (pins + read.0.count) 16777216 && leb read.0.cost 1000) _ _ _ read.2 in
    let both = and_true (leb (pins + read.0.count) 16777216) (leb read.0.cost 1000) due.0 in
    let cheap : read.0.cost ≤ 1000 = (let h = both.1 in grind (arith, nat_tests)) in
    let same : group_of read.0 ≡ g = (let e = due.1 in cc) in
    let F : Group → Type 0 = λ h. IsKind (servers_of servers) h.kind in
    subst F same (kind_found servers words read.0 (ok_or_ok _ _ _ read.1) cheap)

pub IsKept-group : (version : Option ℕ) (servers : List PricedServer) (groups : List Group) (count : ℕ) (g : Group)
    → IsKept version servers groups count → IsKind (servers_of servers) g.kind → count + g.count ≤ 16777216 → IsKept version servers (groups ++ g ∷ []) (count + g.count)
IsKept-group version servers groups count g kept lawful fits =
    record {
      early = kept.early;
      few = kept.few;
      distinct = kept.distinct;
      free = kept.free;
      lawful = kept.lawful;
      kinds = All-push (λ h. IsKind (servers_of servers) h.kind) groups g kept.kinds lawful;
      sum = let more = sum_by_push (λ h. h.count) groups g in grind (arith, kept.sum);
      small = fits;
    }
