-- A draft of a plan stays one when a server or a row is put behind the others.
use Rattle.std.proofs.Common.{◌≡◌, ◌≢◌, ℕ, zero, suc, ◌+◌, ◌-◌, ◌^◌, ◌<◌, ◌≤◌, Bool, true, false, eqb, cond, inl, inr, None, List, [], ◌∷◌, ◌++◌, length, get_or, refl, sym, ◌∙◌, arith, length-append}
use Rattle.std.specs.List.{AllPairs}
use Rattle.std.specs.Option.{ForSome, is_some}
use Rattle.std.proofs.lemmas.Bool.{cases_lt, eqb-true, or_cases}
use Rattle.std.proofs.lemmas.Bool.Decides.{nat_tests}
use Rattle.std.proofs.lemmas.List.{map_push, length-map, get_or-map}
use Rattle.std.proofs.lemmas.List.Elements.{All-nil, All-push, All-get_or}
use Rattle.std.proofs.lemmas.List.Quantifiers.{all_pairs_push}
use Rattle.std.proofs.lemmas.List.Sums.{sum_by_push}
use Rattle.std.proofs.lemmas.Option.{slice_get-get_or}
use Rattle.lb_types.specs.Names.{is_name}
use Rattle.lb_types.specs.Servers.{has, with_server}
use Rattle.lb_types.proofs.Sets.{has-empty, has-with}
use Rattle.lb_types_pins.specs.declared.kind.Row.{Row}
use Rattle.lb_types_pins.specs.Kinds.{row_before}
use Rattle.lb_types_pins.proofs.Order.{row_before-trans}
use Rattle.lb_types_pins.proofs.Pairs.{AllPairs-nil}
use Rattle.dual_cert_plan.specs.declared.server.Server.{Server}
use Rattle.dual_cert_plan.specs.declared.server.PricedServer.{PricedServer}
use Rattle.dual_cert_plan.specs.Plans.{servers_of}
use Rattle.dual_cert_plan.specs.Sheets.{IsListed, IsKind, is_usable}
use Rattle.small_farms.specs.Drafts.{IsDraft, IsNew, MayCost, MayStand, comes_next}

pub empty_draft : IsDraft [] [] 0 0
empty_draft =
    record {
      lawful = record {
        version = omega arith;
        servers = record { few = omega arith; named = All-nil (λ s. is_name s.name ≡ true); distinct = AllPairs-nil (λ a b. a.name ≢ b.name); capacities = All-nil (λ s. ForSome s.capacity (λ c. c < 2 ^ 32)) };
        prices = All-nil (λ s. s.price < 2 ^ 40);
        off_has_no_price = All-nil (λ s. s.server.capacity ≡ None → s.price ≡ 0);
        kinds = All-nil (λ r. IsKind [] r.kind);
        new_places = All-nil (λ r. IsListed [] r.new_place);
        counted = All-nil (λ r. 1 ≤ r.count);
        total = omega arith;
        rising = AllPairs-nil (λ a b. row_before a b ≡ true);
      };
      sum = refl;
      usable_ones = λ s held. absurd (let no = has-empty s in cc);
    }

usable-push : (servers : List Server) (new : Server) (s : ℕ) → is_usable servers s ≡ true → is_usable (servers ++ new ∷ []) s ≡ true
usable-push [] new s usable = cc
usable-push (x ∷ servers) new zero usable = usable
usable-push (x ∷ servers) new (suc s) usable = usable-push servers new s usable

usable-last : (servers : List Server) (new : Server) → is_some new.capacity ≡ true → is_usable (servers ++ new ∷ []) (length servers) ≡ true
usable-last [] new has_room = has_room
usable-last (x ∷ servers) new has_room = usable-last servers new has_room

usable-more : (servers : List Server) (new : Server) (usable : ℕ) → ((s : ℕ) → has usable s ≡ true → is_usable servers s ≡ true) → (more : Bool) → is_some new.capacity ≡ more
    → (s : ℕ) → has (cond more (with_server usable (length servers)) usable) s ≡ true → is_usable (servers ++ new ∷ []) s ≡ true
usable-more servers new usable ones false is s held = usable-push servers new s (ones s held)
usable-more servers new usable ones true is s held =
    elim (or_cases (eqb s (length servers)) (has usable s) (sym (has-with usable (length servers) s) ∙ held)) [
      | inl last ↦ rw (eqb-true s (length servers) last) (usable-last servers new is)
      | inr earlier ↦ usable-push servers new s (ones s earlier)
    ]

pub no_rows : (rows : List Row) → eqb (length rows) 0 ≡ true → rows ≡ []
no_rows [] is = refl
no_rows (r ∷ rows) is = absurd (let z : eqb (length (r ∷ rows)) 0 ≡ false = grind (arith, nat_tests) in let e : true ≡ false = sym is ∙ z in cc)

-- a server that stands for one that isn't there
unfoldable nobody : PricedServer
nobody = record { server = record { name = []; capacity = None }; price = 0 }

named_apart : (servers : List PricedServer) (name : List ℕ) → IsNew servers name → (k : ℕ) (d : Server) → k < length (servers_of servers) → (get_or (servers_of servers) k d).name ≢ name
named_apart servers name new k d within =
    let in' : k < length servers = omega (arith, within, length-map servers (λ p. p.server)) in
    let at = get_or-map (λ p. p.server) servers k nobody d in' in
    rw at (All-get_or (λ s. s.server.name ≢ name) servers k nobody in' new)

pub server_more : (servers : List PricedServer) (rows : List Row) (pins usable : ℕ) (s : PricedServer) → IsDraft servers rows pins usable → rows ≡ [] → length servers < 128
    → is_name s.server.name ≡ true → IsNew servers s.server.name → ForSome s.server.capacity (λ c. c < 2 ^ 32) → MayCost s.server s.price
    → IsDraft (servers ++ s ∷ []) rows pins (cond (is_some s.server.capacity) (with_server usable (length servers)) usable)
server_more servers rows pins usable s kept none few named new capacity price =
    let own : servers_of (servers ++ s ∷ []) ≡ servers_of servers ++ s.server ∷ [] = map_push (λ p. p.server) servers s in
    let long : length (servers_of servers) ≡ length servers = length-map servers (λ p. p.server) in
    let plan = kept.lawful in
    record {
      lawful = record {
        version = plan.version;
        servers = rw own (record {
          few = omega (arith, few, long, length-append (servers_of servers) (s.server ∷ []));
          named = All-push (λ t. is_name t.name ≡ true) (servers_of servers) s.server plan.servers.named named;
          distinct = all_pairs_push (λ a b. a.name ≢ b.name) (servers_of servers) s.server plan.servers.distinct (λ k d within. named_apart servers s.server.name new k d within);
          capacities = All-push (λ t. ForSome t.capacity (λ c. c < 2 ^ 32)) (servers_of servers) s.server plan.servers.capacities capacity;
        });
        prices = All-push (λ t. t.price < 2 ^ 40) servers s plan.prices price.small;
        off_has_no_price = All-push (λ t. t.server.capacity ≡ None → t.price ≡ 0) servers s plan.off_has_no_price price.off;
        kinds = rw none (All-nil (λ r. IsKind (servers_of (servers ++ s ∷ [])) r.kind));
        new_places = rw none (All-nil (λ r. IsListed (servers_of (servers ++ s ∷ [])) r.new_place));
        counted = plan.counted;
        total = plan.total;
        rising = plan.rising;
      };
      sum = kept.sum;
      usable_ones = λ t held. rw own (usable-more (servers_of servers) s.server usable kept.usable_ones (is_some s.server.capacity) refl t (rw long held));
    }

last_before : (rows : List Row) (row : Row) → AllPairs (λ a b. row_before a b ≡ true) rows → comes_next rows row ≡ true → (k : ℕ) (d : Row) → k < length rows → row_before (get_or rows k d) row ≡ true
last_before rows row rising next k d within =
    let last = get_or rows (length rows - 1) d in
    let found = slice_get-get_or rows (length rows - 1) d (omega arith) in
    let before : row_before last row ≡ true = rw found at next in
    elim (cases_lt k (length rows - 1)) [
      | inl earlier ↦ row_before-trans (get_or rows k d) last row (rising k (length rows - 1) d earlier (omega arith)) before
      | inr at ↦ let same : k ≡ length rows - 1 = omega arith in rw same before
    ]

pub row_more : (servers : List PricedServer) (rows : List Row) (pins usable : ℕ) (row : Row) → IsDraft servers rows pins usable → 1 ≤ row.count → pins + row.count ≤ 16777216
    → MayStand (length servers) usable row.kind → ForSome row.new_place (λ server. server < length servers) → comes_next rows row ≡ true
    → IsDraft servers (rows ++ row ∷ []) (pins + row.count) usable
row_more servers rows pins usable row kept counted fits kind new_place next =
    let long : length (servers_of servers) ≡ length servers = length-map servers (λ p. p.server) in
    let more = sum_by_push (λ r. r.count) rows row in
    let plan = kept.lawful in
    record {
      lawful = record {
        version = plan.version;
        servers = plan.servers;
        prices = plan.prices;
        off_has_no_price = plan.off_has_no_price;
        kinds = All-push (λ r. IsKind (servers_of servers) r.kind) rows row plan.kinds (record {
          place = λ s e. (let w = kind.place s e in omega (arith, w, long));
          permitted = λ s held. kept.usable_ones s (kind.permitted s held);
          cost_from = kind.cost_from;
          cost_to = kind.cost_to;
        });
        new_places = All-push (λ r. IsListed (servers_of servers) r.new_place) rows row plan.new_places (λ s e. (let w = new_place s e in omega (arith, w, long)));
        counted = All-push (λ r. 1 ≤ r.count) rows row plan.counted counted;
        total = omega (arith, fits, more, kept.sum);
        rising = all_pairs_push (λ a b. row_before a b ≡ true) rows row plan.rising (λ k d within. last_before rows row plan.rising next k d within);
      };
      sum = grind (arith, more, kept.sum);
      usable_ones = kept.usable_ones;
    }
