-- Texts of plans are texts of a format: each line that is read adds one line to the spelling, and each plan's lines lead
-- to the plan.
use Rattle.std.proofs.Common.{◌≡◌, ◌≢◌, ℕ, ◌+◌, ◌-◌, ◌^◌, ◌<◌, ◌≤◌, Bool, true, false, not, ◌&&◌, ◌||◌, eqb, leb, inl, inr, None, List, [], ◌∷◌, ◌++◌, length, get_or, map, sum_by, codes, Result, Ok, Err, refl, sym, ap, subst, ◌∙◌, arith, append_assoc, length-append}
use Rattle.std.specs.List.{All, AllPairs}
use Rattle.std.specs.Option.{ok_or, ForSome}
use Rattle.std.specs.Result.{IfOk}
use Rattle.std.specs.Str.{bytes_eq}
use Rattle.std.proofs.lemmas.Bool.{cases_lt}
use Rattle.std.proofs.lemmas.Bool.Decides.{nat_tests}
use Rattle.std.proofs.lemmas.List.{append-nil, map_push, length-map, get_or-map, get_or_append_left}
use Rattle.std.proofs.lemmas.List.Elements.{All-nil, All-cons, All-head, All-tail, All-push}
use Rattle.std.proofs.lemmas.List.Folds.{list_any-append}
use Rattle.std.proofs.lemmas.List.Quantifiers.{all_pairs_push}
use Rattle.std.proofs.lemmas.List.Sums.{sum_by_push, sum_by-append}
use Rattle.std.proofs.lemmas.Option.{slice_get-get_or}
use Rattle.std.proofs.Math.Seq.{get_or-append_seam}
use Rattle.lb_types.specs.Names.{is_name}
use Rattle.lb_types_pins.specs.declared.kind.Row.{Row}
use Rattle.lb_types_pins.specs.Kinds.{row_before}
use Rattle.lb_types_pins.proofs.Order.{row_before-trans}
use Rattle.lb_types_pins.proofs.Pairs.{AllPairs-nil}
use Rattle.dual_cert_plan.specs.declared.server.Server.{Server}
use Rattle.dual_cert_plan.specs.declared.server.PricedServer.{PricedServer}
use Rattle.dual_cert_plan.specs.Plans.{PlanParts, IsPlan, servers_of}
use Rattle.dual_cert_plan.specs.Sheets.{IsListed, IsKind}
use Rattle.dual_cert_text.specs.declared.fault.TextFault.{TextFault}
use Rattle.dual_cert_text.specs.declared.fault.TextFault.TheVariants.{BadLine}
use Rattle.dual_cert_text.specs.declared.row_line.RowWords.{RowWords}
use Rattle.dual_cert_text.specs.Faults.{Gives}
use Rattle.dual_cert_text.specs.declared.fault.ReadError.{ReadError}
use Rattle.dual_cert_text.specs.PlanTexts.{PlanDraft, draft_of, with_server, with_row, add_server, row_of, comes_next, next_row, add_row, add_line, needs_costs, plan_format, plan_of_text}
use Rattle.dual_cert_text.specs.RowLines.{row_words_of}
use Rattle.dual_cert_text.specs.ServerLines.{server_named, server_at}
use Rattle.dual_cert_text.specs.Spellings.{line_of_words, text_of_lines, heading_lines, usage_words, server_line, row_line, plan_lines, spelling}
use Rattle.dual_cert_text.specs.Texts.{reading}
use Rattle.dual_cert_text.proofs.RowTexts.{IsRow, words_of_row, row_found, row_again, row_line_apart, row_line_free, row_line_goes_on, open_is_usable}
use Rattle.dual_cert_text.proofs.ServerTexts.{Distinct, nobody, IsServerLine, named_none, named_none_again, server_found, server_again, server_line_apart, server_line_free, server_line_goes_on}
use Rattle.dual_cert_text.proofs.Steps.{and_true, bind_ok, ok_or_ok, unless_err, if_err, either, bytes_is}
use Rattle.dual_cert_text.proofs.WholeTexts.{Builds, Leads, no_mark, text_found, text_again, text_alone}

-- what a draft of a plan keeps
record Keeps (draft : PlanDraft) : Type 0 where
  lawful : IsPlan draft.plan
  plain : draft.has_costs ≡ false → needs_costs draft.plan.rows ≡ false

-- the lines of a draft
abbrev draft_lines : PlanDraft → List (List ℕ)
draft_lines draft = plan_lines draft.has_costs draft.plan

no_rows : (rows : List Row) → eqb (length rows) 0 ≡ true → rows ≡ []
no_rows [] is = refl
no_rows (r ∷ rows) is = absurd (let z : eqb (length (r ∷ rows)) 0 ≡ false = grind (arith, nat_tests) in let e : true ≡ false = sym is ∙ z in cc)

-- the plan of which no server was read
empty_lawful : (version : ℕ) → version ≤ 2 ^ 63 → IsPlan (record { version = version; servers = []; rows = [] })
empty_lawful version small =
    record {
      version = small;
      servers = record { few = omega arith; named = All-nil (λ s. is_name s.name ≡ true); distinct = AllPairs-nil (λ a b. a.name ≢ b.name); capacities = All-nil (λ s. ForSome s.capacity (λ c. c < 2 ^ 32)) };
      prices = All-nil (λ s. s.price < 2 ^ 40);
      off_has_no_price = All-nil (λ s. s.server.capacity ≡ None → s.price ≡ 0);
      kinds = All-nil (λ r. IsKind [] r.kind);
      new_places = All-nil (λ r. IsListed [] r.new_place);
      counted = All-nil (λ r. 1 ≤ r.count);
      total = omega arith;
      rising = AllPairs-nil (λ a b. row_before a b ≡ true);
    }

starts : (is_second : Bool) (version : ℕ) → version ≤ 2 ^ 63 → Keeps (plan_format.start is_second version) × (draft_lines (plan_format.start is_second version) ≡ heading_lines plan_format.word is_second version)
unfolding plan_format plan_lines
starts is_second version small = (
  record { lawful = empty_lawful version small; plain = λ _. refl },
  append-nil (heading_lines (codes "stickyplan") is_second version ++ []) ∙ append-nil (heading_lines (codes "stickyplan") is_second version),
)

-- names of the servers of a plan
named_apart : (servers : List PricedServer) (word : List ℕ) → server_named servers word ≡ None → (k : ℕ) (d : Server) → k < length (servers_of servers) → (get_or (servers_of servers) k d).name ≢ word
named_apart servers word none k d within =
    let in' : k < length servers = omega (arith, within, length-map servers (λ p. p.server)) in
    let at = get_or-map (λ p. p.server) servers k nobody d in' in
    rw at (named_none servers word none k nobody in')

-- a server more
server_lawful : (plan : PlanParts) (words : List (List ℕ)) (s : PricedServer) → IsPlan plan → plan.rows ≡ [] → IsServerLine plan.servers words s → IsPlan (record plan { servers = plan.servers ++ s ∷ [] })
server_lawful plan words s kept none line =
    let own : servers_of (plan.servers ++ s ∷ []) ≡ servers_of plan.servers ++ s.server ∷ [] = map_push (λ p. p.server) plan.servers s in
    record {
      version = kept.version;
      servers = rw own (record {
        few = omega (arith, line.few, length-append (servers_of plan.servers) (s.server ∷ []), length-map plan.servers (λ p. p.server));
        named = All-push (λ t. is_name t.name ≡ true) (servers_of plan.servers) s.server kept.servers.named line.name;
        distinct = all_pairs_push (λ a b. a.name ≢ b.name) (servers_of plan.servers) s.server kept.servers.distinct (λ k d within. named_apart plan.servers s.server.name line.new k d within);
        capacities = All-push (λ t. ForSome t.capacity (λ c. c < 2 ^ 32)) (servers_of plan.servers) s.server kept.servers.capacities line.capacity;
      });
      prices = All-push (λ t. t.price < 2 ^ 40) plan.servers s kept.prices line.price;
      off_has_no_price = All-push (λ t. t.server.capacity ≡ None → t.price ≡ 0) plan.servers s kept.off_has_no_price line.off;
      kinds = rw none (All-nil (λ r. IsKind (servers_of (plan.servers ++ s ∷ [])) r.kind));
      new_places = rw none (All-nil (λ r. IsListed (servers_of (plan.servers ++ s ∷ [])) r.new_place));
      counted = kept.counted;
      total = kept.total;
      rising = kept.rising;
    }

server_lines : (has_costs : Bool) (version : ℕ) (servers : List PricedServer) (s : PricedServer) → plan_lines has_costs (record { version = version; servers = servers ++ s ∷ []; rows = [] }) ≡ plan_lines has_costs (record { version = version; servers = servers; rows = [] }) ++ server_line s ∷ []
unfolding plan_lines
server_lines has_costs version servers s =
    let head = heading_lines (codes "stickyplan") has_costs version in
    let mapped = map_push (λ t. server_line t) servers s in
    append-nil (head ++ map (λ t. server_line t) (servers ++ s ∷ []))
    ∙ ap (λ ls. head ++ ls) mapped
    ∙ sym (append_assoc head (map (λ t. server_line t) servers) (server_line s ∷ []))
    ∙ ap (λ ls. ls ++ server_line s ∷ []) (sym (append-nil (head ++ map (λ t. server_line t) servers)))

row_lines : (has_costs : Bool) (plan : PlanParts) (row : Row) → plan_lines has_costs (record plan { rows = plan.rows ++ row ∷ [] }) ≡ plan_lines has_costs plan ++ row_line has_costs plan.servers row ∷ []
unfolding plan_lines
row_lines has_costs plan row =
    let front = heading_lines (codes "stickyplan") has_costs plan.version ++ map (λ t. server_line t) plan.servers in
    ap (λ ls. front ++ ls) (map_push (λ r. row_line has_costs plan.servers r) plan.rows row)
    ∙ sym (append_assoc front (map (λ r. row_line has_costs plan.servers r) plan.rows) (row_line has_costs plan.servers row ∷ []))

server_words_line : (words : List (List ℕ)) (s : PricedServer) → words ≡ s.server.name ∷ usage_words s.server.capacity s.price → line_of_words (codes "server" ∷ words) ≡ server_line s
unfolding server_line
server_words_line words s spelled = ap (λ ws. line_of_words (codes "server" ∷ ws)) spelled

row_words_line : (has_costs : Bool) (servers : List PricedServer) (words : List (List ℕ)) (row : Row) → words ≡ words_of_row has_costs servers row → line_of_words (codes "row" ∷ words) ≡ row_line has_costs servers row
unfolding row_line
row_words_line has_costs servers words row spelled = ap (λ ws. line_of_words (codes "row" ∷ ws)) spelled

server_added : (n : ℕ) (draft next : PlanDraft) (words : List (List ℕ)) → Keeps draft → add_server n draft words ≡ Ok next → Keeps next × (draft_lines next ≡ draft_lines draft ++ line_of_words (codes "server" ∷ words) ∷ [])
unfolding add_server
server_added n draft next words keeps is =
    let due = if_err (eqb (length draft.plan.rows) 0) _ _ _ is in
    let read = bind_ok (server_at n true draft.plan.servers words) _ next due.1 in
    let none = no_rows draft.plan.rows due.0 in
    let line = server_found n draft.plan.servers words read.0 read.1 in
    let same : with_server draft read.0 ≡ next = (let e = read.2 in cc) in
    let F : PlanDraft → Type 0 = λ d. Keeps d × (draft_lines d ≡ draft_lines draft ++ line_of_words (codes "server" ∷ words) ∷ []) in
    let G : List Row → Type 0 = λ rows. plan_lines draft.has_costs (record { version = draft.plan.version; servers = draft.plan.servers ++ read.0 ∷ []; rows = rows }) ≡ plan_lines draft.has_costs (record { version = draft.plan.version; servers = draft.plan.servers; rows = rows }) ++ line_of_words (codes "server" ∷ words) ∷ [] in
    subst F same (
      record { lawful = server_lawful draft.plan words read.0 keeps.lawful none line; plain = keeps.plain },
      subst G (sym none) (rw (server_words_line words read.0 line.spelled) (server_lines draft.has_costs draft.plan.version draft.plan.servers read.0)),
    )

-- a row more
last_before : (rows : List Row) (row : Row) → AllPairs (λ a b. row_before a b ≡ true) rows → comes_next rows row ≡ true → (k : ℕ) (d : Row) → k < length rows → row_before (get_or rows k d) row ≡ true
last_before rows row rising next k d within =
    let last = get_or rows (length rows - 1) d in
    let found = slice_get-get_or rows (length rows - 1) d (omega arith) in
    let before : row_before last row ≡ true = rw found at next in
    elim (cases_lt k (length rows - 1)) [
      | inl earlier ↦ row_before-trans (get_or rows k d) last row (rising k (length rows - 1) d earlier (omega arith)) before
      | inr at ↦ let same : k ≡ length rows - 1 = omega arith in rw same before
    ]

row_lawful : (has_costs : Bool) (plan : PlanParts) (row : Row) → IsPlan plan → IsRow has_costs plan.servers row → sum_by (λ r. r.count) plan.rows + row.count ≤ 16777216 → row.kind.cost ≤ 1000 → comes_next plan.rows row ≡ true → IsPlan (record plan { rows = plan.rows ++ row ∷ [] })
row_lawful has_costs plan row kept line fits cheap next =
    let own = length-map plan.servers (λ p. p.server) in
    record {
      version = kept.version;
      servers = kept.servers;
      prices = kept.prices;
      off_has_no_price = kept.off_has_no_price;
      kinds = All-push (λ r. IsKind (servers_of plan.servers) r.kind) plan.rows row kept.kinds (record {
        place = λ s e. (let w = line.place s e in omega (arith, w, own));
        permitted = λ s held. sym (open_is_usable plan.servers s) ∙ line.permitted s held;
        cost_from = line.cost;
        cost_to = cheap;
      });
      new_places = All-push (λ r. IsListed (servers_of plan.servers) r.new_place) plan.rows row kept.new_places (λ s e. (let w = line.new_place s e in omega (arith, w, own)));
      counted = All-push (λ r. 1 ≤ r.count) plan.rows row kept.counted line.count;
      total = omega (arith, fits, sum_by_push (λ r. r.count) plan.rows row);
      rising = all_pairs_push (λ a b. row_before a b ≡ true) plan.rows row kept.rising (λ k d within. last_before plan.rows row kept.rising next k d within);
    }

plain_more : (rows : List Row) (row : Row) → needs_costs rows ≡ false → row.kind.cost ≡ 1 → needs_costs (rows ++ row ∷ []) ≡ false
plain_more rows row plain one =
    let z : eqb row.kind.cost 1 ≡ true = grind (arith, nat_tests) in
    list_any-append (λ r. not (eqb r.kind.cost 1)) rows (row ∷ []) ∙ rw (plain, z) refl

row_next : (rows : List Row) (pins : ℕ) (said : RowWords) (row : Row) → next_row rows pins said ≡ Ok row → (row_of said ≡ row) × (said.permitted.is_rising ≡ true) × (comes_next rows (row_of said) ≡ true) × (pins + said.count ≤ 16777216) × (said.cost ≤ 1000)
unfolding next_row
row_next rows pins said row is =
    let fits = unless_err (not (leb (pins + said.count) 16777216 && leb said.cost 1000)) _ _ _ is in
    let order = if_err (said.permitted.is_rising && comes_next rows (row_of said)) _ _ _ fits.1 in
    let both = and_true said.permitted.is_rising (comes_next rows (row_of said)) order.0 in
    let ranges = and_true (leb (pins + said.count) 16777216) (leb said.cost 1000) (not_false _ fits.0) in
    ((let e = order.1 in cc), both.0, both.1, (let h = ranges.0 in grind (arith, nat_tests)), (let h = ranges.1 in grind (arith, nat_tests)))
  where
    not_false : (b : Bool) → not b ≡ false → b ≡ true
    not_false true is' = refl
    not_false false is' = cc

row_added : (n : ℕ) (draft next : PlanDraft) (words : List (List ℕ)) → Keeps draft → add_row n draft words ≡ Ok next → Keeps next × (draft_lines next ≡ draft_lines draft ++ line_of_words (codes "row" ∷ words) ∷ [])
unfolding add_row
row_added n draft next words keeps is =
    let servers = draft.plan.servers in
    let pins = sum_by (λ r. r.count) draft.plan.rows in
    let said = bind_ok (ok_or (row_words_of draft.has_costs servers words) (BadLine n)) _ next is in
    let read = bind_ok (next_row draft.plan.rows pins said.0) _ next said.2 in
    let due = row_next draft.plan.rows pins said.0 read.0 read.1 in
    let few : length servers ≤ 128 = omega (arith, keeps.lawful.servers.few, length-map servers (λ p. p.server)) in
    let line = row_found draft.has_costs servers words said.0 few (ok_or_ok _ _ _ said.1) due.1 (omega (arith, due.3)) due.4 in
    let row = row_of said.0 in
    let made : with_row draft row ≡ next = ap (λ r. with_row draft r) due.0 ∙ (let e = read.2 in cc) in
    let F : PlanDraft → Type 0 = λ d. Keeps d × (draft_lines d ≡ draft_lines draft ++ line_of_words (codes "row" ∷ words) ∷ []) in
    subst F made (
      record { lawful = row_lawful draft.has_costs draft.plan row keeps.lawful line.0 due.3 due.4 due.2; plain = λ off. plain_more draft.plan.rows row (keeps.plain off) (line.0.plain off) },
      rw (row_words_line draft.has_costs servers words row line.1) (row_lines draft.has_costs draft.plan row),
    )

line_added : (n : ℕ) (draft next : PlanDraft) (words : List (List ℕ)) → Keeps draft → add_line n draft words ≡ Ok next → Keeps next × (draft_lines next ≡ draft_lines draft ++ line_of_words words ∷ [])
unfolding add_line
line_added n draft next [] keeps is = absurd (let e : Err (BadLine n) ≡ Ok next = is in cc)
line_added n draft next (word ∷ words) keeps is =
    let F : List ℕ → Type 0 = λ w. Keeps next × (draft_lines next ≡ draft_lines draft ++ line_of_words (w ∷ words) ∷ []) in
    elim (either (bytes_eq word (codes "server")) _ _ _ is) [
      | inl server ↦ subst F (sym (bytes_is word (codes "server") server.0)) (server_added n draft next words keeps server.1)
      | inr other ↦
          let row = if_err (bytes_eq word (codes "row")) _ _ _ other.1 in
          subst F (sym (bytes_is word (codes "row") row.0)) (row_added n draft next words keeps row.1)
    ]

plan_builds : Builds plan_format Keeps draft_lines
unfolding plan_format
plan_builds = record { starts = starts; adds = line_added }

pub ends_alike : (costs needs : Bool) → (not costs || needs) ≡ true → (costs ≡ false → needs ≡ false) → costs ≡ needs
ends_alike true true may plain = refl
ends_alike true false may plain = cc
ends_alike false needs may plain = sym (plain refl)

-- what is read is a plan, and spelled so
pub plan_found : (text : List ℕ) (draft : PlanDraft) → reading plan_format text ≡ Ok draft → IsPlan draft.plan × (text ≡ spelling draft.plan)
unfolding plan_format spelling
plan_found text draft is =
    let found = text_found plan_format Keeps draft_lines plan_builds text draft is in
    let alike = ends_alike draft.has_costs (needs_costs draft.plan.rows) found.1 found.0.plain in
    let F : Bool → Type 0 = λ costs. text ≡ text_of_lines (plan_lines costs draft.plan ++ codes "end" ∷ []) in
    (found.0.lawful, subst F alike found.2)

sum_of : (front : List Row) (row : Row) (rest : List Row) → sum_by (λ r. r.count) front + row.count ≤ sum_by (λ r. r.count) (front ++ row ∷ rest)
sum_of front row rest =
    omega (arith, sum_by-append (λ r. r.count) (front ++ row ∷ []) rest, sum_by_push (λ r. r.count) front row, ap (sum_by (λ r. r.count)) (append_assoc front (row ∷ []) rest))

-- a server of a plan
record IsServer (s : PricedServer) : Type 0 where
  name : is_name s.server.name ≡ true
  capacity : ForSome s.server.capacity (λ c. c < 2 ^ 32)
  price : s.price < 2 ^ 40
  off : s.server.capacity ≡ None → s.price ≡ 0

server_line_at : (front rest : List PricedServer) (s : PricedServer) → Distinct (front ++ s ∷ rest) → length (front ++ s ∷ rest) ≤ 128 → IsServer s → IsServerLine front (s.server.name ∷ usage_words s.server.capacity s.price) s
server_line_at front rest s distinct few kept =
    let more = length-append front (s ∷ rest) in
    record {
      few = omega (arith, few, more);
      name = kept.name;
      new = named_none_again front s.server.name (λ k within.
          let apart = distinct k (length front) nobody within (omega (arith, more)) in
          let F : PricedServer → PricedServer → Type 0 = λ a b. a.server.name ≢ b.server.name in
          let left : F (get_or front k nobody) (get_or (front ++ s ∷ rest) (length front) nobody) = rw (get_or_append_left front (s ∷ rest) nobody k within) at apart in
          rw (get_or-append_seam front s rest nobody) at left);
      capacity = kept.capacity;
      price = kept.price;
      off = kept.off;
      spelled = refl;
    }

server_add : (n : ℕ) (costs : Bool) (version : ℕ) (front : List PricedServer) (s : PricedServer) → IsServerLine front (s.server.name ∷ usage_words s.server.capacity s.price) s → add_line n (draft_of costs version front []) (codes "server" ∷ s.server.name ∷ usage_words s.server.capacity s.price) ≡ Ok (draft_of costs version (front ++ s ∷ []) [])
unfolding add_line add_server
server_add n costs version front s line = rw (server_again n front s line) refl

servers_lead : (costs : Bool) (version : ℕ) (rest front : List PricedServer) → Distinct (front ++ rest) → length (front ++ rest) ≤ 128 → All IsServer rest → Leads plan_format (draft_of costs version front []) (map (λ s. server_line s) rest) (draft_of costs version (front ++ rest) [])
unfolding plan_format
servers_lead costs version [] front distinct few kept = ap (λ ss. draft_of costs version ss []) (sym (append-nil front))
servers_lead costs version (s ∷ rest) front distinct few kept =
    let one = All-head IsServer s rest kept in
    let line = server_line_at front rest s distinct few one in
    let apart = server_line_apart s one.name one.capacity one.price in
    let again = append_assoc front (s ∷ []) rest in
    let D : List PricedServer → Type 0 = λ ss. Distinct ss in
    let L : List PricedServer → Type 0 = λ ss. length ss ≤ 128 in
    let N : List PricedServer → Type 0 = λ ss. Leads plan_format (draft_of costs version (front ++ s ∷ []) []) (map (λ t. server_line t) rest) (draft_of costs version ss []) in (
      server_line_free s one.name one.capacity one.price,
      server_line_goes_on s,
      draft_of costs version (front ++ s ∷ []) [],
      (λ n. rw apart (server_add n costs version front s line)),
      subst N again (servers_lead costs version rest (front ++ s ∷ []) (subst D (sym again) distinct) (subst L (sym again) few) (All-tail IsServer s rest kept)),
    )

-- a row that is next
comes_next_again : (front rest : List Row) (row : Row) → AllPairs (λ a b. row_before a b ≡ true) (front ++ row ∷ rest) → comes_next front row ≡ true
comes_next_again [] rest row rising = refl
comes_next_again (first ∷ front) rest row rising =
    let all = first ∷ front in
    let more = length-append all (row ∷ rest) in
    let last = length all - 1 in
    let found = slice_get-get_or all last row (omega arith) in
    let before = rising last (length all) row (omega arith) (omega (arith, more)) in
    let left = rw (get_or_append_left all (row ∷ rest) row last (omega arith)) at before in
    let right = rw (get_or-append_seam all row rest row) at left in
    rw found right

row_add : (n : ℕ) (costs : Bool) (version : ℕ) (servers : List PricedServer) (front rest : List Row) (row : Row) → length servers ≤ 128 → Distinct servers → All (λ t. is_name t.server.name ≡ true) servers → IsRow costs servers row → sum_by (λ r. r.count) (front ++ row ∷ rest) ≤ 16777216 → row.kind.cost ≤ 1000 → AllPairs (λ a b. row_before a b ≡ true) (front ++ row ∷ rest) → add_line n (draft_of costs version servers front) (codes "row" ∷ words_of_row costs servers row) ≡ Ok (draft_of costs version servers (front ++ row ∷ []))
unfolding add_line add_row next_row
row_add n costs version servers front rest row few distinct names kept total cheap rising =
    let pins = sum_of front row rest in
    let again = row_again costs servers row few distinct names kept (omega (arith, pins, total)) cheap in
    let fits : leb (sum_by (λ r. r.count) front + row.count) 16777216 ≡ true = (let h = total in grind (arith, nat_tests, pins)) in
    let low : leb row.kind.cost 1000 ≡ true = grind (arith, nat_tests) in
    rw (again, fits, low, comes_next_again front rest row rising) refl

rows_lead : (costs : Bool) (version : ℕ) (servers : List PricedServer) (rest front : List Row) → length servers ≤ 128 → Distinct servers → All (λ t. is_name t.server.name ≡ true) servers → All (λ r. IsRow costs servers r × (r.kind.cost ≤ 1000)) rest → sum_by (λ r. r.count) (front ++ rest) ≤ 16777216 → AllPairs (λ a b. row_before a b ≡ true) (front ++ rest) → Leads plan_format (draft_of costs version servers front) (map (λ r. row_line costs servers r) rest) (draft_of costs version servers (front ++ rest))
unfolding plan_format
rows_lead costs version servers [] front few distinct names kept total rising = ap (λ rs. draft_of costs version servers rs) (sym (append-nil front))
rows_lead costs version servers (row ∷ rest) front few distinct names kept total rising =
    let P : Row → Type 0 = λ r. IsRow costs servers r × (r.kind.cost ≤ 1000) in
    let one = All-head P row rest kept in
    let count : row.count ≤ 16777216 = omega (arith, sum_of front row rest, total) in
    let apart = row_line_apart costs servers row names one.0 count one.1 in
    let again = append_assoc front (row ∷ []) rest in
    let S : List Row → Type 0 = λ rs. sum_by (λ r. r.count) rs ≤ 16777216 in
    let R : List Row → Type 0 = λ rs. AllPairs (λ a b. row_before a b ≡ true) rs in
    let N : List Row → Type 0 = λ rs. Leads plan_format (draft_of costs version servers (front ++ row ∷ [])) (map (λ r. row_line costs servers r) rest) (draft_of costs version servers rs) in (
      row_line_free costs servers row names one.0 count one.1,
      row_line_goes_on costs servers row,
      draft_of costs version servers (front ++ row ∷ []),
      (λ n. rw apart (row_add n costs version servers front rest row few distinct names one.0 total one.1 rising)),
      subst N again (rows_lead costs version servers rest (front ++ row ∷ []) few distinct names (All-tail P row rest kept) (subst S (sym again) total) (subst R (sym again) rising)),
    )

leads_both : (lines more : List (List ℕ)) (a b c : PlanDraft) → Leads plan_format a lines b → Leads plan_format b more c → Leads plan_format a (lines ++ more) c
leads_both [] more a b c first second = let F : PlanDraft → Type 0 = λ d. Leads plan_format d more c in subst F (sym first) second
leads_both (line ∷ lines) more a b c first second = (first.0, first.1, first.2, first.3, leads_both lines more first.2 b c first.4 second)

pub distinct_priced : (servers : List PricedServer) → AllPairs (λ a b. a.name ≢ b.name) (servers_of servers) → Distinct servers
distinct_priced servers distinct i j d before within =
    let own = length-map servers (λ p. p.server) in
    let apart = distinct i j d.server before (omega (arith, within, own)) in
    let left = rw (get_or-map (λ p. p.server) servers i d d.server (omega arith)) at apart in
    rw (get_or-map (λ p. p.server) servers j d d.server within) at left

-- a fact of each server, of each priced server
pub all_priced : (P : Server → Type 0) (servers : List PricedServer) → All P (servers_of servers) → All (λ p. P p.server) servers
all_priced P servers all k d within =
    let own = length-map servers (λ p. p.server) in
    let one = all k d.server (omega (arith, within, own)) in
    rw (get_or-map (λ p. p.server) servers k d d.server within) at one

plain_rows : (rows : List Row) → needs_costs rows ≡ false → All (λ r. r.kind.cost ≡ 1) rows
plain_rows [] plain = All-nil (λ r. r.kind.cost ≡ 1)
plain_rows (row ∷ rows) plain =
    let parts = or_false (not (eqb row.kind.cost 1)) _ plain in
    All-cons (λ r. r.kind.cost ≡ 1) row rows (let h : eqb row.kind.cost 1 ≡ true = not_not _ parts.0 in grind (arith, nat_tests)) (plain_rows rows parts.1)
  where
    or_false : (a b : Bool) → (a || b) ≡ false → (a ≡ false) × (b ≡ false)
    or_false true b is = cc
    or_false false b is = (refl, is)

    not_not : (b : Bool) → not b ≡ false → b ≡ true
    not_not true is = refl
    not_not false is = cc

row_kept : (plan : PlanParts) → IsPlan plan → All (λ r. IsRow (needs_costs plan.rows) plan.servers r × (r.kind.cost ≤ 1000)) plan.rows
row_kept plan kept k d within =
    let own = length-map plan.servers (λ p. p.server) in
    let kind = kept.kinds k d within in
    let to = kept.new_places k d within in (
      record {
        count = kept.counted k d within;
        place = λ s e. (let w = kind.place s e in omega (arith, w, own));
        new_place = λ s e. (let w = to s e in omega (arith, w, own));
        permitted = λ s held. open_is_usable plan.servers s ∙ kind.permitted s held;
        cost = kind.cost_from;
        plain = λ plain. plain_rows plan.rows plain k d within;
      },
      kind.cost_to,
    )

-- the lines of a plan lead to it
plan_leads : (plan : PlanParts) → IsPlan plan → Leads plan_format (draft_of (needs_costs plan.rows) plan.version [] []) (map (λ s. server_line s) plan.servers ++ map (λ r. row_line (needs_costs plan.rows) plan.servers r) plan.rows) (draft_of (needs_costs plan.rows) plan.version plan.servers plan.rows)
plan_leads plan kept =
    let costs = needs_costs plan.rows in
    let own = length-map plan.servers (λ p. p.server) in
    let few : length plan.servers ≤ 128 = omega (arith, kept.servers.few, own) in
    let distinct = distinct_priced plan.servers kept.servers.distinct in
    let names = all_priced (λ t. is_name t.name ≡ true) plan.servers kept.servers.named in
    let each : All IsServer plan.servers = λ k d within. record { name = names k d within; capacity = all_priced (λ t. ForSome t.capacity (λ c. c < 2 ^ 32)) plan.servers kept.servers.capacities k d within; price = kept.prices k d within; off = kept.off_has_no_price k d within } in
    leads_both _ _ _ _ _ (servers_lead costs plan.version plan.servers [] distinct few each)
    (rows_lead costs plan.version plan.servers plan.rows [] few distinct names (row_kept plan kept) kept.total kept.rising)

plan_text : (plan : PlanParts) → spelling plan ≡ text_of_lines ((heading_lines (codes "stickyplan") (needs_costs plan.rows) plan.version ++ (map (λ s. server_line s) plan.servers ++ map (λ r. row_line (needs_costs plan.rows) plan.servers r) plan.rows)) ++ codes "end" ∷ [])
unfolding spelling plan_lines
plan_text plan =
    ap (λ ls. text_of_lines (ls ++ codes "end" ∷ [])) (append_assoc (heading_lines (codes "stickyplan") (needs_costs plan.rows) plan.version) (map (λ s. server_line s) plan.servers) (map (λ r. row_line (needs_costs plan.rows) plan.servers r) plan.rows))

pub ends_again : (b : Bool) → (not b || b) ≡ true
ends_again true = refl
ends_again false = refl

-- each plan's spelling is read as that plan
pub plan_again : (plan : PlanParts) → IsPlan plan → reading plan_format (spelling plan) ≡ Ok (draft_of (needs_costs plan.rows) plan.version plan.servers plan.rows)
unfolding plan_format
plan_again plan kept =
    ap (reading plan_format) (plan_text plan) ∙ text_again plan_format (needs_costs plan.rows) plan.version _ _ (no_mark 10 (codes "stickyplan") refl) (no_mark 32 (codes "stickyplan") refl) kept.version (plan_leads plan kept) (ends_again (needs_costs plan.rows))

-- no spelling of a plan begins another
pub plan_alone : (a b : PlanParts) (rest : List ℕ) → IsPlan a → IsPlan b → spelling b ≡ spelling a ++ rest → (a ≡ b) × (rest ≡ [])
unfolding plan_format
plan_alone a b rest kept_a kept_b begins =
    let alone = text_alone plan_format (needs_costs a.rows) a.version _ _ _ (spelling b) rest (no_mark 10 (codes "stickyplan") refl) (no_mark 32 (codes "stickyplan") refl) kept_a.version (plan_leads a kept_a) (begins ∙ ap (λ t. t ++ rest) (plan_text a)) (plan_again b kept_b) in
    (ap (λ d. d.plan) alone.0, alone.1)

-- what the reader promises, from what the text is read as
pub plan_is_spelled : (text : List ℕ) (r : Result PlanParts ReadError) → Gives (λ p. p) r (plan_of_text text) → IfOk r (λ plan. text ≡ spelling plan)
unfolding plan_of_text
plan_is_spelled text (Err e) gives = tt
plan_is_spelled text (Ok plan) gives =
    let read = bind_ok (reading plan_format text) _ plan gives in
    let same : read.0.plan ≡ plan = (let e = read.2 in cc) in
    let F : PlanParts → Type 0 = λ p. text ≡ spelling p in
    subst F same (plan_found text read.0 read.1).1

pub plan_is_read : (text : List ℕ) (r : Result PlanParts ReadError) → Gives (λ p. p) r (plan_of_text text) → (plan : PlanParts) → IsPlan plan → text ≡ spelling plan → Gives (λ p. p) r (Ok plan)
unfolding plan_of_text
plan_is_read text r gives plan kept is =
    let again : plan_of_text text ≡ Ok plan = ap plan_of_text is ∙ rw (plan_again plan kept) refl in
    let F : Result PlanParts TextFault → Type 0 = λ read. Gives (λ p. p) r read in
    subst F again gives
