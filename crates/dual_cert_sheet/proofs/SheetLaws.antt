-- Texts of sheets are texts of a format: each line that is read adds one line to the spelling, and each sheet's lines lead
-- to the sheet.
use Rattle.std.proofs.Common.{◌≡◌, ◌≢◌, ℕ, ◌+◌, ◌-◌, ◌^◌, ◌<◌, ◌≤◌, Bool, true, false, not, ◌&&◌, ◌||◌, eqb, leb, inl, inr, None, List, [], ◌∷◌, ◌++◌, length, get_or, map, sum_by, codes, Result, Ok, Err, refl, sym, ap, subst, ◌∙◌, arith, append_assoc, length-append}
use Rattle.std.specs.List.{All, AllPairs}
use Rattle.std.specs.Option.{ok_or, ForSome}
use Rattle.std.specs.Result.{IfOk}
use Rattle.std.specs.Str.{bytes_eq}
use Rattle.std.proofs.lemmas.Bool.{cases_lt}
use Rattle.std.proofs.lemmas.Bool.Decides.{nat_tests}
use Rattle.std.proofs.lemmas.List.{append-nil, map_push, length-map, get_or-map, get_or_append_left}
use Rattle.std.proofs.lemmas.List.Elements.{All-nil, All-cons, All-head, All-tail, All-push}
use Rattle.std.proofs.lemmas.List.Folds.{list_any-append}
use Rattle.std.proofs.lemmas.List.Quantifiers.{all_pairs_push}
use Rattle.std.proofs.lemmas.List.Sums.{sum_by_push, sum_by-append}
use Rattle.std.proofs.lemmas.Option.{slice_get-get_or}
use Rattle.std.proofs.Math.Seq.{get_or-append_seam}
use Rattle.lb_types.specs.Names.{is_name}
use Rattle.lb_types_pins.specs.declared.kind.Group.{Group}
use Rattle.lb_types_pins.specs.Kinds.{kind_before}
use Rattle.lb_types_pins.proofs.Order.{kind_before-trans}
use Rattle.lb_types_pins.proofs.Pairs.{AllPairs-nil}
use Rattle.dual_cert_plan.specs.declared.server.Server.{Server}
use Rattle.dual_cert_plan.specs.Plans.{PlanParts}
use Rattle.dual_cert_plan.specs.Sheets.{SheetParts, IsSheet, IsKind, is_usable}
use Rattle.dual_cert_text.specs.declared.fault.TextFault.{TextFault}
use Rattle.dual_cert_text.specs.declared.fault.TextFault.TheVariants.{BadLine}
use Rattle.dual_cert_text.specs.declared.fault.ReadError.{ReadError}
use Rattle.dual_cert_text.specs.Faults.{Gives}
use Rattle.dual_cert_text.specs.RowLines.{is_open}
use Rattle.dual_cert_text.specs.ServerLines.{server_named, server_at}
use Rattle.dual_cert_text.specs.Spellings.{line_of_words, text_of_lines, heading_lines, plan_lines, spelling}
use Rattle.dual_cert_text.specs.Texts.{reading}
use Rattle.dual_cert_text.proofs.PlanLaws.{distinct_priced, all_priced, ends_alike, ends_again}
use Rattle.dual_cert_text.proofs.RowTexts.{open_is_usable}
use Rattle.dual_cert_text.proofs.ServerTexts.{Distinct, nobody, named_none, named_none_again}
use Rattle.dual_cert_text.proofs.Steps.{and_true, bind_ok, ok_or_ok, unless_err, if_err, either, bytes_is}
use Rattle.dual_cert_text.proofs.WholeTexts.{Builds, Leads, no_mark, text_found, text_again, text_alone}
use Rattle.dual_cert_sheet.specs.declared.group_line.GroupWords.{GroupWords}
use Rattle.dual_cert_sheet.specs.GroupLines.{group_words_of}
use Rattle.dual_cert_sheet.specs.SheetSpellings.{room_words, sheet_server_line, group_line, sheet_lines, sheet_spelling}
use Rattle.dual_cert_sheet.specs.SheetTexts.{SheetDraft, draft_of, with_server, with_group, free_server, at_no_price, add_server, group_of, comes_next, next_group, add_group, add_line, needs_costs, sheet_format, sheet_of_text}
use Rattle.dual_cert_sheet.proofs.GroupTexts.{IsGroup, words_of_group, group_found, group_again, group_line_apart, group_line_free, group_line_goes_on}
use Rattle.dual_cert_sheet.proofs.RoomTexts.{IsRoomLine, same_servers, server_found, server_again, server_line_apart, server_line_free, server_line_goes_on}

-- what a draft of a sheet keeps
record Keeps (draft : SheetDraft) : Type 0 where
  lawful : IsSheet draft.sheet
  plain : draft.has_costs ≡ false → needs_costs draft.sheet.groups ≡ false

-- the lines of a draft
abbrev draft_lines : SheetDraft → List (List ℕ)
draft_lines draft = sheet_lines draft.has_costs draft.sheet

no_groups : (groups : List Group) → eqb (length groups) 0 ≡ true → groups ≡ []
no_groups [] is = refl
no_groups (g ∷ groups) is = absurd (let z : eqb (length (g ∷ groups)) 0 ≡ false = grind (arith, nat_tests) in let e : true ≡ false = sym is ∙ z in cc)

-- the sheet of which no server was read
empty_lawful : (version : ℕ) → version ≤ 2 ^ 63 → IsSheet (record { version = version; servers = []; groups = [] })
empty_lawful version small =
    record {
      version = small;
      servers = record { few = omega arith; named = All-nil (λ s. is_name s.name ≡ true); distinct = AllPairs-nil (λ a b. a.name ≢ b.name); capacities = All-nil (λ s. ForSome s.capacity (λ c. c < 2 ^ 32)) };
      kinds = All-nil (λ g. IsKind [] g.kind);
      counted = All-nil (λ g. 1 ≤ g.count);
      total = omega arith;
      rising = AllPairs-nil (λ a b. kind_before a.kind b.kind ≡ true);
    }

starts : (is_second : Bool) (version : ℕ) → version ≤ 2 ^ 63 → Keeps (sheet_format.start is_second version) × (draft_lines (sheet_format.start is_second version) ≡ heading_lines sheet_format.word is_second version)
unfolding sheet_format sheet_lines
starts is_second version small = (
  record { lawful = empty_lawful version small; plain = λ _. refl },
  append-nil (heading_lines (codes "stickysheet") is_second version ++ []) ∙ append-nil (heading_lines (codes "stickysheet") is_second version),
)

-- names of the servers of a sheet
named_apart : (servers : List Server) (word : List ℕ) → server_named (at_no_price servers) word ≡ None → (k : ℕ) (d : Server) → k < length servers → (get_or servers k d).name ≢ word
named_apart servers word none k d within =
    let free = at_no_price servers in
    let in' : k < length free = omega (arith, within, length-map servers (λ s. free_server s)) in
    let apart = named_none free word none k (free_server d) in' in
    rw (get_or-map (λ s. free_server s) servers k d (free_server d) within) at apart

-- a server more
server_lawful : (sheet : SheetParts) (words : List (List ℕ)) (s : Server) → IsSheet sheet → sheet.groups ≡ [] → IsRoomLine (at_no_price sheet.servers) words s → IsSheet (record sheet { servers = sheet.servers ++ s ∷ [] })
server_lawful sheet words s kept none line =
    record {
      version = kept.version;
      servers = record {
        few = omega (arith, line.few, length-append sheet.servers (s ∷ []), length-map sheet.servers (λ t. free_server t));
        named = All-push (λ t. is_name t.name ≡ true) sheet.servers s kept.servers.named line.name;
        distinct = all_pairs_push (λ a b. a.name ≢ b.name) sheet.servers s kept.servers.distinct (λ k d within. named_apart sheet.servers s.name line.new k d within);
        capacities = All-push (λ t. ForSome t.capacity (λ c. c < 2 ^ 32)) sheet.servers s kept.servers.capacities line.capacity;
      };
      kinds = rw none (All-nil (λ g. IsKind (sheet.servers ++ s ∷ []) g.kind));
      counted = kept.counted;
      total = kept.total;
      rising = kept.rising;
    }

server_lines : (has_costs : Bool) (version : ℕ) (servers : List Server) (s : Server) → sheet_lines has_costs (record { version = version; servers = servers ++ s ∷ []; groups = [] }) ≡ sheet_lines has_costs (record { version = version; servers = servers; groups = [] }) ++ sheet_server_line s ∷ []
unfolding sheet_lines
server_lines has_costs version servers s =
    let head = heading_lines (codes "stickysheet") has_costs version in
    let mapped = map_push (λ t. sheet_server_line t) servers s in
    append-nil (head ++ map (λ t. sheet_server_line t) (servers ++ s ∷ []))
    ∙ ap (λ ls. head ++ ls) mapped
    ∙ sym (append_assoc head (map (λ t. sheet_server_line t) servers) (sheet_server_line s ∷ []))
    ∙ ap (λ ls. ls ++ sheet_server_line s ∷ []) (sym (append-nil (head ++ map (λ t. sheet_server_line t) servers)))

group_lines : (has_costs : Bool) (sheet : SheetParts) (group : Group) → sheet_lines has_costs (record sheet { groups = sheet.groups ++ group ∷ [] }) ≡ sheet_lines has_costs sheet ++ group_line has_costs sheet.servers group ∷ []
unfolding sheet_lines
group_lines has_costs sheet group =
    let front = heading_lines (codes "stickysheet") has_costs sheet.version ++ map (λ t. sheet_server_line t) sheet.servers in
    ap (λ ls. front ++ ls) (map_push (λ g. group_line has_costs sheet.servers g) sheet.groups group)
    ∙ sym (append_assoc front (map (λ g. group_line has_costs sheet.servers g) sheet.groups) (group_line has_costs sheet.servers group ∷ []))

server_words_line : (words : List (List ℕ)) (s : Server) → words ≡ s.name ∷ room_words s.capacity → line_of_words (codes "server" ∷ words) ≡ sheet_server_line s
unfolding sheet_server_line
server_words_line words s spelled = ap (λ ws. line_of_words (codes "server" ∷ ws)) spelled

group_words_line : (has_costs : Bool) (servers : List Server) (words : List (List ℕ)) (group : Group) → words ≡ words_of_group has_costs (at_no_price servers) group → line_of_words (codes "group" ∷ words) ≡ group_line has_costs servers group
unfolding group_line
group_words_line has_costs servers words group spelled = ap (λ ws. line_of_words (codes "group" ∷ ws)) spelled

server_added : (n : ℕ) (draft next : SheetDraft) (words : List (List ℕ)) → Keeps draft → add_server n draft words ≡ Ok next → Keeps next × (draft_lines next ≡ draft_lines draft ++ line_of_words (codes "server" ∷ words) ∷ [])
unfolding add_server
server_added n draft next words keeps is =
    let due = if_err (eqb (length draft.sheet.groups) 0) _ _ _ is in
    let read = bind_ok (server_at n false (at_no_price draft.sheet.servers) words) _ next due.1 in
    let none = no_groups draft.sheet.groups due.0 in
    let s = read.0.server in
    let line = (server_found n (at_no_price draft.sheet.servers) words read.0 read.1).0 in
    let same : with_server draft s ≡ next = (let e = read.2 in cc) in
    let F : SheetDraft → Type 0 = λ d. Keeps d × (draft_lines d ≡ draft_lines draft ++ line_of_words (codes "server" ∷ words) ∷ []) in
    let G : List Group → Type 0 = λ groups. sheet_lines draft.has_costs (record { version = draft.sheet.version; servers = draft.sheet.servers ++ s ∷ []; groups = groups }) ≡ sheet_lines draft.has_costs (record { version = draft.sheet.version; servers = draft.sheet.servers; groups = groups }) ++ line_of_words (codes "server" ∷ words) ∷ [] in
    subst F same (
      record { lawful = server_lawful draft.sheet words s keeps.lawful none line; plain = keeps.plain },
      subst G (sym none) (rw (server_words_line words s line.spelled) (server_lines draft.has_costs draft.sheet.version draft.sheet.servers s)),
    )

-- a group more
last_before : (groups : List Group) (group : Group) → AllPairs (λ a b. kind_before a.kind b.kind ≡ true) groups → comes_next groups group ≡ true → (k : ℕ) (d : Group) → k < length groups → kind_before (get_or groups k d).kind group.kind ≡ true
last_before groups group rising next k d within =
    let last = get_or groups (length groups - 1) d in
    let found = slice_get-get_or groups (length groups - 1) d (omega arith) in
    let before : kind_before last.kind group.kind ≡ true = rw found at next in
    elim (cases_lt k (length groups - 1)) [
      | inl earlier ↦ kind_before-trans (get_or groups k d).kind last.kind group.kind (rising k (length groups - 1) d earlier (omega arith)) before
      | inr at ↦ let same : k ≡ length groups - 1 = omega arith in rw same before
    ]

-- open at no price is usable
open_is_free : (servers : List Server) (s : ℕ) → is_open (at_no_price servers) s ≡ is_usable servers s
open_is_free servers s = open_is_usable (at_no_price servers) s ∙ ap (λ all. is_usable all s) (same_servers servers)

group_lawful : (has_costs : Bool) (sheet : SheetParts) (group : Group) → IsSheet sheet → IsGroup has_costs (at_no_price sheet.servers) group → sum_by (λ g. g.count) sheet.groups + group.count ≤ 16777216 → group.kind.cost ≤ 1000 → comes_next sheet.groups group ≡ true → IsSheet (record sheet { groups = sheet.groups ++ group ∷ [] })
group_lawful has_costs sheet group kept line fits cheap next =
    let own = length-map sheet.servers (λ t. free_server t) in
    record {
      version = kept.version;
      servers = kept.servers;
      kinds = All-push (λ g. IsKind sheet.servers g.kind) sheet.groups group kept.kinds (record {
        place = λ s e. (let w = line.place s e in omega (arith, w, own));
        permitted = λ s held. sym (open_is_free sheet.servers s) ∙ line.permitted s held;
        cost_from = line.cost;
        cost_to = cheap;
      });
      counted = All-push (λ g. 1 ≤ g.count) sheet.groups group kept.counted line.count;
      total = omega (arith, fits, sum_by_push (λ g. g.count) sheet.groups group);
      rising = all_pairs_push (λ a b. kind_before a.kind b.kind ≡ true) sheet.groups group kept.rising (λ k d within. last_before sheet.groups group kept.rising next k d within);
    }

plain_more : (groups : List Group) (group : Group) → needs_costs groups ≡ false → group.kind.cost ≡ 1 → needs_costs (groups ++ group ∷ []) ≡ false
plain_more groups group plain one =
    let z : eqb group.kind.cost 1 ≡ true = grind (arith, nat_tests) in
    list_any-append (λ g. not (eqb g.kind.cost 1)) groups (group ∷ []) ∙ rw (plain, z) refl

group_next : (groups : List Group) (pins : ℕ) (said : GroupWords) (group : Group) → next_group groups pins said ≡ Ok group → (group_of said ≡ group) × (said.permitted.is_rising ≡ true) × (comes_next groups (group_of said) ≡ true) × (pins + said.count ≤ 16777216) × (said.cost ≤ 1000)
unfolding next_group
group_next groups pins said group is =
    let fits = unless_err (not (leb (pins + said.count) 16777216 && leb said.cost 1000)) _ _ _ is in
    let order = if_err (said.permitted.is_rising && comes_next groups (group_of said)) _ _ _ fits.1 in
    let both = and_true said.permitted.is_rising (comes_next groups (group_of said)) order.0 in
    let ranges = and_true (leb (pins + said.count) 16777216) (leb said.cost 1000) (not_false _ fits.0) in
    ((let e = order.1 in cc), both.0, both.1, (let h = ranges.0 in grind (arith, nat_tests)), (let h = ranges.1 in grind (arith, nat_tests)))
  where
    not_false : (b : Bool) → not b ≡ false → b ≡ true
    not_false true is' = refl
    not_false false is' = cc

group_added : (n : ℕ) (draft next : SheetDraft) (words : List (List ℕ)) → Keeps draft → add_group n draft words ≡ Ok next → Keeps next × (draft_lines next ≡ draft_lines draft ++ line_of_words (codes "group" ∷ words) ∷ [])
unfolding add_group
group_added n draft next words keeps is =
    let servers = at_no_price draft.sheet.servers in
    let pins = sum_by (λ g. g.count) draft.sheet.groups in
    let said = bind_ok (ok_or (group_words_of draft.has_costs servers words) (BadLine n)) _ next is in
    let read = bind_ok (next_group draft.sheet.groups pins said.0) _ next said.2 in
    let due = group_next draft.sheet.groups pins said.0 read.0 read.1 in
    let few : length servers ≤ 128 = omega (arith, keeps.lawful.servers.few, length-map draft.sheet.servers (λ t. free_server t)) in
    let line = group_found draft.has_costs servers words said.0 few (ok_or_ok _ _ _ said.1) due.1 (omega (arith, due.3)) due.4 in
    let group = group_of said.0 in
    let made : with_group draft group ≡ next = ap (λ g. with_group draft g) due.0 ∙ (let e = read.2 in cc) in
    let F : SheetDraft → Type 0 = λ d. Keeps d × (draft_lines d ≡ draft_lines draft ++ line_of_words (codes "group" ∷ words) ∷ []) in
    subst F made (
      record { lawful = group_lawful draft.has_costs draft.sheet group keeps.lawful line.0 due.3 due.4 due.2; plain = λ off. plain_more draft.sheet.groups group (keeps.plain off) (line.0.plain off) },
      rw (group_words_line draft.has_costs draft.sheet.servers words group line.1) (group_lines draft.has_costs draft.sheet group),
    )

line_added : (n : ℕ) (draft next : SheetDraft) (words : List (List ℕ)) → Keeps draft → add_line n draft words ≡ Ok next → Keeps next × (draft_lines next ≡ draft_lines draft ++ line_of_words words ∷ [])
unfolding add_line
line_added n draft next [] keeps is = absurd (let e : Err (BadLine n) ≡ Ok next = is in cc)
line_added n draft next (word ∷ words) keeps is =
    let F : List ℕ → Type 0 = λ w. Keeps next × (draft_lines next ≡ draft_lines draft ++ line_of_words (w ∷ words) ∷ []) in
    elim (either (bytes_eq word (codes "server")) _ _ _ is) [
      | inl server ↦ subst F (sym (bytes_is word (codes "server") server.0)) (server_added n draft next words keeps server.1)
      | inr other ↦
          let group = if_err (bytes_eq word (codes "group")) _ _ _ other.1 in
          subst F (sym (bytes_is word (codes "group") group.0)) (group_added n draft next words keeps group.1)
    ]

sheet_builds : Builds sheet_format Keeps draft_lines
unfolding sheet_format
sheet_builds = record { starts = starts; adds = line_added }

-- what is read is a sheet, and spelled so
pub sheet_found : (text : List ℕ) (draft : SheetDraft) → reading sheet_format text ≡ Ok draft → IsSheet draft.sheet × (text ≡ sheet_spelling draft.sheet)
unfolding sheet_format sheet_spelling
sheet_found text draft is =
    let found = text_found sheet_format Keeps draft_lines sheet_builds text draft is in
    let alike = ends_alike draft.has_costs (needs_costs draft.sheet.groups) found.1 found.0.plain in
    let F : Bool → Type 0 = λ costs. text ≡ text_of_lines (sheet_lines costs draft.sheet ++ codes "end" ∷ []) in
    (found.0.lawful, subst F alike found.2)

sum_of : (front : List Group) (group : Group) (rest : List Group) → sum_by (λ g. g.count) front + group.count ≤ sum_by (λ g. g.count) (front ++ group ∷ rest)
sum_of front group rest =
    omega (arith, sum_by-append (λ g. g.count) (front ++ group ∷ []) rest, sum_by_push (λ g. g.count) front group, ap (sum_by (λ g. g.count)) (append_assoc front (group ∷ []) rest))

-- a server of a sheet
record IsServer (s : Server) : Type 0 where
  name : is_name s.name ≡ true
  capacity : ForSome s.capacity (λ c. c < 2 ^ 32)

server_line_at : (front rest : List Server) (s : Server) → AllPairs (λ a b. a.name ≢ b.name) (front ++ s ∷ rest) → length (front ++ s ∷ rest) ≤ 128 → IsServer s → IsRoomLine (at_no_price front) (s.name ∷ room_words s.capacity) s
server_line_at front rest s distinct few kept =
    let more = length-append front (s ∷ rest) in
    let own = length-map front (λ t. free_server t) in
    record {
      few = omega (arith, few, more, own);
      name = kept.name;
      new = named_none_again (at_no_price front) s.name (λ k within.
          let in' : k < length front = omega (arith, within, own) in
          let apart = distinct k (length front) s in' (omega (arith, more)) in
          let F : Server → Server → Type 0 = λ a b. a.name ≢ b.name in
          let left : F (get_or front k s) (get_or (front ++ s ∷ rest) (length front) s) = rw (get_or_append_left front (s ∷ rest) s k in') at apart in
          let right : F (get_or front k s) s = rw (get_or-append_seam front s rest s) at left in
          rw (get_or-map (λ t. free_server t) front k s nobody in') right);
      capacity = kept.capacity;
      spelled = refl;
    }

server_add : (n : ℕ) (costs : Bool) (version : ℕ) (front : List Server) (s : Server) → IsRoomLine (at_no_price front) (s.name ∷ room_words s.capacity) s → add_line n (draft_of costs version front []) (codes "server" ∷ s.name ∷ room_words s.capacity) ≡ Ok (draft_of costs version (front ++ s ∷ []) [])
unfolding add_line add_server
server_add n costs version front s line = rw (server_again n (at_no_price front) s line) refl

servers_lead : (costs : Bool) (version : ℕ) (rest front : List Server) → AllPairs (λ a b. a.name ≢ b.name) (front ++ rest) → length (front ++ rest) ≤ 128 → All IsServer rest → Leads sheet_format (draft_of costs version front []) (map (λ s. sheet_server_line s) rest) (draft_of costs version (front ++ rest) [])
unfolding sheet_format
servers_lead costs version [] front distinct few kept = ap (λ ss. draft_of costs version ss []) (sym (append-nil front))
servers_lead costs version (s ∷ rest) front distinct few kept =
    let one = All-head IsServer s rest kept in
    let line = server_line_at front rest s distinct few one in
    let apart = server_line_apart s one.name one.capacity in
    let again = append_assoc front (s ∷ []) rest in
    let D : List Server → Type 0 = λ ss. AllPairs (λ a b. a.name ≢ b.name) ss in
    let L : List Server → Type 0 = λ ss. length ss ≤ 128 in
    let N : List Server → Type 0 = λ ss. Leads sheet_format (draft_of costs version (front ++ s ∷ []) []) (map (λ t. sheet_server_line t) rest) (draft_of costs version ss []) in (
      server_line_free s one.name one.capacity,
      server_line_goes_on s,
      draft_of costs version (front ++ s ∷ []) [],
      (λ n. rw apart (server_add n costs version front s line)),
      subst N again (servers_lead costs version rest (front ++ s ∷ []) (subst D (sym again) distinct) (subst L (sym again) few) (All-tail IsServer s rest kept)),
    )

-- a group that is next
comes_next_again : (front rest : List Group) (group : Group) → AllPairs (λ a b. kind_before a.kind b.kind ≡ true) (front ++ group ∷ rest) → comes_next front group ≡ true
comes_next_again [] rest group rising = refl
comes_next_again (first ∷ front) rest group rising =
    let all = first ∷ front in
    let more = length-append all (group ∷ rest) in
    let last = length all - 1 in
    let found = slice_get-get_or all last group (omega arith) in
    let before = rising last (length all) group (omega arith) (omega (arith, more)) in
    let left = rw (get_or_append_left all (group ∷ rest) group last (omega arith)) at before in
    let right = rw (get_or-append_seam all group rest group) at left in
    rw found right

-- the servers of a sheet, as groups are read with them
record AreFree (servers : List Server) : Type 0 where
  few : length (at_no_price servers) ≤ 128
  distinct : Distinct (at_no_price servers)
  names : All (λ t. is_name t.server.name ≡ true) (at_no_price servers)

group_add : (n : ℕ) (costs : Bool) (version : ℕ) (servers : List Server) (front rest : List Group) (group : Group) → AreFree servers → IsGroup costs (at_no_price servers) group → sum_by (λ g. g.count) (front ++ group ∷ rest) ≤ 16777216 → group.kind.cost ≤ 1000 → AllPairs (λ a b. kind_before a.kind b.kind ≡ true) (front ++ group ∷ rest) → add_line n (draft_of costs version servers front) (codes "group" ∷ words_of_group costs (at_no_price servers) group) ≡ Ok (draft_of costs version servers (front ++ group ∷ []))
unfolding add_line add_group next_group
group_add n costs version servers front rest group free kept total cheap rising =
    let pins = sum_of front group rest in
    let again = group_again costs (at_no_price servers) group free.few free.distinct free.names kept (omega (arith, pins, total)) cheap in
    let fits : leb (sum_by (λ g. g.count) front + group.count) 16777216 ≡ true = (let h = total in grind (arith, nat_tests, pins)) in
    let low : leb group.kind.cost 1000 ≡ true = grind (arith, nat_tests) in
    rw (again, fits, low, comes_next_again front rest group rising) refl

groups_lead : (costs : Bool) (version : ℕ) (servers : List Server) (rest front : List Group) → AreFree servers → All (λ g. IsGroup costs (at_no_price servers) g × (g.kind.cost ≤ 1000)) rest → sum_by (λ g. g.count) (front ++ rest) ≤ 16777216 → AllPairs (λ a b. kind_before a.kind b.kind ≡ true) (front ++ rest) → Leads sheet_format (draft_of costs version servers front) (map (λ g. group_line costs servers g) rest) (draft_of costs version servers (front ++ rest))
unfolding sheet_format
groups_lead costs version servers [] front free kept total rising = ap (λ gs. draft_of costs version servers gs) (sym (append-nil front))
groups_lead costs version servers (group ∷ rest) front free kept total rising =
    let P : Group → Type 0 = λ g. IsGroup costs (at_no_price servers) g × (g.kind.cost ≤ 1000) in
    let one = All-head P group rest kept in
    let count : group.count ≤ 16777216 = omega (arith, sum_of front group rest, total) in
    let apart = group_line_apart costs servers group free.names one.0 count one.1 in
    let again = append_assoc front (group ∷ []) rest in
    let S : List Group → Type 0 = λ gs. sum_by (λ g. g.count) gs ≤ 16777216 in
    let R : List Group → Type 0 = λ gs. AllPairs (λ a b. kind_before a.kind b.kind ≡ true) gs in
    let N : List Group → Type 0 = λ gs. Leads sheet_format (draft_of costs version servers (front ++ group ∷ [])) (map (λ g. group_line costs servers g) rest) (draft_of costs version servers gs) in (
      group_line_free costs servers group free.names one.0 count one.1,
      group_line_goes_on costs servers group,
      draft_of costs version servers (front ++ group ∷ []),
      (λ n. rw apart (group_add n costs version servers front rest group free one.0 total one.1 rising)),
      subst N again (groups_lead costs version servers rest (front ++ group ∷ []) free (All-tail P group rest kept) (subst S (sym again) total) (subst R (sym again) rising)),
    )

leads_both : (lines more : List (List ℕ)) (a b c : SheetDraft) → Leads sheet_format a lines b → Leads sheet_format b more c → Leads sheet_format a (lines ++ more) c
leads_both [] more a b c first second = let F : SheetDraft → Type 0 = λ d. Leads sheet_format d more c in subst F (sym first) second
leads_both (line ∷ lines) more a b c first second = (first.0, first.1, first.2, first.3, leads_both lines more first.2 b c first.4 second)

plain_groups : (groups : List Group) → needs_costs groups ≡ false → All (λ g. g.kind.cost ≡ 1) groups
plain_groups [] plain = All-nil (λ g. g.kind.cost ≡ 1)
plain_groups (group ∷ groups) plain =
    let parts = or_false (not (eqb group.kind.cost 1)) _ plain in
    All-cons (λ g. g.kind.cost ≡ 1) group groups (let h : eqb group.kind.cost 1 ≡ true = not_not _ parts.0 in grind (arith, nat_tests)) (plain_groups groups parts.1)
  where
    or_false : (a b : Bool) → (a || b) ≡ false → (a ≡ false) × (b ≡ false)
    or_false true b is = cc
    or_false false b is = (refl, is)

    not_not : (b : Bool) → not b ≡ false → b ≡ true
    not_not true is = refl
    not_not false is = cc

group_kept : (sheet : SheetParts) → IsSheet sheet → All (λ g. IsGroup (needs_costs sheet.groups) (at_no_price sheet.servers) g × (g.kind.cost ≤ 1000)) sheet.groups
group_kept sheet kept k d within =
    let own = length-map sheet.servers (λ t. free_server t) in
    let kind = kept.kinds k d within in (
      record {
        count = kept.counted k d within;
        place = λ s e. (let w = kind.place s e in omega (arith, w, own));
        permitted = λ s held. open_is_free sheet.servers s ∙ kind.permitted s held;
        cost = kind.cost_from;
        plain = λ plain. plain_groups sheet.groups plain k d within;
      },
      kind.cost_to,
    )

free_of : (sheet : SheetParts) → IsSheet sheet → AreFree sheet.servers
free_of sheet kept =
    let own = length-map sheet.servers (λ t. free_server t) in
    let same = sym (same_servers sheet.servers) in
    let D : List Server → Type 0 = λ ss. AllPairs (λ a b. a.name ≢ b.name) ss in
    let N : List Server → Type 0 = λ ss. All (λ s. is_name s.name ≡ true) ss in
    record {
      few = omega (arith, kept.servers.few, own);
      distinct = distinct_priced (at_no_price sheet.servers) (subst D same kept.servers.distinct);
      names = all_priced (λ s. is_name s.name ≡ true) (at_no_price sheet.servers) (subst N same kept.servers.named);
    }

-- the lines of a sheet lead to it
sheet_leads : (sheet : SheetParts) → IsSheet sheet → Leads sheet_format (draft_of (needs_costs sheet.groups) sheet.version [] []) (map (λ s. sheet_server_line s) sheet.servers ++ map (λ g. group_line (needs_costs sheet.groups) sheet.servers g) sheet.groups) (draft_of (needs_costs sheet.groups) sheet.version sheet.servers sheet.groups)
sheet_leads sheet kept =
    let costs = needs_costs sheet.groups in
    let each : All IsServer sheet.servers = λ k d within. record { name = kept.servers.named k d within; capacity = kept.servers.capacities k d within } in
    leads_both _ _ _ _ _ (servers_lead costs sheet.version sheet.servers [] kept.servers.distinct kept.servers.few each)
    (groups_lead costs sheet.version sheet.servers sheet.groups [] (free_of sheet kept) (group_kept sheet kept) kept.total kept.rising)

sheet_text : (sheet : SheetParts) → sheet_spelling sheet ≡ text_of_lines ((heading_lines (codes "stickysheet") (needs_costs sheet.groups) sheet.version ++ (map (λ s. sheet_server_line s) sheet.servers ++ map (λ g. group_line (needs_costs sheet.groups) sheet.servers g) sheet.groups)) ++ codes "end" ∷ [])
unfolding sheet_spelling sheet_lines
sheet_text sheet =
    ap (λ ls. text_of_lines (ls ++ codes "end" ∷ [])) (append_assoc (heading_lines (codes "stickysheet") (needs_costs sheet.groups) sheet.version) (map (λ s. sheet_server_line s) sheet.servers) (map (λ g. group_line (needs_costs sheet.groups) sheet.servers g) sheet.groups))

-- each sheet's spelling is read as that sheet
pub sheet_again : (sheet : SheetParts) → IsSheet sheet → reading sheet_format (sheet_spelling sheet) ≡ Ok (draft_of (needs_costs sheet.groups) sheet.version sheet.servers sheet.groups)
unfolding sheet_format
sheet_again sheet kept =
    ap (reading sheet_format) (sheet_text sheet) ∙ text_again sheet_format (needs_costs sheet.groups) sheet.version _ _ (no_mark 10 (codes "stickysheet") refl) (no_mark 32 (codes "stickysheet") refl) kept.version (sheet_leads sheet kept) (ends_again (needs_costs sheet.groups))

-- no spelling of a sheet begins another
pub sheet_alone : (a b : SheetParts) (rest : List ℕ) → IsSheet a → IsSheet b → sheet_spelling b ≡ sheet_spelling a ++ rest → (a ≡ b) × (rest ≡ [])
unfolding sheet_format
sheet_alone a b rest kept_a kept_b begins =
    let alone = text_alone sheet_format (needs_costs a.groups) a.version _ _ _ (sheet_spelling b) rest (no_mark 10 (codes "stickysheet") refl) (no_mark 32 (codes "stickysheet") refl) kept_a.version (sheet_leads a kept_a) (begins ∙ ap (λ t. t ++ rest) (sheet_text a)) (sheet_again b kept_b) in
    (ap (λ d. d.sheet) alone.0, alone.1)

-- the seventh byte of a sheet's text is `s`, and that of a plan's is `p`
seventh_of_sheet : (sheet : SheetParts) (rest : List ℕ) → get_or (sheet_spelling sheet ++ rest) 6 0 ≡ 115
unfolding sheet_spelling sheet_lines heading_lines text_of_lines
seventh_of_sheet sheet rest = refl

seventh_of_plan : (plan : PlanParts) (rest : List ℕ) → get_or (spelling plan ++ rest) 6 0 ≡ 112
unfolding spelling plan_lines heading_lines text_of_lines
seventh_of_plan plan rest = refl

pub no_sheet_is_a_plan : (sheet : SheetParts) (plan : PlanParts) (rest more : List ℕ) → sheet_spelling sheet ++ rest ≢ spelling plan ++ more
no_sheet_is_a_plan sheet plan rest more same =
    let byte : 115 ≡ 112 = sym (seventh_of_sheet sheet rest) ∙ ap (λ text. get_or text 6 0) same ∙ seventh_of_plan plan more in
    omega (arith, byte)

-- what the reader promises, from what the text is read as
pub sheet_is_spelled : (text : List ℕ) (r : Result SheetParts ReadError) → Gives (λ s. s) r (sheet_of_text text) → IfOk r (λ sheet. text ≡ sheet_spelling sheet)
unfolding sheet_of_text
sheet_is_spelled text (Err e) gives = tt
sheet_is_spelled text (Ok sheet) gives =
    let read = bind_ok (reading sheet_format text) _ sheet gives in
    let same : read.0.sheet ≡ sheet = (let e = read.2 in cc) in
    let F : SheetParts → Type 0 = λ s. text ≡ sheet_spelling s in
    subst F same (sheet_found text read.0 read.1).1

pub sheet_is_read : (text : List ℕ) (r : Result SheetParts ReadError) → Gives (λ s. s) r (sheet_of_text text) → (sheet : SheetParts) → IsSheet sheet → text ≡ sheet_spelling sheet → Gives (λ s. s) r (Ok sheet)
unfolding sheet_of_text
sheet_is_read text r gives sheet kept is =
    let again : sheet_of_text text ≡ Ok sheet = ap sheet_of_text is ∙ rw (sheet_again sheet kept) refl in
    let F : Result SheetParts TextFault → Type 0 = λ read. Gives (λ s. s) r read in
    subst F again gives
