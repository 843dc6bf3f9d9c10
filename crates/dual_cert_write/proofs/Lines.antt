-- Texts of lines.
use Rattle.std.proofs.Common.{◌≡◌, ℕ, Bool, true, false, List, [], ◌∷◌, ◌++◌, ◌+◌, ◌<◌, ◌≤◌, inl, inr, length, take, get_or, map, codes, refl, sym, ap, ◌∙◌, arith, append_assoc, append-nil}
use Rattle.std.proofs.lemmas.Bool.{cases_lt}
use Rattle.std.proofs.lemmas.List.{length-map, map_more}
use Rattle.std.proofs.lemmas.Option.{slice_get_past}
use Rattle.std.specs.Fmt.{decimal}
use Rattle.std.specs.List.{All}
use Rattle.lb_types_pins.specs.declared.kind.PinKind.{PinKind}
use Rattle.lb_types_pins.specs.declared.kind.Row.{Row}
use Rattle.dual_cert_plan.specs.declared.server.PricedServer.{PricedServer}
use Rattle.dual_cert_plan.specs.declared.server.Server.{Server}
use Rattle.dual_cert_plan.specs.Plans.{PlanParts, IsPlan, servers_of}
use Rattle.dual_cert_plan.specs.Sheets.{is_usable}
use Rattle.dual_cert_text.specs.PlanTexts.{needs_costs}
use Rattle.dual_cert_text.specs.Spellings.{line_of_words, text_of_lines, heading_lines, place_word, set_word, server_line, row_line, plan_lines, spelling}
use Rattle.dual_cert_write.proofs.Joins.{join-append}
use Rattle.dual_cert_write.specs.Sending.{cost_words, cost_text, line_end, HasListedSet}

-- the text of two lines
pub text_of_two : (first second : List ℕ) → text_of_lines (first ∷ second ∷ []) ≡ (first ++ 10 ∷ []) ++ (second ++ 10 ∷ [])
unfolding text_of_lines
text_of_two first second = ap (λ l. (first ++ 10 ∷ []) ++ l) (append-nil (second ++ 10 ∷ []))

-- a word, and the cost behind it
pub line-costs : (word : List ℕ) (has_costs : Bool) (cost : ℕ) → line_of_words (word ∷ cost_words has_costs cost) ≡ word ++ cost_text has_costs cost
line-costs word true cost = refl
line-costs word false cost = sym (append-nil word)

-- the end of a line in its parts
pub line_end_parts : (has_costs : Bool) (servers : List PricedServer) (kind : PinKind) → line_end has_costs servers kind ≡ ((32 ∷ [] ++ set_word servers kind.permitted) ++ cost_text has_costs kind.cost) ++ 10 ∷ []
unfolding line_end
line_end_parts has_costs servers kind = ap (λ l. 32 ∷ (l ++ 10 ∷ [])) (line-costs (set_word servers kind.permitted) has_costs kind.cost)

-- lines behind other lines
pub text-append : (lines more : List (List ℕ)) → text_of_lines (lines ++ more) ≡ text_of_lines lines ++ text_of_lines more
unfolding text_of_lines
text-append [] more = refl
text-append (line ∷ lines) more = ap (λ l. (line ++ 10 ∷ []) ++ l) (text-append lines more) ∙ sym (append_assoc (line ++ 10 ∷ []) (text_of_lines lines) (text_of_lines more))

pub text-one : (line : List ℕ) → text_of_lines (line ∷ []) ≡ line ++ 10 ∷ []
unfolding text_of_lines
text-one line = append-nil (line ++ 10 ∷ [])

pub text-nil : text_of_lines [] ≡ []
unfolding text_of_lines
text-nil = refl

-- a line more behind the first ones of some lines
pub text-more : {A : Type 0} (line_of : A → List ℕ) (xs : List A) (i : ℕ) (d : A) → i < length xs → text_of_lines (map line_of (take (i + 1) xs)) ≡ text_of_lines (map line_of (take i xs)) ++ (line_of (get_or xs i d) ++ 10 ∷ [])
text-more line_of xs i d within =
    let lines = map line_of (take i xs) in
    let last = line_of (get_or xs i d) in
    ap text_of_lines (map_more line_of xs i d within) ∙ text-append lines (last ∷ []) ∙ ap (λ t. text_of_lines lines ++ t) (text-one last)

-- the line of a row in its parts
pub row_line_parts : (has_costs : Bool) (servers : List PricedServer) (row : Row) → row_line has_costs servers row ++ 10 ∷ [] ≡ line_of_words (codes "row" ∷ decimal row.count ∷ place_word servers row.kind.place ∷ place_word servers row.new_place ∷ []) ++ line_end has_costs servers row.kind
unfolding row_line line_end
row_line_parts has_costs servers row =
    let front = codes "row" ∷ decimal row.count ∷ place_word servers row.kind.place ∷ place_word servers row.new_place ∷ [] in
    let behind = set_word servers row.kind.permitted ∷ cost_words has_costs row.kind.cost in
    ap (λ l. l ++ 10 ∷ []) (join-append 32 front behind (omega arith) (omega arith)) ∙ append_assoc (line_of_words front) (32 ∷ line_of_words behind) (10 ∷ [])

-- a server that pins may go to is one of the servers
pub usable_listed : (servers : List Server) (server : ℕ) → is_usable servers server ≡ true → server < length servers
usable_listed servers server usable =
    elim (cases_lt server (length servers)) [
      | inl within ↦ within
      | inr past ↦ absurd (let e : false ≡ true = rw (slice_get_past servers server past) at usable in cc)
    ]

-- the sets of a plan's rows are of listed servers
pub sets_listed : (plan : PlanParts) → IsPlan plan → All (λ row. HasListedSet (length plan.servers) row.kind) plan.rows
sets_listed plan kept k d within server there =
    let kind = kept.kinds k d within in
    let listed = usable_listed (servers_of plan.servers) server (kind.permitted server there) in
    omega (arith, listed, length-map plan.servers (λ priced. priced.server))

pub few_servers : (plan : PlanParts) → IsPlan plan → length plan.servers ≤ 128
few_servers plan kept =
    let few = kept.servers.few in
    omega (arith, few, length-map plan.servers (λ priced. priced.server))

-- the text of a plan in its parts
pub spelling_parts : (plan : PlanParts) → spelling plan ≡ ((text_of_lines (heading_lines (codes "stickyplan") (needs_costs plan.rows) plan.version) ++ text_of_lines (map (λ server. server_line server) plan.servers)) ++ text_of_lines (map (λ row. row_line (needs_costs plan.rows) plan.servers row) plan.rows)) ++ codes "end\n"
unfolding spelling plan_lines
spelling_parts plan =
    let heading = heading_lines (codes "stickyplan") (needs_costs plan.rows) plan.version in
    let servers = map (λ server. server_line server) plan.servers in
    let rows = map (λ row. row_line (needs_costs plan.rows) plan.servers row) plan.rows in
    text-append ((heading ++ servers) ++ rows) (codes "end" ∷ [])
    ∙ ap (λ t. text_of_lines ((heading ++ servers) ++ rows) ++ t) (text-one (codes "end"))
    ∙ ap (λ t. t ++ codes "end\n") (text-append (heading ++ servers) rows ∙ ap (λ t. t ++ text_of_lines rows) (text-append heading servers))
