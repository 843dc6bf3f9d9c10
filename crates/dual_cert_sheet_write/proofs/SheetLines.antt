-- Texts of sheets, in their parts.
use Rattle.std.proofs.Common.{◌≡◌, Bool, List, [], ◌∷◌, ◌++◌, ◌≤◌, length, map, codes, ap, ◌∙◌, arith, append_assoc}
use Rattle.std.specs.Fmt.{decimal}
use Rattle.std.specs.List.{All}
use Rattle.lb_types_pins.specs.declared.kind.Group.{Group}
use Rattle.dual_cert_plan.specs.declared.server.Server.{Server}
use Rattle.dual_cert_plan.specs.Sheets.{SheetParts, IsSheet}
use Rattle.dual_cert_text.specs.Spellings.{line_of_words, text_of_lines, heading_lines, place_word, set_word}
use Rattle.dual_cert_sheet.specs.SheetSpellings.{sheet_server_line, group_line, sheet_lines, sheet_spelling}
use Rattle.dual_cert_sheet.specs.SheetTexts.{at_no_price, needs_costs}
use Rattle.dual_cert_write.specs.Sending.{cost_words, line_end, HasListedSet}
use Rattle.dual_cert_write.proofs.Joins.{join-append}
use Rattle.dual_cert_write.proofs.Lines.{text-append, text-one, usable_listed}

-- the line of a group in its parts
pub group_line_parts : (has_costs : Bool) (servers : List Server) (group : Group) → group_line has_costs servers group ++ 10 ∷ [] ≡ line_of_words (codes "group" ∷ decimal group.count ∷ place_word (at_no_price servers) group.kind.place ∷ []) ++ line_end has_costs (at_no_price servers) group.kind
unfolding group_line line_end
group_line_parts has_costs servers group =
    let front = codes "group" ∷ decimal group.count ∷ place_word (at_no_price servers) group.kind.place ∷ [] in
    let behind = set_word (at_no_price servers) group.kind.permitted ∷ cost_words has_costs group.kind.cost in
    ap (λ l. l ++ 10 ∷ []) (join-append 32 front behind (omega arith) (omega arith)) ∙ append_assoc (line_of_words front) (32 ∷ line_of_words behind) (10 ∷ [])

-- the sets of a sheet's groups are of listed servers
pub sets_listed : (sheet : SheetParts) → IsSheet sheet → All (λ group. HasListedSet (length sheet.servers) group.kind) sheet.groups
sets_listed sheet kept k d within server there =
    let kind = kept.kinds k d within in
    usable_listed sheet.servers server (kind.permitted server there)

pub few_servers : (sheet : SheetParts) → IsSheet sheet → length sheet.servers ≤ 128
few_servers sheet kept = kept.servers.few

-- the text of a sheet in its parts
pub sheet_spelling_parts : (sheet : SheetParts) → sheet_spelling sheet ≡ ((text_of_lines (heading_lines (codes "stickysheet") (needs_costs sheet.groups) sheet.version) ++ text_of_lines (map (λ server. sheet_server_line server) sheet.servers)) ++ text_of_lines (map (λ group. group_line (needs_costs sheet.groups) sheet.servers group) sheet.groups)) ++ codes "end\n"
unfolding sheet_spelling sheet_lines
sheet_spelling_parts sheet =
    let heading = heading_lines (codes "stickysheet") (needs_costs sheet.groups) sheet.version in
    let servers = map (λ server. sheet_server_line server) sheet.servers in
    let groups = map (λ group. group_line (needs_costs sheet.groups) sheet.servers group) sheet.groups in
    text-append ((heading ++ servers) ++ groups) (codes "end" ∷ [])
    ∙ ap (λ t. text_of_lines ((heading ++ servers) ++ groups) ++ t) (text-one (codes "end"))
    ∙ ap (λ t. t ++ codes "end\n") (text-append (heading ++ servers) groups ∙ ap (λ t. t ++ text_of_lines groups) (text-append heading servers))
