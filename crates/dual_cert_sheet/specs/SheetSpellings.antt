-- The one spelling of each sheet. Lines end with a line feed (byte 10), words are separated by one space (byte 32), names of
-- a set by a comma (byte 44), and numbers are decimal.
use Rattle.std.specs.Prelude.{ℕ, Bool, Option, Some, None, List, [], ◌∷◌, ◌++◌, map, codes, if◌then◌else◌}
use Rattle.std.specs.Fmt.{decimal}
use Rattle.lb_types_pins.specs.declared.kind.Group.{Group}
use Rattle.dual_cert_plan.specs.declared.server.Server.{Server}
use Rattle.dual_cert_plan.specs.Sheets.{SheetParts}
use Rattle.dual_cert_text.specs.Spellings.{line_of_words, text_of_lines, heading_lines, place_word, set_word}
use Rattle.dual_cert_sheet.specs.SheetTexts.{at_no_price, needs_costs}

-- what stands behind a server's name
abbrev pub room_words : Option ℕ → List (List ℕ)
room_words None = codes "off" ∷ []
room_words (Some capacity) = codes "cap" ∷ decimal capacity ∷ []

-- the line of a server
unfoldable pub sheet_server_line : Server → List ℕ
sheet_server_line s = line_of_words (codes "server" ∷ s.name ∷ room_words s.capacity)

-- the line of a group. Places and sets are spelled as in a plan of these servers
unfoldable pub group_line : Bool → List Server → Group → List ℕ
group_line has_costs servers g =
    line_of_words
    (codes "group" ∷ decimal g.count ∷ place_word (at_no_price servers) g.kind.place ∷ set_word (at_no_price servers) g.kind.permitted
    ∷ (if has_costs then decimal g.kind.cost ∷ [] else []))

-- the lines of a sheet before `end`, with costs or without
unfoldable pub sheet_lines : Bool → SheetParts → List (List ℕ)
sheet_lines has_costs sheet =
    heading_lines (codes "stickysheet") has_costs sheet.version ++ map (λ s. sheet_server_line s) sheet.servers
    ++ map (λ g. group_line has_costs sheet.servers g) sheet.groups

-- the text of a sheet, which has costs where some cost isn't 1
unfoldable pub sheet_spelling : SheetParts → List ℕ
sheet_spelling sheet = text_of_lines (sheet_lines (needs_costs sheet.groups) sheet ++ codes "end" ∷ [])
