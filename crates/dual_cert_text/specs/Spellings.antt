-- The one spelling of each plan. Lines end with a line feed (byte 10), words are separated by one space (byte 32), names of
-- a set by a comma (byte 44), and numbers are decimal.
use Rattle.std.specs.Prelude.{ℕ, Bool, ◌==◌, Option, Some, None, List, [], ◌∷◌, ◌++◌, map, slice_get, codes, if◌then◌else◌}
use Rattle.std.specs.Fmt.{decimal}
use Rattle.std.specs.List.{flat_map, join_with_byte}
use Rattle.std.specs.Option.{option_map_or}
use Rattle.lb_types.specs.Servers.{members}
use Rattle.lb_types_pins.specs.declared.kind.Row.{Row}
use Rattle.dual_cert_plan.specs.declared.server.PricedServer.{PricedServer}
use Rattle.dual_cert_plan.specs.Plans.{PlanParts}
use Rattle.dual_cert_text.specs.PlanTexts.{needs_costs}

-- words, as they stand in a line
abbrev pub line_of_words : List (List ℕ) → List ℕ
line_of_words words = join_with_byte 32 words

-- each line, and its end
unfoldable pub text_of_lines : List (List ℕ) → List ℕ
text_of_lines lines = flat_map (λ line. line ++ 10 ∷ []) lines

-- the first two lines of a text
unfoldable pub heading_lines : List ℕ → Bool → ℕ → List (List ℕ)
heading_lines word is_second version =
    line_of_words (word ∷ (if is_second then codes "2" else codes "1") ∷ []) ∷ line_of_words (codes "version" ∷ decimal version ∷ []) ∷ []

-- what stands behind a server's name
abbrev pub usage_words : Option ℕ → ℕ → List (List ℕ)
usage_words None price = codes "off" ∷ []
usage_words (Some capacity) price = codes "cap" ∷ decimal capacity ∷ codes "price" ∷ decimal price ∷ []

-- the line of a server
unfoldable pub server_line : PricedServer → List ℕ
server_line s = line_of_words (codes "server" ∷ s.server.name ∷ usage_words s.server.capacity s.price)

-- the name of the server of this number
abbrev pub name_at : List PricedServer → ℕ → List ℕ
name_at servers server = option_map_or (λ s. s.server.name) (slice_get servers server) []

-- a place, with `-` for none
unfoldable pub place_word : List PricedServer → Option ℕ → List ℕ
place_word servers None = codes "-"
place_word servers (Some server) = name_at servers server

-- the names of a set in the order of the servers, with `-` for no server
unfoldable pub set_word : List PricedServer → ℕ → List ℕ
set_word servers set = if set == 0 then codes "-" else join_with_byte 44 (map (λ server. name_at servers server) (members set))

-- the line of a row
unfoldable pub row_line : Bool → List PricedServer → Row → List ℕ
row_line has_costs servers r =
    line_of_words
    (codes "row" ∷ decimal r.count ∷ place_word servers r.kind.place ∷ place_word servers r.new_place ∷ set_word servers r.kind.permitted
    ∷ (if has_costs then decimal r.kind.cost ∷ [] else []))

-- the lines of a plan before `end`, with costs or without
unfoldable pub plan_lines : Bool → PlanParts → List (List ℕ)
plan_lines has_costs plan =
    heading_lines (codes "stickyplan") has_costs plan.version ++ map (λ s. server_line s) plan.servers
    ++ map (λ r. row_line has_costs plan.servers r) plan.rows

-- the text of a plan, which has costs where some cost isn't 1
unfoldable pub spelling : PlanParts → List ℕ
spelling plan = text_of_lines (plan_lines (needs_costs plan.rows) plan ++ codes "end" ∷ [])
