-- Texts of plans, read line by line.
use Rattle.std.specs.Prelude.{ℕ, ◌+◌, ◌-◌, nat_le, Bool, true, ◌&&◌, ◌||◌, ◌==◌, not, List, [], ◌∷◌, ◌++◌, length, slice_get, sum_by, codes, Result, Ok, Err, if◌then◌else◌}
use Rattle.std.specs.List.{list_any}
use Rattle.std.specs.Option.{ok_or, option_map_or}
use Rattle.std.specs.Str.{bytes_eq}
use Rattle.lb_types.specs.declared.limits.TheConstants.{MAX_COST, MAX_PINS}
use Rattle.lb_types_pins.specs.declared.kind.Row.{Row}
use Rattle.lb_types_pins.specs.Kinds.{row_before}
use Rattle.dual_cert_plan.specs.declared.server.PricedServer.{PricedServer}
use Rattle.dual_cert_plan.specs.Plans.{PlanParts}
use Rattle.dual_cert_text.specs.declared.fault.TextFault.{TextFault}
use Rattle.dual_cert_text.specs.declared.fault.TextFault.TheVariants.{BadLine, TooLarge, NotCanonical}
use Rattle.dual_cert_text.specs.declared.row_line.RowWords.{RowWords}
use Rattle.dual_cert_text.specs.Faults.{◌>>=◌}
use Rattle.dual_cert_text.specs.RowLines.{row_words_of}
use Rattle.dual_cert_text.specs.ServerLines.{server_at}
use Rattle.dual_cert_text.specs.Texts.{Format, reading}

-- a plan, as far as it was read, and whether its text is of version 2, in which rows have costs
pub record PlanDraft : Type 0 where
  pub has_costs : Bool
  pub plan : PlanParts

-- the draft of these parts
abbrev pub draft_of : Bool → ℕ → List PricedServer → List Row → PlanDraft
draft_of has_costs version servers rows = record { has_costs = has_costs; plan = record { version = version; servers = servers; rows = rows } }

-- the draft with a server more
abbrev pub with_server : PlanDraft → PricedServer → PlanDraft
with_server draft server = record draft { plan = record (draft.plan) { servers = draft.plan.servers ++ server ∷ [] } }

-- the draft with a row more
abbrev pub with_row : PlanDraft → Row → PlanDraft
with_row draft row = record draft { plan = record (draft.plan) { rows = draft.plan.rows ++ row ∷ [] } }

-- line n declares a server, which may not stand behind a row
unfoldable pub add_server : ℕ → PlanDraft → List (List ℕ) → Result PlanDraft TextFault
add_server n draft words =
    if length draft.plan.rows == 0 then (server_at n true draft.plan.servers words >>= λ server. Ok (with_server draft server)) else Err (BadLine n)

-- the row that a line says
abbrev pub row_of : RowWords → Row
row_of said = record { kind = record { place = said.place; permitted = said.permitted.servers; cost = said.cost }; new_place = said.new_place; count = said.count }

-- the row stands strictly behind the last of these rows
abbrev pub comes_next : List Row → Row → Bool
comes_next rows row = option_map_or (λ last. row_before last row) (slice_get rows (length rows - 1)) true

-- the row that a line says, behind rows of so many pins
unfoldable pub next_row : List Row → ℕ → RowWords → Result Row TextFault
next_row rows pins said =
    if not (nat_le (pins + said.count) MAX_PINS && nat_le said.cost MAX_COST) then Err TooLarge
    else (if said.permitted.is_rising && comes_next rows (row_of said) then Ok (row_of said) else Err NotCanonical)

-- line n says a row
unfoldable pub add_row : ℕ → PlanDraft → List (List ℕ) → Result PlanDraft TextFault
add_row n draft words = do
  said ← ok_or (row_words_of draft.has_costs draft.plan.servers words) (BadLine n)
  row ← next_row draft.plan.rows (sum_by (λ r. r.count) draft.plan.rows) said
  Ok (with_row draft row)

-- line n declares a server or says a row, by its first word
unfoldable pub add_line : ℕ → PlanDraft → List (List ℕ) → Result PlanDraft TextFault
add_line n draft [] = Err (BadLine n)
add_line n draft (word ∷ words) =
    if bytes_eq word (codes "server") then add_server n draft words else (if bytes_eq word (codes "row") then add_row n draft words else Err (BadLine n))

-- some row has a cost that a text of version 1 can't say
abbrev pub needs_costs : List Row → Bool
needs_costs rows = list_any (λ r. not (r.kind.cost == 1)) rows

-- a text of version 2 has a row that needs it
abbrev pub may_end : PlanDraft → Bool
may_end draft = not draft.has_costs || needs_costs draft.plan.rows

-- the format of plans
unfoldable pub plan_format : Format PlanDraft
plan_format = record {
  word = codes "stickyplan";
  start = λ is_second version. draft_of is_second version [] [];
  add = add_line;
  may_end = may_end;
}

-- the plan that a text is read as, or the text's first fault
unfoldable pub plan_of_text : List ℕ → Result PlanParts TextFault
plan_of_text text = reading plan_format text >>= λ draft. Ok draft.plan
