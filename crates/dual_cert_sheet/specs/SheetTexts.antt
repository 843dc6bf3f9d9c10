-- Texts of sheets, read line by line.
use Rattle.std.specs.Prelude.{ℕ, ◌+◌, ◌-◌, nat_le, Bool, true, false, ◌&&◌, ◌||◌, ◌==◌, not, List, [], ◌∷◌, ◌++◌, map, length, slice_get, sum_by, codes, Result, Ok, Err, if◌then◌else◌}
use Rattle.std.specs.List.{list_any}
use Rattle.std.specs.Option.{ok_or, option_map_or}
use Rattle.std.specs.Str.{bytes_eq}
use Rattle.lb_types.specs.declared.limits.TheConstants.{MAX_COST, MAX_PINS}
use Rattle.lb_types_pins.specs.declared.kind.Group.{Group}
use Rattle.lb_types_pins.specs.Kinds.{kind_before}
use Rattle.dual_cert_plan.specs.declared.server.Server.{Server}
use Rattle.dual_cert_plan.specs.declared.server.PricedServer.{PricedServer}
use Rattle.dual_cert_plan.specs.Sheets.{SheetParts}
use Rattle.dual_cert_text.specs.declared.fault.TextFault.{TextFault}
use Rattle.dual_cert_text.specs.declared.fault.TextFault.TheVariants.{BadLine, TooLarge, NotCanonical}
use Rattle.dual_cert_text.specs.Faults.{◌>>=◌}
use Rattle.dual_cert_text.specs.ServerLines.{server_at}
use Rattle.dual_cert_text.specs.Texts.{Format, reading}
use Rattle.dual_cert_sheet.specs.declared.group_line.GroupWords.{GroupWords}
use Rattle.dual_cert_sheet.specs.GroupLines.{group_words_of}

-- a sheet, as far as it was read, and whether its text is of version 2, in which groups have costs
pub record SheetDraft : Type 0 where
  pub has_costs : Bool
  pub sheet : SheetParts

-- the draft of these parts
abbrev pub draft_of : Bool → ℕ → List Server → List Group → SheetDraft
draft_of has_costs version servers groups = record { has_costs = has_costs; sheet = record { version = version; servers = servers; groups = groups } }

-- the draft with a server more
abbrev pub with_server : SheetDraft → Server → SheetDraft
with_server draft server = record draft { sheet = record (draft.sheet) { servers = draft.sheet.servers ++ server ∷ [] } }

-- the draft with a group more
abbrev pub with_group : SheetDraft → Group → SheetDraft
with_group draft group = record draft { sheet = record (draft.sheet) { groups = draft.sheet.groups ++ group ∷ [] } }

-- the server, as a plan lists it in which its places have no price
abbrev pub free_server : Server → PricedServer
free_server server = record { server = server; price = 0 }

-- the servers, as a plan lists them in which no place has a price
abbrev pub at_no_price : List Server → List PricedServer
at_no_price servers = map (λ server. free_server server) servers

-- line n declares a server, which may not stand behind a group
unfoldable pub add_server : ℕ → SheetDraft → List (List ℕ) → Result SheetDraft TextFault
add_server n draft words =
    if length draft.sheet.groups == 0 then (server_at n false (at_no_price draft.sheet.servers) words >>= λ priced. Ok (with_server draft priced.server))
    else Err (BadLine n)

-- the group that a line says
abbrev pub group_of : GroupWords → Group
group_of said = record { kind = record { place = said.place; permitted = said.permitted.servers; cost = said.cost }; count = said.count }

-- the group stands strictly behind the last of these groups
abbrev pub comes_next : List Group → Group → Bool
comes_next groups group = option_map_or (λ last. kind_before last.kind group.kind) (slice_get groups (length groups - 1)) true

-- the group that a line says, behind groups of so many pins
unfoldable pub next_group : List Group → ℕ → GroupWords → Result Group TextFault
next_group groups pins said =
    if not (nat_le (pins + said.count) MAX_PINS && nat_le said.cost MAX_COST) then Err TooLarge
    else (if said.permitted.is_rising && comes_next groups (group_of said) then Ok (group_of said) else Err NotCanonical)

-- line n says a group
unfoldable pub add_group : ℕ → SheetDraft → List (List ℕ) → Result SheetDraft TextFault
add_group n draft words = do
  said ← ok_or (group_words_of draft.has_costs (at_no_price draft.sheet.servers) words) (BadLine n)
  group ← next_group draft.sheet.groups (sum_by (λ g. g.count) draft.sheet.groups) said
  Ok (with_group draft group)

-- line n declares a server or says a group, by its first word
unfoldable pub add_line : ℕ → SheetDraft → List (List ℕ) → Result SheetDraft TextFault
add_line n draft [] = Err (BadLine n)
add_line n draft (word ∷ words) =
    if bytes_eq word (codes "server") then add_server n draft words
    else (if bytes_eq word (codes "group") then add_group n draft words else Err (BadLine n))

-- some group has a cost that a text of version 1 can't say
abbrev pub needs_costs : List Group → Bool
needs_costs groups = list_any (λ g. not (g.kind.cost == 1)) groups

-- a text of version 2 has a group that needs it
abbrev pub may_end : SheetDraft → Bool
may_end draft = not draft.has_costs || needs_costs draft.sheet.groups

-- the format of sheets
unfoldable pub sheet_format : Format SheetDraft
sheet_format = record {
  word = codes "stickysheet";
  start = λ is_second version. draft_of is_second version [] [];
  add = add_line;
  may_end = may_end;
}

-- the sheet that a text is read as, or the text's first fault
unfoldable pub sheet_of_text : List ℕ → Result SheetParts TextFault
sheet_of_text text = reading sheet_format text >>= λ draft. Ok draft.sheet
