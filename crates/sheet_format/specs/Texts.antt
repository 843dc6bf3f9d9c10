-- What a lenient text says: servers, groups as they stand in it, and a version; or its first fault.
use Rattle.std.specs.Prelude.{ℕ, ◌+◌, ◌^◌, nat_le, nat_lt, Bool, true, false, ◌&&◌, ◌||◌, ◌==◌, not, is_some, is_none, Option, Some, None, List, [], ◌∷◌, ◌++◌, length, sum_by, codes, Result, Ok, Err, if◌then◌else◌}
use Rattle.std.specs.Option.{ok_or}
use Rattle.std.specs.Str.{bytes_eq}
use Rattle.lb_types.specs.declared.limits.TheConstants.{MAX_COST, MAX_PINS}
use Rattle.lb_types_text.specs.Numbers.{numeral_of}
use Rattle.lb_types_text.specs.Parts.{parts}
use Rattle.lb_types_pins.specs.declared.kind.Group.{Group}
use Rattle.dual_cert_plan.specs.declared.server.Server.{Server}
use Rattle.dual_cert_plan.specs.declared.server.PricedServer.{PricedServer}
use Rattle.dual_cert_text.specs.declared.fault.TextFault.{TextFault}
use Rattle.dual_cert_text.specs.declared.fault.TextFault.TheVariants.{BadLine, TooLarge}
use Rattle.dual_cert_text.specs.Faults.{◌>>=◌}
use Rattle.dual_cert_text.specs.ServerLines.{server_at}
use Rattle.dual_cert_sheet.specs.SheetSpellings.{room_words}
use Rattle.dual_cert_sheet.specs.SheetTexts.{at_no_price}
use Rattle.sheet_format.specs.declared.group_line.GroupWords.{GroupWords}
use Rattle.sheet_format.specs.GroupLines.{group_words_of}
use Rattle.sheet_format.specs.Words.{line_words}

-- what the lines of a text say together
pub record Said : Type 0 where
  -- a line says the form, as `stickysheet 1`
  pub has_form : Bool
  -- a line is `end`
  pub has_ended : Bool
  pub version : Option ℕ
  pub servers : List Server
  -- one for each line of a group, in the text's order
  pub groups : List Group

-- what was said, of these parts
abbrev pub said_of : Bool → Bool → Option ℕ → List Server → List Group → Said
said_of has_form has_ended version servers groups =
    record { has_form = has_form; has_ended = has_ended; version = version; servers = servers; groups = groups }

-- what no line says
abbrev pub nothing_said : Said
nothing_said = said_of false false None [] []

-- what stands behind a server's name, which is the largest capacity where nothing does
abbrev pub room_said : List (List ℕ) → List (List ℕ)
room_said [] = room_words (Some MAX_PINS)
room_said (word ∷ words) = word ∷ words

-- the words behind `server`
abbrev pub with_room : List (List ℕ) → List (List ℕ)
with_room [] = []
with_room (name ∷ words) = name ∷ room_said words

-- line n declares a server
unfoldable pub add_server : ℕ → Said → List (List ℕ) → Result Said TextFault
add_server n said words =
    server_at n false (at_no_price said.servers) (with_room words) >>= λ priced. Ok (record said { servers = said.servers ++ priced.server ∷ [] })

-- a group of these parts
abbrev pub group_from : Option ℕ → ℕ → ℕ → ℕ → Group
group_from place permitted cost count = record { kind = record { place = place; permitted = permitted; cost = cost }; count = count }

-- the group that a line says
abbrev pub group_of : GroupWords → Group
group_of words = group_from words.place words.permitted words.cost words.count

-- the group that a line says, behind groups of so many pins
abbrev pub next_group : ℕ → GroupWords → Result Group TextFault
next_group pins words = if nat_le (pins + words.count) MAX_PINS && nat_le words.cost MAX_COST then Ok (group_of words) else Err TooLarge

-- the group that line n says, behind groups of so many pins
unfoldable pub group_at : ℕ → ℕ → List PricedServer → List (List ℕ) → Result Group TextFault
group_at n pins servers words = ok_or (group_words_of servers words) (BadLine n) >>= λ read. next_group pins read

-- line n says a group
unfoldable pub add_group : ℕ → Said → List (List ℕ) → Result Said TextFault
add_group n said words =
    group_at n (sum_by (λ g. g.count) said.groups) (at_no_price said.servers) words >>= λ group. Ok (record said { groups = said.groups ++ group ∷ [] })

-- line n says the version, which no other line says
unfoldable pub add_version : ℕ → Said → List (List ℕ) → Result Said TextFault
add_version n said (number ∷ []) =
    if is_some said.version then Err (BadLine n)
    else (ok_or (numeral_of number) (BadLine n) >>= λ v. (if nat_lt (2 ^ 63) v then Err TooLarge else Ok (record said { version = Some v })))
add_version n said _ = Err (BadLine n)

-- nothing is said so far
abbrev pub is_fresh : Said → Bool
is_fresh said = not said.has_form && is_none said.version && length said.servers == 0 && length said.groups == 0

-- line n says the form, before everything else
unfoldable pub add_form : ℕ → Said → List (List ℕ) → Result Said TextFault
add_form n said (form ∷ []) =
    if is_fresh said && (bytes_eq form (codes "1") || bytes_eq form (codes "2")) then Ok (record said { has_form = true }) else Err (BadLine n)
add_form n said _ = Err (BadLine n)

-- line n is `end`
unfoldable pub add_end : ℕ → Said → List (List ℕ) → Result Said TextFault
add_end n said [] = Ok (record said { has_ended = true })
add_end n said _ = Err (BadLine n)

-- line n says something, by its first word
unfoldable pub add_words : ℕ → Said → List ℕ → List (List ℕ) → Result Said TextFault
add_words n said word words =
    if bytes_eq word (codes "server") then add_server n said words
    else (if bytes_eq word (codes "group") then add_group n said words
    else (if bytes_eq word (codes "version") then add_version n said words
    else (if bytes_eq word (codes "stickysheet") then add_form n said words
    else (if bytes_eq word (codes "end") then add_end n said words else Err (BadLine n)))))

-- line n is empty, or says something before `end`
unfoldable pub add_line : ℕ → Said → List (List ℕ) → Result Said TextFault
add_line n said [] = Ok said
add_line n said (word ∷ words) = if said.has_ended then Err (BadLine n) else add_words n said word words

-- what is said with the lines from line n on
unfoldable pub said_from : ℕ → Said → List (List ℕ) → Result Said TextFault
said_from n said [] = Ok said
said_from n said (line ∷ rest) = add_line n said (line_words line) >>= λ next. said_from (n + 1) next rest

-- what a text says, or its first fault
abbrev pub said_by : List ℕ → Result Said TextFault
said_by text = said_from 1 nothing_said (parts 10 text)
