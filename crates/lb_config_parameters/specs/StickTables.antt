-- `stick-table`: HAProxy Configuration Manual 2.8, section 4.2. Its parameters stand in any order, `len` behind `type string` alone.
use Rattle.std.specs.Prelude.{ℕ, Bool, true, false, ◌||◌, List, Option, Some, None, Result, Ok, Err, codes, bytes_eq, if◌then◌else◌}
use Rattle.lb_acl.specs.declared.key.TheConstants.{MAX_KEY_LEN}
use Rattle.lb_acl.specs.declared.key.TableType.{TableType}
use Rattle.lb_acl.specs.declared.key.TableType.TheVariants.{Ip, Text}
use Rattle.lb_config_arguments.specs.declared.fault.Fault.{Fault}
use Rattle.lb_config_arguments.specs.declared.fault.Fault.TheVariants.{UnknownWord, Missing, LeftOut}
use Rattle.lb_config_arguments.specs.Faults.{◌>>=◌}
use Rattle.lb_config_arguments.specs.Numbers.{number_in, size_in, time_in}
use Rattle.lb_config_arguments.specs.Reading.{each_word}
use Rattle.lb_config_arguments.specs.Rest.{Rest}
use Rattle.lb_config_parameters.specs.declared.table_draft.TableDue.{TableDue}
use Rattle.lb_config_parameters.specs.declared.table_draft.TableDue.TheVariants as Due
use Rattle.lb_config_parameters.specs.TableViews.{TableDraftView, StickTableView}

-- nothing was read
abbrev pub no_table : TableDraftView
no_table = record { kind = None; size = None; expire = None; is_nopurge = false; due = Due.Parameter }

-- the name of a parameter
unfoldable pub table_parameter : TableDraftView → List ℕ → Result TableDraftView Fault
table_parameter table word =
    if bytes_eq word (codes "type") then Ok (record table { due = Due.Type })
    else (if bytes_eq word (codes "size") then Ok (record table { due = Due.Size })
    else (if bytes_eq word (codes "expire") then Ok (record table { due = Due.Expire })
    else (if bytes_eq word (codes "nopurge") then Ok (record table { is_nopurge = true; due = Due.Parameter })
    else Err (LeftOut word))))

-- types that are left out
unfoldable pub is_left_out_type : List ℕ → Bool
is_left_out_type word = bytes_eq word (codes "ipv6") || bytes_eq word (codes "integer") || bytes_eq word (codes "binary")

-- a type; behind `string` a length may stand, without which it is 32
unfoldable pub table_type : TableDraftView → List ℕ → Result TableDraftView Fault
table_type table word =
    if bytes_eq word (codes "ip") then Ok (record table { kind = Some Ip; due = Due.Parameter })
    else (if bytes_eq word (codes "string") then Ok (record table { kind = Some (Text 32); due = Due.LenOrParameter })
    else (if is_left_out_type word then Err (LeftOut word) else Err UnknownWord))

-- a word more, by what is due
abbrev pub table_word_due : TableDue → TableDraftView → List ℕ → Result TableDraftView Fault
table_word_due Due.Parameter table word = table_parameter table word
table_word_due Due.LenOrParameter table word =
    if bytes_eq word (codes "len") then Ok (record table { due = Due.Len }) else table_parameter table word
table_word_due Due.Type table word = table_type table word
table_word_due Due.Len table word = number_in 1 MAX_KEY_LEN word >>= λ len. Ok (record table { kind = Some (Text len); due = Due.Parameter })
table_word_due Due.Size table word = size_in word >>= λ size. Ok (record table { size = Some size; due = Due.Parameter })
table_word_due Due.Expire table word = time_in word >>= λ millis. Ok (record table { expire = Some millis; due = Due.Parameter })

unfoldable pub table_word : TableDraftView → List ℕ → Result TableDraftView Fault
table_word table word = table_word_due table.due table word

-- no value is due
abbrev pub is_whole : TableDue → Bool
is_whole Due.Parameter = true
is_whole Due.LenOrParameter = true
is_whole _ = false

-- the table, which has a type and a size
abbrev pub table_with : TableDraftView → Option TableType → Option ℕ → Result StickTableView Fault
table_with table (Some kind) (Some size) = Ok (record { kind = kind; size = size; expire = table.expire; is_nopurge = table.is_nopurge })
table_with table (Some kind) None = Err Missing
table_with table None size = Err Missing

unfoldable pub table_end : TableDraftView → Result StickTableView Fault
table_end table = if is_whole table.due then table_with table table.kind table.size else Err Missing

-- the words behind `stick-table`
unfoldable pub stick_table_at : Rest → Result StickTableView Fault
stick_table_at rest = each_word table_word no_table rest >>= table_end
