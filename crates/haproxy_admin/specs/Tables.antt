-- Answers to `show table` with a table's name: HAProxy Management Guide, section 9.3. Lines end with LF (10).
use Rattle.std.specs.Prelude.{ℕ, ◌==◌, nat_eq, List, length, drop, Option, Some, None, Result, Err, codes, if◌then◌else◌}
use Rattle.std.specs.List.{starts_with}
use Rattle.std.specs.Option.{option_map}
use Rattle.lb_types_text.specs.Parts.{parts}
use Rattle.haproxy_admin.specs.declared.entry.Entry.{Entry}
use Rattle.haproxy_admin.specs.Entries.{entry_of}
use Rattle.haproxy_admin.specs.Lines.{said_from}

-- a line is an entry, or passed over if it is empty
unfoldable pub entry_said : List ℕ → Option (Option Entry)
entry_said line = if length line == 0 then Some None else option_map (λ entry. Some entry) (entry_of line)

-- the entries of the table, or the first line that isn't of the form
unfoldable pub table_of : List ℕ → Result (List Entry) ℕ
table_of text = if starts_with nat_eq text (codes "# table: ") then said_from entry_said 2 (drop 1 (parts 10 text)) else Err 1
