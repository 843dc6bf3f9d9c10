-- Which texts have lines: they are short enough, and UTF-8 (RFC 3629).
use Rattle.std.specs.Prelude.{◌≡◌, ℕ, nat_lt, List, length, take, Option, Some, None, Result, Ok, Err, if◌then◌else◌}
use Rattle.std.specs.Str.{is_utf8}
use Rattle.std.specs.Str.Lossy.{utf8_valid_len}
use Rattle.lb_types_text.specs.Parts.{parts}
use Rattle.lb_config_words.specs.declared.text.TheConstants.{MAX_BYTES}
use Rattle.lb_config_words.specs.declared.fault.TextFault.{TextFault}
use Rattle.lb_config_words.specs.declared.fault.TextFault.TheVariants.{TooLong, NotUtf8}
use Rattle.lb_config_words.specs.declared.fault.WordsFault.{WordsFault}
use Rattle.lb_config_words.specs.declared.fault.WordsFault.TheVariants as faults
use Rattle.lb_config_words.specs.LineView.{LineView}
use Rattle.lb_config_words.specs.Lines.{lines_of}

-- the number of the line in which the byte behind this front stands
abbrev pub line_behind : List ℕ → ℕ
line_behind front = length (parts 10 front)

-- why the text has no lines, if it has none: it is too long, or else it is not UTF-8
unfoldable pub text_fault : List ℕ → Option TextFault
text_fault text =
    if nat_lt MAX_BYTES (length text) then Some TooLong
    else (if is_utf8 text then None else Some (NotUtf8 (line_behind (take (utf8_valid_len text) text))))

-- the lines, where no fault of the whole text stands in their way
abbrev pub unless : {A : Type 0} → Option TextFault → A → Result A TextFault
unless None lines = Ok lines
unless (Some fault) lines = Err fault

-- what a text is read as
unfoldable pub reading : List ℕ → Result (List LineView) TextFault
reading text = unless (text_fault text) (lines_of text)

-- what a call gave, seen by `view`, is what reading has, unless memory ran out
abbrev pub Gives : {A B : Type 0} → (A → B) → Result A WordsFault → Result B TextFault → Type 0
Gives view (Ok x) reading = reading ≡ Ok (view x)
Gives view (Err faults.Memory) reading = Unit {0}
Gives view (Err (faults.Text fault)) reading = reading ≡ Err fault
