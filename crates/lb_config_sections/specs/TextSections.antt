-- The sections of a whole text. A text that is too long is told at its first line, and one that is not UTF-8 at the line of its
-- first bad byte, both before any line is read.
use Rattle.std.specs.Prelude.{ℕ, List, Result, Ok, Err}
use Rattle.lb_config_words.specs.declared.fault.TextFault.{TextFault}
use Rattle.lb_config_words.specs.declared.fault.TextFault.TheVariants.{TooLong, NotUtf8}
use Rattle.lb_config_words.specs.LineView.{LineView}
use Rattle.lb_config_words.specs.Texts.{reading}
use Rattle.lb_config_sections.specs.declared.cause.Cause.TheVariants as Of
use Rattle.lb_config_sections.specs.declared.cause.LocatedFault.{LocatedFault}
use Rattle.lb_config_sections.specs.Causes.{◌>>=◌}
use Rattle.lb_config_sections.specs.SectionsSoFar.{sections_of}
use Rattle.lb_config_sections.specs.SectionsView.{SectionsView}

-- the fault of the whole text, with its line
abbrev pub located : TextFault → LocatedFault
located TooLong = record { line = 1; cause = Of.TooMany }
located (NotUtf8 line) = record { line = line; cause = Of.NotUtf8 }

-- the lines, or the fault of the whole text
abbrev pub located_lines : Result (List LineView) TextFault → Result (List LineView) LocatedFault
located_lines (Ok lines) = Ok lines
located_lines (Err fault) = Err (located fault)

-- the sections that the text is, or its first fault
unfoldable pub sections_in : List ℕ → Result SectionsView LocatedFault
sections_in text = located_lines (reading text) >>= λ lines. sections_of lines
