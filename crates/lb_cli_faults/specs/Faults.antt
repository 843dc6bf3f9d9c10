-- How a fault of a configuration is printed: with the number of its line.
use Rattle.std.specs.Prelude.{ℕ, List, [], ◌∷◌, ◌++◌, codes}
use Rattle.std.specs.Fmt.{decimal}
use Rattle.lb_config_sections.specs.declared.cause.Cause.{Cause}
use Rattle.lb_config_sections.specs.declared.cause.Cause.TheVariants.{NotUtf8, UnknownSection, UnknownWord, Missing, BadNumber, BadName, Duplicate, NoSuchName, TooMany, LeftOut}
use Rattle.lb_config_sections.specs.declared.cause.LocatedFault.{LocatedFault}

-- `line N: `
abbrev pub line_label : ℕ → List ℕ
line_label line = codes "line " ++ decimal line ++ codes ": "

-- a fault's number and name, with a space where a word follows
abbrev pub cause_name : Cause → List ℕ
cause_name NotUtf8 = codes "20 NotUtf8"
cause_name UnknownSection = codes "21 UnknownSection"
cause_name UnknownWord = codes "22 UnknownWord"
cause_name Missing = codes "23 Missing"
cause_name BadNumber = codes "24 BadNumber"
cause_name BadName = codes "25 BadName"
cause_name Duplicate = codes "26 Duplicate"
cause_name NoSuchName = codes "27 NoSuchName"
cause_name TooMany = codes "28 TooMany"
cause_name (LeftOut word) = codes "29 LeftOut "

-- the word that a fault names, if it names one
abbrev pub cause_word : Cause → List ℕ
cause_word (LeftOut word) = word
cause_word _ = []

-- a fault as it is printed
abbrev pub cause_text : Cause → List ℕ
cause_text cause = cause_name cause ++ cause_word cause

-- the line of a fault
abbrev pub fault_line : LocatedFault → List ℕ
fault_line fault = line_label fault.line ++ cause_text fault.cause ++ 10 ∷ []
