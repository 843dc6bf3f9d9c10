-- The sheet that a lenient text means.
use Rattle.std.specs.Prelude.{◌≡◌, ℕ, List, Ok}
use Rattle.std.specs.Option.{unwrap_or}
use Rattle.lb_types_pins.specs.declared.kind.PinKind.{PinKind}
use Rattle.dual_cert_plan.specs.Sheets.{SheetParts}
use Rattle.pin_set.specs.Rows.{count_in}
use Rattle.sheet_format.specs.Texts.{Said, said_by}

-- the sheet has the version, or 0 where none is said, and the servers; and as many pins of each kind as the groups of this kind come to
pub record IsOf (said : Said) (sheet : SheetParts) : Type 0 where
  pub version : sheet.version ≡ unwrap_or said.version 0
  pub servers : sheet.servers ≡ said.servers
  pub counts : (kind : PinKind) → count_in sheet.groups kind ≡ count_in said.groups kind

-- the text has no fault, and the sheet is of what it says
pub record Means (text : List ℕ) (sheet : SheetParts) : Type 0 where
  pub said : Said
  pub read : said_by text ≡ Ok said
  pub is_of : IsOf said sheet
