-- What the sections of every valid text keep.
use Rattle.std.specs.Prelude.{ℕ, IfOk, List, All}
use Rattle.lb_types.specs.declared.limits.TheConstants.{MAX_SERVERS}
use Rattle.lb_config_limits.specs.declared.declarations.TheConstants.{MAX_BACKENDS}
use Rattle.lb_config_lines.specs.declared.setting.Setting.{Setting}
use Rattle.lb_config_sections.specs.Names.{backend_name, gathered}
use Rattle.lb_config_sections.specs.References.{checked_in}
use Rattle.lb_config_sections.specs.SectionView.{SectionView}
use Rattle.lb_config_valid.specs.Names.{AreNames, HasAcls, HasBackend, HasServer, HasTable, names_of}
use Rattle.lb_config_valid.specs.Numbers.{HasNumbers}

-- the names of all backends, sections `listen` among them
abbrev pub backends_of : List SectionView → List (List ℕ)
backends_of sections = gathered backend_name sections

-- so it is with each setting of each section
abbrev pub OfEachSetting : (SectionView → Setting → Type 0) → List SectionView → Type 0
OfEachSetting P sections = All (λ section. All (λ numbered. P section numbered.setting) section.settings) sections

-- names are declared once, what lines name is declared, and numbers are in their ranges
pub record AreValid (sections : List SectionView) : Type 0 where
  pub backends : AreNames MAX_BACKENDS (backends_of sections)
  pub servers : All (λ section. AreNames MAX_SERVERS (names_of section).servers) sections
  pub named_backends : OfEachSetting (λ section. HasBackend (backends_of sections)) sections
  pub named_servers : OfEachSetting (λ section. HasServer (names_of section).servers) sections
  pub named_acls : OfEachSetting (λ section. HasAcls (names_of section).acls) sections
  pub tables : OfEachSetting (λ section. HasTable (names_of section)) sections
  pub numbers : OfEachSetting (λ section. HasNumbers) sections

-- so are the sections of each text that has no fault
abbrev pub CheckedAreValid : Type 0
CheckedAreValid = (text : List ℕ) → IfOk (checked_in text) (λ checked. AreValid checked.sections)
