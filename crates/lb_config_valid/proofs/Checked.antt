-- The sections of a text without a fault.
use Rattle.std.proofs.Common.{◌≡◌, ℕ, List, Option, Some, None, IfOk, All, refl}
use Rattle.std.proofs.lemmas.List.Elements.{All-weaker}
use Rattle.lb_config_lines.specs.declared.setting.Setting.{Setting}
use Rattle.lb_config_sections.specs.declared.cause.LocatedFault.{LocatedFault}
use Rattle.lb_config_sections.specs.declared.config_section.NumberedSetting.{NumberedSetting}
use Rattle.lb_config_sections.specs.References.{checked_in, reference_fault, unless_fault}
use Rattle.lb_config_sections.specs.SectionView.{SectionView}
use Rattle.lb_config_sections.specs.SectionsView.{SectionsView}
use Rattle.lb_config_sections.specs.TextSections.{located_lines, sections_in}
use Rattle.lb_config_words.specs.Texts.{reading}
use Rattle.lb_config_valid.specs.Names.{HasAcls, HasBackend, HasServer, HasTable, names_of}
use Rattle.lb_config_valid.specs.Valid.{AreValid, CheckedAreValid, OfEachSetting, backends_of}
use Rattle.lb_config_valid.proofs.References.{IsDeclared, sections_declared}
use Rattle.lb_config_valid.proofs.Sections.{AreSections, IsSection, bind_ok, sections_ok, then_ok}

-- what holds of each setting, and what follows
each_weaker : (P Q : SectionView → Setting → Type 0) → ((section : SectionView) (setting : Setting) → P section setting → Q section setting) →
    (sections : List SectionView) → OfEachSetting P sections → OfEachSetting Q sections
each_weaker P Q less sections =
    All-weaker (λ (section : SectionView). All (λ (numbered : NumberedSetting). P section numbered.setting) section.settings)
    (λ (section : SectionView). All (λ (numbered : NumberedSetting). Q section numbered.setting) section.settings)
    (λ section. All-weaker (λ (numbered : NumberedSetting). P section numbered.setting) (λ (numbered : NumberedSetting). Q section numbered.setting)
    (λ numbered. less section numbered.setting) section.settings) sections

all_declared : (sections : List SectionView) → reference_fault sections ≡ None → OfEachSetting (λ section. IsDeclared (backends_of sections) (names_of section)) sections
unfolding reference_fault
all_declared sections e = sections_declared (backends_of sections) sections e

valid : (sections : List SectionView) → AreSections sections → reference_fault sections ≡ None → AreValid sections
valid sections are e =
    let backends = backends_of sections in
    let declared = all_declared sections e in
    record {
      backends = are.backends;
      servers = All-weaker IsSection (λ section. _) (λ section is. is.servers) sections are.each;
      named_backends = each_weaker (λ section. IsDeclared backends (names_of section)) (λ section. HasBackend backends) (λ section setting is. is.backend) sections declared;
      named_servers = each_weaker (λ section. IsDeclared backends (names_of section)) (λ section. HasServer (names_of section).servers) (λ section setting is. is.server) sections declared;
      named_acls = each_weaker (λ section. IsDeclared backends (names_of section)) (λ section. HasAcls (names_of section).acls) (λ section setting is. is.acls) sections declared;
      tables = each_weaker (λ section. IsDeclared backends (names_of section)) (λ section. HasTable (names_of section)) (λ section setting is. is.table) sections declared;
      numbers = All-weaker IsSection (λ section. _) (λ section is. is.numbers) sections are.each;
    }

unless_ok : (read : SectionsView) (fault : Option LocatedFault) → reference_fault read.sections ≡ fault → AreSections read.sections →
    IfOk (unless_fault fault read) (λ checked. AreValid checked.sections)
unless_ok read (Some fault) e are = tt
unless_ok read None e are = valid read.sections are e

text_ok : (text : List ℕ) → IfOk (sections_in text) (λ read. AreSections read.sections)
unfolding sections_in
text_ok text = then_ok (λ read. AreSections read.sections) (located_lines (reading text)) _ (λ lines. sections_ok lines)

pub checked_are_valid : CheckedAreValid
unfolding checked_in
checked_are_valid text =
    bind_ok (λ read. AreSections read.sections) (λ checked. AreValid checked.sections) (sections_in text) _ (text_ok text)
    (λ read are. unless_ok read (reference_fault read.sections) refl are)
