-- What the lines of a configuration say, as contracts see it.
use Rattle.std.specs.Prelude.{List}
use Rattle.lb_config_sections.specs.SectionView.{SectionView}
use Rattle.lb_config_sections.specs.declared.warning.Warning.{Warning}

-- the sections, and the warnings of ignored lines, both in the order of the lines
pub record SectionsView : Type 0 where
  pub sections : List SectionView
  pub warnings : List Warning
