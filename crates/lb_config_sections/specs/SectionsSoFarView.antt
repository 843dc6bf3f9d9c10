-- A configuration as far as it was read.
use Rattle.std.specs.Prelude.{List, Option}
use Rattle.lb_config_limits.specs.DeclaredView.{DeclaredView}
use Rattle.lb_config_sections.specs.SectionView.{SectionView}
use Rattle.lb_config_sections.specs.declared.warning.Warning.{Warning}

-- what later lines are judged by, the finished sections, the section to which the next line belongs, and the warnings
pub record SectionsSoFarView : Type 0 where
  pub declared : DeclaredView
  pub finished : List SectionView
  pub current : Option SectionView
  pub warnings : List Warning
