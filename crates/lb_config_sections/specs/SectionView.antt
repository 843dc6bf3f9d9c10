-- A section as contracts see it.
use Rattle.std.specs.Prelude.{ℕ, List, [], ◌∷◌, ◌++◌}
use Rattle.lb_config_lines.specs.declared.statement.Header.{Header}
use Rattle.lb_config_lines.specs.declared.setting.Setting.{Setting}
use Rattle.lb_config_sections.specs.declared.config_section.NumberedSetting.{NumberedSetting}

-- its first line, and what the lines behind it set
pub record SectionView : Type 0 where
  pub header : Header
  pub settings : List NumberedSetting

-- a section of which the first line alone was read
abbrev pub begun : Header → SectionView
begun header = record { header = header; settings = [] }

-- a setting behind the others
abbrev pub with_setting : SectionView → ℕ → Setting → SectionView
with_setting section line setting = record { header = section.header; settings = section.settings ++ record { line = line; setting = setting } ∷ [] }
