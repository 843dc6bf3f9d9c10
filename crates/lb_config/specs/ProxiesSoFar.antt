-- The proxies of the sections so far. No public clause cites this module.
use Rattle.std.specs.Prelude.{ℕ, Option, List, [], ◌∷◌, ◌++◌}
use Rattle.std.specs.Option.{option_to_list}
use Rattle.lb_config_keywords.specs.declared.section.Section.{Section}
use Rattle.lb_config_sections.specs.SectionView.{SectionView}
use Rattle.lb_config_sections.specs.declared.config_section.NumberedSetting.{NumberedSetting}
use Rattle.lb_config_values.specs.DefaultsLines.{no_defaults}
use Rattle.lb_config.specs.BasisView.{BasisView}
use Rattle.lb_config.specs.Configs.{back_at, defaults_behind, front_at}
use Rattle.lb_config.specs.ProxiesSoFarView.{ProxiesSoFarView}

abbrev pub no_proxies : ProxiesSoFarView
no_proxies = record { defaults = no_defaults; frontends = []; backends = [] }

-- a section more, unless it is `defaults`
abbrev pub with_proxy : BasisView → ProxiesSoFarView → Section → Option (List ℕ) → List NumberedSetting → ProxiesSoFarView
with_proxy basis draft kind name settings = record {
  defaults = draft.defaults;
  frontends = draft.frontends ++ option_to_list (front_at basis draft.defaults kind name settings);
  backends = draft.backends ++ option_to_list (back_at basis draft.defaults kind name settings);
}

-- a section more
abbrev pub with_section : BasisView → ProxiesSoFarView → SectionView → ProxiesSoFarView
with_section basis draft section = record {
  defaults = defaults_behind draft.defaults section.header.section section.settings;
  frontends = draft.frontends ++ option_to_list (front_at basis draft.defaults section.header.section section.header.name section.settings);
  backends = draft.backends ++ option_to_list (back_at basis draft.defaults section.header.section section.header.name section.settings);
}

-- the sections more
abbrev pub with_sections : BasisView → ProxiesSoFarView → List SectionView → ProxiesSoFarView
with_sections basis draft [] = draft
with_sections basis draft (section ∷ more) = with_sections basis (with_section basis draft section) more
