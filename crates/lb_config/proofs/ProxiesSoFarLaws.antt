-- What a draft has read is what the sections stand for.
use Rattle.std.proofs.Common.{◌≡◌, List, [], ◌∷◌, ◌++◌, sym, ◌∙◌}
use Rattle.std.specs.Option.{option_to_list}
use Rattle.std.proofs.lemmas.List.{append_assoc, append-nil}
use Rattle.lb_config_sections.specs.SectionView.{SectionView}
use Rattle.lb_config.specs.BasisView.{BasisView}
use Rattle.lb_config.specs.Configs.{back_at, backends_behind, defaults_behind, front_at, frontends_behind}
use Rattle.lb_config.specs.ProxiesSoFarView.{ProxiesSoFarView}
use Rattle.lb_config.specs.ProxiesSoFar.{with_section, with_sections}

pub frontends_are : (basis : BasisView) (draft : ProxiesSoFarView) (sections : List SectionView) →
    (with_sections basis draft sections).frontends ≡ draft.frontends ++ frontends_behind basis draft.defaults sections
frontends_are basis draft [] = sym (append-nil draft.frontends)
frontends_are basis draft (section ∷ more) =
    frontends_are basis (with_section basis draft section) more
    ∙ append_assoc draft.frontends
    (option_to_list (front_at basis draft.defaults section.header.section section.header.name section.settings))
    (frontends_behind basis (defaults_behind draft.defaults section.header.section section.settings) more)

pub backends_are : (basis : BasisView) (draft : ProxiesSoFarView) (sections : List SectionView) →
    (with_sections basis draft sections).backends ≡ draft.backends ++ backends_behind basis draft.defaults sections
backends_are basis draft [] = sym (append-nil draft.backends)
backends_are basis draft (section ∷ more) =
    backends_are basis (with_section basis draft section) more
    ∙ append_assoc draft.backends
    (option_to_list (back_at basis draft.defaults section.header.section section.header.name section.settings))
    (backends_behind basis (defaults_behind draft.defaults section.header.section section.settings) more)
