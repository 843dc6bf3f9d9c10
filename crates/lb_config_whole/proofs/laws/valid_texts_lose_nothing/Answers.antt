use Rattle.std.proofs.Common.{All, slice_index_or}
use Rattle.lb_config_sections.specs.References.{checked_in}
use Rattle.lb_config_sections.specs.SectionsView.{SectionsView}
use Rattle.lb_config_arguments.proofs.KeptSteps.{weaker}
use Rattle.lb_config_valid.specs.Valid.{AreValid}
use Rattle.lb_config_whole.specs.Whole.{KeepsAclLines, KeepsBackendRules, KeepsServerRules, KeepsServers}
use Rattle.lb_config_whole.proofs.KeptAcls.{lines_kept}
use Rattle.lb_config_whole.proofs.KeptRules.{backend_rules_of_sections, server_rules_of_sections, servers_of_sections}
use Rattle.lb_config_whole.proofs.laws.valid_texts_lose_nothing.Goals as goal

pub returns-clause-servers : goal.returns-clause-servers
returns-clause-servers c = λ text.
    weaker (λ (checked : SectionsView). AreValid checked.sections) (λ checked. All KeepsServers checked.sections) (checked_in text)
    (c.checked_sections_are_valid.ensures text) (λ checked. servers_of_sections checked.sections)

pub returns-clause-server_rules : goal.returns-clause-server_rules
returns-clause-server_rules c = λ text.
    weaker (λ (checked : SectionsView). AreValid checked.sections) (λ checked. All KeepsServerRules checked.sections) (checked_in text)
    (c.checked_sections_are_valid.ensures text) (λ checked. server_rules_of_sections checked.sections)

pub returns-clause-backend_rules : goal.returns-clause-backend_rules
returns-clause-backend_rules c = λ text.
    weaker (λ (checked : SectionsView). AreValid checked.sections) (λ checked. All (KeepsBackendRules checked.sections) checked.sections) (checked_in text)
    (c.checked_sections_are_valid.ensures text) (λ checked. backend_rules_of_sections checked.sections)

pub returns-clause-acl_lines : goal.returns-clause-acl_lines
returns-clause-acl_lines c = λ text.
    weaker (λ (checked : SectionsView). AreValid checked.sections) (λ checked. All KeepsAclLines checked.sections) (checked_in text)
    (c.checked_sections_are_valid.ensures text) (λ checked are k d within name. lines_kept name (slice_index_or checked.sections k d).settings)
