-- Servers read one after another.
use Rattle.std.proofs.Common.{◌≡◌, ℕ, ◌+◌, ◌<◌, ◌≤◌, List, ◌∷◌, ◌++◌, length, get_or, drop, Option, sym, ap, ◌∙◌}
use Rattle.std.specs.Option.{option_to_list}
use Rattle.std.proofs.lemmas.List.{drop_all, at_drop_more, append_assoc, append-nil}
use Rattle.check_workers_rule.specs.CheckRequests.{CheckLine}
use Rattle.lb_config_sections.specs.declared.config_section.NumberedSetting.{NumberedSetting}
use Rattle.lb_config_parameters.specs.OptionsView.{OptionsView}
use Rattle.lb_config_values.specs.ServerView.{ServerView}
use Rattle.lb_config_values.specs.Servers.{server_in, servers_behind, with_default}

-- the servers so far, in front of the next one
pub server_more : (m : ℕ) (check : Option CheckLine) (front : List ServerView) (options : OptionsView) (settings : List NumberedSetting) (i : ℕ) (numbered : NumberedSetting) → i < length settings → numbered ≡ get_or settings i numbered →
    front ++ servers_behind m check options (drop i settings) ≡ (front ++ option_to_list (server_in m check options numbered.setting)) ++ servers_behind m check (with_default options numbered.setting) (drop (i + 1) settings)
server_more m check front options settings i numbered within is =
    at_drop_more (λ rest. front ++ servers_behind m check options rest) settings i numbered within
    ∙ ap (λ first. front ++ servers_behind m check options (first ∷ drop (i + 1) settings)) (sym is)
    ∙ sym (append_assoc front (option_to_list (server_in m check options numbered.setting)) (servers_behind m check (with_default options numbered.setting) (drop (i + 1) settings)))

-- no line is left
pub server_end : (m : ℕ) (check : Option CheckLine) (front : List ServerView) (options : OptionsView) (settings : List NumberedSetting) (i : ℕ) → length settings ≤ i →
    front ++ servers_behind m check options (drop i settings) ≡ front
server_end m check front options settings i past = ap (λ rest. front ++ servers_behind m check options rest) (drop_all i settings past) ∙ append-nil front
