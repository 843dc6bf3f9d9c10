-- The numbers of settings, where their words are read.
use Rattle.std.proofs.Common.{ℕ, List, IfOk, codes}
use Rattle.std.specs.Prelude.{nat_eq}
use Rattle.std.specs.List.{starts_with}
use Rattle.lb_types.specs.declared.limits.TheConstants.{MAX_COST}
use Rattle.lb_config_arguments.specs.Addresses.{listen_endpoint_in}
use Rattle.lb_config_arguments.specs.Numbers.{number_in, time_in}
use Rattle.lb_config_arguments.specs.Ranges.{IsFromTo, IsPort, IsTime}
use Rattle.lb_config_arguments.specs.Reading.{end_at, more_at, word_at}
use Rattle.lb_config_arguments.specs.Rest.{Rest}
use Rattle.lb_config_arguments.proofs.KeptSteps.{bind_ok, cond_ok, then_ok}
use Rattle.lb_config_arguments.proofs.ReadRanges.{listen_endpoint_ok, number_ok, time_ok}
use Rattle.lb_config_conditions.specs.CondLines.{rule_cond_at}
use Rattle.lb_config_conditions.specs.RuleLines.{cost_rule_at}
use Rattle.lb_config_keywords.specs.SettingLines.{bare_end_at, bind_at, last_time_at, socket_address_in, stats_socket_at, tuning_at, without_family}
use Rattle.lb_config_valid.specs.Numbers.{IsSocket}

pub bind_at_ok : (rest : Rest) → IfOk (bind_at rest) (λ endpoint. IsPort endpoint.port)
unfolding bind_at
bind_at_ok rest =
    then_ok (λ endpoint. IsPort endpoint.port) (word_at rest) _ (λ word.
    bind_ok (λ endpoint. IsPort endpoint.port) (λ endpoint. IsPort endpoint.port) (listen_endpoint_in word.0 word.0) _ (listen_endpoint_ok word.0 word.0)
    (λ endpoint is. then_ok (λ endpoint. IsPort endpoint.port) (bare_end_at word.1) _ (λ end. is)))

pub tuning_ok : (least most : ℕ) (rest : Rest) → IfOk (tuning_at least most rest) (IsFromTo least most)
unfolding tuning_at
tuning_ok least most rest =
    then_ok (IsFromTo least most) (word_at rest) _ (λ word.
    bind_ok (IsFromTo least most) (IsFromTo least most) (number_in least most word.0) _ (number_ok least most word.0)
    (λ number is. then_ok (IsFromTo least most) (end_at word.1) _ (λ end. is)))

pub last_time_ok : (rest : Rest) → IfOk (last_time_at rest) IsTime
unfolding last_time_at
last_time_ok rest =
    then_ok IsTime (word_at rest) _ (λ word.
    bind_ok IsTime IsTime (time_in word.0) _ (time_ok word.0) (λ millis is. then_ok IsTime (end_at word.1) _ (λ end. is)))

socket_address_ok : (word : List ℕ) → IfOk (socket_address_in word) IsSocket
unfolding socket_address_in
socket_address_ok word =
    cond_ok IsSocket (starts_with nat_eq word (codes "/")) _ _ (λ e. tt)
    (λ e. bind_ok (λ endpoint. IsPort endpoint.port) IsSocket (listen_endpoint_in word (without_family word)) _ (listen_endpoint_ok word (without_family word)) (λ endpoint is. is))

pub socket_ok : (rest : Rest) → IfOk (stats_socket_at rest) (λ socket. IsSocket socket.address)
unfolding stats_socket_at
socket_ok rest =
    then_ok (λ socket. IsSocket socket.address) (word_at rest) _ (λ word.
    bind_ok IsSocket (λ socket. IsSocket socket.address) (socket_address_in word.0) _ (socket_address_ok word.0)
    (λ address is. then_ok (λ socket. IsSocket socket.address) (more_at word.1) _ (λ more. is)))

pub cost_ok : (rest : Rest) → IfOk (cost_rule_at rest) (λ rule. IsFromTo 1 MAX_COST rule.cost)
unfolding cost_rule_at
cost_ok rest =
    then_ok (λ rule. IsFromTo 1 MAX_COST rule.cost) (word_at rest) _ (λ word.
    bind_ok (IsFromTo 1 MAX_COST) (λ rule. IsFromTo 1 MAX_COST rule.cost) (number_in 1 MAX_COST word.0) _ (number_ok 1 MAX_COST word.0)
    (λ cost is. then_ok (λ rule. IsFromTo 1 MAX_COST rule.cost) (rule_cond_at word.1) _ (λ cond. is)))
