-- Numbers in their ranges, where they are read.
use Rattle.std.proofs.Common.{ℕ, ◌≤◌, nat_le, ◌&&◌, List, Option, Some, None, Err, IfOk, length, ◌==◌}
use Rattle.std.specs.Prelude.{Result}
use Rattle.std.specs.declared.net.ipv4_addr.Ipv4Addr.{Ipv4Addr}
use Rattle.std.specs.Int.{div_ceil}
use Rattle.std.specs.Option.{option_map}
use Rattle.std.proofs.lemmas.Bool.{and_parts, cond_both, leb-true}
use Rattle.lb_types.specs.declared.limits.TheConstants.{MAX_PINS}
use Rattle.lb_types_text.specs.Numbers.{digits_of}
use Rattle.lb_config_arguments.specs.declared.fault.Fault.{Fault}
use Rattle.lb_config_arguments.specs.declared.fault.Fault.TheVariants.{Missing}
use Rattle.lb_config_arguments.specs.declared.address.TheConstants.{MAX_PORT}
use Rattle.lb_config_arguments.specs.declared.numbers.TheConstants.{MAX_MILLIS}
use Rattle.lb_config_arguments.specs.Addresses.{endpoint_of, host_part, listen_endpoint_in, listen_host, port_in, port_part, server_endpoint_in, server_host}
use Rattle.lb_config_arguments.specs.Numbers.{amount_of, number_in, quantity_of, size_in, size_unit, time_in, time_unit, within}
use Rattle.lb_config_arguments.specs.Ranges.{IsFromTo, IsPort, IsTime}
use Rattle.lb_config_arguments.proofs.KeptSteps.{bind_ok, cond_ok, weaker}

within_ok : (least most : ℕ) (number : Option ℕ) → IfOk (within least most number) (IsFromTo least most)
within_ok least most None = tt
within_ok least most (Some number) =
    cond_both (nat_le least number && nat_le number most) _ _ (λ (r : Result ℕ Fault). IfOk r (IsFromTo least most))
    (λ e. let parts = and_parts (nat_le least number) (nat_le number most) e in (leb-true least number parts.0, leb-true number most parts.1))
    (λ e. tt)

pub number_ok : (least most : ℕ) (word : List ℕ) → IfOk (number_in least most word) (IsFromTo least most)
unfolding number_in
number_ok least most word = within_ok least most (amount_of (Some 1) (digits_of word))

-- the greatest alone
pub at_most_ok : (most : ℕ) (word : List ℕ) → IfOk (number_in 0 most word) (λ number. number ≤ most)
at_most_ok most word = weaker (IsFromTo 0 most) (λ number. number ≤ most) (number_in 0 most word) (number_ok 0 most word) (λ number is. is.1)

pub time_ok : (word : List ℕ) → IfOk (time_in word) IsTime
unfolding time_in
time_ok word =
    let millis = option_map (λ micros. div_ceil micros 1000) (quantity_of time_unit word) in
    weaker (IsFromTo 0 MAX_MILLIS) IsTime (within 0 MAX_MILLIS millis) (within_ok 0 MAX_MILLIS millis) (λ number is. is.1)

pub size_ok : (word : List ℕ) → IfOk (size_in word) (IsFromTo 1 MAX_PINS)
unfolding size_in
size_ok word = within_ok 1 MAX_PINS (quantity_of size_unit word)

port_ok : (word : Option (List ℕ)) → IfOk (port_in word) IsPort
unfolding port_in
port_ok None = tt
port_ok (Some word) =
    cond_ok IsPort (length word == 0) (Err Missing) (number_in 1 MAX_PORT word) (λ e. tt) (λ e. number_ok 1 MAX_PORT word)

endpoint_ok : (word : List ℕ) (address : Option Ipv4Addr) (port : Option (List ℕ)) → IfOk (endpoint_of word address port) (λ endpoint. IsPort endpoint.port)
unfolding endpoint_of
endpoint_ok word None port = tt
endpoint_ok word (Some at) port = bind_ok IsPort (λ endpoint. IsPort endpoint.port) (port_in port) _ (port_ok port) (λ number is. is)

pub server_endpoint_ok : (word : List ℕ) → IfOk (server_endpoint_in word) (λ endpoint. IsPort endpoint.port)
unfolding server_endpoint_in
server_endpoint_ok word = endpoint_ok word (server_host (host_part word)) (port_part word)

pub listen_endpoint_ok : (word text : List ℕ) → IfOk (listen_endpoint_in word text) (λ endpoint. IsPort endpoint.port)
unfolding listen_endpoint_in
listen_endpoint_ok word text = endpoint_ok word (listen_host (host_part text)) (port_part text)
