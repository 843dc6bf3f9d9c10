-- Addresses in a configuration: HAProxy Configuration Manual 2.8, `bind`, `server` (section 4.2) and `stats socket` (section 3.1).
-- An address is IPv4 or `localhost`, a port stands behind the last colon.
use Rattle.std.specs.Prelude.{ℕ, ◌-◌, ◌||◌, ◌==◌, not, nat_le, nat_lt, List, [], ◌∷◌, length, take, drop, Option, Some, None, Result, Ok, Err, codes, bytes_eq, if◌then◌else◌}
use Rattle.std.specs.List.{suffix_len}
use Rattle.std.specs.Option.{ok_or}
use Rattle.std.specs.declared.net.ipv4_addr.Ipv4Addr.{Ipv4Addr}
use Rattle.lb_types_text.specs.Numbers.{numeral_of}
use Rattle.lb_types_text.specs.Parts.{parts}
use Rattle.lb_config_arguments.specs.declared.address.Endpoint.{Endpoint}
use Rattle.lb_config_arguments.specs.declared.address.TheConstants.{MAX_PORT}
use Rattle.lb_config_arguments.specs.declared.fault.Fault.{Fault}
use Rattle.lb_config_arguments.specs.declared.fault.Fault.TheVariants.{Missing, LeftOut}
use Rattle.lb_config_arguments.specs.Faults.{◌>>=◌}
use Rattle.lb_config_arguments.specs.Numbers.{number_in}

-- a number up to 255 without leading zeros
abbrev pub byte_of : Option ℕ → Option ℕ
byte_of None = None
byte_of (Some number) = if nat_le number 255 then Some number else None

unfoldable pub octet_of : List ℕ → Option ℕ
octet_of word = byte_of (numeral_of word)

-- the address of four bytes, if each is one
abbrev pub address_of : Option ℕ → Option ℕ → Option ℕ → Option ℕ → Option Ipv4Addr
address_of (Some a) (Some b) (Some c) (Some d) = Some (record { octets = a ∷ b ∷ c ∷ d ∷ [] })
address_of _ _ _ _ = None

abbrev pub dotted : List (List ℕ) → Option Ipv4Addr
dotted (a ∷ b ∷ c ∷ d ∷ []) = address_of (octet_of a) (octet_of b) (octet_of c) (octet_of d)
dotted _ = None

-- the address that the text writes: four numbers joined by dots
unfoldable pub ipv4_of : List ℕ → Option Ipv4Addr
ipv4_of text = dotted (parts 46 text)

-- the address of a server
unfoldable pub server_host : List ℕ → Option Ipv4Addr
server_host host = if bytes_eq host (codes "localhost") then Some (record { octets = 127 ∷ 0 ∷ 0 ∷ 1 ∷ [] }) else ipv4_of host

-- the address that is listened on: `*` or nothing stands for all
unfoldable pub listen_host : List ℕ → Option Ipv4Addr
listen_host host =
    if length host == 0 || bytes_eq host (codes "*") then Some (record { octets = 0 ∷ 0 ∷ 0 ∷ 0 ∷ [] }) else server_host host

-- how many bytes stand behind the last colon; all of them where there is none
abbrev pub port_len : List ℕ → ℕ
port_len word = suffix_len (λ byte. not (byte == 58)) word

-- what stands before the last colon, or the whole word
unfoldable pub host_part : List ℕ → List ℕ
host_part word = if nat_lt (port_len word) (length word) then take (length word - port_len word - 1) word else word

-- what stands behind the last colon, if there is one
unfoldable pub port_part : List ℕ → Option (List ℕ)
port_part word = if nat_lt (port_len word) (length word) then Some (drop (length word - port_len word) word) else None

-- a port, which has to be there
unfoldable pub port_in : Option (List ℕ) → Result ℕ Fault
port_in None = Err Missing
port_in (Some word) = if length word == 0 then Err Missing else number_in 1 MAX_PORT word

-- the endpoint with this address and port. `word` is told where there is no address
unfoldable pub endpoint_of : List ℕ → Option Ipv4Addr → Option (List ℕ) → Result Endpoint Fault
endpoint_of word address port = do
  at ← ok_or address (LeftOut word)
  number ← port_in port
  Ok (record { address = at; port = number })

-- the endpoint of a server
unfoldable pub server_endpoint_in : List ℕ → Result Endpoint Fault
server_endpoint_in word = endpoint_of word (server_host (host_part word)) (port_part word)

-- the endpoint that `text` names, which is the end of the word or the whole of it
unfoldable pub listen_endpoint_in : List ℕ → List ℕ → Result Endpoint Fault
listen_endpoint_in word text = endpoint_of word (listen_host (host_part text)) (port_part text)
