-- The words behind the keywords of a proxy: HAProxy Configuration Manual 2.8, section 4.2. Where the manual has a word that this
-- balancer leaves out by name, that word is told.
use Rattle.std.specs.Prelude.{ℕ, Bool, ◌||◌, nat_eq, List, [], ◌∷◌, drop, Option, Some, None, Result, Ok, Err, codes, bytes_eq, if◌then◌else◌}
use Rattle.std.specs.List.{starts_with}
use Rattle.lb_acl.specs.declared.head.Version.{Version}
use Rattle.lb_acl.specs.declared.head.Version.TheVariants.{Http10, Http11}
use Rattle.lb_config_arguments.specs.declared.address.Endpoint.{Endpoint}
use Rattle.lb_config_arguments.specs.declared.fault.Fault.{Fault}
use Rattle.lb_config_arguments.specs.declared.fault.Fault.TheVariants.{UnknownWord, LeftOut}
use Rattle.lb_config_arguments.specs.Addresses.{listen_endpoint_in}
use Rattle.lb_config_arguments.specs.Faults.{◌>>=◌}
use Rattle.lb_config_arguments.specs.Numbers.{number_in, time_in}
use Rattle.lb_config_arguments.specs.Reading.{word_at, word_or_end_at, end_at, more_at, name_at}
use Rattle.lb_config_arguments.specs.Rest.{Rest}
use Rattle.lb_config_keywords.specs.declared.http_check.HttpCheck.{HttpCheck}
use Rattle.lb_types.specs.declared.balance.Balance.{Balance}
use Rattle.lb_types.specs.declared.balance.Balance.TheVariants.{RoundRobin, LeastConnections, First}
use Rattle.lb_config_keywords.specs.declared.stats_socket.SocketAddress.{SocketAddress}
use Rattle.lb_config_keywords.specs.declared.stats_socket.SocketAddress.TheVariants as Socket
use Rattle.lb_config_keywords.specs.declared.stats_socket.StatsSocket.{StatsSocket}
use Rattle.lb_config_keywords.specs.Sections.{is_one_of}

-- the line ends here: a word more is left out
abbrev pub end_or_left_out : Option (List ℕ) → Result (Unit {0}) Fault
end_or_left_out None = Ok tt
end_or_left_out (Some word) = Err (LeftOut word)

unfoldable pub bare_end_at : Rest → Result (Unit {0}) Fault
bare_end_at rest = word_or_end_at rest >>= λ next. end_or_left_out next.0

-- `mode`
unfoldable pub mode_in : List ℕ → Result (Unit {0}) Fault
mode_in word = if bytes_eq word (codes "http") then Ok tt else (if bytes_eq word (codes "tcp") then Err (LeftOut word) else Err UnknownWord)

unfoldable pub mode_at : Rest → Result (Unit {0}) Fault
mode_at rest = do
  word ← word_at rest
  known ← mode_in word.0
  end_at word.1

-- balances that are left out, some with an argument
abbrev pub left_out_balances : List (List ℕ)
left_out_balances = codes "source" ∷ codes "uri" ∷ codes "hdr" ∷ codes "random" ∷ codes "static-rr" ∷ []

unfoldable pub is_left_out_balance : List ℕ → Bool
is_left_out_balance word =
    is_one_of left_out_balances word || starts_with nat_eq word (codes "hdr(") || starts_with nat_eq word (codes "random(")

-- `balance`
unfoldable pub balance_in : List ℕ → Result Balance Fault
balance_in word =
    if bytes_eq word (codes "roundrobin") then Ok RoundRobin
    else (if bytes_eq word (codes "leastconn") then Ok LeastConnections
    else (if bytes_eq word (codes "first") then Ok First
    else (if is_left_out_balance word then Err (LeftOut word) else Err UnknownWord)))

unfoldable pub balance_at : Rest → Result Balance Fault
balance_at rest = do
  word ← word_at rest
  balance ← balance_in word.0
  end ← end_at word.1
  Ok balance

-- `bind`: other words behind the address are left out
unfoldable pub bind_at : Rest → Result Endpoint Fault
bind_at rest = do
  word ← word_at rest
  endpoint ← listen_endpoint_in word.0 word.0
  end ← bare_end_at word.1
  Ok endpoint

-- `default_backend`
unfoldable pub default_backend_at : Rest → Result (List ℕ) Fault
default_backend_at rest = do
  name ← name_at rest
  end ← end_at name.1
  Ok name.0

-- `tune.relays`, `tune.tries` and `tune.journal`: a number in its range
unfoldable pub tuning_at : ℕ → ℕ → Rest → Result ℕ Fault
tuning_at least most rest = do
  word ← word_at rest
  number ← number_in least most word.0
  end ← end_at word.1
  Ok number

-- a time, and the line's end
unfoldable pub last_time_at : Rest → Result ℕ Fault
last_time_at rest = do
  word ← word_at rest
  millis ← time_in word.0
  end ← end_at word.1
  Ok millis

-- the version of a check's request
unfoldable pub version_in : List ℕ → Result Version Fault
version_in word =
    if bytes_eq word (codes "HTTP/1.0") then Ok Http10 else (if bytes_eq word (codes "HTTP/1.1") then Ok Http11 else Err (LeftOut word))

-- the check by this method, URI and version
abbrev pub http_check : List ℕ → List ℕ → Version → HttpCheck
http_check method uri version = record { method = method; uri = uri; version = version }

-- a version, or nothing, behind the method and the URI
abbrev pub check_version : List ℕ → List ℕ → Option (List ℕ) → Rest → Result HttpCheck Fault
check_version method uri None rest = Ok (http_check method uri Http10)
check_version method uri (Some word) rest = do
  version ← version_in word
  end ← end_at rest
  Ok (http_check method uri version)

unfoldable pub check_version_at : List ℕ → List ℕ → Rest → Result HttpCheck Fault
check_version_at method uri rest = word_or_end_at rest >>= λ next. check_version method uri next.0 next.1

-- one word is the URI, two are the method and the URI
abbrev pub check_uri : List ℕ → Option (List ℕ) → Rest → Result HttpCheck Fault
check_uri first None rest = Ok (http_check (codes "OPTIONS") first Http10)
check_uri first (Some second) rest = check_version_at first second rest

unfoldable pub check_uri_at : List ℕ → Rest → Result HttpCheck Fault
check_uri_at first rest = word_or_end_at rest >>= λ next. check_uri first next.0 next.1

-- the words behind `option httpchk`
abbrev pub check_words : Option (List ℕ) → Rest → Result HttpCheck Fault
check_words None rest = Ok (http_check (codes "OPTIONS") (codes "/") Http10)
check_words (Some first) rest = check_uri_at first rest

unfoldable pub http_check_at : Rest → Result HttpCheck Fault
http_check_at rest = word_or_end_at rest >>= λ next. check_words next.0 next.1

-- the address of the command socket: a path, or an endpoint, before whose address `ipv4@` may stand
unfoldable pub without_family : List ℕ → List ℕ
without_family word = if starts_with nat_eq word (codes "ipv4@") then drop 5 word else word

unfoldable pub socket_address_in : List ℕ → Result SocketAddress Fault
socket_address_in word =
    if starts_with nat_eq word (codes "/") then Ok (Socket.Path word)
    else (listen_endpoint_in word (without_family word) >>= λ endpoint. Ok (Socket.Tcp endpoint))

-- `stats socket`: more words are ignored
unfoldable pub stats_socket_at : Rest → Result StatsSocket Fault
stats_socket_at rest = do
  word ← word_at rest
  address ← socket_address_in word.0
  more ← more_at word.1
  Ok (record { address = address; has_more = more })
