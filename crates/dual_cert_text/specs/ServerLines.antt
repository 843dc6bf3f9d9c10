-- Lines of servers: `server NAME off`, and for a usable server `server NAME cap C` in a sheet and
-- `server NAME cap C price P` in a plan.
use Rattle.std.specs.Prelude.{◌≢◌, ℕ, ◌^◌, Bool, true, false, ◌&&◌, nat_lt, is_none, Option, Some, None, position, List, [], ◌∷◌, length, AllPairs, codes, Result, Ok, Err, if◌then◌else◌}
use Rattle.std.specs.Option.{ok_or, option_map_or}
use Rattle.std.specs.Str.{bytes_eq}
use Rattle.lb_types.specs.declared.limits.TheConstants.{MAX_SERVERS}
use Rattle.lb_types.specs.Names.{is_name}
use Rattle.dual_cert_plan.specs.declared.server.PricedServer.{PricedServer}
use Rattle.dual_cert_text.specs.declared.fault.TextFault.{TextFault}
use Rattle.dual_cert_text.specs.declared.fault.TextFault.TheVariants.{BadLine, TooLarge}
use Rattle.dual_cert_text.specs.declared.server_line.Usage.{Usage}
use Rattle.dual_cert_text.specs.declared.server_line.ServerWords.{ServerWords}
use Rattle.dual_cert_text.specs.Faults.{◌>>=◌}
use Rattle.dual_cert_text.specs.Words.{◌>>=◌ as ◌>>?◌, keyed}

-- the number of the server with this name
abbrev pub server_named : List PricedServer → List ℕ → Option ℕ
server_named servers word = position (λ s. bytes_eq s.server.name word) servers

-- the servers have names of their own
abbrev pub AreDistinct : List PricedServer → Type 0
AreDistinct servers = AllPairs (λ a b. a.server.name ≢ b.server.name) servers

-- the words behind a server's name, with numbers of any size
unfoldable pub usage_of : Bool → List (List ℕ) → Option Usage
usage_of is_priced (word ∷ []) = if bytes_eq word (codes "off") then Some (record { capacity = None; price = 0 }) else None
usage_of false (cap ∷ c ∷ []) = keyed (codes "cap") cap c >>? λ n. Some (record { capacity = Some n; price = 0 })
usage_of true (cap ∷ c ∷ price ∷ p ∷ []) =
    keyed (codes "cap") cap c >>? λ n. (keyed (codes "price") price p >>? λ m. Some (record { capacity = Some n; price = m }))
usage_of _ _ = None

-- the words behind `server`: a new lawful name, and its usage
unfoldable pub server_words_of : Bool → List PricedServer → List (List ℕ) → Option ServerWords
server_words_of is_priced servers (name ∷ words) =
    if is_name name && is_none (server_named servers name) then (usage_of is_priced words >>? λ usage. Some (record { name = name; usage = usage }))
    else None
server_words_of _ _ [] = None

-- capacities are below 2^32, and prices below 2^40
abbrev pub in_range : Usage → Bool
in_range usage = option_map_or (λ c. nat_lt c (2 ^ 32)) usage.capacity true && nat_lt usage.price (2 ^ 40)

-- the server that the words declare
abbrev pub priced_server : ServerWords → PricedServer
priced_server said = record { server = record { name = said.name; capacity = said.usage.capacity }; price = said.usage.price }

-- the server that line n declares behind these servers
unfoldable pub server_at : ℕ → Bool → List PricedServer → List (List ℕ) → Result PricedServer TextFault
server_at n is_priced servers words = do
  said ← ok_or (server_words_of is_priced servers words) (BadLine n)
  if nat_lt (length servers) MAX_SERVERS && in_range said.usage then Ok (priced_server said) else Err TooLarge
