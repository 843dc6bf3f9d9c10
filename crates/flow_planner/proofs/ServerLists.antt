-- Servers with the prices of their options, and the room of options, as lists.
use Rattle.std.proofs.Common.{◌≡◌, get_or, ℕ, zero, suc, ◌+◌, ◌<◌, cond, List, [], ◌∷◌, map, length, refl, ap, ◌∙◌, arith}
use Rattle.std.specs.List.{slice_get, enumerate_from}
use Rattle.std.specs.Option.{option_map_or, is_some}
use Rattle.std.proofs.lemmas.List.{length-map, get_or-map}
use Rattle.std.proofs.lemmas.List.FromFn.{length-enumerate_from, get_or-enumerate_from}
use Rattle.dual_cert_plan.specs.declared.server.Server.{Server}
use Rattle.dual_cert_plan.specs.declared.server.PricedServer.{PricedServer}
use Rattle.dual_cert_plan.specs.Sheets.{is_usable}
use Rattle.dual_cert_plan.specs.Plans.{servers_of}
use Rattle.cert_check.specs.Verdict.{price_at}
use Rattle.flow_planner.specs.Plannings.{priced_server, priced_servers}

servers-from : (price : ℕ → ℕ) (n : ℕ) (servers : List Server)
    → map (λ (p : PricedServer). p.server) (map (priced_server price) (enumerate_from n servers)) ≡ servers
servers-from price n [] = refl
servers-from price n (s ∷ servers) = ap (λ (xs : List Server). s ∷ xs) (servers-from price (n + 1) servers)

-- without their prices they are the servers
pub servers-priced : (price : ℕ → ℕ) (servers : List Server) → servers_of (priced_servers price servers) ≡ servers
servers-priced price servers = servers-from price 0 servers

price-from : (price : ℕ → ℕ) (n : ℕ) (servers : List Server) (s : ℕ) → s < length servers
    → option_map_or (λ (p : PricedServer). p.price) (slice_get (map (priced_server price) (enumerate_from n servers)) s) 0
    ≡ cond (is_usable servers s) (price (suc (n + s))) 0
price-from price n [] s within = absurd (omega arith)
price-from price n (x ∷ servers) zero within =
    let same : n ≡ n + 0 = omega arith in
    ap (λ k. cond (is_some x.capacity) (price (suc k)) 0) same
price-from price n (x ∷ servers) (suc s) within =
    let same : n + 1 + s ≡ n + suc s = omega arith in
    price-from price (n + 1) servers s (omega arith) ∙ ap (λ k. cond (is_usable servers s) (price (suc k)) 0) same

-- each has the price of its option, or none where it is off
pub price-priced : (price : ℕ → ℕ) (servers : List Server) (s : ℕ) → s < length servers
    → price_at (priced_servers price servers) s ≡ cond (is_usable servers s) (price (suc s)) 0
price-priced price servers s within =
    let same : 0 + s ≡ s = omega arith in
    price-from price 0 servers s within ∙ ap (λ k. cond (is_usable servers s) (price (suc k)) 0) same

pub length-priced : (price : ℕ → ℕ) (servers : List Server) → length (priced_servers price servers) ≡ length servers
length-priced price servers = length-map (enumerate_from 0 servers) (priced_server price) ∙ length-enumerate_from 0 servers

-- the server at a place of the list
pub get_or-priced : (price : ℕ → ℕ) (servers : List Server) (i : ℕ) (d : PricedServer) (e : Server) → i < length servers
    → get_or (priced_servers price servers) i d ≡ priced_server price (i, get_or servers i e)
get_or-priced price servers i d e below =
    let start : ℕ × Server = (0, e) in
    let long = length-enumerate_from 0 servers in
    let at : 0 + i ≡ i = omega arith in
    get_or-map (priced_server price) (enumerate_from 0 servers) i start d (omega arith)
    ∙ ap (priced_server price) (get_or-enumerate_from 0 servers i start below ∙ rw at refl)
