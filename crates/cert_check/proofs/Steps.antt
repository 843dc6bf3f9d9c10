-- What a list of servers says of a server by its number.
use Rattle.std.proofs.Common.{◌≡◌, Some, ℕ, ◌+◌, ◌<◌, List, length, get_or, take, refl, sym, ap, ◌∙◌, arith}
use Rattle.std.specs.Prelude.{unwrap_or}
use Rattle.std.proofs.lemmas.List.{length-map, take_more_same}
use Rattle.std.proofs.lemmas.Option.{slice_get_read, slice_get-map, same_Some, get_or_from_slice_get}
use Rattle.std.specs.List.{slice_get}
use Rattle.std.specs.Option.{option_map}
use Rattle.dual_cert_plan.specs.declared.server.Server.{Server}
use Rattle.dual_cert_plan.specs.declared.server.PricedServer.{PricedServer}
use Rattle.dual_cert_plan.specs.Plans.{servers_of}
use Rattle.cert_check.specs.Verdict.{room, price_at}

-- the price of the server at this place of the list
pub price_at-read : (servers : List PricedServer) (i : ℕ) (server : PricedServer) → i < length servers
    → server ≡ get_or servers i server → price_at servers i ≡ server.price
price_at-read servers i server within is = rw (slice_get_read servers (length servers) i server refl within is) refl

-- the room of the server at this place of the list
pub room-read : (servers : List PricedServer) (i : ℕ) (server : PricedServer) → i < length servers
    → server ≡ get_or servers i server → room (servers_of servers) i ≡ unwrap_or server.server.capacity 0
room-read servers i server within is =
    let there = slice_get_read servers (length servers) i server refl within is in
    rw (slice_get-map (λ (s : PricedServer). s.server) servers i, there) refl

-- the servers of a plan and those of a sheet at one place of two equal lists
pub same_there : (priced : List PricedServer) (servers : List Server) (i : ℕ) (p : PricedServer) (s : Server) → i < length priced → i < length servers
    → p ≡ get_or priced i p → s ≡ get_or servers i s → servers_of priced ≡ servers → p.server ≡ s
same_there priced servers i p s in_priced in_servers p_is s_is same =
    let left : slice_get (servers_of priced) i ≡ Some p.server =
    slice_get-map (λ (q : PricedServer). q.server) priced i ∙ ap (option_map (λ (q : PricedServer). q.server)) (slice_get_read priced (length priced) i p refl in_priced p_is) in
    let right : slice_get servers i ≡ Some s = slice_get_read servers (length servers) i s refl in_servers s_is in
    same_Some p.server s (sym left ∙ (ap (λ (xs : List Server). slice_get xs i) same ∙ right))

-- one place more at which the servers are the same
pub same_more : (priced : List PricedServer) (servers : List Server) (i : ℕ) (p : PricedServer) (s : Server) → i < length priced → i < length servers
    → p ≡ get_or priced i p → s ≡ get_or servers i s → p.server ≡ s → take i (servers_of priced) ≡ take i servers → take (i + 1) (servers_of priced) ≡ take (i + 1) servers
same_more priced servers i p s in_priced in_servers p_is s_is here before =
    let as_many : length (servers_of priced) ≡ length priced = length-map priced (λ (q : PricedServer). q.server) in
    let left : slice_get (servers_of priced) i ≡ Some p.server =
    slice_get-map (λ (q : PricedServer). q.server) priced i ∙ ap (option_map (λ (q : PricedServer). q.server)) (slice_get_read priced (length priced) i p refl in_priced p_is) in
    let right : slice_get servers i ≡ Some s = slice_get_read servers (length servers) i s refl in_servers s_is in
    take_more_same (servers_of priced) servers i s (omega arith) in_servers before
    (get_or_from_slice_get (servers_of priced) i p.server s left ∙ (here ∙ sym (get_or_from_slice_get servers i s s right)))
