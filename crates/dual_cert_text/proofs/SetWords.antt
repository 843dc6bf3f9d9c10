-- The names of a set, read one after another.
use Rattle.std.proofs.Common.{◌≡◌, ℕ, ◌+◌, Bool, true, false, ◌&&◌, leb, Option, Some, None, List, [], ◌∷◌, refl}
use Rattle.std.specs.Prelude.{fold}
use Rattle.lb_types.specs.Servers.{with_server}
use Rattle.dual_cert_plan.specs.declared.server.PricedServer.{PricedServer}
use Rattle.dual_cert_text.specs.declared.kind_words.SetWord.{SetWord}
use Rattle.dual_cert_text.specs.RowLines.{usable_named, usable_servers_of, are_rising, members_of}
use Rattle.dual_cert_text.specs.Words.{◌>>=◌}

-- what was found, and these servers behind it
abbrev extended : ℕ → SetWord → List ℕ → SetWord
extended from found more = record { is_rising = found.is_rising && are_rising from more; servers = fold with_server found.servers more }

-- what was found, and the servers of these names behind it
unfoldable pub with_members : List PricedServer → ℕ → SetWord → List (List ℕ) → Option SetWord
with_members servers from found names =
    usable_servers_of servers names >>= λ more. Some (extended from found more)

and_true : (b : Bool) → (b && true) ≡ b
and_true true = refl
and_true false = refl

and_assoc : (a b c : Bool) → (a && (b && c)) ≡ ((a && b) && c)
and_assoc true b c = refl
and_assoc false b c = refl

pub with_members_start : (servers : List PricedServer) (names : List (List ℕ)) → with_members servers 0 (record { is_rising = true; servers = 0 }) names ≡ members_of servers names
unfolding with_members members_of
with_members_start servers names = refl

pub with_members_end : (servers : List PricedServer) (from : ℕ) (found : SetWord) → with_members servers from found [] ≡ Some found
unfolding with_members usable_servers_of
with_members_end servers from found = rw and_true refl

after_first : (o : Option (List ℕ)) (from server : ℕ) (found next : SetWord) → next.is_rising ≡ (found.is_rising && leb from server) → next.servers ≡ with_server found.servers server → (((o >>= λ more. Some (server ∷ more)) >>= λ all. Some (extended from found all)) ≡ (o >>= λ more. Some (extended (server + 1) next more)))
after_first None from server found next rising servers = refl
after_first (Some more) from server found next rising servers = rw (rising, servers, and_assoc) refl

pub with_members_more : (all : List PricedServer) (from server : ℕ) (found next : SetWord) (name : List ℕ) (names : List (List ℕ)) → usable_named all name ≡ Some server → next.is_rising ≡ (found.is_rising && leb from server) → next.servers ≡ with_server found.servers server → with_members all from found (name ∷ names) ≡ with_members all (server + 1) next names
unfolding with_members usable_servers_of
with_members_more all from server found next name names is rising servers = rw is (after_first (usable_servers_of all names) from server found next rising servers)

pub with_members_none : (servers : List PricedServer) (from : ℕ) (found : SetWord) (name : List ℕ) (names : List (List ℕ)) → usable_named servers name ≡ None → with_members servers from found (name ∷ names) ≡ None
unfolding with_members usable_servers_of
with_members_none servers from found name names is = rw is refl
