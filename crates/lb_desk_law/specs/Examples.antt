-- Worked picks, which the definitions compute.
use Rattle.std.specs.Prelude.{◌≡◌, ℕ, true, false, ◌==◌, Option, Some, None, [], ◌∷◌}
use Rattle.server_state.specs.declared.settings.AdminState.TheVariants.{Ready}
use Rattle.lb_types.specs.declared.balance.Balance.{Balance}
use Rattle.lb_types.specs.declared.balance.Balance.TheVariants.{RoundRobin, LeastConnections, First}
use Rattle.lb_desk_model.specs.declared.stand.Stand.{Stand}
use Rattle.lb_desk_model.specs.Picks.{Picked, picked, stand, balanced}
use Rattle.lb_desk_model.specs.States.{ServerState}

-- a server of this weight, with this limit of connections and so many of them open
abbrev pub server : ℕ → ℕ → ℕ → ServerState
server weight limit connections = record {
  name = [];
  admin = Ready;
  weight = weight;
  max_connections = limit;
  capacity = 5;
  backup = false;
  checks = None;
  connections = connections;
}

-- two servers, of which both may be taken
abbrev pub of_two : Balance → ServerState → ServerState → Option Stand → Option Picked
of_two balance a b cursor = balanced balance (λ s. true) (a ∷ b ∷ []) cursor

-- the server is taken, and the cursor is set to this turn of it
abbrev pub taken : ℕ → ℕ → Option Picked
taken at nth = Some (picked (Some (stand at nth)) at)

-- weights 2 and 1: the first server twice, then the other, and round again
pub record RoundOfTwo : Type 0 where
  pub first : of_two RoundRobin (server 2 0 0) (server 1 0 0) None ≡ taken 0 1
  pub second : of_two RoundRobin (server 2 0 0) (server 1 0 0) (Some (stand 0 1)) ≡ taken 0 2
  pub third : of_two RoundRobin (server 2 0 0) (server 1 0 0) (Some (stand 0 2)) ≡ taken 1 1
  pub again : of_two RoundRobin (server 2 0 0) (server 1 0 0) (Some (stand 1 1)) ≡ taken 0 1

-- a cursor at a turn that the weights no longer have: the next stand behind it is taken, or the first of all
pub record RoundOfFewer : Type 0 where
  pub behind : of_two RoundRobin (server 1 0 0) (server 1 0 0) (Some (stand 0 2)) ≡ taken 1 1
  pub around : of_two RoundRobin (server 1 0 0) (server 1 0 0) (Some (stand 1 3)) ≡ taken 0 1
  pub more : of_two RoundRobin (server 3 0 0) (server 1 0 0) (Some (stand 0 1)) ≡ taken 0 2
  pub none_left : of_two RoundRobin (server 0 0 0) (server 0 0 0) (Some (stand 0 1)) ≡ None
  -- the only candidate is taken at its own stand again
  pub alone : balanced RoundRobin (λ s. s == 1) (server 1 0 0 ∷ server 1 0 0 ∷ []) (Some (stand 1 1)) ≡ taken 1 1

-- the fewest connections for the weight; among equals the first behind the cursor's server
pub record LeastOfTwo : Type 0 where
  pub tie : of_two LeastConnections (server 1 0 0) (server 1 0 0) None ≡ taken 0 1
  pub fewer : of_two LeastConnections (server 1 0 1) (server 1 0 0) (Some (stand 0 1)) ≡ taken 1 1
  pub fewer_again : of_two LeastConnections (server 1 0 1) (server 1 0 2) (Some (stand 1 1)) ≡ taken 0 1
  pub tie_behind : of_two LeastConnections (server 1 0 1) (server 1 0 1) (Some (stand 0 1)) ≡ taken 1 1
  pub tie_around : of_two LeastConnections (server 1 0 1) (server 1 0 1) (Some (stand 1 1)) ≡ taken 0 1
  -- two connections at weight 2 are as many as one at weight 1
  pub weighed : of_two LeastConnections (server 2 0 2) (server 1 0 1) (Some (stand 0 1)) ≡ taken 1 1

-- the first with a free connection, or the first where there is none. The cursor stays
pub record FirstOfTwo : Type 0 where
  pub free : of_two First (server 1 1 0) (server 1 0 0) None ≡ Some (picked None 0)
  pub full : of_two First (server 1 1 1) (server 1 0 0) (Some (stand 0 1)) ≡ Some (picked (Some (stand 0 1)) 1)
  pub all_full : of_two First (server 1 1 1) (server 1 2 2) None ≡ Some (picked None 0)
  pub none : balanced First (λ s. false) (server 1 0 0 ∷ []) None ≡ None
