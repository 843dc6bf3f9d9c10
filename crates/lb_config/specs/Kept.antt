-- The servers of a backend have distinct names, and are at most 128: HAProxy Configuration Manual 2.8, section 4.2 (`server`). The
-- limit is this project's own. A text with more is refused; what is said here of such a text makes the definitions total.
use Rattle.std.specs.Prelude.{◌≢◌, ◌≤◌, Bool, ◌&&◌, not, nat_lt, List, [], ◌∷◌, ◌++◌, length, AllPairs, if◌then◌else◌}
use Rattle.std.specs.List.{list_any}
use Rattle.std.specs.Str.{bytes_eq}
use Rattle.lb_types.specs.declared.limits.TheConstants.{MAX_SERVERS}
use Rattle.lb_config_values.specs.ServerView.{ServerView}

-- at most 128 servers with distinct names
pub record IsServers (servers : List ServerView) : Type 0 where
  pub few : length servers ≤ MAX_SERVERS
  pub distinct : AllPairs (λ a b. a.name ≢ b.name) servers

-- there is room behind these servers, and none has the name
abbrev pub may_follow : List ServerView → ServerView → Bool
may_follow front server = nat_lt (length front) MAX_SERVERS && not (list_any (λ other. bytes_eq other.name server.name) front)

abbrev pub with_kept : List ServerView → ServerView → List ServerView
with_kept front server = if may_follow front server then front ++ server ∷ [] else front

-- these servers, and those behind them that may follow
abbrev pub kept_behind : List ServerView → List ServerView → List ServerView
kept_behind front [] = front
kept_behind front (server ∷ more) = kept_behind (with_kept front server) more
