-- The set of the servers that words name, word by word.
use Rattle.std.proofs.Common.{◌≡◌, ℕ, List, ◌∷◌, map, Option, Some, None, refl}
use Rattle.std.specs.Option.{option_map}
use Rattle.std.specs.Prelude.{fold}
use Rattle.lb_types.specs.Servers.{with_server}
use Rattle.lb_config_values.specs.ServerView.{ServerView}
use Rattle.lb_config.specs.Finds.{server_place}
use Rattle.lb_script.specs.Words.{Word, ◌>>=◌, every}

-- these servers, and those that the words name
abbrev pub wanted_behind : ℕ → List ServerView → List Word → Option ℕ
wanted_behind set servers words = option_map (λ rest. fold with_server set rest) (every (map (server_place servers) words))

then_more : (set server : ℕ) (rest : Option (List ℕ))
    → option_map (λ (xs : List ℕ). fold with_server set xs) (rest >>= λ xs. Some (server ∷ xs)) ≡ option_map (λ (xs : List ℕ). fold with_server (with_server set server) xs) rest
then_more set server None = refl
then_more set server (Some xs) = refl

pub wanted_counts : (set : ℕ) (servers : List ServerView) (word : Word) (more : List Word) (server : ℕ) → server_place servers word ≡ Some server
    → wanted_behind set servers (word ∷ more) ≡ wanted_behind (with_server set server) servers more
wanted_counts set servers word more server found = rw found (then_more set server (every (map (server_place servers) more)))

pub wanted_fails : (set : ℕ) (servers : List ServerView) (word : Word) (more : List Word) → server_place servers word ≡ None
    → wanted_behind set servers (word ∷ more) ≡ None
wanted_fails set servers word more none = rw none refl
