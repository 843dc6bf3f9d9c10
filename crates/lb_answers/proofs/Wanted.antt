-- The words for the servers of a set, one member after another.
use Rattle.std.proofs.Common.{◌≡◌, ℕ, suc, ◌+◌, Bool, true, false, cond, List, [], ◌∷◌, ◌++◌, refl, ap, sym, ◌∙◌, arith, append-nil}
use Rattle.std.proofs.lemmas.List.Concat.{flat_map-append}
use Rattle.lb_types.specs.Servers.{has, members_below}
use Rattle.lb_desk_model.specs.declared.backend.BackendServer.{BackendServer}
use Rattle.lb_answers.specs.Events.{rules_text, wanted_server}
use Rattle.lb_answers.specs.Names.{server_word}

-- one number more
pub wanted-more : (servers : List BackendServer) (i want : ℕ)
    → rules_text servers (members_below (i + 1) want) ≡ rules_text servers (members_below i want) ++ wanted_server servers want i
unfolding members_below
wanted-more servers i want =
    let e : i + 1 ≡ suc i = omega arith in
    rw e (flat_map-append (λ (server : ℕ). 32 ∷ server_word servers server) (members_below i want) (cond (has want i) (i ∷ []) [])
    ∙ ap (λ l. rules_text servers (members_below i want) ++ l) (by_case (has want i)))
  where
    by_case : (b : Bool) → rules_text servers (cond b (i ∷ []) []) ≡ cond b (32 ∷ server_word servers i) []
    by_case true = append-nil (32 ∷ server_word servers i)
    by_case false = refl
