-- The checks of the servers so far, and of one more.
use Rattle.std.proofs.Common.{◌≡◌, ℕ, ◌+◌, ◌<◌, List, [], ◌∷◌, ◌++◌, length, take, get_or, append_assoc, sym, ap, ◌∙◌, arith}
use Rattle.std.specs.Option.{option_to_list}
use Rattle.std.proofs.lemmas.List.{length-take-le, take_more}
use Rattle.std.proofs.lemmas.Grind.{common_steps}
use Rattle.lb_config_values.specs.ServerView.{ServerView}
use Rattle.check_workers_round.specs.declared.check.Check.{Check}
use Rattle.check_workers_targets.specs.Targets.{check_at, checks_from}

checks_behind : (place : ℕ) (servers : List ServerView) (server : ServerView)
    → checks_from place (servers ++ server ∷ []) ≡ checks_from place servers ++ option_to_list (check_at (place + length servers) server)
checks_behind place [] server =
    let same : place + 0 ≡ place = omega arith in
    grind (arith, common_steps, ap (λ n. option_to_list (check_at n server)) same)
checks_behind place (first ∷ more) server =
    let same : place + 1 + length more ≡ place + length (first ∷ more) = omega arith in
    ap (λ checks. option_to_list (check_at place first) ++ checks) (checks_behind (place + 1) more server)
    ∙ sym (append_assoc (option_to_list (check_at place first)) (checks_from (place + 1) more) (option_to_list (check_at (place + 1 + length more) server)))
    ∙ ap (λ n. checks_from place (first ∷ more) ++ option_to_list (check_at n server)) same

-- the checks of one more server of those that are configured
pub checks_more : (configured : List ServerView) (place : ℕ) (server : ServerView) (checks : List Check) → place < length configured
    → server ≡ get_or configured place server → checks ≡ checks_from 0 (take place configured)
    → checks ++ option_to_list (check_at place server) ≡ checks_from 0 (take (place + 1) configured)
checks_more configured place server checks within is known =
    let front : length (take place configured) ≡ place = length-take-le place configured (omega (arith, within)) in
    let size : 0 + length (take place configured) ≡ place = omega (arith, front) in
    ap (λ (sofar : List Check). sofar ++ option_to_list (check_at place server)) known
    ∙ ap (λ n. checks_from 0 (take place configured) ++ option_to_list (check_at n server)) (sym size)
    ∙ sym (checks_behind 0 (take place configured) server)
    ∙ ap (λ (servers : List ServerView). checks_from 0 servers) (ap (λ s. take place configured ++ s ∷ []) is ∙ sym (take_more configured place server within))
