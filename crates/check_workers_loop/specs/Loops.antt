-- What is known of the work of a thread that checks a backend's servers: it is rounds of `check_workers_round`, one after another. Our
-- own.
use Rattle.std.specs.Prelude.{◌≡◌, ℕ, Bool, List, [], ◌∷◌, ◌++◌, Option}
use Rattle.std.specs.Option.{option_to_list}
use Rattle.lb_desk_model.specs.declared.entry.Entry.{Entry}
use Rattle.lb_desk_ports.specs.Calls.{Grows}
use Rattle.check_workers_round.specs.Probing.{Ends}
use Rattle.check_workers_round.specs.Rounds.{Schedules, begun_by, with_begun, ended_by, entries_of, refusals_after}
use Rattle.check_workers_round.specs.declared.check.Check.{Check}
use Rattle.check_workers_round.specs.declared.outcome.Round.{Round}
use Rattle.check_workers_round.specs.declared.probes.Probed.{Probed}
use Rattle.check_workers_loop.specs.Flips.{flip_of}
use Rattle.check_workers_loop.specs.declared.flips.Flipped.{Flipped}

-- How far the work has come: when each server is checked next, and the moments, the probes that are under way, that were begun and that
-- have ended, the backend's entries and refusals, and the flips so far
pub record Work : Type 0 where
  pub checks : List Check
  pub moments : Option (List ℕ)
  pub under_way : List Bool
  pub begun : Option (List ℕ)
  pub ended : Option (List Probed)
  pub entries : List Entry
  pub refusals : ℕ
  pub flips : Option (List Flipped)

abbrev pub work : List Check → Option (List ℕ) → List Bool → Option (List ℕ) → Option (List Probed) → List Entry → ℕ → Option (List Flipped) → Work
work checks moments under_way begun ended entries refusals flips = record {
  checks = checks;
  moments = moments;
  under_way = under_way;
  begun = begun;
  ended = ended;
  entries = entries;
  refusals = refusals;
  flips = flips;
}

-- the round took the work from here to there: it began the probe that was due first, filed the result of one that ended under the server
-- that was probed, and told of the flip that this made
pub record TakesOn (before after : Work) (round : Round) : Type 0 where
  pub checks : Schedules before.under_way before.checks after.checks round.begun round.beginning
  pub moments : Grows before.moments after.moments (round.begun ∷ [])
  pub begun : Grows before.begun after.begun (begun_by round.beginning)
  pub under_way : Ends (with_begun before.under_way round.beginning) after.under_way (ended_by round.made)
  pub ended : Grows before.ended after.ended (option_to_list (ended_by round.made))
  pub entries : after.entries ≡ before.entries ++ entries_of round.made
  pub refusals : after.refusals ≡ refusals_after round.made before.refusals
  pub flips : Grows before.flips after.flips (option_to_list (flip_of round.made))

-- the rounds took the work from here to there, each from where the one before it left off
abbrev pub TakeOn : Work → Work → List Round → Type 0
TakeOn before after [] = after ≡ before
TakeOn before after (round ∷ more) = (between : Work) × TakesOn before between round × TakeOn between after more
