use Rattle.std.proofs.Common.{◌≡◌, Some, length, refl}
use Rattle.std.proofs.lemmas.Result.{IfOk-weaker}
use Rattle.std.proofs.lemmas.Option.{slice_get_read}
use Rattle.std.specs.Prelude.{slice_get}
use Rattle.lb_replay.proofs.Going.{some_weaker}
use Rattle.lb_replay.proofs.job.replay_at.Goals as goal

pub returns : goal.returns
returns g c =
    let backends = c.args.config.now.backends in
    let own = c.index-backends-place.result in
    let read = rw c.backends.ensures.exact at c.index-backends-place.is in
    let there : slice_get backends c.args.place ≡ Some own = slice_get_read backends (length backends) c.args.place own refl c.requires read in
    IfOk-weaker c.replay_lines.result _ _ (λ bad h. some_weaker (g.S.Read.remaining c.args.script) _ _ (λ lines replays. record {
      farm = record { config = c.args.config.now; place = c.args.place; own = c.index-backends-place.result; backend = c.in_ok-backend.backend };
      at = record { whole = refl; here = refl; own = there; backend = c.in_ok-backend.ensures };
      replays = replays;
    }) h) c.replay_lines.ensures
