use Rattle.std.specs.Prelude.{slice_set}
use Rattle.std.proofs.Common.{◌≡◌, ◌≢◌, ◌∙◌, ◌<◌, ℕ, ◌+◌, Some, List, length, map, get_or, slice_get, refl, sym, ap, subst, arith}
use Rattle.std.specs.Option.{option_map}
use Rattle.std.proofs.lemmas.List.{length_push}
use Rattle.std.proofs.lemmas.Option.{slice_get-get_or, slice_get-map, slice_get_read, slice_get_within}
use Rattle.lb_config.specs.ConfigViews.{BackendView}
use Rattle.lb_desk_backend.proofs.Placed.{pushed}
use Rattle.lb_desk_steer.specs.Steering.{SeesPins}
use Rattle.pin_set.specs.declared.table_pin.TablePin.{TablePin}
use Rattle.lb_run_pins.specs.Copies.{IsCopyAt, seat_seen}
use Rattle.lb_run_pins.specs.Saved.{TableView}
use Rattle.lb_run_pins.proofs.Seeing.{as_many, copy_stays, desks_stay, seen_here, set_elsewhere}
use Rattle.lb_run_pins.proofs.saving.copies.Goals as goal

pub returns-in_err-pins-clause-seats : goal.returns-in_err-pins-clause-seats
returns-in_err-pins-clause-seats g c =
    let backend = g.D.Seat.Mover.backend in
    let many = as_many backend c.args.seats.now c.loop-place.seats c.loop-place.invariant.desks in
    let configs : length c.backends-backends.result.now ≡ length c.args.floor.now.config.now.backends = ap (λ (l : List BackendView). length l) c.backends-backends.ensures.exact in
    let within : c.loop-place.place < length c.loop-place.seats = omega (arith, c.loop-place-test.true, configs, c.requires.count, many) in
    desks_stay backend c.loop-place.seats c.loop-place.place _ _
    (slice_get-get_or c.loop-place.seats c.loop-place.place c.index-seats-place.result within) c.in_err-pins.ensures.backend
    ∙ c.loop-place.invariant.desks

pub returns-in_err-push-clause-seats : goal.returns-in_err-push-clause-seats
returns-in_err-push-clause-seats g c =
    let backend = g.D.Seat.Mover.backend in
    let many = as_many backend c.args.seats.now c.loop-place.seats c.loop-place.invariant.desks in
    let configs : length c.backends-backends.result.now ≡ length c.args.floor.now.config.now.backends = ap (λ (l : List BackendView). length l) c.backends-backends.ensures.exact in
    let within : c.loop-place.place < length c.loop-place.seats = omega (arith, c.loop-place-test.true, configs, c.requires.count, many) in
    desks_stay backend c.loop-place.seats c.loop-place.place _ _
    (slice_get-get_or c.loop-place.seats c.loop-place.place c.index-seats-place.result within) c.in_ok-pins.ensures.backend
    ∙ c.loop-place.invariant.desks

pub returns-clause-seats : goal.returns-clause-seats
returns-clause-seats g c = c.loop-place.invariant.desks

pub loop-place-preserved : goal.loop-place-preserved
loop-place-preserved g c =
    let backend = g.D.Seat.Mover.backend in
    let entries = g.D.Seat.Mover.entries in
    let sights = g.D.Seat.Steer.sights in
    let configs = c.backends-backends.result.now in
    let seats = map (seat_seen backend entries sights) c.args.seats.now in
    let used = c.loop-place.seats in
    let all = c.loop-place.tables.items in
    let next = c.new.result in
    let place = c.loop-place.place in
    let many = as_many backend c.args.seats.now used c.loop-place.invariant.desks in
    let backends : length configs ≡ length c.args.floor.now.config.now.backends = ap (λ (l : List BackendView). length l) c.backends-backends.ensures.exact in
    let within : place < length used = omega (arith, c.loop-place-test.true, backends, c.requires.count, many) in
    let seat = get_or used place c.index-seats-place.result in
    let at : slice_get used place ≡ Some seat = slice_get-get_or used place c.index-seats-place.result within in
    let named : slice_get configs place ≡ Some next.backend =
    slice_get_read configs (length configs) place c.index-backends-place.result refl c.loop-place-test.true c.index-backends-place.is
    ∙ ap Some (sym c.new.ensures.backend) in
    let copy : IsCopyAt configs seats (map (seat_seen backend entries sights) (slice_set used place c.rows.new.self)) place next = record {
      old = seat_seen backend entries sights seat;
      new = seat_seen backend entries sights c.rows.new.self;
      there =
          slice_get-map (seat_seen backend entries sights) c.args.seats.now place
          ∙ ap (option_map (seat_seen backend entries sights)) (sym (c.loop-place.invariant.rest place (omega arith)) ∙ at);
      after = seen_here backend entries sights used place c.rows.new.self within;
      backend = named;
      pins =
          subst (λ (ps : List TablePin). SeesPins (backend seat) (entries seat) (sights seat) (sights c.rows.new.self) ps) (sym c.new.ensures.pins)
          c.in_ok-pins.ensures.pins;
    } in
    record {
      within = omega (arith, c.loop-place-test.true);
      count = ap (λ (l : List TableView). length l) c.in_ok-push.ensures.items ∙ length_push all next ∙ ap (λ (n : ℕ). n + 1) c.loop-place.invariant.count;
      desks = desks_stay backend used place seat c.rows.new.self at c.in_ok-pins.ensures.backend ∙ c.loop-place.invariant.desks;
      rest = λ q beyond.
          let apart : q ≢ place = λ same. absurd (omega arith) in
          set_elsewhere used place q c.rows.new.self apart ∙ c.loop-place.invariant.rest q (omega arith);
      each = λ p table found.
          pushed (λ (q : ℕ) (t : TableView). IsCopyAt configs seats (map (seat_seen backend entries sights) (slice_set used place c.rows.new.self)) q t) all next
          (λ q t there.
          let before : q < length all = slice_get_within all q t there in
          let apart : q ≢ place = λ same. absurd (omega (arith, c.loop-place.invariant.count)) in
          copy_stays backend entries sights configs seats used place q c.rows.new.self t apart (c.loop-place.invariant.each q t there))
          (subst (λ (n : ℕ). IsCopyAt configs seats (map (seat_seen backend entries sights) (slice_set used place c.rows.new.self)) n next) (sym c.loop-place.invariant.count) copy)
          p table (ap (λ (l : List TableView). slice_get l p) (sym c.in_ok-push.ensures.items) ∙ found);
    }
