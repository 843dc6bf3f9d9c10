-- A worker that serves one request at a time.
use Rattle.std.proofs.Common.{◌≡◌, ◌≢◌, ◌⊎◌, ℕ, cond, List, [], ◌∷◌, set, Some, None, refl, sym, ap, ◌∙◌, subst, inl, inr, arith, length-set, set-set}
use Rattle.std.specs.Prelude.{slice_get, slice_set}
use Rattle.std.proofs.lemmas.Bool.{cases_eq, ne_eqb, eq-eqb}
use Rattle.std.proofs.lemmas.List.{get_or-set_same}
use Rattle.std.proofs.lemmas.Option.{slice_get_within, slice_get-get_or, same_Some}
use Rattle.http_relay_dial.specs.Dials.{Talk}
use Rattle.http_relay_serve.specs.Routes.{Routes}
use Rattle.http_relay_serve.specs.Serves.{PortSeen, ClockSeen, DialerSeen}
use Rattle.http_relay_serve.specs.Steps.{AddsAt, IsServed, recorded}
use Rattle.http_relay_serve.specs.declared.outcome.Outcome.{Outcome}
use Rattle.http_relay_talk.proofs.Shares.{adds_twice}
use Rattle.http_relay_talk.specs.Shares.{Share, joined, Adds as AddsShare}
use Rattle.http_relay_inflight.proofs.Flights.{ended_here, ended_there, went_on_here, went_on_there}
use Rattle.http_relay_inflight.specs.OneByOne.{AreAlone, OneByOne, ServesInTurn, ServesWhole, service_of, services_of}
use Rattle.http_relay_inflight.specs.Turns.{Adds, Admission, Admitted, AllOver, Ended, Flight, ServedAtOnce, Turn, WentOn, WorkerSeen, Works, in_flight, longer}

none_is_some : {A : Type 0} (x : A) → None ≡ Some x → ⊥
none_is_some x same = cc

admitted_here : {T : Type 0} (key : ℕ) (admission : Admission T) (share : Share) (turns : List (Turn T))
    → in_flight key (Admitted key admission share ∷ turns) ≡ Some (record { admission = admission; share = share })
admitted_here key admission share turns =
    ap (λ b. cond b (Some (record { admission = admission; share = share })) (in_flight key turns)) (eq-eqb key key refl)

admitted_there : {T : Type 0} (key other : ℕ) (admission : Admission T) (share : Share) (turns : List (Turn T)) → other ≢ key
    → in_flight other (Admitted key admission share ∷ turns) ≡ in_flight other turns
admitted_there key other admission share turns differs =
    ap (λ b. cond b (Some (record { admission = admission; share = share })) (in_flight other turns)) (ne_eqb key other (λ e. differs (sym e)))

-- what was written at a place stands there
written : {A : Type 0} (xs : List A) (i : ℕ) (x y : A) → slice_get xs i ≡ Some x → slice_get (slice_set xs i y) i ≡ Some y
written xs i x y found =
    let within = slice_get_within xs i x found in
    slice_get-get_or (set xs i y) i x (omega (arith, length-set xs i y, within)) ∙ ap Some (get_or-set_same xs i y x within)

module _ {T P S : Type 0} (seen : P → PortSeen) (server_of : S → ℕ) (routes : T → Routes) where
  -- two shares that were added one after another at one backend
  both_added : (backend : ℕ) (first then : Share) (ports used last : List P) (clock later end : ClockSeen) (dialer done gone : DialerSeen)
      → AddsAt seen backend first first.pauses ports used clock later dialer done
      → AddsAt seen backend then then.pauses used last later end done gone
      → AddsAt seen backend (joined first then) (joined first then).pauses ports last clock end dialer gone
  both_added backend first then ports used last clock later end dialer done gone p q =
      let there : slice_get used backend ≡ Some p.new = ap (λ xs. slice_get xs backend) p.other_ports ∙ written ports backend p.old p.new p.its_port in
      let same : q.old ≡ p.new = same_Some q.old p.new (sym q.its_port ∙ there) in
      record {
        old = p.old;
        new = q.new;
        its_port = p.its_port;
        other_ports = q.other_ports ∙ ap (λ xs. slice_set xs backend q.new) p.other_ports ∙ set-set ports backend p.new q.new;
        adds = adds_twice first then (recorded (seen p.old) clock dialer) (recorded (seen p.new) later done) (recorded (seen q.new) end gone) p.adds
            (subst (λ (port : P). AddsShare then (recorded (seen port) later done) (recorded (seen q.new) end gone)) same q.adds);
        pauses = refl;
      }

  -- all that was done for one request is one service
  as_whole : (flight : Flight T) (share : Share) (ports used : List P) (clock later : ClockSeen) (dialer done : DialerSeen) (after : Talk) (outcome : Outcome)
      → AddsAt seen flight.admission.backend share share.pauses ports used clock later dialer done
      → IsServed seen server_of (routes flight.admission.routing) flight.admission.source flight.admission.backend share flight.admission.client after outcome
      → ServesWhole seen server_of routes ports used (record {
        routing = flight.admission.routing;
        source = flight.admission.source;
        client = flight.admission.client;
        after = after;
        outcome = outcome;
      })
  as_whole flight share ports used clock later dialer done after outcome adds served =
      let before : ClockSeen = record { told = clock.told; pauses = None } in
      let end : ClockSeen = record { told = later.told; pauses = None } in
      record {
        clock = before;
        later = end;
        dialer = dialer;
        done = done;
        serves = served ports used adds.old adds.new before end dialer done adds.its_port adds.other_ports adds.adds tt;
      }

  -- one request is in flight, and was begun when all others were over
  record One (start now : WorkerSeen P) (turns : List (Turn T)) : Type 0 where
    pub key : ℕ
    pub flight : Flight T
    pub found : in_flight key turns ≡ Some flight
    pub others : (other : ℕ) → other ≢ key → in_flight other turns ≡ None
    pub before : List P
    pub served : ServesInTurn seen server_of routes start.ports before (services_of turns)
    pub clock : ClockSeen
    pub dialer : DialerSeen
    pub adds : AddsAt seen flight.admission.backend flight.share flight.share.pauses before now.ports clock now.clock dialer now.dialer

  abbrev Stands : WorkerSeen P → WorkerSeen P → List (Turn T) → Type 0
  Stands start now turns = (AllOver turns × ServesInTurn seen server_of routes start.ports now.ports (services_of turns)) ⊎ One start now turns

  -- it is the one that a turn was taken of
  is_the_one : (start now : WorkerSeen P) (turns : List (Turn T)) (key : ℕ) (flight : Flight T) → in_flight key turns ≡ Some flight
      → Stands start now turns → (one : One start now turns) × (one.key ≡ key) × (one.flight ≡ flight)
  is_the_one start now turns key flight found (inl over) = absurd (none_is_some flight (sym (over.0 key) ∙ found))
  is_the_one start now turns key flight found (inr one) =
      elim (cases_eq key one.key) [
        | inl same ↦ (one, sym same, same_Some one.flight flight (sym one.found ∙ ap (λ k. in_flight k turns) (sym same) ∙ found))
        | inr differs ↦ absurd (none_is_some flight (sym (one.others key differs) ∙ found))
      ]

  -- when all others are over, none is in flight
  none_flies : (start now : WorkerSeen P) (turns : List (Turn T)) → AllOver turns → Stands start now turns
      → ServesInTurn seen server_of routes start.ports now.ports (services_of turns)
  none_flies start now turns over (inl stands) = stands.1
  none_flies start now turns over (inr one) = absurd (none_is_some one.flight (sym (over one.key) ∙ one.found))

  -- one that is in flight takes a turn
  steps : (start before now : WorkerSeen P) (turns : List (Turn T)) (key : ℕ) (share : Share) (flight : Flight T)
      → (one : One start before turns) → one.key ≡ key → one.flight ≡ flight → Adds seen flight.admission.backend share before now
      → AddsAt seen flight.admission.backend (joined flight.share share) (joined flight.share share).pauses one.before now.ports one.clock now.clock one.dialer now.dialer
  steps start before now turns key share flight one same is adds =
      both_added flight.admission.backend flight.share share one.before before.ports now.ports one.clock before.clock now.clock one.dialer before.dialer now.dialer
      (subst (λ (f : Flight T). AddsAt seen f.admission.backend f.share f.share.pauses one.before before.ports one.clock before.clock one.dialer before.dialer) is one.adds)
      adds

  stands : (start now : WorkerSeen P) (turns : List (Turn T)) → Works seen server_of routes start now turns → AreAlone turns → Stands start now turns
  stands start now [] is alone = inl ((λ key. refl), ap (λ (w : WorkerSeen P). w.ports) is)
  stands start now (ServedAtOnce routing source client after outcome ∷ earlier) (before, works, takes) (over, alone) =
      inl (
        over,
        (
          before.ports,
          none_flies start before earlier over (stands start before earlier works alone),
          record { clock = before.clock; later = now.clock; dialer = before.dialer; done = now.dialer; serves = takes },
        ),
      )
  stands start now (Admitted key admission share ∷ earlier) (before, works, takes) (over, alone) =
      inr record {
        key = key;
        flight = record { admission = admission; share = share };
        found = admitted_here key admission share earlier;
        others = λ other differs. admitted_there key other admission share earlier differs ∙ over other;
        before = before.ports;
        served = none_flies start before earlier over (stands start before earlier works alone);
        clock = before.clock;
        dialer = before.dialer;
        adds = takes.1;
      }
  stands start now (WentOn key share ∷ earlier) (before, works, (flight, found, adds)) alone =
      let (one, same, is) = is_the_one start before earlier key flight found (stands start before earlier works alone) in
      inr record {
        key = key;
        flight = record { admission = flight.admission; share = joined flight.share share };
        found = went_on_here key share earlier ∙ ap (longer share) found;
        others = λ other differs. went_on_there key other share earlier differs ∙ one.others other (λ e. differs (e ∙ same));
        before = one.before;
        served = one.served;
        clock = one.clock;
        dialer = one.dialer;
        adds = steps start before now earlier key share flight one same is adds;
      }
  stands start now (Ended key share after outcome ∷ earlier) (before, works, (flight, found, adds, serves)) alone =
      let (one, same, is) = is_the_one start before earlier key flight found (stands start before earlier works alone) in
      let whole = as_whole flight (joined flight.share share) one.before now.ports one.clock now.clock one.dialer now.dialer after outcome
      (steps start before now earlier key share flight one same is adds) serves in
      inl (
        (λ other. elim (cases_eq other key) [
          | inl here ↦ ap (λ k. in_flight k (Ended key share after outcome ∷ earlier)) here ∙ ended_here key share after outcome earlier
          | inr differs ↦ ended_there key other share after outcome earlier differs ∙ one.others other (λ e. differs (e ∙ same))
        ]),
        subst (λ f. ServesInTurn seen server_of routes start.ports now.ports (service_of f after outcome (services_of earlier))) (sym found)
            (one.before, one.served, whole),
      )

  pub one_by_one : OneByOne seen server_of routes
  one_by_one start now turns works alone over = none_flies start now turns over (stands start now turns works alone)
