-- One turn more, of one of the requests in flight.
use Rattle.std.proofs.Common.{◌≡◌, ◌≢◌, ℕ, cond, List, [], ◌∷◌, Option, Some, None, get_or, refl, sym, ap, ◌∙◌, subst, inl, inr}
use Rattle.std.proofs.lemmas.Bool.{cases_eq, ne_eqb, eq-eqb}
use Rattle.http_relay_dial.specs.Dials.{Talk}
use Rattle.http_relay_exchange.specs.Requests.{OutgoingView}
use Rattle.http_relay_serve.proofs.Services.{add_up}
use Rattle.http_relay_serve.specs.Routes.{Routes}
use Rattle.http_relay_serve.specs.Serves.{PortSeen}
use Rattle.http_relay_serve.specs.Steps.{AddsAt, GoesOn, IsServed, IsServing, IsVisiting}
use Rattle.http_relay_serve.specs.declared.outcome.Outcome.{Outcome}
use Rattle.http_relay_serve.specs.declared.participants.Client.{Client}
use Rattle.http_relay_serve.specs.declared.underway.Step.{Step}
use Rattle.http_relay_serve.specs.declared.underway.Step.TheVariants as step
use Rattle.http_relay_serve.specs.declared.underway.Underway.{Underway}
use Rattle.http_relay_talk.specs.Shares.{Share, joined}
use Rattle.http_relay_talk.specs.declared.target.Target.{Target}
use Rattle.keyed_values.specs.Keys.{at}
use Rattle.http_relay_inflight.specs.Requests.{Requests}
use Rattle.http_relay_inflight.specs.Turns.{Adds, AllOver, Ended, Flight, IsKept, Keeps, Steps, Turn, WentOn, WorkerSeen, due_to, in_flight, longer}
use Rattle.http_relay_inflight.specs.declared.progress.Progress.TheVariants.{Waits, Over}

-- ---- which request is in flight

pub went_on_here : {T : Type 0} (key : ℕ) (share : Share) (turns : List (Turn T))
    → in_flight key (WentOn key share ∷ turns) ≡ longer share (in_flight key turns)
went_on_here key share turns = ap (λ b. cond b (longer share (in_flight key turns)) (in_flight key turns)) (eq-eqb key key refl)

pub went_on_there : {T : Type 0} (key other : ℕ) (share : Share) (turns : List (Turn T)) → other ≢ key
    → in_flight other (WentOn key share ∷ turns) ≡ in_flight other turns
went_on_there key other share turns differs =
    ap (λ b. cond b (longer share (in_flight other turns)) (in_flight other turns)) (ne_eqb key other (λ e. differs (sym e)))

pub ended_here : {T : Type 0} (key : ℕ) (share : Share) (after : Talk) (outcome : Outcome) (turns : List (Turn T))
    → in_flight key (Ended key share after outcome ∷ turns) ≡ None
ended_here key share after outcome turns = ap (λ b. cond b None (in_flight key turns)) (eq-eqb key key refl)

pub ended_there : {T : Type 0} (key other : ℕ) (share : Share) (after : Talk) (outcome : Outcome) (turns : List (Turn T)) → other ≢ key
    → in_flight other (Ended key share after outcome ∷ turns) ≡ in_flight other turns
ended_there key other share after outcome turns differs =
    ap (λ b. cond b None (in_flight other turns)) (ne_eqb key other (λ e. differs (sym e)))

-- ---- which one is kept

module _ {T P S W C : Type 0} (seen : P → PortSeen) (server_of : S → ℕ) (wire : W → Talk) (talk : C → Talk) (routes : T → Routes) where
  -- what is kept under one key changes with a turn
  pub keeps_after : (last : Turn T) (turns : List (Turn T)) (old new : Requests S W C) (key : ℕ)
      → ((other : ℕ) → other ≢ key → in_flight other (last ∷ turns) ≡ in_flight other turns)
      → ((other : ℕ) → other ≢ key → at new.kept other ≡ at old.kept other)
      → IsKept seen server_of wire talk routes (in_flight key (last ∷ turns)) (at new.kept key)
      → Keeps seen server_of wire talk routes turns old → Keeps seen server_of wire talk routes (last ∷ turns) new
  keeps_after last turns old new key flights requests here keeps other =
      elim (cases_eq other key) [
        | inl same ↦ subst (λ k. IsKept seen server_of wire talk routes (in_flight k (last ∷ turns)) (at new.kept k)) (sym same) here
        | inr differs ↦
            subst (λ flight. IsKept seen server_of wire talk routes flight (at new.kept other)) (sym (flights other differs))
            (subst (λ underway. IsKept seen server_of wire talk routes (in_flight other turns) underway) (sym (requests other differs)) (keeps other))
      ]

  -- the request that is kept under a key, and what was done for it
  record IsFlying (flight : Flight T) (underway : Underway S W C) : Type 0 where
    pub backend : underway.backend ≡ flight.admission.backend
    pub serving : IsServing seen server_of wire (routes flight.admission.routing) flight.admission.source underway.backend flight.share
        flight.admission.client (talk underway.client.wire) underway.stage

  is_flying : (found : Option (Flight T)) (here : Option (Underway S W C)) (underway : Underway S W C) → here ≡ Some underway
      → IsKept seen server_of wire talk routes found here → (flight : Flight T) × (found ≡ Some flight) × IsFlying flight underway
  is_flying None here underway is kept = absurd (subst (λ u. IsKept seen server_of wire talk routes None u) is kept)
  is_flying (Some flight) here underway is kept =
      let so = subst (λ u. IsKept seen server_of wire talk routes (Some flight) u) is kept in (
        flight,
        refl,
        record {
          backend = so.0;
          serving = subst (λ backend. IsServing seen server_of wire (routes flight.admission.routing) flight.admission.source backend flight.share
              flight.admission.client (talk underway.client.wire) underway.stage) (sym so.0) so.1;
        },
      )

  -- a share that was added at the backend of a request that is kept
  as_adds : (backend other : ℕ) (share : Share) (pauses : List ℕ) (was now : WorkerSeen P) → backend ≡ other
      → AddsAt seen backend share pauses was.ports now.ports was.clock now.clock was.dialer now.dialer → Adds seen other share was now
  as_adds backend other share pauses was now same adds =
      subst (λ b. AddsAt seen b share share.pauses was.ports now.ports was.clock now.clock was.dialer now.dialer) same
      record {
        old = adds.old;
        new = adds.new;
        its_port = adds.its_port;
        other_ports = adds.other_ports;
        adds = adds.adds;
        pauses = refl;
      }

  -- what a step of a request promises
  abbrev pub Goes : Underway S W C → WorkerSeen P → WorkerSeen P → Step S W C → Type 0
  Goes underway was now come = (target : Target) (request : OutgoingView) (own : Share) (headed : Talk)
      → IsVisiting server_of wire target request own headed (talk underway.client.wire) underway.stage
      → GoesOn seen server_of wire talk target request own headed underway was.ports now.ports was.clock now.clock was.dialer now.dialer come

  -- it still waits, and is kept again
  pub goes_on : (key same : ℕ) (turns : List (Turn T)) (underway later kept : Underway S W C) (old new : Requests S W C) (was now : WorkerSeen P)
      → at old.kept key ≡ Some underway → kept ≡ record { client = later.client; backend = underway.backend; stage = later.stage }
      → at new.kept key ≡ Some kept → ((other : ℕ) → other ≢ key → at new.kept other ≡ at old.kept other)
      → Goes underway was now (step.Waits later) → Keeps seen server_of wire talk routes turns old
      → Steps seen server_of wire talk routes key (due_to (at old.kept key)) turns was now new (Waits same)
  goes_on key same turns underway later kept old new was now is made there others goes keeps =
      let (flight, found, flying) = is_flying (in_flight key turns) (at old.kept key) underway is (keeps key) in
      let admission = flight.admission in
      let x = add_up seen server_of wire talk (routes admission.routing) admission.source flight.share admission.client underway (step.Waits later)
      was.ports now.ports was.clock now.clock was.dialer now.dialer flying.serving goes in
      let share = x.0 in
      let whole : Flight T = record { admission = admission; share = joined flight.share share } in
      let after : Underway S W C = record { client = later.client; backend = underway.backend; stage = later.stage } in
      let serving = subst (λ backend. IsServing seen server_of wire (routes admission.routing) admission.source backend (joined flight.share share)
      admission.client (talk later.client.wire) later.stage) flying.backend x.2.1 in
      let stays : IsKept seen server_of wire talk routes (Some whole) (Some after) = (flying.backend, serving) in
      let here = subst (λ f. IsKept seen server_of wire talk routes f (at new.kept key))
      (sym (went_on_here key share turns ∙ ap (longer share) found))
      (subst (λ u. IsKept seen server_of wire talk routes (Some whole) u) (sym (there ∙ ap (λ (u : Underway S W C). Some u) made)) stays) in (
        share,
        x.1.pauses ∙ sym (ap due_to is),
        (
          (flight, found, as_adds underway.backend admission.backend share _ was now flying.backend x.1),
          keeps_after (WentOn key share) turns old new key (λ other differs. went_on_there key other share turns differs) others here keeps,
        ),
      )

  -- it is over, and isn't kept any more
  pub comes_to_end : (key : ℕ) (turns : List (Turn T)) (underway : Underway S W C) (client : Client C) (outcome : Outcome) (old new : Requests S W C)
      (was now : WorkerSeen P) → at old.kept key ≡ Some underway → at new.kept key ≡ None
      → ((other : ℕ) → other ≢ key → at new.kept other ≡ at old.kept other)
      → Goes underway was now (step.Done client outcome) → Keeps seen server_of wire talk routes turns old
      → Steps seen server_of wire talk routes key (due_to (at old.kept key)) turns was now new (Over client outcome)
  comes_to_end key turns underway client outcome old new was now is there others goes keeps =
      let (flight, found, flying) = is_flying (in_flight key turns) (at old.kept key) underway is (keeps key) in
      let admission = flight.admission in
      let x = add_up seen server_of wire talk (routes admission.routing) admission.source flight.share admission.client underway (step.Done client outcome)
      was.ports now.ports was.clock now.clock was.dialer now.dialer flying.serving goes in
      let share = x.0 in
      let after = talk client.wire in
      let served = subst (λ backend. IsServed seen server_of (routes admission.routing) admission.source backend (joined flight.share share)
      admission.client after outcome) flying.backend x.2 in
      let here = subst (λ f. IsKept seen server_of wire talk routes f (at new.kept key)) (sym (ended_here key share after outcome turns))
      (subst (λ u. IsKept seen server_of wire talk routes None u) (sym there) tt) in (
        share,
        x.1.pauses ∙ sym (ap due_to is),
        (
          (flight, found, as_adds underway.backend admission.backend share _ was now flying.backend x.1, served),
          keeps_after (Ended key share after outcome) turns old new key (λ other differs. ended_there key other share after outcome turns differs)
              others here keeps,
        ),
      )

  -- with no turn taken none is kept
  pub keeps_none : (requests : Requests S W C) → requests.kept.places ≡ [] → Keeps seen server_of wire talk routes [] requests
  keeps_none requests empty key =
      subst (λ u. IsKept seen server_of wire talk routes None u) (sym (ap (λ places. get_or places key None) empty)) tt

  over_at : (found : Option (Flight T)) (here : Option (Underway S W C)) → here ≡ None → IsKept seen server_of wire talk routes found here
      → found ≡ None
  over_at None here is kept = refl
  over_at (Some flight) here is kept = absurd (subst (λ u. IsKept seen server_of wire talk routes (Some flight) u) is kept)

  -- with none kept all are over
  pub all_over : (turns : List (Turn T)) (requests : Requests S W C) → Keeps seen server_of wire talk routes turns requests
      → ((key : ℕ) → at requests.kept key ≡ None) → AllOver turns
  all_over turns requests keeps none key = over_at (in_flight key turns) (at requests.kept key) (none key) (keeps key)
