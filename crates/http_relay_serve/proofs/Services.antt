-- What a request does in steps, wherever it is among what others do.
use Rattle.std.proofs.Common.{◌≡◌, ℕ, List, [], ◌∷◌, ◌++◌, append_assoc, Option, Some, None, Result, Ok, refl, sym, subst, ap, ◌∙◌}
use Rattle.std.specs.Prelude.{slice_get, slice_set}
use Rattle.std.specs.declared.net.ipv4_addr.Ipv4Addr.{Ipv4Addr}
use Rattle.http_relay_dial.specs.Dials.{Talk}
use Rattle.http_relay_exchange.specs.Requests.{OutgoingView}
use Rattle.http_relay_head.specs.ReadHeadView.{ReadHeadView}
use Rattle.http_relay_queue.specs.declared.asking.Queueing as wait
use Rattle.http_relay_queue.proofs.Waits.{grows_none}
use Rattle.http_relay_talk.proofs.Shares.{adds_twice, joined_thrice}
use Rattle.http_relay_talk.specs.Shares.{Records, Share, nothing, joined, after_refusals, after_failures, Notes, Adds}
use Rattle.http_relay_talk.specs.Visits as visit
use Rattle.http_relay_talk.specs.declared.fault.VisitFault.{VisitFault}
use Rattle.http_relay_talk.specs.declared.target.Target.{Target}
use Rattle.http_relay_talk.specs.declared.underway.Held.{Held}
use Rattle.http_relay_talk.specs.declared.underway.Step.{Step}
use Rattle.http_relay_talk.specs.declared.underway.Step.TheVariants as visit_step
use Rattle.http_relay_talk.specs.declared.underway.Underway.TheVariants as visit_stage
use Rattle.lb_acl.specs.HeadView.{HeadView}
use Rattle.lb_desk_model.specs.declared.event.Event.TheVariants.{Serve}
use Rattle.lb_desk_ports.specs.Calls.{Grows, entry}
use Rattle.lb_desk_ports.specs.Ports.{asked_reply}
use Rattle.lb_desk_ports.specs.declared.replies.Asked.TheVariants as asked
use Rattle.http_relay_serve.proofs.OwnAnswers.{relay_is_quiet, got_answer}
use Rattle.http_relay_serve.proofs.Preparing.{after_visit}
use Rattle.http_relay_serve.proofs.Stages.{visits}
use Rattle.http_relay_serve.specs.Outcomes.{outcome_of, Ends, GotAnswer}
use Rattle.http_relay_serve.specs.Parts.{Finds, HasBegun, IsAsking, GoesOnAt}
use Rattle.http_relay_serve.specs.Routes.{Routes}
use Rattle.http_relay_serve.specs.Serves.{PortSeen, ClockSeen, DialerSeen, Scene, AsksAtMoment, Visits, Relays, Serves, outgoing, scene}
use Rattle.http_relay_serve.specs.Steps.{AddsAt, GoesOn, IsOver, IsServed, IsServing, Keeps, Served, StepsAddUp, recorded, relayed, visit_of}
use Rattle.http_relay_serve.specs.declared.fault.ServeFault.{ServeFault}
use Rattle.http_relay_serve.specs.declared.finding.Found.{Found}
use Rattle.http_relay_serve.specs.declared.going.Gone.TheVariants as gone
use Rattle.http_relay_serve.specs.declared.outcome.Outcome.{Outcome}
use Rattle.http_relay_serve.specs.declared.participants.Client.{Client}
use Rattle.http_relay_serve.specs.declared.underway.Stage.{Stage}
use Rattle.http_relay_serve.specs.declared.underway.Stage.TheVariants.{Queueing, Copying}
use Rattle.http_relay_serve.specs.declared.underway.Step.TheVariants.{Waits, Done}
use Rattle.http_relay_serve.specs.declared.underway.Underway.{Underway}

-- ---- the question to the backend

-- what it adds
pub asking_of : (routes : Routes) (backend : ℕ) (head : HeadView) (target : Target) (old new : PortSeen) (clock later : ClockSeen) (dialer : DialerSeen)
    → AsksAtMoment routes backend head old new clock later (Ok target)
    → (share : Share) × IsAsking routes backend head target share × Adds share (recorded old clock dialer) (recorded new later dialer)
asking_of routes backend head target old new clock later dialer h =
    let (how, asks, way) = h.places in
    let (expiry, is, grown) = asks.entries in
    let served = entry (Serve h.request) (asked_reply (asked.Served target.server how)) ∷ [] in (
      record nothing { entries = expiry ++ served; told = h.request.moment ∷ [] },
      record { request = h.request; made_of_head = h.made_of_head; how = how; asks = (expiry, is, refl); way = way; only = refl },
      record {
        entries = grown ∙ append_assoc old.entries expiry served;
        refusals = asks.refusals;
        told = h.tells;
        dials = refl;
        talks = refl;
        failures = refl;
      },
    )

-- a port to which a share was added that has no refusals
abbrev added : PortSeen → Share → PortSeen
added port share = record { entries = port.entries ++ share.entries; refusals = port.refusals }

-- it is the same question wherever it is asked
asks_anywhere : (routes : Routes) (backend : ℕ) (head : HeadView) (target : Target) (share : Share) (old : PortSeen) (clock : ClockSeen) (told : Option (List ℕ))
    → IsAsking routes backend head target share → Grows clock.told told share.told
    → AsksAtMoment routes backend head old (added old share) clock (record { told = told; pauses = clock.pauses }) (Ok target)
asks_anywhere routes backend head target share old clock told h grown =
    let (expiry, is, made) = h.asks in
    let served = entry (Serve h.request) (asked_reply (asked.Served target.server h.how)) ∷ [] in
    record {
      request = h.request;
      made_of_head = h.made_of_head;
      tells = subst (Grows clock.told told) (ap (λ (s : Share). s.told) h.only) grown;
      pauses = refl;
      places = (
        h.how,
        record { entries = (expiry, is, ap (λ es. old.entries ++ es) made ∙ sym (append_assoc old.entries expiry served)); refusals = refl },
        h.way,
      );
    }

-- ---- the question and then a visit

grows_cut : {A : Type 0} (a c : Option (List A)) (x y : List A) → Grows a c (x ++ y) → (b : Option (List A)) × Grows a b x × Grows b c y
grows_cut a None x y p = (None, tt, tt)
grows_cut None (Some c) x y p = absurd p
grows_cut (Some a) (Some c) x y p = (Some (a ++ x), refl, p ∙ sym (append_assoc a x y))

-- what is added after the question
after_question : (asking own : Share) (moment : ℕ) (old new : PortSeen) (clock later : ClockSeen) (told : Option (List ℕ)) (dialer done : DialerSeen)
    → asking ≡ record nothing { entries = asking.entries; told = moment ∷ [] } → Grows told later.told own.told
    → Adds (joined asking own) (recorded old clock dialer) (recorded new later done)
    → Adds own (recorded (added old asking) (record { told = told; pauses = clock.pauses }) dialer) (recorded new later done)
after_question asking own moment old new clock later told dialer done only tells adds = record {
  entries = adds.entries ∙ sym (append_assoc old.entries asking.entries own.entries);
  refusals = adds.refusals ∙ ap (λ (s : Share). after_refusals (s.refusals ++ own.refusals) old.refusals) only;
  told = tells;
  dials = subst (λ (s : Share). Notes dialer.dials done.dials (s.dials ++ own.dials)) only adds.dials;
  talks = subst (λ (s : Share). Notes dialer.talks done.talks (s.talks ++ own.talks)) only adds.talks;
  failures = adds.failures ∙ ap (λ (s : Share). after_failures (s.failures ++ own.failures) dialer.failures) only;
}

-- both are what is promised of a request at its backend
asked_and_visited : {S : Type 0} (server_of : S → ℕ) (routes : Routes) (backend : ℕ) (read : ReadHeadView) (target : Target) (asking own : Share)
    (old new : PortSeen) (clock later : ClockSeen) (dialer done : DialerSeen) (headed between : Talk) (answer : Result ℕ VisitFault)
    → IsAsking routes backend read.head target asking
    → visit.IsVisit server_of target (outgoing routes backend read) own headed between answer
    → Adds (joined asking own) (recorded old clock dialer) (recorded new later done) → Grows clock.pauses later.pauses (joined asking own).pauses
    → Visits server_of routes backend read old new (scene clock dialer headed) (scene later done between) answer
asked_and_visited server_of routes backend read target asking own old new clock later dialer done headed between answer asks visited adds grown =
    let told = grows_cut clock.told later.told asking.told own.told adds.told in
    let clock_then : ClockSeen = record { told = told.0; pauses = clock.pauses } in
    let port_then = added old asking in
    let paused = subst (λ (s : Share). Grows clock.pauses later.pauses (s.pauses ++ own.pauses)) asks.only grown in
    let uses = visited (recorded port_then clock_then dialer) (recorded new later done) clock.pauses later.pauses
    (after_question asking own asks.request.moment old new clock later told.0 dialer done asks.only told.2 adds) paused in
    record {
      target = target;
      port = port_then;
      clock = clock_then;
      asks = asks_anywhere routes backend read.head target asking old clock told.0 asks told.1;
      taught = uses.0;
      uses_port = uses.1;
      uses_dialer = uses.2;
    }

-- ---- the whole

-- the client has got an answer of the relay's own where the outcome says so
pub gets_answer : {P S : Type 0} (seen : P → PortSeen) (server_of : S → ℕ) (routes : Routes) (source : Ipv4Addr) (ports used : List P) (before after : Scene)
    (outcome : Outcome) → Serves seen server_of routes source ports used before after outcome → GotAnswer outcome before.client.written after.client.written
gets_answer seen server_of routes source ports used before after outcome s =
    got_answer (outcome_of s.answer) outcome before.client s.client after.client
    (λ cause due. relay_is_quiet seen server_of routes source ports used before (record after { client = s.client }) s.answer s.relays cause due) s.ends

-- a request that was found and placed, and whatever it does at its server until that is over
pub is_served : {P S : Type 0} (seen : P → PortSeen) (server_of : S → ℕ) (routes : Routes) (source : Ipv4Addr) (found : Found) (target : Target)
    (asking own : Share) (client headed : Talk) → Finds routes source client headed (Ok found) → IsAsking routes found.backend found.read.head target asking
    → (more : Share) (after : Talk) (outcome : Outcome)
    → IsOver server_of target (outgoing routes found.backend found.read) (joined own more) headed after outcome
    → IsServed seen server_of routes source found.backend (joined (joined asking own) more) client after outcome
is_served seen server_of routes source found target asking own client headed finds asks more after outcome (answer, between, visited, ends) =
    λ ports used old new clock later dialer done its_port other_ports adds grown.
    let same = joined_thrice asking own more in
    let all = subst (λ (s : Share). Adds s (recorded (seen old) clock dialer) (recorded (seen new) later done)) same adds in
    let paused = subst (λ (s : Share). Grows clock.pauses later.pauses s.pauses) same grown in
    let both = asked_and_visited server_of routes found.backend found.read target asking (joined own more) (seen old) (seen new) clock later dialer done
    headed between answer asks visited all paused in
    let relays = after_visit seen server_of routes source ports used old new clock dialer client headed (scene later done between) found answer
    finds its_port other_ports both in
    let serves : Serves seen server_of routes source ports used (scene clock dialer client) (scene later done after) outcome = record {
      answer = relayed answer;
      client = between;
      relays = relays;
      ends = ends;
    } in
    (serves, gets_answer seen server_of routes source ports used (scene clock dialer client) (scene later done after) outcome serves)

-- a request to which nothing is due but an answer of the relay's own
pub ends_served : {P S : Type 0} (seen : P → PortSeen) (server_of : S → ℕ) (routes : Routes) (source : Ipv4Addr) (ports used : List P) (before : Scene)
    (later : ClockSeen) (done : DialerSeen) (between after : Talk) (answer : Result ℕ ServeFault) (due outcome : Outcome)
    → Relays seen server_of routes source ports used before (scene later done between) answer → due ≡ outcome_of answer → Ends due between after outcome
    → Served seen server_of routes source ports used before (scene later done after) outcome
ends_served seen server_of routes source ports used before later done between after answer due outcome relays is ends =
    let serves : Serves seen server_of routes source ports used before (scene later done after) outcome = record {
      answer = answer;
      client = between;
      relays = relays;
      ends = subst (λ (o : Outcome). Ends o between after outcome) is ends;
    } in
    (serves, gets_answer seen server_of routes source ports used before (scene later done after) outcome serves)

-- ---- the beginning

-- the question, and a visit that was begun and waits
pub has_begun : {S W : Type 0} (server_of : S → ℕ) (wire : W → Talk) (routes : Routes) (backend : ℕ) (read : ReadHeadView) (target : Target)
    (request : OutgoingView) (old asked_port new : PortSeen) (clock asked_clock later : ClockSeen) (dialer done : DialerSeen) (client now : Talk) (stage : Stage S W)
    → AsksAtMoment routes backend read.head old asked_port clock asked_clock (Ok target)
    → request ≡ outgoing routes backend read → Keeps target (outgoing routes backend read) stage
    → visit.Steps server_of wire target request nothing client now (recorded asked_port asked_clock dialer) (recorded new later done) []
    (visit_step.Waits (visit_of stage))
    → HasBegun server_of wire routes backend read old new (scene clock dialer client) (scene later done now) stage
has_begun server_of wire routes backend read target request old asked_port new clock asked_clock later dialer done client now stage asks is keeps
    (share, adds, unpaused, stands) =
    let (asking, is_asking, first) = asking_of routes backend read.head target old asked_port clock asked_clock dialer asks in
    record {
      target = target;
      asking = asking;
      asks = is_asking;
      own = share;
      adds = adds_twice asking share (recorded old clock dialer) (recorded asked_port asked_clock dialer) (recorded new later done) first adds;
      unpaused = unpaused;
      visits = (keeps, subst (λ (r : OutgoingView). visit.IsUnderway server_of wire target r share client now (visit_of stage)) is stands);
    }

-- the question, and a visit that was over at once
pub begun_and_over : {S W : Type 0} (server_of : S → ℕ) (wire : W → Talk) (routes : Routes) (backend : ℕ) (read : ReadHeadView) (target : Target)
    (request : OutgoingView) (old asked_port new : PortSeen) (clock asked_clock later : ClockSeen) (dialer done : DialerSeen) (client now : Talk)
    (answer : Result ℕ VisitFault) → AsksAtMoment routes backend read.head old asked_port clock asked_clock (Ok target)
    → request ≡ outgoing routes backend read → later.pauses ≡ asked_clock.pauses
    → visit.Steps {S = S} {W = W} server_of wire target request nothing client now (recorded asked_port asked_clock dialer) (recorded new later done) []
    (visit_step.Done answer)
    → Visits server_of routes backend read old new (scene clock dialer client) (scene later done now) answer
begun_and_over server_of wire routes backend read target request old asked_port new clock asked_clock later dialer done client now answer asks is same
    (share, adds, unpaused, visited) =
    let paused = subst (Grows asked_clock.pauses later.pauses) (sym unpaused)
    (subst (λ p. Grows asked_clock.pauses p []) (sym same) (grows_none asked_clock.pauses)) in
    let uses = visited (recorded asked_port asked_clock dialer) (recorded new later done) asked_clock.pauses later.pauses adds paused in
    visits server_of routes backend read old asked_port new asked_clock (scene clock dialer client) (scene later done now) target uses.0 request answer asks is
    uses.1 uses.2

-- a request that was found, and whose visit was begun, is under way
pub is_serving : {P S W : Type 0} (seen : P → PortSeen) (server_of : S → ℕ) (wire : W → Talk) (routes : Routes) (source : Ipv4Addr) (ports used : List P)
    (old new : P) (clock later : ClockSeen) (dialer done : DialerSeen) (client headed now : Talk) (found : Found) (stage : Stage S W)
    → Finds routes source client headed (Ok found) → slice_get ports found.backend ≡ Some old → used ≡ slice_set ports found.backend new
    → HasBegun server_of wire routes found.backend found.read (seen old) (seen new) (scene clock dialer headed) (scene later done now) stage
    → (share : Share) × AddsAt seen found.backend share [] ports used clock later dialer done
    × IsServing seen server_of wire routes source found.backend share client now stage
is_serving seen server_of wire routes source ports used old new clock later dialer done client headed now found stage finds its_port other_ports begun = (
  joined begun.asking begun.own,
  record {
    old = old;
    new = new;
    its_port = its_port;
    other_ports = other_ports;
    adds = begun.adds;
    pauses = ap (λ (s : Share). s.pauses ++ begun.own.pauses) begun.asks.only ∙ begun.unpaused;
  },
  record {
    target = begun.target;
    request = outgoing routes found.backend found.read;
    own = begun.own;
    headed = headed;
    visits = begun.visits;
    serves = is_served seen server_of routes source found begun.target begun.asking begun.own client headed finds begun.asks;
  },
)

-- ---- a step at the server

-- the question is asked again for the request and at the server that were kept
pub asks_as_kept : {S W : Type 0} (server_of : S → ℕ) (wire : W → Talk) (target kept : Target) (request sent passed : OutgoingView) (own : Share)
    (headed now after : Talk) (old new : Records) (queueing : wait.Queueing) (step : Step S W)
    → kept ≡ target → sent ≡ request → passed ≡ sent
    → visit.IsUnderway {S = S} {W = W} server_of wire target request own headed now (visit_stage.Queueing queueing)
    → (visit.IsUnderway {S = S} {W = W} server_of wire kept passed own headed now (visit_stage.Queueing queueing)
    → visit.Steps server_of wire kept passed own headed after old new (50 ∷ []) step)
    → visit.Steps server_of wire target request own headed after old new (50 ∷ []) step
asks_as_kept server_of wire target kept request sent passed own headed now after old new queueing step kept_is sent_is passed_is underway steps =
    let is = passed_is ∙ sent_is in
    subst (λ (t : Target). visit.Steps server_of wire t request own headed after old new (50 ∷ []) step) kept_is
    (subst (λ (r : OutgoingView). visit.Steps server_of wire kept r own headed after old new (50 ∷ []) step) is
    (steps (subst (λ (r : OutgoingView). visit.IsUnderway server_of wire kept r own headed now (visit_stage.Queueing queueing)) (sym is)
    (subst (λ (t : Target). visit.IsUnderway server_of wire t request own headed now (visit_stage.Queueing queueing)) (sym kept_is) underway))))

-- it waits in the queue
pub waits_again : {S W : Type 0} (server_of : S → ℕ) (wire : W → Talk) (target kept : Target) (request sent : OutgoingView) (own : Share) (headed now : Talk)
    (old new : PortSeen) (clock later : ClockSeen) (dialer after : DialerSeen) (pauses : List ℕ) (queueing : wait.Queueing)
    → kept ≡ target → sent ≡ request
    → visit.Steps server_of wire target request own headed now (recorded old clock dialer) (recorded new later after) pauses
    (visit_step.Waits (visit_stage.Queueing queueing))
    → GoesOnAt server_of wire target request own headed now old new clock later dialer after pauses
    (gone.Waits (Queueing (record { target = kept; request = sent; queueing = queueing })))
waits_again server_of wire target kept request sent own headed now old new clock later dialer after pauses queueing kept_is sent_is (share, adds, is, stands) =
    (share, adds, is, ((kept_is, sent_is), stands))

-- its request was sent
pub waits_for_server : {S W : Type 0} (server_of : S → ℕ) (wire : W → Talk) (target : Target) (request : OutgoingView) (own : Share) (headed now : Talk)
    (old new : PortSeen) (clock later : ClockSeen) (dialer after : DialerSeen) (pauses : List ℕ) (held : Held S W)
    → visit.Steps server_of wire target request own headed now (recorded old clock dialer) (recorded new later after) pauses
    (visit_step.Waits (visit_stage.Copying held))
    → GoesOnAt server_of wire target request own headed now old new clock later dialer after pauses (gone.Waits (Copying held))
waits_for_server server_of wire target request own headed now old new clock later dialer after pauses held (share, adds, is, stands) =
    (share, adds, is, (tt, stands))

-- its visit is over
pub visit_over : {S W : Type 0} (server_of : S → ℕ) (wire : W → Talk) (target : Target) (request : OutgoingView) (own : Share) (headed now : Talk)
    (old new : PortSeen) (clock later : ClockSeen) (dialer after : DialerSeen) (pauses : List ℕ) (answer : Result ℕ VisitFault)
    → visit.Steps {S = S} {W = W} server_of wire target request own headed now (recorded old clock dialer) (recorded new later after) pauses
    (visit_step.Done answer)
    → GoesOnAt server_of wire target request own headed now old new clock later dialer after pauses (gone.Over answer)
visit_over server_of wire target request own headed now old new clock later dialer after pauses answer (share, adds, is, stands) =
    (share, adds, is, stands)

-- ---- a step of a request

-- it waits
pub goes_on : {P S W C : Type 0} (seen : P → PortSeen) (server_of : S → ℕ) (wire : W → Talk) (talk : C → Talk) (target : Target) (request : OutgoingView)
    (own : Share) (headed : Talk) (underway : Underway S W C) (ports used : List P) (old new : P) (clock later : ClockSeen) (dialer done : DialerSeen)
    (client : Client C) (stage : Stage S W) → slice_get ports underway.backend ≡ Some old → used ≡ slice_set ports underway.backend new
    → GoesOnAt server_of wire target request own headed (talk client.wire) (seen old) (seen new) clock later dialer done
    (visit.due (visit_of underway.stage)) (gone.Waits stage)
    → GoesOn seen server_of wire talk target request own headed underway ports used clock later dialer done
    (Waits (record { client = client; backend = underway.backend; stage = stage }))
goes_on seen server_of wire talk target request own headed underway ports used old new clock later dialer done client stage its_port other_ports
    (share, adds, is, visiting) = (
      share,
      record { old = old; new = new; its_port = its_port; other_ports = other_ports; adds = adds; pauses = is },
      (refl, visiting),
    )

-- it is over
pub comes_to_end : {P S W C : Type 0} (seen : P → PortSeen) (server_of : S → ℕ) (wire : W → Talk) (talk : C → Talk) (target : Target) (request : OutgoingView)
    (own : Share) (headed between : Talk) (underway : Underway S W C) (ports used : List P) (old new : P) (clock later : ClockSeen) (dialer done : DialerSeen)
    (client : Client C) (answer : Result ℕ VisitFault) (outcome : Outcome)
    → slice_get ports underway.backend ≡ Some old → used ≡ slice_set ports underway.backend new
    → GoesOnAt {S = S} {W = W} server_of wire target request own headed between (seen old) (seen new) clock later dialer done
    (visit.due (visit_of underway.stage)) (gone.Over answer)
    → Ends (outcome_of (relayed answer)) between (talk client.wire) outcome
    → GoesOn seen server_of wire talk target request own headed underway ports used clock later dialer done (Done client outcome)
comes_to_end seen server_of wire talk target request own headed between underway ports used old new clock later dialer done client answer outcome
    its_port other_ports (share, adds, is, visited) ends = (
      share,
      record { old = old; new = new; its_port = its_port; other_ports = other_ports; adds = adds; pauses = is },
      (answer, between, visited, ends),
    )

-- ---- all steps of a request

pub add_up : {P S W C : Type 0} (seen : P → PortSeen) (server_of : S → ℕ) (wire : W → Talk) (talk : C → Talk) (routes : Routes)
    → StepsAddUp seen server_of wire talk routes
add_up seen server_of wire talk routes source share client underway (Waits next) ports used clock later dialer after s go =
    let x = go s.target s.request s.own s.headed s.visits in
    let more = x.0 in (
      more,
      x.1,
      (
        x.2.0,
        record {
          target = s.target;
          request = s.request;
          own = joined s.own more;
          headed = s.headed;
          visits = x.2.1;
          serves = λ further last outcome over. subst
              (λ (all : Share). IsServed seen server_of routes source underway.backend all client last outcome) (sym (joined_thrice share more further))
              (s.serves (joined more further) last outcome
              (subst (λ (all : Share). IsOver server_of s.target s.request all s.headed last outcome) (joined_thrice s.own more further) over));
        },
      ),
    )
add_up seen server_of wire talk routes source share client underway (Done last outcome) ports used clock later dialer after s go =
    let x = go s.target s.request s.own s.headed s.visits in
    (x.0, x.1, s.serves x.0 (talk last.wire) outcome x.2)
