-- A visit's share of the records, wherever it is among those of others.
use Rattle.std.proofs.Common.{◌≡◌, ℕ, List, [], ◌∷◌, ◌++◌, append-nil, append_assoc, Option, Result, Ok, Err, refl, sym, subst, ap, ◌∙◌}
use Rattle.http_relay_body.specs.declared.response.CopyFault.{CopyFault}
use Rattle.http_relay_wire.specs.Wires.{Reading}
use Rattle.http_relay_wire.specs.declared.fault.WireFault.{WireFault}
use Rattle.http_relay_dial.specs.Dials.{Dial, Talk, IsFresh}
use Rattle.http_relay_exchange.specs.Exchanges.{CopiesBack, Sent, SentAndCopied}
use Rattle.http_relay_exchange.specs.Requests.{OutgoingView}
use Rattle.http_relay_queue.proofs.Waits.{grows_none, wherever}
use Rattle.http_relay_queue.specs.Asks.{HasEnded}
use Rattle.http_relay_queue.specs.declared.asking.Asking.{Asking}
use Rattle.http_relay_queue.specs.declared.asking.Asking.TheVariants.{Full, Ended}
use Rattle.http_relay_queue.specs.declared.asking.Queueing as queue
use Rattle.http_relay_queue.specs.declared.queue.Waited.{Waited}
use Rattle.http_relay_queue.specs.declared.queue.Waited.TheVariants as waited
use Rattle.lb_desk_model.specs.declared.entry.Entry.{Entry}
use Rattle.lb_desk_ports.specs.Calls.{Grows, after_call}
use Rattle.lb_desk_ports.specs.Ports.{shutting_entries}
use Rattle.lb_desk_ports.specs.declared.refused.Refused.{Refused}
use Rattle.lb_desk_ports.specs.declared.replies.Shut.{Shut}
use Rattle.http_relay_talk.proofs.Copies.{copies_none}
use Rattle.http_relay_talk.proofs.Lessons.{reads_nothing}
use Rattle.http_relay_talk.proofs.Shares.{adds_twice, adds_nothing, joined_nothing, joined_thrice, refusals_append}
use Rattle.http_relay_talk.specs.Lessons.{Learns, Makes, Taught, Teaches, both, untaught}
use Rattle.http_relay_talk.specs.Openings.{HasAsked, visit_answer}
use Rattle.http_relay_talk.specs.Shares.{Records, Share, nothing, joined, after_refusals, after_failures, refusals_of, Notes, Adds}
use Rattle.http_relay_talk.specs.Talks.{Idle, Talked, HeldAndGaveBack, UsesPort, UsesDialer}
use Rattle.http_relay_talk.specs.Visits.{IsVisit, IsLearning, CopiesFrom, Queues, Holds, Stands, Steps}
use Rattle.http_relay_talk.specs.declared.fault.TalkFault.{TalkFault}
use Rattle.http_relay_talk.specs.declared.fault.TalkFault.TheVariants as talk
use Rattle.http_relay_talk.specs.declared.fault.VisitFault.TheVariants as visit
use Rattle.http_relay_talk.specs.declared.learning.Learning.{Learning}
use Rattle.http_relay_talk.specs.declared.target.Target.{Target}
use Rattle.http_relay_talk.specs.declared.underway.Step.{Step}

after_one : {A : Type 0} (answer : Result A Refused) (count : ℕ) → after_refusals (refusals_of answer) count ≡ after_call answer count
after_one (Ok value) count = refl
after_one (Err refused) count = refl

-- a step that adds nothing
pub stays : {S W : Type 0} (server_of : S → ℕ) (seen : W → Talk) (target : Target) (request : OutgoingView) (own : Share) (client now : Talk) (at : Records)
    (step : Step S W) → Stands server_of seen target request own client now step → Steps server_of seen target request own client now at at [] step
stays server_of seen target request own client now at step stands = (
  nothing,
  adds_nothing at,
  refl,
  subst (λ share. Stands server_of seen target request share client now step) (sym (joined_nothing own)) stands,
)

-- ---- asking for a connection

-- what asking once adds
abbrev pub asked_share : {S : Type 0} → Result (Asking S) Refused → List Entry → List ℕ → List ℕ → Share
asked_share asking entries told pauses = record nothing { entries = entries; refusals = refusals_of asking; told = told; pauses = pauses }

pub asked_adds : {S : Type 0} (asking : Result (Asking S) Refused) (entries : List Entry) (told pauses : List ℕ) (old new : Records)
    → new.entries ≡ old.entries ++ entries → new.refusals ≡ after_call asking old.refusals → Grows old.told new.told told
    → new.dials ≡ old.dials → new.talks ≡ old.talks → new.failures ≡ old.failures → Adds (asked_share asking entries told pauses) old new
asked_adds asking entries told pauses old new grown refusals tells dials talks failures = record {
  entries = grown;
  refusals = refusals ∙ sym (after_one asking old.refusals);
  told = tells;
  dials = dials;
  talks = talks;
  failures = failures;
}

-- the server is full
pub waits : {S : Type 0} (server_of : S → ℕ) (target : Target) (own : Share) (client : Talk) (queueing : queue.Queueing)
    → HasAsked server_of target own (Ok (Full queueing)) → Queues target own client client queueing
waits server_of target own client queueing h = record {
  waits = h.asks;
  none_refused = h.refused;
  none_dialled = h.none_dialled;
  none_given_back = h.none_given_back;
  none_failed = h.none_failed;
  unseen = refl;
}

-- ---- visits without a slot

idle : {S : Type 0} (server_of : S → ℕ) (target : Target) (own : Share) (asking : Result (Asking S) Refused) (client : Talk) (old new : Records)
    → HasAsked server_of target own asking → Adds own old new → Idle old.dials new.dials old.talks new.talks old.failures new.failures client client
idle server_of target own asking client old new h adds = record {
  no_dial = subst (Notes old.dials new.dials) h.none_dialled adds.dials;
  no_talk = subst (Notes old.talks new.talks) h.none_given_back adds.talks;
  no_failure = adds.failures ∙ ap (λ fs. after_failures fs old.failures) h.none_failed;
  unseen = refl;
}

pub refused_visit : {S : Type 0} (server_of : S → ℕ) (target : Target) (request : OutgoingView) (own : Share) (client : Talk) (refused : Refused)
    → HasAsked server_of target own (Err refused) → IsVisit server_of target request own client client (Err (visit.Refused refused))
refused_visit {S = S} server_of target request own client refused h = λ old new before paused adds grown. (
  untaught,
  (
    wherever {S = S} target.queue target.server own.entries own.told own.pauses (Err refused) old.entries new.entries old.told new.told before paused
        h.asks adds.entries adds.told grown,
    adds.refusals ∙ ap (λ rs. after_refusals rs old.refusals) h.refused,
  ),
  idle server_of target own (Err refused) client old new h adds,
)

pub not_serving_visit : {S : Type 0} (server_of : S → ℕ) (target : Target) (request : OutgoingView) (own : Share) (client : Talk)
    → HasAsked server_of target own (Ok (Ended waited.NotServing)) → IsVisit server_of target request own client client (Err visit.NotServing)
not_serving_visit {S = S} server_of target request own client h = λ old new before paused adds grown. (
  untaught,
  (
    wherever {S = S} target.queue target.server own.entries own.told own.pauses (Ok waited.NotServing) old.entries new.entries old.told new.told before paused
        h.asks adds.entries adds.told grown,
    adds.refusals ∙ ap (λ rs. after_refusals rs old.refusals) h.refused,
  ),
  idle server_of target own (Ok (Ended waited.NotServing)) client old new h adds,
)

pub over_visit : {S : Type 0} (server_of : S → ℕ) (target : Target) (request : OutgoingView) (own : Share) (client : Talk)
    → HasAsked server_of target own (Ok (Ended waited.Over)) → IsVisit server_of target request own client client (Err visit.QueueOver)
over_visit {S = S} server_of target request own client h = λ old new before paused adds grown. (
  untaught,
  (
    wherever {S = S} target.queue target.server own.entries own.told own.pauses (Ok waited.Over) old.entries new.entries old.told new.told before paused
        h.asks adds.entries adds.told grown,
    adds.refusals ∙ ap (λ rs. after_refusals rs old.refusals) h.refused,
  ),
  idle server_of target own (Ok (Ended waited.Over)) client old new h adds,
)

-- ---- visits with a slot

still : {S : Type 0} (limit : Option ℕ) (server : ℕ) (entries : List Entry) (told pauses : List ℕ) (answer : Result (Waited S) Refused)
    → HasEnded limit server entries told pauses answer → HasEnded limit server entries (told ++ []) (pauses ++ []) answer
still limit server entries told pauses answer h =
    subst (λ ts. HasEnded limit server entries ts (pauses ++ []) answer) (sym (append-nil told))
    (subst (λ ps. HasEnded limit server entries told ps answer) (sym (append-nil pauses)) h)

-- what a dial adds that has brought this connection
abbrev pub dialled : Target → Talk → Share
dialled target first = record nothing { dials = record { endpoint = target.endpoint; limits = target.limits; answer = Ok first.reading } ∷ [] }

-- the request was sent
pub was_sent : {S : Type 0} (server_of : S → ℕ) (target : Target) (request : OutgoingView) (own : Share) (client now : Talk) (slot : S) (connection first : Talk)
    (learning : Learning)
    → HasAsked server_of target own (Ok (Ended (waited.Opened slot))) → IsFresh first → Sent request client now first connection (Ok tt)
    → IsLearning target.lesson target.server [] learning untaught
    → Holds server_of target request (joined own (dialled target first)) client now slot connection
    (λ taught between now sent connection. CopiesFrom 0 between now sent connection (Ok 0)
    × Teaches sent.reading connection.reading (λ text. IsLearning target.lesson target.server text learning taught))
was_sent server_of target request own client now slot connection first learning h fresh sent learns = record {
  of = h.slot;
  asked = own.entries;
  taught = untaught;
  opened = still target.queue target.server own.entries own.told own.pauses (Ok (waited.Opened slot)) h.asks;
  entries = refl;
  refusals = append-nil own.refusals ∙ h.refused;
  first = first;
  fresh = fresh;
  dial = ap (λ ds. ds ++ record { endpoint = target.endpoint; limits = target.limits; answer = Ok first.reading } ∷ []) h.none_dialled;
  none_given_back = append-nil own.talks ∙ h.none_given_back;
  none_failed = append-nil own.failures ∙ h.none_failed;
  between = now;
  sent = connection;
  request_sent = sent;
  copies = (
    copies_none now connection,
    reads_nothing connection.reading connection.reading (λ text. IsLearning target.lesson target.server text learning untaught) refl learns,
  );
}

-- what giving back these connections and then a slot of the server adds
abbrev pub gives_back : ℕ → Result Shut Refused → List Talk → Share
gives_back server shut talks = record nothing { entries = shutting_entries server shut; refusals = refusals_of shut; talks = talks }

pub gives_back_adds : (server : ℕ) (shut : Result Shut Refused) (talks : List Talk) (old new : Records)
    → new.entries ≡ old.entries ++ shutting_entries server shut → new.refusals ≡ after_call shut old.refusals
    → new.told ≡ old.told → new.dials ≡ old.dials → Notes old.talks new.talks talks → new.failures ≡ old.failures
    → Adds (gives_back server shut talks) old new
gives_back_adds server shut talks old new entries refusals told dials given failures = record {
  entries = entries;
  refusals = refusals ∙ sym (after_one shut old.refusals);
  told = subst (λ t. Grows old.told t []) (sym told) (grows_none old.told);
  dials = dials;
  talks = given;
  failures = failures;
}

-- what was got is given back, and between the two this was learned
held : {S : Type 0} (server_of : S → ℕ) (target : Target) (taught : Taught) (asked : List Entry) (own : Share) (slot : S) (shut : Result Shut Refused)
    (old new : Records) (before paused : Option (List ℕ))
    → server_of slot ≡ target.server
    → HasEnded target.queue target.server asked own.told own.pauses (Ok (waited.Opened slot))
    → own.entries ≡ asked ++ taught.entries → own.refusals ≡ taught.refusals
    → new.entries ≡ old.entries ++ (own.entries ++ shutting_entries target.server shut) → new.refusals ≡ after_refusals (own.refusals ++ refusals_of shut) old.refusals
    → Grows old.told new.told (own.told ++ []) → Grows before paused (own.pauses ++ [])
    → HeldAndGaveBack server_of target taught old.entries new.entries old.refusals new.refusals old.told new.told before paused
held server_of target taught asked own slot shut old new before paused of opened made refused entries refusals told grown =
    let end = shutting_entries target.server shut in
    record {
      slot = slot;
      of = of;
      held = old.entries ++ asked;
      opened = wherever target.queue target.server asked own.told own.pauses (Ok (waited.Opened slot)) old.entries (old.entries ++ asked)
          old.told new.told before paused opened refl (subst (Grows old.told new.told) (append-nil own.told) told)
          (subst (Grows before paused) (append-nil own.pauses) grown);
      shut = shut;
      given_back = entries ∙ ap (λ es. old.entries ++ (es ++ end)) made ∙ sym (append_assoc old.entries (asked ++ taught.entries) end)
          ∙ ap (λ es. es ++ end) (sym (append_assoc old.entries asked taught.entries));
      counted = refusals ∙ ap (λ rs. after_refusals (rs ++ refusals_of shut) old.refusals) refused
          ∙ refusals_append taught.refusals (refusals_of shut) old.refusals ∙ after_one shut (after_refusals taught.refusals old.refusals);
    }

-- with an answer of copying, as a visit's clauses have it
told_both : {S : Type 0} (server_of : S → ℕ) (target : Target) (taught : Taught) (request : OutgoingView) (client now : Talk) (answer : Result ℕ CopyFault)
    (old new : Records) (before paused : Option (List ℕ))
    → HeldAndGaveBack server_of target taught old.entries new.entries old.refusals new.refusals old.told new.told before paused
    → (first last : Talk) → IsFresh first
    → Grows old.dials new.dials (record { endpoint = target.endpoint; limits = target.limits; answer = Ok first.reading } ∷ [])
    → SentAndCopied request client now first last answer
    → Teaches first.reading last.reading (λ text. Learns target.lesson target.server text taught)
    → Grows old.talks new.talks (last ∷ []) → new.failures ≡ old.failures
    → (learned : Taught) × UsesPort server_of target learned old.entries new.entries old.refusals new.refusals old.told new.told before paused (visit_answer answer)
    × UsesDialer target learned request old.dials new.dials old.talks new.talks old.failures new.failures client now (visit_answer answer)
told_both server_of target taught request client now (Ok count) old new before paused back first last fresh dial copied learned hung_up failed = (
  taught,
  back,
  (
    record { first = first; last = last; fresh = fresh; dial = dial; exchanged = copied; learned = learned; hung_up = hung_up },
    failed,
  ),
)
told_both server_of target taught request client now (Err fault) old new before paused back first last fresh dial copied learned hung_up failed = (
  taught,
  back,
  (
    record { first = first; last = last; fresh = fresh; dial = dial; exchanged = copied; learned = learned; hung_up = hung_up },
    failed,
  ),
)

-- the response was copied and learned from, or not, and all was given back
pub finished : {S : Type 0} (server_of : S → ℕ) (target : Target) (request : OutgoingView) (own : Share) (client now : Talk) (slot : S) (last : Talk)
    (answer : Result ℕ CopyFault) (shut : Result Shut Refused)
    → Holds server_of target request own client now slot last (λ taught between now sent last. CopiesBack between now sent last answer
    × Teaches sent.reading last.reading (λ text. Learns target.lesson target.server text taught))
    → IsVisit server_of target request (joined own (gives_back target.server shut (last ∷ []))) client now (visit_answer answer)
finished server_of target request own client now slot last answer shut h = λ old new before paused adds grown.
    let back = held server_of target h.taught h.asked own slot shut old new before paused h.of h.opened h.entries h.refusals adds.entries adds.refusals
    adds.told grown in
    let dial = subst (Notes old.dials new.dials) (append-nil own.dials ∙ h.dial) adds.dials in
    let hung_up = subst (Notes old.talks new.talks) (ap (λ ts. ts ++ last ∷ []) h.none_given_back) adds.talks in
    let failed = adds.failures ∙ ap (λ fs. after_failures fs old.failures) (append-nil own.failures ∙ h.none_failed) in
    let learned : Teaches h.first.reading last.reading (λ text. Learns target.lesson target.server text h.taught) = record {
      text = h.copies.1.text;
      read = ap (λ (reading : Reading). reading.unread) (sym h.request_sent.server_reading) ∙ h.copies.1.read;
      learned = h.copies.1.learned;
    } in
    told_both server_of target h.taught request client now answer old new before paused back h.first last h.fresh dial
    (h.between, h.sent, h.request_sent, h.copies.0) learned hung_up failed

-- what a talk that failed did to the dialer, and the same talk wherever it is
failed_talk : (target : Target) (request : OutgoingView) (d0 d1 : Option (List Dial)) (t0 t1 : Option (List Talk)) (f0 f1 : ℕ) (client after : Talk)
    (fault : TalkFault) → Talked target untaught request d0 d1 t0 t1 f0 f1 client after (Err fault)
    → (dials : List Dial) × (talks : List Talk) × (failures : List WireFault)
    × Notes d0 d1 dials × Notes t0 t1 talks × (f1 ≡ after_failures failures f0)
    × ((e0 e1 : Option (List Dial)) (u0 u1 : Option (List Talk)) (g0 g1 : ℕ) → Notes e0 e1 dials → Notes u0 u1 talks → g1 ≡ after_failures failures g0
    → Talked target untaught request e0 e1 u0 u1 g0 g1 client after (Err fault))
failed_talk target request d0 d1 t0 t1 f0 f1 client after (talk.Dial fault) x = (
  record { endpoint = target.endpoint; limits = target.limits; answer = Err fault } ∷ [],
  [],
  fault ∷ [],
  x.dial,
  x.no_talk,
  x.counted,
  λ e0 e1 u0 u1 g0 g1 dial talked failed. record { dial = dial; unlearned = refl; counted = failed; no_talk = talked; unseen = x.unseen },
)
failed_talk target request d0 d1 t0 t1 f0 f1 client after (talk.Exchange fault) (x, same) = (
  record { endpoint = target.endpoint; limits = target.limits; answer = Ok x.first.reading } ∷ [],
  x.last ∷ [],
  [],
  x.dial,
  x.hung_up,
  same,
  λ e0 e1 u0 u1 g0 g1 dial talked failed. (
    record {
      first = x.first;
      last = x.last;
      fresh = x.fresh;
      dial = dial;
      exchanged = x.exchanged;
      learned = x.learned;
      hung_up = talked;
    },
    failed,
  ),
)

-- the talk failed, and the slot is given back
pub failed_visit : {S W : Type 0} (server_of : S → ℕ) (seen : W → Talk) (target : Target) (request : OutgoingView) (own : Share) (client after : Talk) (slot : S)
    (fault : TalkFault) (shut : Result Shut Refused) (old mid new : Records)
    → HasAsked server_of target own (Ok (Ended (waited.Opened slot)))
    → mid.entries ≡ old.entries → mid.refusals ≡ old.refusals → mid.told ≡ old.told
    → Talked target untaught request old.dials mid.dials old.talks mid.talks old.failures mid.failures client after (Err fault)
    → Adds (gives_back target.server shut []) mid new
    → (share : Share) × Adds share old new × (share.pauses ≡ []) × IsVisit server_of target request (joined own share) client after (Err (visit.Talk fault))
failed_visit {S = S} server_of seen target request own client after slot fault shut old mid new h entries refusals told talked gives =
    let x = failed_talk target request old.dials mid.dials old.talks mid.talks old.failures mid.failures client after fault talked in
    let did = record nothing { dials = x.0; talks = x.1; failures = x.2 } in
    let does : Adds did old mid = record {
      entries = entries ∙ sym (append-nil old.entries);
      refusals = refusals;
      told = subst (λ t. Grows old.told t []) (sym told) (grows_none old.told);
      dials = x.3;
      talks = x.4;
      failures = x.5;
    } in (
      joined did (gives_back target.server shut []),
      adds_twice did (gives_back target.server shut []) old mid new does gives,
      refl,
      λ from to before paused adds grown. (
        untaught,
        held server_of target untaught own.entries own slot shut from to before paused h.slot h.asks (sym (append-nil own.entries)) h.refused adds.entries adds.refusals adds.told grown,
        x.6 from.dials to.dials from.talks to.talks from.failures to.failures
            (subst (Notes from.dials to.dials) (ap (λ ds. ds ++ (x.0 ++ [])) h.none_dialled ∙ append-nil x.0) adds.dials)
            (subst (Notes from.talks to.talks) (ap (λ ts. ts ++ (x.1 ++ [])) h.none_given_back ∙ append-nil x.1) adds.talks)
            (adds.failures ∙ ap (λ fs. after_failures fs from.failures) (ap (λ fs. fs ++ (x.2 ++ [])) h.none_failed ∙ append-nil x.2)),
      ),
    )

-- the same visit, when more was copied
pub with_copies : {S : Type 0} (server_of : S → ℕ) (target : Target) (request : OutgoingView) (own : Share) (client now later : Talk) (slot : S)
    (connection then : Talk) (Copies More : Taught → Talk → Talk → Talk → Talk → Type 0) → (h : Holds server_of target request own client now slot connection Copies)
    → More h.taught h.between later h.sent then → Holds server_of target request own client later slot then More
with_copies server_of target request own client now later slot connection then Copies More h more = record {
  of = h.of;
  asked = h.asked;
  taught = h.taught;
  opened = h.opened;
  entries = h.entries;
  refusals = h.refusals;
  first = h.first;
  fresh = h.fresh;
  dial = h.dial;
  none_given_back = h.none_given_back;
  none_failed = h.none_failed;
  between = h.between;
  sent = h.sent;
  request_sent = h.request_sent;
  copies = more;
}

-- ---- what was learned

-- the share of a lesson
abbrev pub lesson_share : Taught → Share
lesson_share taught = record nothing { entries = taught.entries; refusals = taught.refusals }

pub lesson_adds : (taught : Taught) (old new : Records) → Makes taught old.entries new.entries old.refusals new.refusals
    → new.told ≡ old.told → new.dials ≡ old.dials → new.talks ≡ old.talks → new.failures ≡ old.failures → Adds (lesson_share taught) old new
lesson_adds taught old new (entries, refusals) told dials talks failures = record {
  entries = entries;
  refusals = refusals;
  told = subst (λ t. Grows old.told t []) (sym told) (grows_none old.told);
  dials = dials;
  talks = talks;
  failures = failures;
}

-- the same visit, when more was copied and learned
pub with_lesson : {S : Type 0} (server_of : S → ℕ) (target : Target) (request : OutgoingView) (own : Share) (client now later : Talk) (slot : S)
    (connection then : Talk) (Copies More : Taught → Talk → Talk → Talk → Talk → Type 0) (taught : Taught)
    → (h : Holds server_of target request own client now slot connection Copies)
    → More (both h.taught taught) h.between later h.sent then → Holds server_of target request (joined own (lesson_share taught)) client later slot then More
with_lesson server_of target request own client now later slot connection then Copies More taught h more = record {
  of = h.of;
  asked = h.asked;
  taught = both h.taught taught;
  opened = still target.queue target.server h.asked own.told own.pauses (Ok (waited.Opened slot)) h.opened;
  entries = ap (λ es. es ++ taught.entries) h.entries ∙ append_assoc h.asked h.taught.entries taught.entries;
  refusals = ap (λ rs. rs ++ taught.refusals) h.refusals;
  first = h.first;
  fresh = h.fresh;
  dial = append-nil own.dials ∙ h.dial;
  none_given_back = append-nil own.talks ∙ h.none_given_back;
  none_failed = append-nil own.failures ∙ h.none_failed;
  between = h.between;
  sent = h.sent;
  request_sent = h.request_sent;
  copies = more;
}

-- a lesson and then a step are a step
pub steps_after : {S W : Type 0} (server_of : S → ℕ) (seen : W → Talk) (target : Target) (request : OutgoingView) (own : Share) (taught : Taught)
    (client now : Talk) (old mid new : Records) (step : Step S W) → Adds (lesson_share taught) old mid
    → Steps server_of seen target request (joined own (lesson_share taught)) client now mid new [] step
    → Steps server_of seen target request own client now old new [] step
steps_after server_of seen target request own taught client now old mid new step first (share, adds, is, stands) = (
  joined (lesson_share taught) share,
  adds_twice (lesson_share taught) share old mid new first adds,
  is,
  subst (λ all. Stands server_of seen target request all client now step) (joined_thrice own (lesson_share taught) share) stands,
)
