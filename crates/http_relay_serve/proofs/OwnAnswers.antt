-- What a client got where the relay answered by itself: nothing before the answer but leave to go on.
use Rattle.std.proofs.Common.{◌≡◌, ◌⊎◌, ℕ, zero, suc, true, false, cond, eqb, List, ◌++◌, length, Option, Some, None, Result, Ok, Err, refl, sym, ap, ◌∙◌, subst, inl, inr, arith}
use Rattle.std.specs.Io.KnownBytes.{append_known}
use Rattle.std.proofs.lemmas.Bool.Decides.{nat_tests}
use Rattle.std.proofs.lemmas.List.{append-nil, nil_from_length}
use Rattle.http_relay_wire.specs.Wires.{Reading}
use Rattle.http_relay_wire.specs.declared.fault.WireFault.{WireFault}
use Rattle.http_relay_forward.specs.Answers.{continue_text}
use Rattle.http_relay_body.specs.Copies.{Copied}
use Rattle.http_relay_body.specs.declared.response.CopyFault.{CopyFault}
use Rattle.http_relay_body.specs.declared.response.CopyFault.TheVariants as copy
use Rattle.http_relay_dial.specs.Dials.{Dial, Talk}
use Rattle.http_relay_exchange.specs.Exchanges.{wrote, invited, Exchanged}
use Rattle.http_relay_exchange.specs.Requests.{OutgoingView}
use Rattle.http_relay_exchange.specs.declared.fault.ExchangeFault.TheVariants.{Send, Copy}
use Rattle.http_relay_exchange.specs.declared.fault.SendFault.{SendFault}
use Rattle.http_relay_exchange.specs.declared.fault.SendFault.TheVariants as send
use Rattle.http_relay_talk.specs.Lessons.{Taught}
use Rattle.http_relay_talk.specs.Talks.{UsesDialer}
use Rattle.http_relay_talk.specs.declared.fault.TalkFault.TheVariants.{Dial as NotDialled, Exchange}
use Rattle.http_relay_talk.specs.declared.fault.VisitFault.{VisitFault}
use Rattle.http_relay_talk.specs.declared.fault.VisitFault.TheVariants as visit
use Rattle.http_relay_talk.specs.declared.target.Target.{Target}
use Rattle.http_relay_head.specs.ReadHeadView.{ReadHeadView}
use Rattle.std.specs.declared.net.ipv4_addr.Ipv4Addr.{Ipv4Addr}
use Rattle.http_relay_serve.specs.Causes.{cause_text}
use Rattle.http_relay_serve.specs.Outcomes.{outcome_of, of_send, of_copy, of_visit, Ends, GotAnswer}
use Rattle.http_relay_serve.specs.Routes.{Routes}
use Rattle.http_relay_serve.specs.Serves.{PortSeen, Scene, ServesAt, Relays}
use Rattle.http_relay_serve.specs.declared.fault.BackendFault.{BackendFault}
use Rattle.http_relay_serve.specs.declared.fault.BackendFault.TheVariants.{Memory, Ask, Visit}
use Rattle.http_relay_serve.specs.declared.fault.ServeFault.{ServeFault}
use Rattle.http_relay_serve.specs.declared.fault.ServeFault.TheVariants.{Head, NoBackend, Backend}
use Rattle.http_relay_serve.specs.declared.outcome.Outcome.{Outcome}
use Rattle.http_relay_serve.specs.declared.cause.Cause.{Cause}
use Rattle.http_relay_serve.specs.declared.cause.Cause.TheVariants.{NoResponse}
use Rattle.http_relay_serve.specs.declared.outcome.Outcome.TheVariants.{Relayed, Answered, Dropped}

-- nothing went to the client but leave to go on
abbrev pub Quiet : Talk → Talk → Type 0
Quiet old new = (new.written ≡ old.written) ⊎ (new.written ≡ append_known old.written continue_text)

-- leave to go on is all that one who waits for it gets
invited_is_quiet : (request : OutgoingView) (client : Talk) → Quiet client (invited request client)
invited_is_quiet request client =
    elim request.expects_continue as (λ v. Quiet client (cond v (wrote client continue_text) client)) [ true ↦ inr refl | false ↦ inl refl ]

-- what was quiet stays so where nothing more is written
quiet_still : (old new later : Talk) → Quiet old new → later.written ≡ new.written → Quiet old later
quiet_still old new later quiet same = subst (λ w. (w ≡ old.written) ⊎ (w ≡ append_known old.written continue_text)) (sym same) quiet

-- no byte behind known ones
nothing_known : (known : Option (List ℕ)) (text : List ℕ) → length text ≡ 0 → append_known known text ≡ known
nothing_known None text empty = refl
nothing_known (Some bytes) text empty = ap (λ t. Some (bytes ++ t)) (nil_from_length text empty) ∙ ap (λ t. Some t) (append-nil bytes)

-- a request that wasn't sent to its end
send_is_quiet : (request : OutgoingView) (client after server done : Talk) (fault : SendFault) (cause : Cause)
    → Exchanged request client after server done (Err (Send fault)) → of_send fault ≡ Answered cause → Quiet client after
send_is_quiet request client after server done (send.Continue fault) cause sent due = cc
send_is_quiet request client after server done (send.Head fault) cause sent due =
    quiet_still client (invited request client) after (invited_is_quiet request client) (ap (λ (t : Talk). t.written) sent.0)
send_is_quiet request client after server done (send.Body fault) cause sent due =
    quiet_still client (invited request client) after (invited_is_quiet request client) sent.client_written

-- a response of no byte, or none
copies_nothing : (old new : Reading) (before after : Option (List ℕ)) (count : ℕ) → Copied old new before after (Ok count) → count ≡ 0 → after ≡ before
copies_nothing old new before after count copied none =
    let empty : length copied.text ≡ 0 = grind (arith, copied.tells, none) in
    copied.sent ∙ nothing_known before copied.text empty

copies_no_response : (old new : Reading) (before after : Option (List ℕ)) (fault : WireFault) → Copied old new before after (Err (copy.NoResponse fault)) → after ≡ before
copies_no_response old new before after fault copied = copied.sent ∙ nothing_known before copied.text copied.tells

-- a request that was sent, and whose response brought nothing to the client
sent_is_quiet : (request : OutgoingView) (client between after : Talk) → between.written ≡ (invited request client).written → after.written ≡ between.written → Quiet client after
sent_is_quiet request client between after invites same =
    quiet_still client between after (quiet_still client (invited request client) between (invited_is_quiet request client) invites) same

-- a response that wasn't copied to its end
copy_is_quiet : (request : OutgoingView) (client after server done : Talk) (fault : CopyFault) (cause : Cause)
    → Exchanged request client after server done (Err (Copy fault)) → of_copy fault ≡ Answered cause → Quiet client after
copy_is_quiet request client after server done (copy.NoResponse fault) cause copied due =
    sent_is_quiet request client copied.0 after copied.2.client_written
    (copies_no_response copied.1.reading done.reading copied.0.written after.written fault copied.3.copied)
copy_is_quiet request client after server done (copy.CutShort fault) cause copied due = cc
copy_is_quiet request client after server done (copy.Client fault) cause copied due = cc

-- a visit that failed
visit_is_quiet : (target : Target) (taught : Taught) (request : OutgoingView) (dials dialled : Option (List Dial)) (talks ended : Option (List Talk)) (failures failed : ℕ)
    (client after : Talk) (fault : VisitFault) (cause : Cause) → UsesDialer target taught request dials dialled talks ended failures failed client after (Err fault)
    → of_visit fault ≡ Answered cause → Quiet client after
visit_is_quiet target taught request dials dialled talks ended failures failed client after (visit.Refused refused) cause used due = inl (ap (λ (t : Talk). t.written) used.unseen)
visit_is_quiet target taught request dials dialled talks ended failures failed client after visit.NotServing cause used due = inl (ap (λ (t : Talk). t.written) used.unseen)
visit_is_quiet target taught request dials dialled talks ended failures failed client after visit.QueueOver cause used due = inl (ap (λ (t : Talk). t.written) used.unseen)
visit_is_quiet target taught request dials dialled talks ended failures failed client after (visit.Talk (NotDialled fault)) cause used due = inl (ap (λ (t : Talk). t.written) used.unseen)
visit_is_quiet target taught request dials dialled talks ended failures failed client after (visit.Talk (Exchange (Send fault))) cause used due =
    send_is_quiet request client after used.0.first used.0.last fault cause used.0.exchanged due
visit_is_quiet target taught request dials dialled talks ended failures failed client after (visit.Talk (Exchange (Copy fault))) cause used due =
    copy_is_quiet request client after used.0.first used.0.last fault cause used.0.exchanged due

-- a response of no byte
response_is_quiet : (target : Target) (taught : Taught) (request : OutgoingView) (dials dialled : Option (List Dial)) (talks ended : Option (List Talk)) (failures failed : ℕ)
    (client after : Talk) (count : ℕ) → UsesDialer target taught request dials dialled talks ended failures failed client after (Ok count) → count ≡ 0 → Quiet client after
response_is_quiet target taught request dials dialled talks ended failures failed client after count used none =
    let copied = used.0.exchanged in
    sent_is_quiet request client copied.0 after copied.2.client_written
    (copies_nothing copied.1.reading used.0.last.reading copied.0.written after.written count copied.3.copied none)

-- what was done at a backend
fault_is_quiet : {S : Type 0} (server_of : S → ℕ) (routes : Routes) (backend : ℕ) (read : ReadHeadView) (old new : PortSeen) (before after : Scene)
    (fault : BackendFault) (cause : Cause) → ServesAt server_of routes backend read old new before after (Err fault)
    → outcome_of (Err (Backend fault)) ≡ Answered cause → Quiet before.client after.client
fault_is_quiet server_of routes backend read old new before after Memory cause served due = inl (ap (λ (t : Talk). t.written) served.client)
fault_is_quiet server_of routes backend read old new before after (Ask fault) cause served due = inl (ap (λ (t : Talk). t.written) served.client)
fault_is_quiet server_of routes backend read old new before after (Visit fault) cause served due =
    visit_is_quiet served.target served.taught _ _ _ _ _ _ _ before.client after.client fault cause served.uses_dialer due

-- a response of some bytes asks for no answer
relayed_is_no_answer : (more : ℕ) (cause : Cause) → outcome_of (Ok (suc more)) ≡ Answered cause → ⊥
relayed_is_no_answer more cause due =
    let some : eqb (suc more) 0 ≡ false = grind (arith, nat_tests) in
    let relayed : Relayed ≡ Answered cause = subst (λ b. cond b (Answered NoResponse) Relayed ≡ Answered cause) some due in
    cc

count_is_quiet : {S : Type 0} (server_of : S → ℕ) (routes : Routes) (backend : ℕ) (read : ReadHeadView) (old new : PortSeen) (before after : Scene)
    (count : ℕ) (cause : Cause) → ServesAt server_of routes backend read old new before after (Ok count) → outcome_of (Ok count) ≡ Answered cause
    → Quiet before.client after.client
count_is_quiet server_of routes backend read old new before after zero cause served due =
    response_is_quiet served.target served.taught _ _ _ _ _ _ _ before.client after.client zero served.uses_dialer refl
count_is_quiet server_of routes backend read old new before after (suc more) cause served due = absurd (relayed_is_no_answer more cause due)

-- what was quiet since the head was read
quiet_since_head : (old read new : Talk) → read.written ≡ old.written → Quiet read new → Quiet old new
quiet_since_head old read new unanswered quiet = subst (λ w. (new.written ≡ w) ⊎ (new.written ≡ append_known w continue_text)) unanswered quiet

-- what was done for a request that the relay answers by itself
pub relay_is_quiet : {P S : Type 0} (seen : P → PortSeen) (server_of : S → ℕ) (routes : Routes) (source : Ipv4Addr) (ports used : List P) (before after : Scene)
    (answer : Result ℕ ServeFault) → Relays seen server_of routes source ports used before after answer
    → (cause : Cause) → outcome_of answer ≡ Answered cause → Quiet before.client after.client
relay_is_quiet seen server_of routes source ports used before after (Err (Head fault)) relays cause due = inl relays.takes_head.unanswered
relay_is_quiet seen server_of routes source ports used before after (Err NoBackend) relays cause due = inl relays.takes_head.unanswered
relay_is_quiet seen server_of routes source ports used before after (Err (Backend fault)) relays cause due =
    quiet_since_head before.client relays.client after.client relays.takes_head.unanswered
    (fault_is_quiet server_of routes relays.backend relays.read (seen relays.old) (seen relays.new) (record before { client = relays.client }) after fault cause relays.serves due)
relay_is_quiet seen server_of routes source ports used before after (Ok count) relays cause due =
    quiet_since_head before.client relays.client after.client relays.takes_head.unanswered
    (count_is_quiet server_of routes relays.backend relays.read (seen relays.old) (seen relays.new) (record before { client = relays.client }) after count cause relays.serves due)

-- the answer behind what was quiet
answer_behind : (before between after : Talk) (text : List ℕ) → Quiet before between → after.written ≡ append_known between.written text
    → (after.written ≡ append_known before.written text) ⊎ (after.written ≡ append_known (append_known before.written continue_text) text)
answer_behind before between after text quiet wrote_it = elim quiet [
  | inl same ↦ inl (wrote_it ∙ ap (λ w. append_known w text) same)
  | inr more ↦ inr (wrote_it ∙ ap (λ w. append_known w text) more)
]

-- what the client got at last
pub got_answer : (due outcome : Outcome) (before between after : Talk) → ((cause : Cause) → due ≡ Answered cause → Quiet before between)
    → Ends due between after outcome → GotAnswer outcome before.written after.written
got_answer Relayed outcome before between after quiet ends = subst (λ (o : Outcome). GotAnswer o before.written after.written) (sym ends.0) tt
got_answer (Dropped why) outcome before between after quiet ends = subst (λ (o : Outcome). GotAnswer o before.written after.written) (sym ends.0) tt
got_answer (Answered why) outcome before between after quiet ends = elim ends [
  | inl given ↦ subst (λ (o : Outcome). GotAnswer o before.written after.written) (sym given.0)
      (answer_behind before between after (cause_text why) (quiet why refl) (ap (λ (t : Talk). t.written) given.1))
  | inr failed ↦ subst (λ (o : Outcome). GotAnswer o before.written after.written) (sym failed.1) tt
]
