-- Steps of a visit in a row.
use Rattle.std.proofs.Common.{◌≡◌, ℕ, ◌+◌, ◌<◌, List, [], Option, Result, Ok, refl, sym, subst, arith}
use Rattle.http_relay_dial.specs.Dials.{Talk}
use Rattle.http_relay_exchange.specs.Requests.{OutgoingView}
use Rattle.http_relay_queue.proofs.Waits.{grows_none, grows_more}
use Rattle.http_relay_queue.specs.Asks.{IfFull, pauses_left}
use Rattle.http_relay_queue.specs.declared.asking.Asking.{Asking}
use Rattle.http_relay_queue.specs.declared.asking.Asking.TheVariants.{Full}
use Rattle.http_relay_queue.specs.declared.asking.Queueing as queue
use Rattle.http_relay_wire.specs.Wires.{Reading}
use Rattle.lb_desk_ports.specs.Calls.{Grows}
use Rattle.lb_desk_ports.specs.declared.refused.Refused.{Refused}
use Rattle.http_relay_talk.proofs.Shares.{adds_twice, adds_nothing, joined_nothing, joined_thrice}
use Rattle.http_relay_talk.specs.Lessons.{Taught}
use Rattle.http_relay_talk.specs.Openings.{HasLeftQueue, IfQueueing, Passes, reads_left}
use Rattle.http_relay_talk.specs.Shares.{Records, Share, nothing, joined}
use Rattle.http_relay_talk.specs.Talks.{UsesPort, UsesDialer}
use Rattle.http_relay_talk.specs.Visits.{IsUnderway, Nears, Stands, Steps, due}
use Rattle.http_relay_talk.specs.declared.fault.VisitFault.{VisitFault}
use Rattle.http_relay_talk.specs.declared.target.Target.{Target}
use Rattle.http_relay_talk.specs.declared.underway.Step.{Step}
use Rattle.http_relay_talk.specs.declared.underway.Step.TheVariants.{Waits, Done}
use Rattle.http_relay_talk.specs.declared.underway.Underway.{Underway}
use Rattle.http_relay_talk.specs.declared.underway.Underway.TheVariants.{Queueing, Copying}

-- a step, with its pauses made
pub passed : {S W : Type 0} (server_of : S → ℕ) (seen : W → Talk) (target : Target) (request : OutgoingView) (own : Share) (client now : Talk) (old new : Records)
    (before paused : Option (List ℕ)) (pauses : List ℕ) (step : Step S W)
    → Steps server_of seen target request own client now old new pauses step → Grows before paused pauses
    → Passes server_of seen target request own client now old new before paused step
passed server_of seen target request own client now old new before paused pauses step (share, adds, is, stands) grown =
    (share, adds, subst (Grows before paused) (sym is) grown, stands)

-- no step
pub passes_none : {S W : Type 0} (server_of : S → ℕ) (seen : W → Talk) (target : Target) (request : OutgoingView) (own : Share) (client now : Talk) (at : Records)
    (paused : Option (List ℕ)) (step : Step S W) → Stands server_of seen target request own client now step
    → Passes server_of seen target request own client now at at paused paused step
passes_none server_of seen target request own client now at paused step stands = (
  nothing,
  adds_nothing at,
  grows_none paused,
  subst (λ share. Stands server_of seen target request share client now step) (sym (joined_nothing own)) stands,
)

-- steps and then others
pub passes_twice : {S W : Type 0} (server_of : S → ℕ) (seen : W → Talk) (target : Target) (request : OutgoingView) (own : Share) (client now after : Talk)
    (old mid new : Records) (p0 p1 p2 : Option (List ℕ)) (step later : Step S W)
    → Passes server_of seen target request own client now old mid p0 p1 step
    → ((more : Share) → Stands server_of seen target request more client now step → Passes server_of seen target request more client after mid new p1 p2 later)
    → Passes server_of seen target request own client after old new p0 p2 later
passes_twice server_of seen target request own client now after old mid new p0 p1 p2 step later (share, adds, grown, stands) then =
    let y = then (joined own share) stands in (
      joined share y.0,
      adds_twice share y.0 old mid new adds y.1,
      grows_more p0 p1 p2 share.pauses y.0.pauses grown y.2,
      subst (λ all. Stands server_of seen target request all client after later) (joined_thrice own share y.0) y.3,
    )

-- all steps are the visit
pub visited : {S W : Type 0} (server_of : S → ℕ) (seen : W → Talk) (target : Target) (request : OutgoingView) (client after : Talk) (old new : Records)
    (before paused : Option (List ℕ)) (answer : Result ℕ VisitFault) → Passes {W = W} server_of seen target request nothing client after old new before paused (Done answer)
    → (taught : Taught) × UsesPort server_of target taught old.entries new.entries old.refusals new.refusals old.told new.told before paused answer
    × UsesDialer target taught request old.dials new.dials old.talks new.talks old.failures new.failures client after answer
visited server_of seen target request client after old new before paused answer (share, adds, grown, visit) = visit old new before paused adds grown

-- asking again brings a visit nearer to its end
pub asks_nearer : {S W : Type 0} (limit : Option ℕ) (reading : W → Reading) (queueing : queue.Queueing) (asking : Result (Asking S) Refused) (step : Step S W)
    → IfQueueing step (λ later. asking ≡ Ok (Full later)) → IfFull asking (λ later. pauses_left limit later < pauses_left limit queueing)
    → Nears limit reading (Queueing queueing) step
asks_nearer limit reading queueing asking (Waits (Queueing later)) is left =
    subst (λ a. IfFull a (λ later. pauses_left limit later < pauses_left limit queueing)) is left
asks_nearer limit reading queueing asking (Waits (Copying held)) is left = tt
asks_nearer limit reading queueing asking (Done answer) is left = tt

-- how many pauses are left in the queue, with the one that is due
abbrev pub queue_left : {S W : Type 0} → Option ℕ → Step S W → ℕ
queue_left limit (Waits (Queueing queueing)) = pauses_left limit queueing + 1
queue_left limit (Waits (Copying held)) = 0
queue_left limit (Done answer) = 0

pub nearer : {S W : Type 0} (limit : Option ℕ) (reading : W → Reading) (queueing : queue.Queueing) (step : Step S W)
    → Nears limit reading (Queueing queueing) step → queue_left limit step < pauses_left limit queueing + 1
nearer limit reading queueing (Waits (Queueing later)) nears = omega (arith, nears)
nearer limit reading queueing (Waits (Copying held)) nears = omega arith
nearer limit reading queueing (Done answer) nears = omega arith

-- out of the queue it stays out of it
pub stays_out : {S W : Type 0} (limit : Option ℕ) (reading : W → Reading) (underway : Underway S W) (step : Step S W)
    → HasLeftQueue (Waits underway) → Nears limit reading underway step → HasLeftQueue step
stays_out limit reading (Queueing queueing) step left nears = absurd left
stays_out limit reading (Copying held) (Waits (Queueing queueing)) left nears = nears
stays_out limit reading (Copying held) (Waits (Copying later)) left nears = tt
stays_out limit reading (Copying held) (Done answer) left nears = tt

-- and reads less than before
pub reads_fewer : {S W : Type 0} (limit : Option ℕ) (reading : W → Reading) (underway : Underway S W) (step : Step S W)
    → HasLeftQueue (Waits underway) → Nears limit reading underway step → reads_left reading step < reads_left reading (Waits underway)
reads_fewer limit reading (Queueing queueing) step left nears = absurd left
reads_fewer limit reading (Copying held) (Waits (Queueing queueing)) left nears = absurd nears
reads_fewer limit reading (Copying held) (Waits (Copying later)) left nears = omega (arith, nears)
reads_fewer limit reading (Copying held) (Done answer) left nears = omega arith

-- and no pause is due
pub none_due : {S W : Type 0} (underway : Underway S W) → HasLeftQueue (Waits underway) → due underway ≡ []
none_due (Queueing queueing) left = absurd left
none_due (Copying held) left = refl

-- a visit out of the queue, and a step more
pub passes_on : {S W : Type 0} (server_of : S → ℕ) (seen : W → Talk) (target : Target) (request : OutgoingView) (own : Share) (client now after : Talk)
    (old mid new : Records) (p0 p1 p2 : Option (List ℕ)) (underway : Underway S W) (step : Step S W)
    → Passes server_of seen target request own client now old mid p0 p1 (Waits underway) → HasLeftQueue (Waits underway)
    → ((more : Share) → IsUnderway server_of seen target request more client now underway
    → Steps server_of seen target request more client after mid new (due underway) step)
    → p2 ≡ p1 → Passes server_of seen target request own client after old new p0 p2 step
passes_on server_of seen target request own client now after old mid new p0 p1 p2 underway step so_far left steps same =
    passes_twice server_of seen target request own client now after old mid new p0 p1 p2 (Waits underway) step so_far
    (λ more stands. passed server_of seen target request more client after mid new p1 p2 (due underway) step (steps more stands)
    (subst (Grows p1 p2) (sym (none_due underway left)) (subst (λ p. Grows p1 p []) (sym same) (grows_none p1))))

-- a step that isn't in the queue
pub never_queueing : {S W : Type 0} (step : Step S W) (Any : queue.Queueing → Type 0) → HasLeftQueue step → IfQueueing step Any
never_queueing (Waits (Queueing queueing)) Any never = absurd never
never_queueing (Waits (Copying held)) Any never = tt
never_queueing (Done answer) Any never = tt
