-- The stages of a request at its backend.
use Rattle.std.proofs.Common.{◌≡◌, ℕ, Bool, List, [], ◌∷◌, Option, Some, None, Result, Ok, Err, subst, sym, ap, ◌∙◌}
use Rattle.std.specs.Option.{option_map}
use Rattle.http_relay_forward.specs.Forwarded.{forwarded}
use Rattle.http_relay_forward.specs.Framing.{expects_continue, framing}
use Rattle.http_relay_forward.specs.declared.framing.BodyKind.{BodyKind}
use Rattle.http_relay_wire.specs.Wires.{Reading}
use Rattle.http_relay_body.specs.Bodies.{IsBody, IsBodyOf}
use Rattle.http_relay_exchange.specs.Requests.{OutgoingView}
use Rattle.http_relay_head.specs.Heads.{HeadRead}
use Rattle.http_relay_head.specs.ReadHeadView.{ReadHeadView}
use Rattle.http_relay_talk.specs.Lessons.{LessonView, Taught}
use Rattle.http_relay_talk.specs.Talks.{UsesPort, UsesDialer}
use Rattle.http_relay_talk.specs.declared.fault.VisitFault.{VisitFault}
use Rattle.http_relay_talk.specs.Targets.{target_by}
use Rattle.http_relay_talk.specs.declared.target.Target.{Target}
use Rattle.http_relay_talk.specs.declared.target.Way.{Way}
use Rattle.std.specs.declared.net.ipv4_addr.Ipv4Addr.{Ipv4Addr}
use Rattle.lb_acl.specs.HeadView.{HeadView}
use Rattle.lb_desk_model.specs.declared.event.Request.{Request}
use Rattle.lb_desk_model.specs.declared.reply.ServedAs.{ServedAs}
use Rattle.lb_desk_ports.specs.Calls.{Grows}
use Rattle.lb_desk_ports.specs.declared.replies.Asked.TheVariants as asked
use Rattle.http_relay_serve.specs.Routes.{Routes}
use Rattle.http_relay_serve.specs.Serves.{PortSeen, ClockSeen, Scene, Asks, Places, AsksAtMoment, Visits, outgoing}
use Rattle.http_relay_serve.specs.declared.fault.AskFault.{AskFault}
use Rattle.http_relay_serve.specs.declared.fault.AskFault.TheVariants.{UnknownServer}

-- a body of the kind that was told with a head is that head's
pub body_of_head : (source : Ipv4Addr) (old new : Reading) (read : ReadHeadView) → HeadRead source old new (Ok read)
    → (text : List ℕ) → IsBody read.kind text → IsBodyOf read.head text
body_of_head source old new read taken text body =
    let (head, is, parts) = taken.answers in
    (read.kind, ap framing parts ∙ is.framed, body)

-- the server that the backend named, as the target of the request
pub placed : (routes : Routes) (backend : ℕ) (request : Request) (old new : PortSeen) (server : ℕ) (how : ServedAs) (lesson : Option LessonView) (way : Way)
    (target : Target) → Asks request old new (Ok (asked.Served server how)) → routes.target backend server ≡ Some way → way.server ≡ server
    → lesson ≡ routes.lesson backend request → target ≡ target_by lesson way → Places routes backend request old new (Ok target)
placed routes backend request old new server how lesson way target asks is same taught made =
    let its : Places routes backend request old new (Ok (target_by (routes.lesson backend request) way)) = (
      how,
      subst (λ (s : ℕ). Asks request old new (Ok (asked.Served s how))) (sym same) asks,
      ap (option_map (target_by (routes.lesson backend request))) (subst (λ (s : ℕ). routes.target backend s ≡ Some way) (sym same) is),
    ) in
    subst (λ (t : Target). Places routes backend request old new (Ok t)) (sym (made ∙ ap (λ l. target_by l way) taught)) its

-- the server that the backend named isn't known
pub unplaced : (routes : Routes) (backend : ℕ) (request : Request) (old new : PortSeen) (server : ℕ) (how : ServedAs)
    → Asks request old new (Ok (asked.Served server how)) → routes.target backend server ≡ None
    → Places routes backend request old new (Err UnknownServer)
unplaced routes backend request old new server how asks is =
    (server, how, asks, ap (option_map (target_by (routes.lesson backend request))) is)

-- a request that was made of the head for the moment that was told
pub asks_at_moment : (routes : Routes) (backend : ℕ) (passed head : HeadView) (old new : PortSeen) (clock read : ClockSeen) (request : Request) (moment : ℕ)
    (answer : Result Target AskFault) → passed ≡ head → routes.asks backend passed request → request.moment ≡ moment → Grows clock.told read.told (moment ∷ [])
    → read.pauses ≡ clock.pauses → Places routes backend request old new answer
    → AsksAtMoment routes backend head old new clock read answer
asks_at_moment routes backend passed head old new clock read request moment answer is asks at tells pauses places = record {
  request = request;
  made_of_head = subst (λ (h : HeadView). routes.asks backend h request) is asks;
  tells = subst (λ (m : ℕ). Grows clock.told read.told (m ∷ [])) (sym at) tells;
  pauses = pauses;
  places = places;
}

-- the request as it goes to the server, made of parts
pub made_of_parts : (routes : Routes) (backend : ℕ) (read : ReadHeadView) (head : HeadView) (address : Bool) (text bytes behind : List ℕ) (kind : BodyKind)
    (expects : Bool) (made : OutgoingView) → head ≡ read.head → address ≡ routes.forwards_address backend → text ≡ forwarded head address
    → bytes ≡ text → behind ≡ read.rest → kind ≡ read.kind → expects ≡ expects_continue head kind
    → made ≡ record { head = bytes; kind = kind; behind = behind; expects_continue = expects } → made ≡ outgoing routes backend read
made_of_parts routes backend read head address text bytes behind kind expects made head_is address_is text_is bytes_are behind_is kind_is expects_is made_is =
    let sent = bytes_are ∙ text_is ∙ ap (λ (h : HeadView). forwarded h address) head_is ∙ ap (λ a. forwarded read.head a) address_is in
    let waits = expects_is ∙ ap (λ (h : HeadView). expects_continue h kind) head_is ∙ ap (λ k. expects_continue read.head k) kind_is in
    cc (made_is, sent, waits, behind_is, kind_is)

-- a visit of the server that was named, with the request as the configuration has it
pub visits : {S : Type 0} (server_of : S → ℕ) (routes : Routes) (backend : ℕ) (read : ReadHeadView) (old port new : PortSeen) (clock : ClockSeen)
    (before after : Scene) (target : Target) (taught : Taught) (request : OutgoingView) (answer : Result ℕ VisitFault)
    → AsksAtMoment routes backend read.head old port before.clock clock (Ok target)
    → request ≡ outgoing routes backend read
    → UsesPort server_of target taught port.entries new.entries port.refusals new.refusals clock.told after.clock.told clock.pauses after.clock.pauses answer
    → UsesDialer target taught request before.dialer.dials after.dialer.dials before.dialer.talks after.dialer.talks
    before.dialer.failures after.dialer.failures before.client after.client answer
    → Visits server_of routes backend read old new before after answer
visits server_of routes backend read old port new clock before after target taught request answer asks is uses dialer = record {
  target = target;
  port = port;
  clock = clock;
  asks = asks;
  taught = taught;
  uses_port = uses;
  uses_dialer = subst (λ (r : OutgoingView). UsesDialer target taught r before.dialer.dials after.dialer.dials before.dialer.talks after.dialer.talks
      before.dialer.failures after.dialer.failures before.client after.client answer) is dialer;
}
