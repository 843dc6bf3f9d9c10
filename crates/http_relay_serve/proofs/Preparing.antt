-- A request on the way to its server, by the parts of that.
use Rattle.std.proofs.Common.{◌≡◌, ℕ, List, Some, Result, Ok, Err, refl}
use Rattle.std.specs.Prelude.{slice_get, slice_set}
use Rattle.std.specs.declared.net.ipv4_addr.Ipv4Addr.{Ipv4Addr}
use Rattle.http_relay_dial.specs.Dials.{Talk}
use Rattle.http_relay_head.specs.ReadHeadView.{ReadHeadView}
use Rattle.http_relay_talk.specs.declared.fault.VisitFault.{VisitFault}
use Rattle.http_relay_serve.specs.Parts.{Finds, Prepares, at_backend, visited}
use Rattle.http_relay_serve.specs.Routes.{Routes}
use Rattle.http_relay_serve.specs.Serves.{PortSeen, ClockSeen, DialerSeen, Scene, ServesAt, ServesAtBackend, Relays, Visits, scene}
use Rattle.http_relay_serve.specs.Steps.{relayed}
use Rattle.http_relay_serve.specs.declared.fault.BackendFault.{BackendFault}
use Rattle.http_relay_serve.specs.declared.fault.BackendFault.TheVariants.{Memory, Ask, Visit}
use Rattle.http_relay_serve.specs.declared.fault.ServeFault.{ServeFault}
use Rattle.http_relay_serve.specs.declared.fault.ServeFault.TheVariants.{Head, NoBackend, Backend}
use Rattle.http_relay_serve.specs.declared.finding.Found.{Found}

-- a request that wasn't prepared isn't served
pub not_prepared : {S : Type 0} (server_of : S → ℕ) (routes : Routes) (backend : ℕ) (read : ReadHeadView) (old new : PortSeen) (clock later : ClockSeen)
    (dialer : DialerSeen) (client : Talk) (fault : BackendFault) → Prepares routes backend read old new clock later (Err fault)
    → ServesAt server_of routes backend read old new (scene clock dialer client) (scene later dialer client) (Err fault)
not_prepared server_of routes backend read old new clock later dialer client Memory h =
    record { moment = h.0; tells = h.1; pauses = h.2; port = h.3; dialer = refl; client = refl }
not_prepared server_of routes backend read old new clock later dialer client (Ask fault) h = record { asks = h; dialer = refl; client = refl }
not_prepared server_of routes backend read old new clock later dialer client (Visit fault) h = absurd h

-- a request with no head, or with no backend
pub not_found : {P S : Type 0} (seen : P → PortSeen) (server_of : S → ℕ) (routes : Routes) (source : Ipv4Addr) (ports : List P) (clock : ClockSeen)
    (dialer : DialerSeen) (client headed : Talk) (fault : ServeFault) → Finds routes source client headed (Err fault)
    → Relays seen server_of routes source ports ports (scene clock dialer client) (scene clock dialer headed) (Err fault)
not_found seen server_of routes source ports clock dialer client headed NoBackend h =
    record { read = h.0; takes_head = h.1; routed = h.2; ports_kept = refl; rest = refl }
not_found seen server_of routes source ports clock dialer client headed (Head fault) h = record { takes_head = h; ports_kept = refl; rest = refl }
not_found seen server_of routes source ports clock dialer client headed (Backend fault) h = absurd h

-- a request at its backend
pub goes_to : {P S : Type 0} (seen : P → PortSeen) (server_of : S → ℕ) (routes : Routes) (source : Ipv4Addr) (ports used : List P) (old new : P)
    (clock : ClockSeen) (dialer : DialerSeen) (client headed : Talk) (after : Scene) (found : Found) (answer : Result ℕ BackendFault)
    → Finds routes source client headed (Ok found) → slice_get ports found.backend ≡ Some old → used ≡ slice_set ports found.backend new
    → ServesAt server_of routes found.backend found.read (seen old) (seen new) (scene clock dialer headed) after answer
    → ServesAtBackend seen server_of routes source ports used (scene clock dialer client) after answer
goes_to seen server_of routes source ports used old new clock dialer client headed after found answer h its_port other_ports serves = record {
  read = found.read;
  client = headed;
  takes_head = h.0;
  bodies = h.2;
  backend = found.backend;
  routed = h.1;
  old = old;
  new = new;
  its_port = its_port;
  other_ports = other_ports;
  serves = serves;
}

-- a request whose server was visited
pub after_visit : {P S : Type 0} (seen : P → PortSeen) (server_of : S → ℕ) (routes : Routes) (source : Ipv4Addr) (ports used : List P) (old new : P)
    (clock : ClockSeen) (dialer : DialerSeen) (client headed : Talk) (after : Scene) (found : Found) (answer : Result ℕ VisitFault)
    → Finds routes source client headed (Ok found) → slice_get ports found.backend ≡ Some old → used ≡ slice_set ports found.backend new
    → Visits server_of routes found.backend found.read (seen old) (seen new) (scene clock dialer headed) after answer
    → Relays seen server_of routes source ports used (scene clock dialer client) after (relayed answer)
after_visit seen server_of routes source ports used old new clock dialer client headed after found (Ok count) h its_port other_ports visits =
    goes_to seen server_of routes source ports used old new clock dialer client headed after found (Ok count) h its_port other_ports visits
after_visit seen server_of routes source ports used old new clock dialer client headed after found (Err fault) h its_port other_ports visits =
    goes_to seen server_of routes source ports used old new clock dialer client headed after found (Err (Visit fault)) h its_port other_ports visits

-- what a visit did is what was done at the backend
pub visit_serves : {S : Type 0} (server_of : S → ℕ) (routes : Routes) (backend : ℕ) (read : ReadHeadView) (old new : PortSeen) (before after : Scene)
    (answer : Result ℕ VisitFault) → Visits server_of routes backend read old new before after answer
    → ServesAt server_of routes backend read old new before after (visited answer)
visit_serves server_of routes backend read old new before after (Ok count) visits = visits
visit_serves server_of routes backend read old new before after (Err fault) visits = visits

-- and what was done at the backend is what was done
pub backend_relays : {P S : Type 0} (seen : P → PortSeen) (server_of : S → ℕ) (routes : Routes) (source : Ipv4Addr) (ports used : List P) (before after : Scene)
    (answer : Result ℕ BackendFault) → ServesAtBackend seen server_of routes source ports used before after answer
    → Relays seen server_of routes source ports used before after (at_backend answer)
backend_relays seen server_of routes source ports used before after (Ok count) serves = serves
backend_relays seen server_of routes source ports used before after (Err fault) serves = serves
