-- Servers of the machine and servers of the configuration with the same names and settings.
use Rattle.std.proofs.Common.{◌≡◌, ℕ, ◌+◌, ◌<◌, true, List, [], ◌∷◌, ◌++◌, map, take, length, get_or, All, Option, Bool, sym, ap, ◌∙◌, arith}
use Rattle.std.proofs.lemmas.List.{get_or-map, length-map, map-append, take_more}
use Rattle.lb_types.specs.Names.{is_name}
use Rattle.lb_config.specs.Kept.{IsServers}
use Rattle.lb_config_values.specs.ServerView.{ServerView}
use Rattle.lb_desk_model.specs.Backends.{IsBackend, backend_of_parts}
use Rattle.lb_desk_model.specs.declared.backend.BackendServer.{BackendServer}
use Rattle.lb_types.specs.declared.table_settings.TableSettings.{TableSettings}
use Rattle.lb_types.specs.declared.balance.Balance.{Balance}
use Rattle.lb_desk_backend.specs.Configured.{ServerParts, configured_server, server_parts}

abbrev pub AreAlike : List BackendServer → List ServerView → Type 0
AreAlike servers configured = map server_parts servers ≡ map configured_server configured

-- the next server, behind those so far
pub alike_push : (servers : List BackendServer) (server : BackendServer) (configured : List ServerView) (i : ℕ) (one : ServerView) → i < length configured →
    one ≡ get_or configured i one → AreAlike servers (take i configured) → server_parts server ≡ configured_server one →
    AreAlike (servers ++ server ∷ []) (take (i + 1) configured)
alike_push servers server configured i one within is before same =
    map-append server_parts servers (server ∷ [])
    ∙ ap (λ (front : List ServerParts). front ++ server_parts server ∷ []) before
    ∙ ap (λ (last : ServerParts). map configured_server (take i configured) ++ last ∷ []) (same ∙ ap configured_server is)
    ∙ sym (map-append configured_server (take i configured) (get_or configured i one ∷ []))
    ∙ ap (λ (front : List ServerView). map configured_server front) (sym (take_more configured i one within))

as_many : (servers : List BackendServer) (configured : List ServerView) → AreAlike servers configured → length servers ≡ length configured
as_many servers configured alike = sym (length-map servers server_parts) ∙ ap length alike ∙ length-map configured configured_server

same_name : (servers : List BackendServer) (configured : List ServerView) (i : ℕ) (d : BackendServer) (e : ServerView) → AreAlike servers configured →
    i < length servers → (get_or servers i d).name ≡ (get_or configured i e).name
same_name servers configured i d e alike within =
    ap (λ (parts : ServerParts). parts.name)
    (sym (get_or-map server_parts servers i d (server_parts d) within)
    ∙ ap (λ (all : List ServerParts). get_or all i (server_parts d)) alike
    ∙ get_or-map configured_server configured i e (server_parts d) (omega (arith, within, as_many servers configured alike)))

-- such servers make a backend of the machine
pub alike_make_a_backend : (balance : Balance) (all_backups : Bool) (table : Option TableSettings) (servers : List BackendServer) (configured : List ServerView) →
    IsServers configured → AreAlike servers configured → All (λ (server : BackendServer). is_name server.name ≡ true) servers →
    IsBackend (backend_of_parts balance all_backups table servers)
alike_make_a_backend balance all_backups table servers configured is alike named = record {
  few = omega (arith, is.few, as_many servers configured alike);
  named = named;
  distinct = λ i j d before within same.
      apart configured is alike i j d before within same;
}
  where
    apart : (configured : List ServerView) → IsServers configured → AreAlike servers configured →
        (i j : ℕ) (d : BackendServer) → i < j → j < length servers → (get_or servers i d).name ≡ (get_or servers j d).name → ⊥
    apart [] is alike i j d before within same = absurd (omega (arith, within, as_many servers [] alike))
    apart (first ∷ more) is alike i j d before within same =
        is.distinct i j first before (omega (arith, within, as_many servers (first ∷ more) alike))
        (sym (same_name servers (first ∷ more) i d first alike (omega (arith, before, within)))
        ∙ same ∙ same_name servers (first ∷ more) j d first alike within)
