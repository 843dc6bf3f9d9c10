-- Expiry as a step of each state that is shown.
use Rattle.std.proofs.Common.{◌≡◌, ℕ, ◌<◌, ◌≤◌, Bool, true, false, not, max, Option, length, get_or, refl, sym, subst, arith}
use Rattle.std.specs.Prelude.{All, nat_lt, filter, count_by}
use Rattle.std.specs.List.{zip}
use Rattle.std.proofs.Math.Nat.{min-le_left}
use Rattle.std.proofs.lemmas.Bool.{leb-true, leb-false}
use Rattle.std.proofs.lemmas.List.{get_or-map, length-map}
use Rattle.std.proofs.lemmas.Slice.Zip.{length-zip}
use Rattle.pin_set.specs.declared.pin.Pin.{Pin}
use Rattle.pin_set.specs.Views.{IsBelow, IsView}
use Rattle.lb_desk_model.specs.declared.event.Event.TheVariants.{Expire}
use Rattle.lb_desk_model.specs.declared.reply.Reply.TheVariants.{Expired}
use Rattle.pin_set.specs.declared.table_pin.TablePin.{TablePin}
use Rattle.lb_desk_model.specs.Seen.{Seen, Steps, named_server, view_seen}
use Rattle.lb_desk_model.specs.Serves.{moment_of}
use Rattle.lb_desk_model.specs.States.{State}
use Rattle.lb_desk_seen.proofs.LastUses.{pins_are_in_order_of_use}
use Rattle.lb_desk_seen.proofs.Reaching.{shown_views_are_lawful}
use Rattle.lb_desk_servers.specs.Shown.{counted}
use Rattle.lb_desk_core.specs.Acting.{ActsOn}
use Rattle.lb_desk_core.specs.Core.{IsReached}
use Rattle.lb_desk_core.specs.Expiring.{AreRising, ArePlaced, is_due}
use Rattle.lb_desk_core.proofs.Stepped.{steps_same, steps_more}

-- the pins that are shown stand in order of last use
pub rising_pins : (shown : Seen) → IsReached shown → AreRising shown.pins
rising_pins shown r =
    subst (λ (s : Seen). AreRising s.pins) r.reaches.is
    (pins_are_in_order_of_use r.backend r.log r.reaches.state r.reaches.history).rising

-- no pin that is shown was used later than the latest request was served
pub bounded_pins : (shown : Seen) → IsReached shown → All (λ p. p.last_use ≤ shown.latest) shown.pins
bounded_pins shown r =
    subst (λ (s : Seen). All (λ p. p.last_use ≤ s.latest) s.pins) r.reaches.is
    (pins_are_in_order_of_use r.backend r.log r.reaches.state r.reaches.history).bounded

-- ---- their places

below_more : (n m : ℕ) (place : Option ℕ) → n ≤ m → IsBelow n place → IsBelow m place
below_more n m place more below server at = omega (arith, more, below server at)

abbrev pin_of : TablePin → Pin
pin_of p = p.pin

many_servers : (shown : Seen) → length (view_seen shown).servers ≤ length shown.names
many_servers shown =
    omega (arith, length-map (zip shown.names shown.farm.servers) named_server, length-zip shown.names shown.farm.servers, min-le_left (length shown.names) (length shown.farm.servers))

-- each pin that is shown is at a server that is shown
pub placed_pins : (shown : Seen) → IsReached shown → ArePlaced (length shown.names) shown.pins
placed_pins shown r k d below =
    let view = view_seen shown in
    let lawful : IsView view = shown_views_are_lawful r.backend r.log shown r.lawful r.reaches in
    let within : k < length view.pins = omega (arith, below, length-map shown.pins pin_of) in
    let pin : get_or view.pins k d.pin ≡ (get_or shown.pins k d).pin = get_or-map pin_of shown.pins k d d.pin below in
    let at : IsBelow (length view.servers) (get_or shown.pins k d).pin.place =
    subst (λ (p : Pin). IsBelow (length view.servers) p.place) pin (lawful.places k d.pin within) in
    below_more (length view.servers) (length shown.names) (get_or shown.pins k d).pin.place (many_servers shown) at

-- ---- one expiry

-- what goes is counted, and what stays is left
pub expiry_acts : (old new : Seen) (now gone : ℕ) → gone ≡ count_by (is_due old.table (max old.latest now)) old.pins
    → new ≡ record old { pins = filter (λ p. not (is_due old.table (max old.latest now) p)) old.pins }
    → ActsOn old (Expire now) (Expired gone) new
expiry_acts old new now gone count left state shown =
    let acted : State = record state { pins = filter (λ p. not (is_due state.table (moment_of state now) p)) state.pins } in
    record {
      acted = acted;
      does = (subst (λ (s : Seen). gone ≡ count_by (is_due s.table (max s.latest now)) s.pins) (sym shown) count, refl);
      shown = sym (subst (λ (s : Seen). new ≡ record s { pins = filter (λ p. not (is_due s.table (max s.latest now) p)) s.pins }) (sym shown) left);
    }

-- the version is counted exactly where pins went
pub expiry_steps : (old new : Seen) (now gone : ℕ) (changes : Bool) → IsReached old → ActsOn old (Expire now) (Expired gone) new
    → nat_lt 0 gone ≡ changes → Steps old (Expire now) (Expired gone) (record new { version = counted new.version changes })
expiry_steps old new now gone true r acts some =
    let any : 1 ≤ gone = leb-true 1 gone some in
    steps_more old new (Expire now) (Expired gone) r acts (λ none. omega (arith, any, none))
expiry_steps old new now gone false r acts none =
    let few : gone < 1 = leb-false 1 gone none in
    steps_same old new (Expire now) (Expired gone) r acts (omega (arith, few))
