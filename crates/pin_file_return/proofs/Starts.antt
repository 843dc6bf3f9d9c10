-- The pins that come back are the table.
use Rattle.std.proofs.Common.{◌≡◌, ℕ, ◌-◌, ◌<◌, ◌≤◌, Bool, true, false, cond, Option, Some, None, List, [], ◌∷◌, length, refl, sym, ap, ◌∙◌, subst, arith}
use Rattle.std.specs.Prelude.{All, AllPairs, filter_map, find}
use Rattle.std.specs.Option.{option_map, option_map_or}
use Rattle.std.proofs.lemmas.List.{length-map}
use Rattle.std.proofs.lemmas.List.Elements.{All-head, All-tail}
use Rattle.std.proofs.lemmas.Option.{none-some, same_Some}
use Rattle.lb_types.specs.declared.table_settings.TableSettings.{TableSettings}
use Rattle.lb_types.specs.Servers.{members}
use Rattle.pin_set.specs.declared.table_pin.TablePin.{TablePin}
use Rattle.pin_set.specs.Views.{IsBelow}
use Rattle.lb_config_parameters.specs.TableViews.{StickTableView}
use Rattle.lb_config_values.specs.ServerView.{ServerView}
use Rattle.lb_config.specs.ConfigViews.{BackendView}
use Rattle.lb_desk_backend.specs.Configured.{IsBackendOf, TableParts, configured_server, configured_table, server_parts, table_parts}
use Rattle.lb_desk_law.specs.SetPins.{AreSetsOf, MayStand}
use Rattle.lb_desk_law.proofs.SetPins.{set_pins_make_the_table}
use Rattle.lb_desk_model.specs.declared.entry.Entry.{Entry}
use Rattle.lb_desk_model.specs.Backends.{BackendParts}
use Rattle.lb_desk_model.specs.Histories.{History}
use Rattle.lb_desk_model.specs.States.{State, opening, server_at_start}
use Rattle.pin_file.specs.declared.file_pin.FilePin.{FilePin}
use Rattle.pin_file.specs.declared.backend_pins.BackendPins.{BackendPins}
use Rattle.pin_file.specs.Files.{IsBackendPins}
use Rattle.pin_file.specs.Texts.{has_name}
use Rattle.pin_file_return.specs.Returns.{back_in_table, come_back, last_of_each, pins_of}
use Rattle.pin_file_return.specs.Starts.{ReturnedPinsAreTheTable}
use Rattle.pin_file_return.proofs.CameBack.{came_back, found_within, places_within, set_within}
use Rattle.pin_file_return.proofs.Names.{Differ, last_differ, length-last, part-last}
use Rattle.pin_file_return.proofs.Parts.{mapped-All, mapped-AllPairs, part-All, part-AllPairs, part-drop}

-- ---- the pins of a file

abbrev Falls : FilePin → FilePin → Type 0
Falls p q = q.age ≤ p.age

abbrev Rises : TablePin → TablePin → Type 0
Rises a b = a.last_use ≤ b.last_use

falling_of : (name : List ℕ) (file : List BackendPins) → All IsBackendPins file → AllPairs Falls (pins_of name file)
falling_of name [] all = λ i j d before within. absurd (omega (arith, within))
falling_of name (b ∷ file) all = by (has_name name b) (falling_of name file (All-tail IsBackendPins b file all))
  where
    by : (t : Bool) → AllPairs Falls (pins_of name file)
        → AllPairs Falls (option_map_or (λ (c : BackendPins). c.pins) (cond t (Some b) (find (has_name name) file)) [])
    by true rest = (All-head IsBackendPins b file all).falling
    by false rest = rest

-- ---- the pins in the table

module _ (servers : List ServerView) (table : StickTableView) (now : ℕ) (pins : List FilePin) where
  abbrev found : List TablePin
  found = filter_map (come_back servers table.kind now) pins

  each : (Q : TablePin → Type 0) → All Q found → All Q (back_in_table servers table now pins)
  each Q all =
      part-All Q (back_in_table servers table now pins) (last_of_each found) (part-drop _ (last_of_each found))
      (part-All Q (last_of_each found) found (part-last found) all)

  rises : AllPairs Falls pins → AllPairs Rises (back_in_table servers table now pins)
  rises falling =
      part-AllPairs Rises (back_in_table servers table now pins) (last_of_each found) (part-drop _ (last_of_each found))
      (part-AllPairs Rises (last_of_each found) found (part-last found)
      (mapped-AllPairs (come_back servers table.kind now) Falls Rises
      (λ p q v w falls one two.
      let a = came_back servers table.kind now p v one in
      let b = came_back servers table.kind now q w two in
      let x : now - p.age ≡ v.last_use = ap (λ (t : TablePin). t.last_use) a.is in
      let y : now - q.age ≡ w.last_use = ap (λ (t : TablePin). t.last_use) b.is in
      omega (arith, falls, x, y)) pins falling))

  differ : AllPairs Differ (back_in_table servers table now pins)
  differ = part-AllPairs Differ (back_in_table servers table now pins) (last_of_each found) (part-drop _ (last_of_each found)) (last_differ found)

  placed : All (λ p. IsBelow (length servers) p.pin.place) (back_in_table servers table now pins)
  placed = each (λ p. IsBelow (length servers) p.pin.place)
      (mapped-All (come_back servers table.kind now) (λ p. Unit {0}) (λ p. IsBelow (length servers) p.pin.place)
      (λ p q u is.
      let a = came_back servers table.kind now p q is in
      let at : Some a.server ≡ q.pin.place = ap (λ (t : TablePin). t.pin.place) a.is in
      λ server there. subst (λ (s : ℕ). s < length servers) (same_Some a.server server (at ∙ there)) (found_within servers a.name a.server a.found))
      pins (λ k d below. tt))

  wanted : All (λ p. All (λ server. server < length servers) (members p.pin.id.want)) (back_in_table servers table now pins)
  wanted = each (λ p. All (λ server. server < length servers) (members p.pin.id.want))
      (mapped-All (come_back servers table.kind now) (λ p. Unit {0}) (λ p. All (λ server. server < length servers) (members p.pin.id.want))
      (λ p q u is.
      let a = came_back servers table.kind now p q is in
      subst (λ (t : TablePin). All (λ (server : ℕ). server < length servers) (members t.pin.id.want)) a.is
      (set_within (length servers) a.places (places_within servers p.wanted a.places a.wanted)))
      pins (λ k d below. tt))

-- ---- the backend

as_many : (config : BackendView) (backend : BackendParts) → IsBackendOf config backend → length (opening backend).servers ≡ length config.servers
as_many config backend is =
    length-map backend.servers server_at_start
    ∙ (sym (length-map backend.servers server_parts) ∙ (ap length is.servers ∙ length-map config.servers configured_server))

-- a backend's table, where the configured one has one
record HasTable (table : StickTableView) (settings : Option TableSettings) : Type 0 where
  own : TableSettings
  is : settings ≡ Some own
  size : own.size ≡ table.size

has_table : (table : StickTableView) (settings : Option TableSettings) → option_map table_parts settings ≡ Some (configured_table table) → HasTable table settings
has_table table None e = absurd (none-some (configured_table table) e)
has_table table (Some own) e = record {
  own = own;
  is = refl;
  size = ap (λ (t : TableParts). t.size) (same_Some (table_parts own) (configured_table table) e);
}

may_stand : (config : BackendView) (backend : BackendParts) (table : StickTableView) (now : ℕ) (pins : List FilePin) → IsBackendOf config backend
    → config.rules.table ≡ Some table → AllPairs Falls pins → MayStand (opening backend) (back_in_table config.servers table now pins)
may_stand config backend table now pins is there falling =
    let own = has_table table backend.table (is.table ∙ ap (option_map configured_table) there) in
    let many = as_many config backend is in
    let back = back_in_table config.servers table now pins in
    record {
      table = own.own;
      is_set = own.is;
      few = subst (λ (n : ℕ). length back ≤ n) (sym own.size)
          (length-last table.size (last_of_each (found config.servers table now pins)));
      distinct = differ config.servers table now pins;
      rising = rises config.servers table now pins falling;
      late = λ k d below. omega arith;
      placed = subst (λ (n : ℕ). All (λ (p : TablePin). IsBelow n p.pin.place) back) (sym many) (placed config.servers table now pins);
      wanted = subst (λ (n : ℕ). All (λ (p : TablePin). All (λ (server : ℕ). server < n) (members p.pin.id.want)) back) (sym many)
          (wanted config.servers table now pins);
    }

none_set : (old new : State) (entries : List Entry) → AreSetsOf [] entries → History old entries new → new ≡ old
none_set old new [] sets history = history
none_set old new (entry ∷ entries) sets history = absurd sets

returned : (config : BackendView) (backend : BackendParts) (pins : List FilePin) (now : ℕ) (entries : List Entry) (new : State) (table : Option StickTableView)
    → config.rules.table ≡ table → IsBackendOf config backend → AllPairs Falls pins
    → AreSetsOf (option_map_or (λ t. back_in_table config.servers t now pins) table []) entries → History (opening backend) entries new
    → new.pins ≡ option_map_or (λ t. back_in_table config.servers t now pins) table []
returned config backend pins now entries new None there is falling sets history =
    ap (λ (s : State). s.pins) (none_set (opening backend) new entries sets history)
returned config backend pins now entries new (Some table) there is falling sets history =
    set_pins_make_the_table (opening backend) new (back_in_table config.servers table now pins) entries refl
    (may_stand config backend table now pins is there falling) sets history

pub returned_are_the_table : ReturnedPinsAreTheTable
returned_are_the_table config backend file now entries new is lawful sets history =
    returned config backend (pins_of config.name file) now entries new config.rules.table refl is (falling_of config.name file lawful.backends) sets history
