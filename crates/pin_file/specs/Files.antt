-- Files of pins, as values.
use Rattle.std.specs.Prelude.{◌≡◌, ◌≢◌, ◌-◌, ◌^◌, ◌<◌, ◌≤◌, true, IfSome, List, length, All, AllPairs}
use Rattle.std.specs.List.{list_all}
use Rattle.lb_types.specs.declared.limits.TheConstants.{MAX_COST, MAX_PINS}
use Rattle.lb_types.specs.Names.{is_name}
use Rattle.pin_file.specs.declared.file_pin.FilePin.{FilePin}
use Rattle.pin_file.specs.declared.backend_pins.BackendPins.{BackendPins}

-- a pin that a file can say: its key has bytes, and its servers have names
pub record IsFilePin (p : FilePin) : Type 0 where
  pub key : All (λ byte. byte < 256) p.key
  pub wanted : list_all is_name p.wanted ≡ true
  pub server : IfSome p.server (λ name. is_name name ≡ true)
  pub cost_from : 1 ≤ p.cost
  pub cost_to : p.cost ≤ MAX_COST
  pub age : p.age < 2 ^ 64 - 1

-- the pins of a backend in order of last use, the one used least recently first: no pin's age is above that of one in front of it
pub record IsBackendPins (b : BackendPins) : Type 0 where
  pub name : is_name b.name ≡ true
  pub few : length b.pins ≤ MAX_PINS
  pub pins : All IsFilePin b.pins
  pub falling : AllPairs (λ p q. q.age ≤ p.age) b.pins

-- the pins of backends with distinct names
pub record IsPinFile (file : List BackendPins) : Type 0 where
  pub backends : All IsBackendPins file
  pub distinct : AllPairs (λ a b. a.name ≢ b.name) file
