-- What the job `run` comes to for a text. Our own words.
use Rattle.std.specs.Prelude.{◌≡◌, ◌⊎◌, ℕ, Bool, true, false, List, ◌++◌, Option, Some, None, Result, Ok, Err, option_map, codes}
use Rattle.std.specs.Io.KnownBytes.{Appends}
use Rattle.lb_cli_faults.specs.Faults.{fault_line}
use Rattle.lb_types_counted.specs.Writers.{Rises, WriterState}
use Rattle.lb_config.specs.ConfigViews.{ConfigView}
use Rattle.lb_config_sections.specs.declared.cause.LocatedFault.{LocatedFault}
use Rattle.lb_run_doors.specs.Handed.{handed_line}
use Rattle.lb_run_doors.specs.declared.fault.HandedFault.{HandedFault}
use Rattle.dual_cert_text.specs.declared.fault.TextFault.{TextFault}
use Rattle.dual_cert_text.specs.Faults.{fault_text}
use Rattle.lb_run_pins.specs.declared.kept.PinsPlace.{PinsPlace}
use Rattle.lb_run.specs.Runs.{EndsClosed}

abbrev pub bind_line : List ℕ → List ℕ
bind_line address = codes "cannot bind " ++ address ++ codes "\n"

-- why a configuration isn't run to its end, as standard error says it
abbrev pub IsHindrance : List ℕ → Type 0
IsHindrance line =
    ((address : List ℕ) × (line ≡ bind_line address)) ⊎ (((fault : HandedFault) × (line ≡ handed_line fault)) ⊎ (line ≡ codes "a backend can't be closed\n"))

-- the answer is no, and a line on standard error says what was in the way
abbrev pub Hinders : Bool → (old_err new_err : Option (List ℕ)) → Type 0
Hinders is_done old_err new_err = (is_done ≡ false) × ((line : List ℕ) × IsHindrance line × Appends old_err new_err line)

abbrev pub unread_line : List ℕ → List ℕ
unread_line path = codes "cannot read " ++ path ++ codes "\n"

-- `pins: 40 BadLine 3`
abbrev pub pins_line : List ℕ → TextFault → List ℕ
pins_line path fault = path ++ codes ": " ++ fault_text fault ++ codes "\n"

-- why the file of pins at this path isn't read, as standard error says it
abbrev pub IsPinsHindrance : List ℕ → List ℕ → Type 0
IsPinsHindrance path line = (line ≡ unread_line path) ⊎ ((fault : TextFault) × (line ≡ pins_line path fault))

-- the answer is no, and a line on standard error says why that file isn't read
abbrev pub HindersByPins : List ℕ → Bool → (old_err new_err : Option (List ℕ)) → Type 0
HindersByPins path is_done old_err new_err = (is_done ≡ false) × ((line : List ℕ) × IsPinsHindrance path line × Appends old_err new_err line)

-- something was in the way; the file of pins only where there is one
abbrev pub HindersAny : Option (List ℕ) → Bool → (old_err new_err : Option (List ℕ)) → Type 0
HindersAny None is_done old_err new_err = Hinders is_done old_err new_err
HindersAny (Some path) is_done old_err new_err = Hinders is_done old_err new_err ⊎ HindersByPins path is_done old_err new_err

-- the path of the file of pins
abbrev pub path_of : Option PinsPlace → Option (List ℕ)
path_of = option_map (λ place. place.path.now)

-- a configuration was run, with a file of pins at this path if there is one, and all its desks were closed; or something was in the way
abbrev pub Runs : Option (List ℕ) → ConfigView → Bool → (old_out new_out old_err new_err : Option (List ℕ)) → Type 0
Runs pins config true old_out new_out old_err new_err = EndsClosed config.backends old_out new_out × (new_err ≡ old_err)
Runs pins config false old_out new_out old_err new_err = HindersAny pins false old_err new_err

-- the answer is no, and the fault goes out as `check` writes it
abbrev pub PrintsFault : LocatedFault → Bool → (old_out new_out : Option (List ℕ)) → Type 0
PrintsFault fault is_done old_out new_out = (is_done ≡ false) × Appends old_out new_out (fault_line fault)

-- a text that has a fault isn't run, and its first one is printed
abbrev pub RunsText : Option (List ℕ) → Result ConfigView LocatedFault → Bool → (old_out new_out old_err new_err : Option (List ℕ)) → Type 0
RunsText pins (Ok config) is_done old_out new_out old_err new_err = Runs pins config is_done old_out new_out old_err new_err
RunsText pins (Err fault) is_done old_out new_out old_err new_err = PrintsFault fault is_done old_out new_out × (new_err ≡ old_err)

-- the text is a configuration
abbrev pub IsConfigText : Result ConfigView LocatedFault → Type 0
IsConfigText (Ok config) = Unit {0}
IsConfigText (Err fault) = ⊥

-- a write to standard output or to standard error failed
abbrev pub HasFailed : (old_out new_out old_err new_err : WriterState) → Type 0
HasFailed old_out new_out old_err new_err = Rises old_out.failures new_out.failures ⊎ Rises old_err.failures new_err.failures
