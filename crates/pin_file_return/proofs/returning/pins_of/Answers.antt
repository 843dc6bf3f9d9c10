use Rattle.std.proofs.Common.{sym, ap, ◌∙◌, subst, List}
use Rattle.std.specs.Prelude.{All}
use Rattle.std.specs.Option.{option_copied}
use Rattle.pin_file.specs.declared.backend_pins.BackendPins.{BackendPins}
use Rattle.pin_file.specs.Files.{IsBackendPins}
use Rattle.pin_file_return.proofs.Found.{found_lawful}
use Rattle.pin_file_return.proofs.returning.pins_of.Goals as goal

pub returns-in-Some-clause-lawful : goal.returns-in-Some-clause-lawful
returns-in-Some-clause-lawful c =
    rw c.as_slice.ensures
    (found_lawful c.args.name.now c.backends.result.now c.in-Some.backend.now
    (subst (λ (l : List BackendPins). All IsBackendPins l) (sym c.backends.ensures.exact) c.backends.ensures.lawful.backends)
    (sym c.find_backend.ensures ∙ ap option_copied c.in-Some.is))
