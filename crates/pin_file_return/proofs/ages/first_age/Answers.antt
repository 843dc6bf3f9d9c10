use Rattle.std.proofs.Common.{sym, ap, ◌∙◌}
use Rattle.std.specs.Option.{option_copied}
use Rattle.pin_file_return.proofs.Oldest.{first_above}
use Rattle.pin_file_return.proofs.ages.first_age.Goals as goal

pub returns-in-Some-clause-above : goal.returns-in-Some-clause-above
returns-in-Some-clause-above c =
    first_above c.args.pins.now c.in-Some.pin.now c.requires (sym c.first.ensures.value ∙ ap option_copied c.in-Some.is)
