use Rattle.keyed_values.proofs.Vacancies.{none_held}
use Rattle.keyed_values.proofs.keyed.Keyed.destroy_empty.Goals as goal

pub returns : goal.returns
returns g c = none_held c.args.self c.requires
