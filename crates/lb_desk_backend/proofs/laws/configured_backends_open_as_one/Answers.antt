use Rattle.lb_desk_backend.proofs.OneBackend.{one_backend}
use Rattle.lb_desk_backend.proofs.laws.configured_backends_open_as_one.Goals as goal

pub returns : goal.returns
returns c = one_backend
