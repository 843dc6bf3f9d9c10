use Rattle.pin_recent.proofs.Copies.{Copying}
use Rattle.pin_recent.proofs.store.Store.copy.Given as goal

-- with what is still to come all pairs are copied
abbrev pub invariant-loop-key : goal.invariant-loop-key
invariant-loop-key g l = Copying g.K.Clone.is_clone l.initial.key-iterator l.key-iterator l.pairs.items
