use Rattle.std.proofs.Common.{sym, ◌∙◌, rules}
use Rattle.std.proofs.lemmas.Bool.{false≢true}
use Rattle.std.proofs.lemmas.List.{take_all}
use Rattle.server_state.proofs.Picked.{main-step, spare-step, usable-main, usable-spare}
use Rattle.server_state.proofs.usable.usable_among.Goals as goal

pub loop-i-preserved : goal.loop-i-preserved
loop-i-preserved c =
    let xs = c.args.servers.now in
    let i = c.loop-i.i in
    let found = c.loop-i.found in (
      main-step xs i c.index-servers-i.result c.new.result found.main _ c.loop-i-test.true c.index-servers-i.is c.new.ensures c.loop-i.invariant.0 c.add.ensures.main,
      spare-step c.args.all_backups xs i c.index-servers-i.result c.new.result found.spare _ c.loop-i-test.true c.index-servers-i.is c.new.ensures c.loop-i.invariant.1 c.add.ensures.spare,
    )

pub returns-then-is_empty : goal.returns-then-is_empty
returns-then-is_empty c =
    let xs = c.args.servers.now in
    let whole = take_all c.loop-i.i xs c.loop-i-test.false in
    usable-spare c.args.all_backups xs c.loop-i.found.main c.loop-i.found.spare (rw whole at c.loop-i.invariant.0) (c.is_empty.ensures.0 (search rules)) (rw whole at c.loop-i.invariant.1)

pub returns-else-is_empty : goal.returns-else-is_empty
returns-else-is_empty c =
    let xs = c.args.servers.now in
    let whole = take_all c.loop-i.i xs c.loop-i-test.false in
    usable-main c.args.all_backups xs c.loop-i.found.main (rw whole at c.loop-i.invariant.0) (λ none. false≢true (sym c.if-is_empty.false ∙ c.is_empty.ensures.1 none))
