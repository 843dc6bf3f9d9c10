use Rattle.std.proofs.Common.{rules}
use Rattle.lb_config_limits.proofs.Names.{added_new, added_again}
use Rattle.lb_config_limits.proofs.name_set.NameSet.add.Goals as goal

-- src/name_set.rt:45:13
pub returns-then-not-branch : goal.returns-then-not-branch
returns-then-not-branch c =
    rw (c.into.ensures) (added_again c.args.self.now c.args.name c.self.inside.names c.in-Some.name c.new.result c.in_ok-insert.field-0 (search rules) c.in-Some.is (search rules) c.in_ok-insert.ensures.added (search rules))

-- src/name_set.rt:37:5
pub returns : goal.returns
returns c =
    added_new c.args.self.now c.args.name c.self.inside.names c.insert.new.self c.in-Some.name c.new.result c.in_ok-insert.field-0 (search rules) c.in-Some.is (search rules) c.in_ok-insert.ensures.added (search rules) (search rules)
