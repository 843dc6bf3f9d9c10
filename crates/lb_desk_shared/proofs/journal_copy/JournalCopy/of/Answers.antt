use Rattle.lb_desk_shared.proofs.Copies.{both_copied}
use Rattle.lb_desk_shared.proofs.journal_copy.JournalCopy.of.Goals as goal

pub returns-clause-entries : goal.returns-clause-entries
returns-clause-entries c =
    both_copied c.as_slices.result.0.now c.as_slices.result.1.now c.in_ok-entries.entries.items c.extend_with_clones.new.self.items c.extend_with_clones-2.new.self.items
    c.args.journal.now.entries c.in_ok-entries.ensures.items c.in_ok-extend_with_clones.ensures.items c.in_ok-extend_with_clones-2.ensures.items c.as_slices.ensures
