use Rattle.std.proofs.Common.{◌≡◌, ℕ, ◌+◌, ◌-◌, ◌++◌, length, ap, subst, sym, ◌∙◌, arith, length-append}
use Rattle.std.specs.Io.KnownBytes.{Appends}
use Rattle.std.proofs.lemmas.Result.{on_ok_weaker}
use Rattle.lb_types_counted.proofs.Writes.{Appends-then}
use Rattle.lb_answers.specs.Journals.{entry_line, journal_text}
use Rattle.lb_answers.proofs.Pieces.{numbered-append}
use Rattle.lb_replay.proofs.shows.show_journal.Goals as goal

pub overflow_sub-number : goal.overflow_sub-number
overflow_sub-number g c =
    omega (arith, c.next_number.ensures, ap length c.as_slices.ensures, length-append c.as_slices.result.0.now c.as_slices.result.1.now)

pub returns : goal.returns
returns g c =
    let earlier = c.as_slices.result.0.now in
    let later = c.as_slices.result.1.now in
    let name = c.args.backend.now.name in
    let servers = c.args.backend.now.servers.now in
    let first = c.args.journal.now.first in
    let old = c.args.out.now.contents in
    let mid = c.print_entries.new.out.contents in
    let new = c.print_entries-2.new.out.contents in
    let numbered : c.next_number.result - length later ≡ first + length earlier =
    omega (arith, c.next_number.ensures, ap length c.as_slices.ensures, length-append earlier later) in
    let whole : journal_text name servers first earlier ++ journal_text name servers (first + length earlier) later ≡ journal_text name servers first c.args.journal.now.entries =
    sym (numbered-append (λ m. entry_line name servers m.0 m.1) first earlier later) ∙ ap (journal_text name servers first) c.as_slices.ensures in
    let front : Appends old mid (journal_text name servers first earlier) =
    subst (λ (n : ℕ). Appends old mid (journal_text name servers n earlier)) c.first.ensures c.in_ok-print_entries.ensures in
    on_ok_weaker c.print_entries-2.result (λ more. subst (Appends old new) whole (Appends-then old mid new (journal_text name servers first earlier) (journal_text name servers (first + length earlier) later) front
    (subst (λ (n : ℕ). Appends mid new (journal_text name servers n later)) numbered more))) c.print_entries-2.ensures
