use Rattle.std.proofs.Common.{◌≡◌, ◌∙◌, ◌<◌, ℕ, ◌+◌, List, ◌++◌, length, get_or, sym, ap, subst, arith}
use Rattle.std.specs.Io.KnownBytes.{Appends}
use Rattle.std.proofs.lemmas.List.{length_push}
use Rattle.lb_config.specs.ConfigViews.{BackendView}
use Rattle.lb_run_desks.proofs.Numbering.{all_done, one_more_done}
use Rattle.lb_run.proofs.Closings.{appends_both, as_many, closed_more, closed_whole, next_configured, within_all}
use Rattle.lb_run.proofs.closing.close_all.Goals as goal

pub bounds-backends-place : goal.bounds-backends-place
bounds-backends-place g c =
    let many = as_many g.B.Naming.opening g.B.Naming.journal_size c.args.config.now.backends c.args.desks.items c.requires in
    let inside = within_all c.loop-desk.yielded c.loop-desk.desk-iterator.rest.items c.args.desks.items c.next.new.self.rest.items c.in-Some.desk
    c.loop-desk.place c.loop-desk.invariant.2 (c.in-Some.ensures.steps.0) c.loop-desk.invariant.3 in
    subst (λ (l : List BackendView). c.loop-desk.place < length l) (sym c.backends.ensures.exact)
    (subst (λ (n : ℕ). c.loop-desk.place < n) many inside)

pub close_one-requires : goal.close_one-requires
close_one-requires g c =
    next_configured g.B.Naming.opening g.B.Naming.journal_size c.args.config.now.backends c.backends.result.now c.loop-desk.yielded c.loop-desk.desk-iterator.rest.items
    c.args.desks.items c.next.new.self.rest.items c.in-Some.desk c.loop-desk.place c.index-backends-place.result c.requires
    c.loop-desk.invariant.2 (c.in-Some.ensures.steps.0) c.loop-desk.invariant.3 c.backends.ensures.exact c.index-backends-place.is

pub loop-desk-preserved : goal.loop-desk-preserved
loop-desk-preserved g c =
    let many = as_many g.B.Naming.opening g.B.Naming.journal_size c.args.config.now.backends c.args.desks.items c.requires in
    let inside = within_all c.loop-desk.yielded c.loop-desk.desk-iterator.rest.items c.args.desks.items c.next.new.self.rest.items c.in-Some.desk
    c.loop-desk.place c.loop-desk.invariant.2 (c.in-Some.ensures.steps.0) c.loop-desk.invariant.3 in
    let at = c.index-backends-place.is
    ∙ ap (λ (l : List BackendView). get_or l c.loop-desk.place c.index-backends-place.result) c.backends.ensures.exact in (
      tt,
      tt,
      one_more_done c.loop-desk.yielded c.loop-desk.desk-iterator.rest.items c.args.desks.items c.next.new.self.rest.items c.in-Some.desk
          c.loop-desk.invariant.2 (c.in-Some.ensures.steps.0),
      ap (λ (n : ℕ). n + 1) c.loop-desk.invariant.3 ∙ sym (length_push c.loop-desk.yielded c.in-Some.desk),
      (
        c.loop-desk.invariant.4.0 ++ c.in_ok-line.line.items,
        closed_more c.loop-desk.place c.args.config.now.backends c.index-backends-place.result c.loop-desk.invariant.4.0 c.in_ok-line.line.items
            (subst (λ (n : ℕ). c.loop-desk.place < n) many inside) at c.loop-desk.invariant.4.1 c.in_ok-line.ensures.closed,
        subst (λ (bytes : List ℕ). Appends c.args.out.now.contents c.write_line.new.out.contents
            (c.loop-desk.invariant.4.0 ++ bytes)) c.deref.ensures.value
            (appends_both c.args.out.now.contents c.loop-desk.out.contents c.write_line.new.out.contents
            c.loop-desk.invariant.4.0 c.deref.result.now c.loop-desk.invariant.4.2 c.in_ok-write_line.ensures.whole.whole),
      ),
      omega (arith, c.loop-desk.invariant.5, c.in_ok-write_line.ensures.whole.failures),
    )

pub returns-clause-closed : goal.returns-clause-closed
returns-clause-closed g c =
    let none : length c.loop-desk.desk-iterator.rest.items ≡ 0 = omega (arith, c.loop-desk.desk-iterator.rest.ok.0, c.in-None.ensures.steps.0) in
    let all : c.loop-desk.yielded ≡ c.args.desks.items =
    all_done c.loop-desk.yielded c.loop-desk.desk-iterator.rest.items c.args.desks.items c.loop-desk.invariant.2 none in
    let many = as_many g.B.Naming.opening g.B.Naming.journal_size c.args.config.now.backends c.args.desks.items c.requires in (
      c.loop-desk.invariant.4.0,
      closed_whole c.args.config.now.backends c.loop-desk.invariant.4.0 c.loop-desk.place
          (c.loop-desk.invariant.3 ∙ ap (λ (l : List ℕ). length l) all ∙ many) c.loop-desk.invariant.4.1,
      c.loop-desk.invariant.4.2,
    )
