use Rattle.std.proofs.Common.{rules, ◌≡◌, ◌∙◌, sym, ap, ℕ, ◌+◌, ◌++◌, ◌∷◌, [], length, arith}
use Rattle.std.proofs.lemmas.List.{length_push}
use Rattle.lb_run_desks.specs.NewDesks.{numbers}
use Rattle.lb_run_desks.proofs.Numbering.{all_done, next_stands, numbers-push, one_more_done}
use Rattle.lb_run_desks.proofs.naming.named_desks.Goals as goal

pub named-requires-clause-table : goal.named-requires-clause-table
named-requires-clause-table g c =
    let here : c.len-number.result ≡ length c.loop-new.yielded =
    c.len-number.ensures ∙ c.loop-new.invariant.3 in
    (c.requires c.len-number.result c.in-Some.new
    (next_stands c.loop-new.yielded c.loop-new.new-iterator.rest.items c.args.news.items c.next.new.self.rest.items c.in-Some.new c.len-number.result
    c.loop-new.invariant.2 (c.in-Some.ensures.steps.0) here)).0

pub named-requires-clause-opening : goal.named-requires-clause-opening
named-requires-clause-opening g c =
    let here : c.len-number.result ≡ length c.loop-new.yielded =
    c.len-number.ensures ∙ c.loop-new.invariant.3 in
    (c.requires c.len-number.result c.in-Some.new
    (next_stands c.loop-new.yielded c.loop-new.new-iterator.rest.items c.args.news.items c.next.new.self.rest.items c.in-Some.new c.len-number.result
    c.loop-new.invariant.2 (c.in-Some.ensures.steps.0) here)).1

pub named-requires-clause-size : goal.named-requires-clause-size
named-requires-clause-size g c =
    let here : c.len-number.result ≡ length c.loop-new.yielded =
    c.len-number.ensures ∙ c.loop-new.invariant.3 in
    (c.requires c.len-number.result c.in-Some.new
    (next_stands c.loop-new.yielded c.loop-new.new-iterator.rest.items c.args.news.items c.next.new.self.rest.items c.in-Some.new c.len-number.result
    c.loop-new.invariant.2 (c.in-Some.ensures.steps.0) here)).2

pub loop-new-preserved : goal.loop-new-preserved
loop-new-preserved g c =
    let here : c.len-number.result ≡ length c.loop-new.yielded =
    c.len-number.ensures ∙ c.loop-new.invariant.3 in (
      tt,
      tt,
      one_more_done c.loop-new.yielded c.loop-new.new-iterator.rest.items c.args.news.items c.next.new.self.rest.items c.in-Some.new
          c.loop-new.invariant.2 (c.in-Some.ensures.steps.0),
      c.in_ok-push.ensures.len ∙ ap (λ (n : ℕ). n + 1) c.loop-new.invariant.3 ∙ sym (length_push c.loop-new.yielded c.in-Some.new),
      c.in_ok-push.ensures.items ∙ ap (λ l. l ++ c.named.result ∷ []) c.loop-new.invariant.4
          ∙ ap (λ (n : ℕ). numbers c.loop-new.yielded ++ n ∷ []) (c.named.ensures ∙ here) ∙ sym (numbers-push c.loop-new.yielded c.in-Some.new),
    )

pub returns : goal.returns
returns g c =
    let none : length c.loop-new.new-iterator.rest.items ≡ 0 = omega (arith, c.loop-new.new-iterator.rest.ok.0, c.in-None.ensures.steps.0) in
    c.loop-new.invariant.4 ∙ ap numbers (all_done c.loop-new.yielded c.loop-new.new-iterator.rest.items c.args.news.items c.loop-new.invariant.2 none)
