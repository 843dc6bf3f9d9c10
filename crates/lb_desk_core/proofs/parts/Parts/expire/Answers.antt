use Rattle.std.proofs.Common.{◌≡◌, ◌∙◌, ℕ, ◌≤◌, true, not, None, Some, max, List, sym, ap, subst, arith}
use Rattle.std.specs.Prelude.{All, filter}
use Rattle.pin_set.specs.declared.table_pin.TablePin.{TablePin}
use Rattle.lb_desk_model.specs.Seen.{Seen}
use Rattle.lb_desk_core.specs.Expiring.{ArePlaced, is_due}
use Rattle.lb_desk_core.specs.Parts.{shown_of}
use Rattle.lb_desk_core.proofs.Expired.{limit_of, never_counted, never_left, is_older_moment, none_stays, all_counted}
use Rattle.lb_desk_core.proofs.ExpirySteps.{expiry_acts}
use Rattle.lb_desk_core.proofs.parts.Parts.expire.Goals as goal

pub returns-in_default-clause-acts : goal.returns-in_default-clause-acts
returns-in_default-clause-acts g c =
    let p = c.self.inside in
    let shown : Seen = shown_of p.balance p.settings p.names.items p.farm p.book p.table p.cursor p.latest in
    let now = max p.latest c.args.now in
    let never : limit_of p.settings ≡ None = sym c.in_default.ensures in
    rw (← c.self.view_is) (expiry_acts shown shown c.args.now 0 (never_counted p.settings now p.table.pins never)
    (ap (λ (pins : List TablePin). record shown { pins = pins }) (never_left p.settings now p.table.pins never)))

pub let_go-requires-clause-counted : goal.let_go-requires-clause-counted
let_go-requires-clause-counted g c =
    let p = c.self.inside in
    let many = c.self.invariant.many in
    record {
      loads = λ server below. c.self.invariant.loads server (omega (arith, many, below));
      placed = subst (λ (n : ℕ). ArePlaced n p.table.pins) (sym many) (rw (← c.self.view_is) at c.requires.placed);
    }

pub let_all_go-requires-clause-many : goal.let_all_go-requires-clause-many
let_all_go-requires-clause-many g c = omega (arith, c.self.invariant.many, c.len-then-is_older.ensures)

pub returns-then-is_older-clause-acts : goal.returns-then-is_older-clause-acts
returns-then-is_older-clause-acts g c =
    let p = c.self.inside in
    let shown : Seen = shown_of p.balance p.settings p.names.items p.farm p.book p.table p.cursor p.latest in
    let new : Seen = shown_of p.balance p.settings p.names.items p.farm c.let_all_go.new.book c.let_all_go.new.table p.cursor p.latest in
    let now : ℕ = max p.latest c.args.now in
    let limit : ℕ = c.in-Some.limit in
    let of_limit : limit_of p.settings ≡ Some limit = sym c.in-Some.ensures in
    let same_now : c.from_millis-now.result ≡ now =
    omega (arith, c.from_millis-now.ensures, c.max.ensures, c.as_millis.ensures, c.as_millis-2.ensures) in
    let older : is_older_moment p.latest limit now ≡ true =
    subst (λ (n : ℕ). is_older_moment p.latest limit n ≡ true) same_now (sym c.is_older.ensures ∙ c.if-is_older.true) in
    let used : All (λ q. q.last_use ≤ p.latest) p.table.pins = rw (← c.self.view_is) at c.requires.latest in
    let none = none_stays p.settings limit now p.latest p.table.pins of_limit older used in
    let left : new ≡ record shown { pins = filter (λ q. not (is_due p.settings now q)) p.table.pins } =
    rw (c.let_all_go.ensures.left, c.let_all_go.ensures.connections) (ap (λ (pins : List TablePin). record shown { pins = pins }) none) in
    rw (← c.self.view_is) (expiry_acts shown new c.args.now c.let_all_go.result
    (c.let_all_go.ensures.gone ∙ all_counted p.settings limit now p.latest p.table.pins of_limit older used) left)
