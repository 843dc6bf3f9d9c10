use Rattle.std.proofs.Common.{◌≡◌, ◌<◌, ◌^◌, List, true, take, refl, subst, arith}
use Rattle.std.specs.List.{All, AllPairs}
use Rattle.std.proofs.lemmas.List.{take_all}
use Rattle.lb_types.specs.Names.{is_name}
use Rattle.pin_set.specs.declared.view.ViewServer.{ViewServer}
use Rattle.haproxy_farm.proofs.Names.{Differ, all_more, own_more, earlier_differ}
use Rattle.haproxy_farm.proofs.can_be.have_own_names.Goals as goal

pub returns-then-not-is_new-clause-own : goal.returns-then-not-is_new-clause-own
returns-then-not-is_new-clause-own c = (
  λ never. absurd cc,
  λ own.
      let new = c.is_new.ensures.new.1 (earlier_differ c.args.servers.now c.loop-i.i c.index-servers-i.result c.loop-i-test.true c.index-servers-i.is own) in
      absurd (cc (new, c.if-not-is_new.true)),
)

pub loop-i-preserved : goal.loop-i-preserved
loop-i-preserved c =
    let servers = c.args.servers.now in
    let i = c.loop-i.i in
    let one = c.index-servers-i.result in
    record {
      own = own_more servers i one c.loop-i-test.true c.index-servers-i.is c.loop-i.invariant.own (c.is_new.ensures.new.0 c.if-not-is_new.false);
      named = all_more (λ s. is_name s.name ≡ true) servers i one c.loop-i-test.true c.index-servers-i.is c.loop-i.invariant.named c.is_new.ensures.named;
      room = all_more (λ s. s.capacity < 2 ^ 32) servers i one c.loop-i-test.true c.index-servers-i.is c.loop-i.invariant.room c.is_new.ensures.room;
    }

pub returns-clause-own : goal.returns-clause-own
returns-clause-own c =
    let whole : take c.loop-i.i c.args.servers.now ≡ c.args.servers.now = take_all c.loop-i.i c.args.servers.now (omega arith) in
    let Holds : List ViewServer → Type 0 = AllPairs Differ in
    (λ yes. subst Holds whole c.loop-i.invariant.own, λ own. refl)

pub returns-clause-named : goal.returns-clause-named
returns-clause-named c =
    let whole : take c.loop-i.i c.args.servers.now ≡ c.args.servers.now = take_all c.loop-i.i c.args.servers.now (omega arith) in
    let Holds : List ViewServer → Type 0 = All (λ s. is_name s.name ≡ true) in
    λ yes. subst Holds whole c.loop-i.invariant.named

pub returns-clause-room : goal.returns-clause-room
returns-clause-room c =
    let whole : take c.loop-i.i c.args.servers.now ≡ c.args.servers.now = take_all c.loop-i.i c.args.servers.now (omega arith) in
    let Holds : List ViewServer → Type 0 = All (λ s. s.capacity < 2 ^ 32) in
    λ yes. subst Holds whole c.loop-i.invariant.room
