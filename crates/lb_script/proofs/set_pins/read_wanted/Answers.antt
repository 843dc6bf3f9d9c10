use Rattle.std.proofs.Common.{refl, sym, ap, ◌∙◌}
use Rattle.lb_script.proofs.WantedWords.{wanted_behind, wanted_counts, wanted_fails}
use Rattle.lb_script.proofs.set_pins.read_wanted.Goals as goal

pub loop-word-init : goal.loop-word-init
loop-word-init c = rw c.empty-set.ensures.exact refl

pub returns-in_default-find_server : goal.returns-in_default-find_server
returns-in_default-find_server c =
    let now = rw c.in-Some.ensures.first at c.loop-word.invariant in
    let none = sym c.in_default-find_server.ensures in
    sym (wanted_fails c.loop-word.set c.args.servers.now c.in-Some.word.now c.next_part.new.self none) ∙ now

pub loop-word-preserved : goal.loop-word-preserved
loop-word-preserved c =
    let now = rw c.in-Some.ensures.first at c.loop-word.invariant in
    let found = sym c.in-Some-find_server.ensures in
    rw c.with-set.ensures.exact
    (sym (wanted_counts c.loop-word.set c.args.servers.now c.in-Some.word.now c.next_part.new.self c.in-Some-find_server.server found) ∙ now)

pub returns : goal.returns
returns c = rw c.in_default.ensures.none.0 at c.loop-word.invariant
