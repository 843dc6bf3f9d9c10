use Rattle.std.proofs.Common.{sym, refl, ◌∙◌}
use Rattle.command_socket_words.proofs.SocketTexts.{among_none, among_more, among_all, commands_long, commands_short}
use Rattle.command_socket_words.proofs.socket_line.read_socket_commands.Goals as goal

pub returns-then-line-gt-LONGEST_LINE : goal.returns-then-line-gt-LONGEST_LINE
returns-then-line-gt-LONGEST_LINE c =
    let long = commands_long c.args.line.now c.if-line-gt-LONGEST_LINE.true in
    rw (c.in_ok-push.ensures.items, c.new-commands.ensures.items, long) refl

pub loop-text-preserved-in-Continue-branch-2 : goal.loop-text-preserved-in-Continue-branch-2
loop-text-preserved-in-Continue-branch-2 c =
    let now = rw c.in-Some.ensures.first at c.loop-text.invariant in
    let said = c.in-Some-read_text.ensures in
    let more = among_more c.loop-text.commands.items c.in-Some-read_text.command c.in-Some.text.now c.next_part.new.self _ said.word said.some now in
    rw c.in_ok-push-2.ensures.items more

pub loop-text-preserved : goal.loop-text-preserved
loop-text-preserved c =
    let now = rw c.in-Some.ensures.first at c.loop-text.invariant in
    among_none c.loop-text.commands.items c.in-Some.text.now c.next_part.new.self _ c.in_default-read_text.ensures.none now

pub returns : goal.returns
returns c =
    let now = rw c.in_default.ensures.none.0 at c.loop-text.invariant in
    among_all c.loop-text.commands.items _ now ∙ sym (commands_short c.args.line.now c.if-line-gt-LONGEST_LINE.false)
