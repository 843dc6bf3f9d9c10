use Rattle.std.proofs.Common.{set, sym, ap, ◌∙◌}
use Rattle.std.specs.List.{position}
use Rattle.lb_config_rules.specs.Groups.{grown, is_group}
use Rattle.lb_config_rules.proofs.GroupLaws.{line_alone_in, line_grows}
use Rattle.lb_config_rules.proofs.named_acls.add_line.Goals as goal

pub returns-in_default : goal.returns-in_default
returns-in_default c =
    let name = c.args.declaration.name in
    let nowhere = sym (ap (position (is_group name)) c.deref.ensures.value) ∙ sym c.in_default.ensures in
    rw (c.in_ok-push.ensures.items, c.in_ok-lines.ensures.items) (sym (line_alone_in c.args.groups.now.items c.args.declaration nowhere))

pub returns : goal.returns
returns c =
    let name = c.args.declaration.name in
    let groups = c.args.groups.now.items in
    let found = sym (ap (position (is_group name)) c.deref.ensures.value) ∙ sym c.in-Some.ensures in
    ap (λ group. set groups c.in-Some.place group)
    (c.in_ok-push-2.ensures ∙ ap (λ group. grown group c.args.declaration.line) c.index_mut.ensures.value)
    ∙ sym (line_grows groups c.args.declaration c.in-Some.place c.index_mut.result.now found)
