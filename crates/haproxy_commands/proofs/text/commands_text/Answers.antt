use Rattle.std.proofs.Common.{◌≡◌, true, None, sym}
use Rattle.std.specs.List.{position}
use Rattle.haproxy_commands.specs.Names.{is_table_name, is_unnamed}
use Rattle.haproxy_commands.proofs.Commands.{text_is_read, text_is_whole}
use Rattle.haproxy_commands.proofs.text.commands_text.Goals as goal

pub returns-clause-read : goal.returns-clause-read
returns-clause-read c =
    let name : is_table_name c.args.table.now ≡ true = sym c.if-not-is_table_name.ensures in
    let none : position is_unnamed c.args.moves.now ≡ None = sym c.in_default.ensures in
    rw c.in_ok-text.ensures.text (text_is_read c.args.table.now c.args.moves.now name none c.in_ok-text.ensures.small)

pub returns-clause-complete : goal.returns-clause-complete
returns-clause-complete c =
    let name : is_table_name c.args.table.now ≡ true = sym c.if-not-is_table_name.ensures in
    let none : position is_unnamed c.args.moves.now ≡ None = sym c.in_default.ensures in
    rw c.in_ok-text.ensures.text (text_is_whole c.args.table.now c.args.moves.now name none c.in_ok-text.ensures.small)
