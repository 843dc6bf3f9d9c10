use Rattle.std.proofs.Common.{sym, ◌∙◌}
use Rattle.dual_cert_text.proofs.ServerTexts.{named_from_on, named_before}
use Rattle.dual_cert_text.proofs.server_line.server_named_from.Goals as goal

pub returns-in-Some : goal.returns-in-Some
returns-in-Some c =
    let found = rw c.split_at.ensures.back at (sym c.server_named.ensures ∙ c.in-Some.is) in
    sym (named_from_on c.args.servers.now c.args.from c.args.word.now c.in-Some.place c.requires.distinct c.requires.within found)

pub returns-in-None : goal.returns-in-None
returns-in-None c =
    let none = rw c.split_at.ensures.back at (sym c.server_named.ensures ∙ c.in-None.is) in
    let before = named_before c.args.servers.now c.args.from c.args.word.now c.requires.distinct none in
    rw c.split_at.ensures.front at c.server_named-in-None.ensures ∙ sym before
