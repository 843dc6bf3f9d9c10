use Rattle.std.proofs.Common.{sym}
use Rattle.sheet_format.proofs.Blanks.{end_found, end_none}
use Rattle.sheet_format.proofs.words.cut_word.Goals as goal

pub returns-in-Some : goal.returns-in-Some
returns-in-Some c =
    let cut = end_found c.args.text.now c.in-Some.end (sym c.in-Some.ensures) c.requires.begins in
    cc

pub returns-in-None : goal.returns-in-None
returns-in-None c =
    let cut = end_none c.args.text.now (sym c.in-None.ensures) c.requires.some in
    cc
