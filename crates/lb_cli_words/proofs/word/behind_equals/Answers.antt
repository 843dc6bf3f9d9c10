use Rattle.std.proofs.Common.{arith}
use Rattle.std.proofs.lemmas.Str.Pattern.{strip_prefix_char}
use Rattle.clap.proofs.LexerLemmas.{strip_byte-from}
use Rattle.lb_cli_words.proofs.word.behind_equals.Goals as goal

pub returns : goal.returns
returns c =
    let text = c.args.text.now in
    strip_byte-from 61 text c.strip_prefix.result (strip_prefix_char 61 text c.strip_prefix.result c.strip_prefix.ensures.cases (omega arith))
