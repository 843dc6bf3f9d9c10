use Rattle.std.proofs.Common.{arith}
use Rattle.std.proofs.lemmas.Str.Pattern.{strip_prefix_char}
use Rattle.clap.proofs.LexerLemmas.{strip_byte-from}
use Rattle.lb_cli_words.proofs.word.behind_hyphen.Goals as goal

pub returns : goal.returns
returns c =
    let word = c.args.word.now in
    strip_byte-from 45 word c.strip_prefix.result (strip_prefix_char 45 word c.strip_prefix.result c.strip_prefix.ensures.cases (omega arith))
