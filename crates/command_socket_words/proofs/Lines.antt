-- Words and commands that were put into a line come apart again.
use Rattle.std.proofs.Common.{◌≡◌, ◌≢◌, ℕ, ◌≤◌, true, false, not, eqb, List, [], ◌∷◌, map, length, refl, ap, ◌∙◌, arith}
use Rattle.std.specs.List.{All, list_all, filter}
use Rattle.std.proofs.lemmas.List.Elements.{All-nil, All-cons}
use Rattle.lb_types_text.proofs.Joins.{HasNo, parts_join, free_join}
use Rattle.command_socket_words.specs.Words.{Word, is_filled, words_in}
use Rattle.command_socket_words.specs.Commands.{command_of, commands_among, commands_of}
use Rattle.command_socket_words.specs.Lines.{is_plain, is_word, are_words, text_of, line_of}
use Rattle.command_socket_words.proofs.Steps.{and_true, not_true}
use Rattle.command_socket_words.proofs.Texts.{commands_short}

-- a mark that plain bytes are not
abbrev IsMark : ℕ → Type 0
IsMark mark = (b : ℕ) → is_plain b ≡ true → eqb b mark ≡ false

space : IsMark 32
space b plain = not_true (eqb b 32) (and_true (not (eqb b 32)) _ plain).0

semicolon : IsMark 59
semicolon b plain = not_true (eqb b 59) (and_true (not (eqb b 32)) _ plain).1

bytes_free : (mark : ℕ) (bytes : List ℕ) → IsMark mark → list_all is_plain bytes ≡ true → HasNo mark bytes
bytes_free mark [] other plain = All-nil (λ b. eqb b mark ≡ false)
bytes_free mark (b ∷ bytes) other plain =
    let both = and_true (is_plain b) (list_all is_plain bytes) plain in
    All-cons (λ x. eqb x mark ≡ false) b bytes (other b both.0) (bytes_free mark bytes other both.1)

words_free : (mark : ℕ) (words : List Word) → IsMark mark → list_all is_word words ≡ true → All (HasNo mark) words
words_free mark [] other each = All-nil (HasNo mark)
words_free mark (word ∷ words) other each =
    let both = and_true (is_word word) (list_all is_word words) each in
    let plain = and_true (is_filled word) (list_all is_plain word) both.0 in
    All-cons (HasNo mark) word words (bytes_free mark word other plain.1) (words_free mark words other both.1)

words_kept : (words : List Word) → list_all is_word words ≡ true → filter is_filled words ≡ words
words_kept [] each = refl
words_kept (word ∷ words) each =
    let both = and_true (is_word word) (list_all is_word words) each in
    let filled = and_true (is_filled word) (list_all is_plain word) both.0 in
    rw filled.0 (ap (λ ws. word ∷ ws) (words_kept words both.1))

-- the words of a text are those that it was made of
words_again : (words : List Word) → are_words words ≡ true → words_in (text_of words) ≡ words
words_again [] each = cc
words_again (word ∷ words) each =
    let all = (and_true (is_filled (word ∷ words)) (list_all is_word (word ∷ words)) each).1 in
    ap (filter is_filled) (parts_join 32 word words (words_free 32 (word ∷ words) space all)) ∙ words_kept (word ∷ words) all

marks_differ : ◌≢◌ {A = ℕ} 32 59
marks_differ = omega arith

text_free : (words : List Word) → are_words words ≡ true → HasNo 59 (text_of words)
text_free [] each = cc
text_free (word ∷ words) each =
    let all = (and_true (is_filled (word ∷ words)) (list_all is_word (word ∷ words)) each).1 in
    free_join 59 32 word words marks_differ (words_free 59 (word ∷ words) semicolon all)

texts_free : (commands : List (List Word)) → list_all are_words commands ≡ true → All (HasNo 59) (map text_of commands)
texts_free [] each = All-nil (HasNo 59)
texts_free (words ∷ more) each =
    let both = and_true (are_words words) (list_all are_words more) each in
    All-cons (HasNo 59) (text_of words) (map text_of more) (text_free words both.0) (texts_free more both.1)

among_again : (commands : List (List Word)) → list_all are_words commands ≡ true → commands_among (map text_of commands) ≡ map command_of commands
unfolding commands_among
among_again [] each = refl
among_again (words ∷ more) each =
    let both = and_true (are_words words) (list_all are_words more) each in
    let filled = and_true (is_filled words) (list_all is_word words) both.0 in
    rw (words_again words both.0, filled.0) (ap (λ cs. command_of words ∷ cs) (among_again more both.1))

-- a line gives what its commands' words say
pub line_again : (commands : List (List Word)) → list_all are_words commands ≡ true → length (line_of commands) ≤ 4096 → commands_of (line_of commands) ≡ map command_of commands
unfolding line_of commands_of commands_among
line_again [] each short = refl
line_again (words ∷ more) each short =
    let apart = parts_join 59 (text_of words) (map text_of more) (texts_free (words ∷ more) each) in
    commands_short (line_of (words ∷ more)) short ∙ ap commands_among apart ∙ among_again (words ∷ more) each
