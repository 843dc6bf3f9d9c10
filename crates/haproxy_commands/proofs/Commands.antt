-- A text of lines is read as its commands.
use Rattle.std.proofs.Common.{◌≡◌, ℕ, ◌<◌, ◌^◌, Bool, true, false, cond, None, List, [], ◌∷◌, ◌++◌, map, codes, refl, ap, subst, sym, ◌∙◌, arith}
use Rattle.std.specs.Fmt.{decimal}
use Rattle.std.specs.List.{All, filter, slice_split, position}
use Rattle.std.proofs.lemmas.Bool.Decides.{nat_tests}
use Rattle.std.proofs.lemmas.List.Elements.{All-nil, All-cons, All-head, All-tail, All-append}
use Rattle.std.proofs.lemmas.List.Splits.{slice_split_at}
use Rattle.std.proofs.lemmas.List.Sums.{AllPass-from_list_all}
use Rattle.haproxy_commands.specs.declared.moves.Move.{Move}
use Rattle.haproxy_commands.specs.Names.{is_table_name, can_stand, is_unnamed}
use Rattle.haproxy_commands.specs.Reading.{Symbol, Bare, Escaped, is_bare, ends_command, has_any, symbols_in, words_in, commands_in, NeverWaits}
use Rattle.haproxy_commands.specs.Writing.{IsMove, needs_backslash, clear_words, set_words, commands_of, pair_text, text_of}
use Rattle.haproxy_commands.proofs.Symbols.{mark, symbols_of, line_read}
use Rattle.haproxy_commands.proofs.Words.{IsWord, AreWords, command_all, words_again}
use Rattle.haproxy_commands.proofs.Named.{table_word, key_word, number_word, all_named}

bare_goes_on : (byte : ℕ) → needs_backslash byte ≡ false → can_stand byte ≡ true → ends_command (Bare byte) ≡ false
bare_goes_on byte none stands = grind (arith, nat_tests)

mark_goes_on : (byte : ℕ) → can_stand byte ≡ true → ends_command (mark byte) ≡ false
mark_goes_on byte stands = by_case (needs_backslash byte) refl
  where
    by_case : (b : Bool) → needs_backslash byte ≡ b → ends_command (cond b (Escaped byte) (Bare byte)) ≡ false
    by_case true needs = refl
    by_case false none = bare_goes_on byte none stands

goes_on : (words : List (List ℕ)) → AreWords words → All (λ symbol. ends_command symbol ≡ false) (symbols_of words)
goes_on words are = command_all (λ symbol. ends_command symbol ≡ false) refl mark_goes_on words are

pair_apart : (first second : List (List ℕ)) (rest : List ℕ) → AreWords first → AreWords second → slice_split ends_command (symbols_in (pair_text first second ++ rest)) ≡ symbols_of first ∷ symbols_of second ∷ slice_split ends_command (symbols_in rest)
unfolding pair_text
pair_apart first second rest are_first are_second =
    ap (slice_split ends_command) (line_read first second rest)
    ∙ slice_split_at ends_command (symbols_of first) (Bare 59) (symbols_of second ++ (Bare 10 ∷ symbols_in rest)) (goes_on first are_first) refl
    ∙ ap (λ parts. symbols_of first ∷ parts) (slice_split_at ends_command (symbols_of second) (Bare 10) (symbols_in rest) (goes_on second are_second) refl)

-- the two commands of a line, and those that follow
pair_commands : (word : List ℕ) (words : List (List ℕ)) (other : List ℕ) (others : List (List ℕ)) (rest : List ℕ) → AreWords (word ∷ words) → AreWords (other ∷ others) → commands_in (pair_text (word ∷ words) (other ∷ others) ++ rest) ≡ (word ∷ words) ∷ (other ∷ others) ∷ commands_in rest
unfolding commands_in
pair_commands word words other others rest are_first are_second =
    let behind = map words_in (slice_split ends_command (symbols_in rest)) in
    ap (λ parts. filter has_any (map words_in parts)) (pair_apart (word ∷ words) (other ∷ others) rest are_first are_second)
    ∙ ap (λ first. filter has_any (first ∷ words_in (symbols_of (other ∷ others)) ∷ behind)) (words_again (word ∷ words) are_first)
    ∙ ap (λ second. (word ∷ words) ∷ filter has_any (second ∷ behind)) (words_again (other ∷ others) are_second)

-- no `<` is bare
bare_no_more : (byte : ℕ) → needs_backslash byte ≡ false → is_bare 60 (Bare byte) ≡ false
bare_no_more byte none = grind (arith, nat_tests)

mark_no_more : (byte : ℕ) → can_stand byte ≡ true → is_bare 60 (mark byte) ≡ false
mark_no_more byte stands = by_case (needs_backslash byte) refl
  where
    by_case : (b : Bool) → needs_backslash byte ≡ b → is_bare 60 (cond b (Escaped byte) (Bare byte)) ≡ false
    by_case true needs = refl
    by_case false none = bare_no_more byte none

abbrev IsNoMore : Symbol → Type 0
IsNoMore symbol = is_bare 60 symbol ≡ false

pair_whole : (first second : List (List ℕ)) (rest : List ℕ) → AreWords first → AreWords second → NeverWaits rest → NeverWaits (pair_text first second ++ rest)
unfolding pair_text
pair_whole first second rest are_first are_second whole =
    subst (All IsNoMore) (sym (line_read first second rest))
    (All-append IsNoMore (symbols_of first) (Bare 59 ∷ (symbols_of second ++ (Bare 10 ∷ symbols_in rest))) (command_all IsNoMore refl mark_no_more first are_first)
    (All-cons IsNoMore (Bare 59) (symbols_of second ++ (Bare 10 ∷ symbols_in rest)) refl
    (All-append IsNoMore (symbols_of second) (Bare 10 ∷ symbols_in rest) (command_all IsNoMore refl mark_no_more second are_second)
    (All-cons IsNoMore (Bare 10) (symbols_in rest) refl whole))))

-- the words of the two commands
clear_are : (table key : List ℕ) → IsWord table → IsWord key → AreWords (clear_words table key)
clear_are table key is_table is_key = (
  record { some = refl; stands = AllPass-from_list_all can_stand (codes "clear") refl },
  (
    record { some = refl; stands = AllPass-from_list_all can_stand (codes "table") refl },
    (
      is_table,
      (
        record { some = refl; stands = AllPass-from_list_all can_stand (codes "key") refl },
        (is_key, tt),
      ),
    ),
  ),
)

set_are : (table key : List ℕ) (server : ℕ) → IsWord table → IsWord key → server < 2 ^ 32 → AreWords (set_words table key server)
set_are table key server is_table is_key small = (
  record { some = refl; stands = AllPass-from_list_all can_stand (codes "set") refl },
  (
    record { some = refl; stands = AllPass-from_list_all can_stand (codes "table") refl },
    (
      is_table,
      (
        record { some = refl; stands = AllPass-from_list_all can_stand (codes "key") refl },
        (
          is_key,
          (
            record { some = refl; stands = AllPass-from_list_all can_stand (codes "data.server_id") refl },
            (number_word server small, tt),
          ),
        ),
      ),
    ),
  ),
)

abbrev IsNamed : Move → Type 0
IsNamed entry = is_unnamed entry ≡ false

all_read : (table : List ℕ) → IsWord table → (moves : List Move) → All IsNamed moves → All IsMove moves → commands_in (text_of table moves) ≡ commands_of table moves
unfolding commands_in words_in text_of commands_of symbols_in
all_read table is_table [] named small = refl
all_read table is_table (entry ∷ more) named small =
    let key = entry.key.now in
    let is_key = key_word key (All-head IsNamed entry more named) in
    let clear = clear_are table key is_table is_key in
    let set = set_are table key entry.server is_table is_key (All-head IsMove entry more small) in
    pair_commands (codes "clear") (codes "table" ∷ table ∷ codes "key" ∷ key ∷ []) (codes "set") (codes "table" ∷ table ∷ codes "key" ∷ key ∷ codes "data.server_id" ∷ decimal entry.server ∷ []) (text_of table more) clear set
    ∙ ap (λ cs. clear_words table key ∷ set_words table key entry.server ∷ cs) (all_read table is_table more (All-tail IsNamed entry more named) (All-tail IsMove entry more small))

all_whole : (table : List ℕ) → IsWord table → (moves : List Move) → All IsNamed moves → All IsMove moves → NeverWaits (text_of table moves)
unfolding text_of symbols_in
all_whole table is_table [] named small = All-nil IsNoMore
all_whole table is_table (entry ∷ more) named small =
    let key = entry.key.now in
    let is_key = key_word key (All-head IsNamed entry more named) in
    let clear = clear_are table key is_table is_key in
    let set = set_are table key entry.server is_table is_key (All-head IsMove entry more small) in
    pair_whole (clear_words table key) (set_words table key entry.server) (text_of table more) clear set
    (all_whole table is_table more (All-tail IsNamed entry more named) (All-tail IsMove entry more small))

-- what is read of the text of moves whose table and keys can be named
pub text_is_read : (table : List ℕ) (moves : List Move) → is_table_name table ≡ true → position is_unnamed moves ≡ None → All IsMove moves → commands_in (text_of table moves) ≡ commands_of table moves
text_is_read table moves name none small = all_read table (table_word table name) moves (all_named moves none) small

pub text_is_whole : (table : List ℕ) (moves : List Move) → is_table_name table ≡ true → position is_unnamed moves ≡ None → All IsMove moves → NeverWaits (text_of table moves)
text_is_whole table moves name none small = all_whole table (table_word table name) moves (all_named moves none) small
