-- The commands, carried out on a table.
use Rattle.std.proofs.Common.{◌≡◌, ◌≢◌, ℕ, ◌<◌, ◌^◌, Bool, true, false, ◌&&◌, cond, Some, None, List, [], ◌∷◌, ◌++◌, refl, ap, ◌∙◌, arith}
use Rattle.std.specs.List.{All}
use Rattle.std.specs.Fmt.{decimal}
use Rattle.std.specs.Str.{bytes_eq}
use Rattle.std.proofs.lemmas.List.Elements.{All-head, All-tail}
use Rattle.std.proofs.lemmas.Slice.Eq.{bytes_eq-Decides}
use Rattle.lb_types_text.specs.Numbers.{numeral_of}
use Rattle.lb_types_text.proofs.Numerals.{numeral_again}
use Rattle.haproxy_commands.specs.declared.moves.Move.{Move}
use Rattle.haproxy_commands.specs.Laws.{IsNotMoved, MovedEntriesNameTheirServers, OtherEntriesStay, OtherTablesStay}
use Rattle.haproxy_commands.specs.Tables.{Clear, Set, Other, set_request, request_of, Table, with_entry, after_request, carried_out}
use Rattle.haproxy_commands.specs.Writing.{IsMove, clear_words, set_words, commands_of}

same : (xs : List ℕ) → bytes_eq xs xs ≡ true
same xs = (bytes_eq-Decides xs xs).1 refl

differ : (xs ys : List ℕ) → ys ≢ xs → bytes_eq xs ys ≡ false
differ xs ys other = by_case (bytes_eq xs ys) refl
  where
    by_case : (b : Bool) → bytes_eq xs ys ≡ b → b ≡ false
    by_case true equal = absurd (let e : ys ≡ xs = (let s = (bytes_eq-Decides xs ys).0 equal in cc) in other e)
    by_case false unlike = refl

clears : (name key : List ℕ) → request_of name (clear_words name key) ≡ Clear key
unfolding request_of
clears name key = ap (λ (b : Bool). cond (b && true) (Clear key) Other) (same name)

sets : (name key : List ℕ) (server : ℕ) → server < 2 ^ 32 → request_of name (set_words name key server) ≡ Set key server
unfolding request_of
sets name key server small =
    ap (λ (b : Bool). cond ((b && true) && true) (set_request key (numeral_of (decimal server))) Other) (same name)
    ∙ ap (set_request key) (numeral_again server (omega arith))

-- the table after a move
abbrev moved : Move → Table → Table
moved entry table = with_entry entry.key.now (Some entry.server) (with_entry entry.key.now None table)

step : (name : List ℕ) (table : Table) (entry : Move) (more : List Move) → IsMove entry → carried_out name (commands_of name (entry ∷ more)) table ≡ carried_out name (commands_of name more) (moved entry table)
unfolding commands_of
step name table entry more small =
    let key = entry.key.now in
    ap (λ request. carried_out name (commands_of name more) (after_request (request_of name (set_words name key entry.server)) (after_request request table))) (clears name key)
    ∙ ap (λ request. carried_out name (commands_of name more) (after_request request (after_request (Clear key) table))) (sets name key entry.server small)

moved_here : (entry : Move) (table : Table) → moved entry table entry.key.now ≡ Some entry.server
moved_here entry table =
    ap (λ (b : Bool). cond b (Some entry.server) (cond b None (table entry.key.now))) (same entry.key.now)

moved_there : (entry : Move) (table : Table) (key : List ℕ) → entry.key.now ≢ key → moved entry table key ≡ table key
moved_there entry table key other =
    ap (λ (b : Bool). cond b (Some entry.server) (cond b None (table key))) (differ key entry.key.now other)

stays : (name key : List ℕ) (moves : List Move) (table : Table) → All IsMove moves → IsNotMoved key moves → carried_out name (commands_of name moves) table key ≡ table key
unfolding commands_of
stays name key [] table small other = refl
stays name key (entry ∷ more) table small other =
    ap (λ (t : Table). t key) (step name table entry more (All-head IsMove entry more small))
    ∙ stays name key more (moved entry table) (All-tail IsMove entry more small) (All-tail (λ e. e.key.now ≢ key) entry more other)
    ∙ moved_there entry table key (All-head (λ e. e.key.now ≢ key) entry more other)

names : (name : List ℕ) (entry : Move) (later before : List Move) (table : Table) → All IsMove (before ++ entry ∷ later) → IsNotMoved entry.key.now later → carried_out name (commands_of name (before ++ entry ∷ later)) table entry.key.now ≡ Some entry.server
names name entry later [] table small last =
    ap (λ (t : Table). t entry.key.now) (step name table entry later (All-head IsMove entry later small))
    ∙ stays name entry.key.now later (moved entry table) (All-tail IsMove entry later small) last
    ∙ moved_here entry table
names name entry later (first ∷ before) table small last =
    ap (λ (t : Table). t entry.key.now) (step name table first (before ++ entry ∷ later) (All-head IsMove first (before ++ entry ∷ later) small))
    ∙ names name entry later before (moved first table) (All-tail IsMove first (before ++ entry ∷ later) small) last

pub moved_entries : MovedEntriesNameTheirServers
moved_entries name table before later entry small last = names name entry later before table small last

pub other_entries : OtherEntriesStay
other_entries name table moves key small other = stays name key moves table small other

-- commands for a table of another name
clears_none : (other name key : List ℕ) → other ≢ name → request_of other (clear_words name key) ≡ Other
unfolding request_of
clears_none other name key apart = ap (λ (b : Bool). cond (b && true) (Clear key) Other) (differ name other apart)

sets_none : (other name key : List ℕ) (server : ℕ) → other ≢ name → request_of other (set_words name key server) ≡ Other
unfolding request_of
sets_none other name key server apart =
    ap (λ (b : Bool). cond ((b && true) && true) (set_request key (numeral_of (decimal server))) Other) (differ name other apart)

unmoved : (other name key : List ℕ) → other ≢ name → (moves : List Move) (table : Table) → carried_out other (commands_of name moves) table key ≡ table key
unfolding commands_of
unmoved other name key apart [] table = refl
unmoved other name key apart (entry ∷ more) table =
    let moved_key = entry.key.now in
    let rest : List (List (List ℕ)) = commands_of name more in
    ap (λ request. carried_out other rest (after_request (request_of other (set_words name moved_key entry.server)) (after_request request table)) key) (clears_none other name moved_key apart)
    ∙ ap (λ request. carried_out other rest (after_request request table) key) (sets_none other name moved_key entry.server apart)
    ∙ unmoved other name key apart more table

pub other_tables : OtherTablesStay
other_tables name other table moves key apart = unmoved other name key apart moves table
