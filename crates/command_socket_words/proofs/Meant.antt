-- What a word means where a name, a server or a number is due, both ways.
use Rattle.std.proofs.Common.{◌≡◌, ◌≢◌, ℕ, ◌^◌, ◌<◌, Bool, true, false, not, ◌&&◌, cond, eqb, ltb, inl, inr, Option, Some, None, List, [], ◌∷◌, length, Ok, Err, refl, sym, ap, ◌∙◌, arith}
use Rattle.std.specs.List.{list_all, join_with_byte}
use Rattle.std.specs.Option.{ok_or}
use Rattle.std.specs.Str.Parse.{digits_value}
use Rattle.std.proofs.lemmas.Bool.{cases_eq, lt-ltb}
use Rattle.std.proofs.lemmas.Bool.Decides.{nat_tests}
use Rattle.std.proofs.lemmas.List.Elements.{All-nil, All-cons}
use Rattle.lb_types.specs.Names.{is_name, is_lawful, is_name_byte}
use Rattle.lb_types_text.specs.Numbers.{is_number}
use Rattle.lb_types_text.specs.Parts.{parts}
use Rattle.lb_types_text.proofs.Joins.{HasNo, part_before, part_alone, join_parts}
use Rattle.command_socket_words.specs.declared.command.ServerName.{ServerName}
use Rattle.command_socket_words.specs.declared.fault.CommandFault.{CommandFault}
use Rattle.command_socket_words.specs.declared.fault.CommandFault.TheVariants.{UnknownCommand, MissingWord, BadNumber}
use Rattle.command_socket_words.specs.Meanings.{server_word, IsNumeral}
use Rattle.command_socket_words.specs.Values.{name_in, server_of, server_in, number_in}
use Rattle.command_socket_words.specs.Words.{Word}
use Rattle.command_socket_words.proofs.Steps.{if_err, if_none, ok_or_ok, and_true}

-- a choice of a value or another fault misses no word
choice_misses_none : {A : Type 0} (b : Bool) (x : A) (e : CommandFault) → e ≢ MissingWord → cond b (Ok x) (Err e) ≢ Err MissingWord
choice_misses_none true x e other is = cc
choice_misses_none false x e other is = let same : e ≡ MissingWord = cc in other same

pub name_misses_none : (word : Word) → name_in word ≢ Err MissingWord
unfolding name_in
name_misses_none word = choice_misses_none (is_name word) word UnknownCommand (λ same. cc)

pub number_misses_none : (word : Word) → number_in word ≢ Err MissingWord
unfolding number_in
number_misses_none word = choice_misses_none _ (digits_value 10 word) BadNumber (λ same. cc)

ok_or_misses_none : {A : Type 0} (o : Option A) → ok_or o UnknownCommand ≢ Err MissingWord
ok_or_misses_none None is = cc
ok_or_misses_none (Some x) is = cc

pub server_misses_none : (word : Word) → server_in word ≢ Err MissingWord
unfolding server_in
server_misses_none word = ok_or_misses_none (server_of (parts 47 word))

pub name_found : (word : Word) (name : List ℕ) → name_in word ≡ Ok name → (word ≡ name) × (is_name name ≡ true)
unfolding name_in
name_found word name is =
    let test = if_err (is_name word) UnknownCommand (Ok word) name is in
    let same : word ≡ name = cc in
    (same, sym (ap is_name same) ∙ test.0)

pub name_again : (name : List ℕ) → is_name name ≡ true → name_in name ≡ Ok name
unfolding name_in
name_again name lawful = rw lawful refl

-- a name holds no byte that names don't have
bytes_free : (mark : ℕ) (bytes : List ℕ) → is_name_byte mark ≡ false → list_all is_name_byte bytes ≡ true → HasNo mark bytes
bytes_free mark [] other lawful = All-nil (λ b. eqb b mark ≡ false)
bytes_free mark (b ∷ bytes) other lawful =
    let both = and_true (is_name_byte b) _ lawful in
    All-cons (λ x. eqb x mark ≡ false) b bytes (byte_differs b mark both.0 other) (bytes_free mark bytes other both.1)
  where
    byte_differs : (b mark : ℕ) → is_name_byte b ≡ true → is_name_byte mark ≡ false → eqb b mark ≡ false
    byte_differs b mark yes_b no_mark =
        elim (cases_eq b mark) [
          | inl equal ↦ let same : is_name_byte b ≡ is_name_byte mark = ap is_name_byte equal in cc
          | inr differs ↦ grind (arith, nat_tests)
        ]

pub name_free : (mark : ℕ) (bytes : List ℕ) → is_name_byte mark ≡ false → is_name bytes ≡ true → HasNo mark bytes
name_free mark bytes other name =
    let lawful = and_true (not (eqb (length bytes) 0) && _) (is_lawful bytes) name in
    bytes_free mark bytes other (and_true (list_all is_name_byte bytes) _ lawful.1).0

-- two names with a slash between them come apart again
pub server_again : (server : ServerName) → is_name server.backend ≡ true → is_name server.server ≡ true → server_in (server_word server) ≡ Ok server
unfolding server_in server_of
server_again server backend name =
    let first = part_before 47 server.backend server.server (name_free 47 server.backend refl backend) in
    let second = part_alone 47 server.server (name_free 47 server.server refl name) in
    rw (first, second, backend, name) refl

abbrev pair : List ℕ → List ℕ → ServerName
pair x y = record { backend = x; server = y }

server_of_found : (words : List (List ℕ)) (server : ServerName) → server_of words ≡ Some server → (words ≡ server.backend ∷ server.server ∷ []) × (is_name server.backend ≡ true) × (is_name server.server ≡ true)
unfolding server_of
server_of_found [] server is = cc
server_of_found (b ∷ []) server is = cc
server_of_found (b ∷ s ∷ []) server is =
    let test = if_none (is_name b && is_name s) (Some (pair b s)) server is in
    let names = and_true (is_name b) (is_name s) test.0 in
    let same : pair b s ≡ server = cc in
    let backend : b ≡ server.backend = ap (λ (x : ServerName). x.backend) same in
    let name : s ≡ server.server = ap (λ (x : ServerName). x.server) same in
    (rw (backend, name) refl, sym (ap is_name backend) ∙ names.0, sym (ap is_name name) ∙ names.1)
server_of_found (b ∷ s ∷ more ∷ rest) server is = cc

pub server_found : (word : Word) (server : ServerName) → server_in word ≡ Ok server → (word ≡ server_word server) × (is_name server.backend ≡ true) × (is_name server.server ≡ true)
unfolding server_in
server_found word server is =
    let found = server_of_found (parts 47 word) server (ok_or_ok _ UnknownCommand server is) in
    (sym (join_parts 47 word) ∙ ap (join_with_byte 47) found.0, found.1, found.2)

pub number_found : (word : Word) (n : ℕ) → number_in word ≡ Ok n → IsNumeral word n × (n < 2 ^ 64)
unfolding number_in
number_found word n is =
    let test = if_err (is_number word && ltb (digits_value 10 word) (2 ^ 64)) BadNumber (Ok (digits_value 10 word)) n is in
    let both = and_true (is_number word) (ltb (digits_value 10 word) (2 ^ 64)) test.0 in
    let same : digits_value 10 word ≡ n = cc in
    ((both.0, same), grind (arith, nat_tests, both.1, same))

pub number_again : (word : Word) (n : ℕ) → IsNumeral word n → n < 2 ^ 64 → number_in word ≡ Ok n
unfolding number_in
number_again word n numeral small = rw (numeral.1, numeral.0, lt-ltb n (2 ^ 64) small) refl
