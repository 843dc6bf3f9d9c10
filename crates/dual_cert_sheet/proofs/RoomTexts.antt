-- Lines of a sheet's servers, read and spelled.
use Rattle.std.proofs.Common.{◌≡◌, ℕ, ◌^◌, ◌<◌, true, false, ◌&&◌, ltb, Option, Some, None, List, [], ◌∷◌, length, codes, Ok, refl, sym, ap, subst, arith}
use Rattle.std.specs.Fmt.{decimal}
use Rattle.std.specs.List.{All}
use Rattle.std.specs.Option.{ok_or, ForSome, is_none}
use Rattle.std.specs.Str.{bytes_eq}
use Rattle.std.proofs.lemmas.Bool.Decides.{nat_tests}
use Rattle.std.proofs.lemmas.List.Elements.{All-nil, All-cons}
use Rattle.lb_types.specs.Names.{is_name, is_name_byte}
use Rattle.lb_types_text.specs.Parts.{parts}
use Rattle.lb_types_text.proofs.Joins.{HasNo, parts_join, free_join}
use Rattle.lb_types_text.proofs.Numerals.{numeral_again}
use Rattle.dual_cert_plan.specs.declared.server.Server.{Server}
use Rattle.dual_cert_plan.specs.declared.server.PricedServer.{PricedServer}
use Rattle.dual_cert_plan.specs.Plans.{servers_of}
use Rattle.dual_cert_text.specs.declared.fault.TextFault.TheVariants.{BadLine}
use Rattle.dual_cert_text.specs.declared.server_line.Usage.{Usage}
use Rattle.dual_cert_text.specs.declared.server_line.ServerWords.{ServerWords}
use Rattle.dual_cert_text.specs.ServerLines.{server_named, usage_of, server_words_of, in_range, priced_server, server_at}
use Rattle.dual_cert_text.specs.Words.{keyed}
use Rattle.dual_cert_text.proofs.ServerTexts.{in_range_found, in_range_again, above_mark, digits_free, name_free}
use Rattle.dual_cert_text.proofs.Steps.{and_true, bind_ok, bind_some, ok_or_ok, if_err, if_none, bytes_is}
use Rattle.dual_cert_text.proofs.WholeTexts.{keyed_found, gap_is_no_end}
use Rattle.dual_cert_sheet.specs.SheetTexts.{free_server, at_no_price}
use Rattle.dual_cert_sheet.specs.SheetSpellings.{room_words, sheet_server_line}

-- the servers that are listed at no price are the same
pub same_servers : (servers : List Server) → servers_of (at_no_price servers) ≡ servers
same_servers [] = refl
same_servers (s ∷ servers) = ap (λ rest. s ∷ rest) (same_servers servers)

-- what is kept of the words behind `server`
pub record IsRoomLine (servers : List PricedServer) (words : List (List ℕ)) (s : Server) : Type 0 where
  pub few : length servers < 128
  pub name : is_name s.name ≡ true
  pub new : server_named servers s.name ≡ None
  pub capacity : ForSome s.capacity (λ c. c < 2 ^ 32)
  pub spelled : words ≡ s.name ∷ room_words s.capacity

room_two : (cap c : List ℕ) (n : ℕ) → keyed (codes "cap") cap c ≡ Some n → n < 2 ^ 32 → cap ∷ c ∷ [] ≡ room_words (Some n)
room_two cap c n is small =
    let said = keyed_found (codes "cap") cap c n is (omega arith) in
    rw (said.0, said.1) refl

room_found : (words : List (List ℕ)) (u : Usage) → usage_of false words ≡ Some u → in_range u ≡ true → (words ≡ room_words u.capacity) × (u.price ≡ 0)
unfolding usage_of
room_found [] u is fits = cc
room_found (word ∷ []) u is fits =
    let off = if_none (bytes_eq word (codes "off")) _ _ is in
    let made : Usage = record { capacity = None; price = 0 } in
    let same : made ≡ u = (let e = off.1 in cc) in
    rw (← same) (ap (λ w. w ∷ []) (bytes_is word (codes "off") off.0), refl)
room_found (cap ∷ c ∷ []) u is fits =
    let one = bind_some (keyed (codes "cap") cap c) _ u is in
    let made : Usage = record { capacity = Some one.0; price = 0 } in
    let same : made ≡ u = (let e = one.2 in cc) in
    let small = in_range_found made (let F : Usage → Type 0 = λ v. in_range v ≡ true in subst F (sym same) fits) in
    let spelled = room_two cap c one.0 one.1 (small.0 one.0 refl) in
    let F : Usage → Type 0 = λ v. (cap ∷ c ∷ [] ≡ room_words v.capacity) × (v.price ≡ 0) in
    subst F same (spelled, refl)
room_found (cap ∷ c ∷ word ∷ words) u is fits = cc

room_line : (servers : List PricedServer) (words : List (List ℕ)) (said : ServerWords) → server_words_of false servers words ≡ Some said → in_range said.usage ≡ true → length servers < 128 → IsRoomLine servers words (priced_server said).server × (said.usage.price ≡ 0)
unfolding server_words_of
room_line servers [] said is fits few = absurd (none_is_some said is)
  where
    none_is_some : (x : ServerWords) → None ≡ Some x → ⊥
    none_is_some x e = cc
room_line servers (name ∷ words) said is fits few =
    let named = if_none (is_name name && is_none (server_named servers name)) _ _ is in
    let both = and_true (is_name name) (is_none (server_named servers name)) named.0 in
    let usage = bind_some (usage_of false words) _ said named.1 in
    let made : ServerWords = record { name = name; usage = usage.0 } in
    let same : made ≡ said = (let e = usage.2 in cc) in
    let F : ServerWords → Type 0 = λ v. IsRoomLine servers (name ∷ words) (priced_server v).server × (v.usage.price ≡ 0) in
    let fits' : in_range usage.0 ≡ true = (let G : ServerWords → Type 0 = λ v. in_range v.usage ≡ true in subst G (sym same) fits) in
    let found = room_found words usage.0 usage.1 fits' in
    let small = in_range_found usage.0 fits' in
    subst F same (
      record {
        few = few;
        name = both.0;
        new = none_is (server_named servers name) both.1;
        capacity = small.0;
        spelled = ap (λ ws. name ∷ ws) found.0;
      },
      found.1,
    )
  where
    none_is : (o : Option ℕ) → is_none o ≡ true → o ≡ None
    none_is None yes' = refl
    none_is (Some x) yes' = cc

-- what is known of a server line that is read
pub server_found : (n : ℕ) (servers : List PricedServer) (words : List (List ℕ)) (s : PricedServer) → server_at n false servers words ≡ Ok s → IsRoomLine servers words s.server × (s.price ≡ 0)
unfolding server_at
server_found n servers words s is =
    let said = bind_ok (ok_or (server_words_of false servers words) (BadLine n)) _ s is in
    let fits = if_err (ltb (length servers) 128 && in_range said.0.usage) _ _ _ said.2 in
    let both = and_true (ltb (length servers) 128) (in_range said.0.usage) fits.0 in
    let few : length servers < 128 = (let h = both.0 in grind (arith, nat_tests)) in
    let same : priced_server said.0 ≡ s = (let e = fits.1 in cc) in
    let F : PricedServer → Type 0 = λ v. IsRoomLine servers words v.server × (v.price ≡ 0) in
    subst F same (room_line servers words said.0 (ok_or_ok _ _ _ said.1) both.1 few)

room_again : (capacity : Option ℕ) → ForSome capacity (λ c. c < 2 ^ 32) → usage_of false (room_words capacity) ≡ Some (record { capacity = capacity; price = 0 })
unfolding usage_of keyed
room_again None small = refl
room_again (Some c) small =
    let n = numeral_again c (let b : c < 2 ^ 32 = small c refl in omega arith) in
    rw n refl

-- a server line is read again
pub server_again : (n : ℕ) (servers : List PricedServer) (s : Server) → IsRoomLine servers (s.name ∷ room_words s.capacity) s → server_at n false servers (s.name ∷ room_words s.capacity) ≡ Ok (free_server s)
unfolding server_at server_words_of
server_again n servers s line =
    let usage = room_again s.capacity line.capacity in
    let fits = in_range_again s.capacity 0 line.capacity (omega arith) in
    let few : ltb (length servers) 128 ≡ true = (let h = line.few in grind (arith, nat_tests)) in
    rw (line.name, line.new, usage, few, fits) refl

-- the words of a server line hold no gap and no line end
room_free : (mark : ℕ) (capacity : Option ℕ) → mark < 44 → ForSome capacity (λ c. c < 2 ^ 32) → All (HasNo mark) (room_words capacity)
room_free mark None below small = All-cons (HasNo mark) (codes "off") [] (above_mark mark (codes "off") below refl) (All-nil (HasNo mark))
room_free mark (Some c) below small =
    let b : c < 2 ^ 32 = small c refl in
    All-cons (HasNo mark) (codes "cap") (decimal c ∷ []) (above_mark mark (codes "cap") below refl)
    (All-cons (HasNo mark) (decimal c) [] (digits_free mark c below (omega arith)) (All-nil (HasNo mark)))

server_words_free : (mark : ℕ) (s : Server) → mark < 44 → is_name_byte mark ≡ false → is_name s.name ≡ true → ForSome s.capacity (λ c. c < 2 ^ 32) → All (HasNo mark) (codes "server" ∷ s.name ∷ room_words s.capacity)
server_words_free mark s below other name capacity =
    let room = room_words s.capacity in
    All-cons (HasNo mark) (codes "server") (s.name ∷ room) (above_mark mark (codes "server") below refl)
    (All-cons (HasNo mark) s.name room (name_free mark s.name other name) (room_free mark s.capacity below capacity))

-- a server line comes apart again, holds no line end, and isn't the line `end`
pub server_line_apart : (s : Server) → is_name s.name ≡ true → ForSome s.capacity (λ c. c < 2 ^ 32) → parts 32 (sheet_server_line s) ≡ codes "server" ∷ s.name ∷ room_words s.capacity
unfolding sheet_server_line
server_line_apart s name capacity =
    parts_join 32 (codes "server") (s.name ∷ room_words s.capacity) (server_words_free 32 s (omega arith) refl name capacity)

pub server_line_free : (s : Server) → is_name s.name ≡ true → ForSome s.capacity (λ c. c < 2 ^ 32) → HasNo 10 (sheet_server_line s)
unfolding sheet_server_line
server_line_free s name capacity =
    free_join 10 32 (codes "server") (s.name ∷ room_words s.capacity) gap_is_no_end (server_words_free 10 s (omega arith) refl name capacity)

pub server_line_goes_on : (s : Server) → bytes_eq (sheet_server_line s) (codes "end") ≡ false
unfolding sheet_server_line
server_line_goes_on s = refl
