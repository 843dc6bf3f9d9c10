-- Lines of servers, read and spelled.
use Rattle.std.proofs.Common.{◌≡◌, ◌≢◌, ℕ, ◌+◌, ◌-◌, ◌^◌, ◌<◌, ◌≤◌, Bool, true, false, not, ◌&&◌, eqb, ltb, inl, inr, Option, Some, None, List, [], ◌∷◌, ◌++◌, length, get_or, take, drop, codes, Ok, refl, sym, ap, subst, ◌∙◌, arith, length-append}
use Rattle.std.specs.Fmt.{decimal}
use Rattle.std.specs.List.{All, AllPairs, list_all, position_or_len}
use Rattle.std.specs.Option.{ok_or, option_map_or, ForSome, is_none}
use Rattle.std.specs.Str.{bytes_eq}
use Rattle.std.proofs.lemmas.Bool.{cases_eq, cases_lt}
use Rattle.std.proofs.lemmas.Bool.Decides.{nat_tests}
use Rattle.std.proofs.lemmas.List.{get_or_append_left, get_or-append-add, take-append-drop, length-take-le}
use Rattle.std.proofs.lemmas.List.Elements.{All-nil, All-cons}
use Rattle.std.proofs.lemmas.List.Quantifiers.{position-Some}
use Rattle.std.proofs.lemmas.List.Sums.{position_or_len_is, fails_before_first}
use Rattle.std.proofs.lemmas.Option.{slice_get-get_or}
use Rattle.std.proofs.lemmas.Slice.Eq.{bytes_eq-Decides}
use Rattle.lb_types.specs.Names.{is_name, is_lawful, is_name_byte}
use Rattle.lb_types_text.specs.Parts.{parts}
use Rattle.lb_types_text.proofs.Joins.{HasNo, parts_join, free_join}
use Rattle.lb_types_text.proofs.Numerals.{numeral_again, decimal_free}
use Rattle.dual_cert_plan.specs.declared.server.PricedServer.{PricedServer}
use Rattle.dual_cert_text.specs.declared.fault.TextFault.TheVariants.{BadLine}
use Rattle.dual_cert_text.specs.declared.server_line.Usage.{Usage}
use Rattle.dual_cert_text.specs.declared.server_line.ServerWords.{ServerWords}
use Rattle.dual_cert_text.specs.ServerLines.{server_named, usage_of, server_words_of, in_range, priced_server, server_at}
use Rattle.dual_cert_text.specs.Spellings.{usage_words, server_line, name_at}
use Rattle.dual_cert_text.specs.Words.{keyed}
use Rattle.dual_cert_text.proofs.Steps.{and_true, bind_ok, bind_some, ok_or_ok, if_err, if_none, bytes_is, bytes_same}
use Rattle.dual_cert_text.proofs.WholeTexts.{keyed_found, gap_is_no_end}

-- the servers have names of their own
abbrev pub Distinct : List PricedServer → Type 0
Distinct servers = AllPairs (λ a b. a.server.name ≢ b.server.name) servers

-- a server that stands for one that isn't there
unfoldable pub nobody : PricedServer
nobody = record { server = record { name = []; capacity = None }; price = 0 }

pub bytes_differ : (a b : List ℕ) → bytes_eq a b ≡ false → a ≢ b
bytes_differ a b other same = let equal = (bytes_eq-Decides a b).1 same in cc

pub differ_bytes : (a b : List ℕ) → a ≢ b → bytes_eq a b ≡ false
differ_bytes a b other = by_value (bytes_eq a b) refl
  where
    by_value : (v : Bool) → bytes_eq a b ≡ v → bytes_eq a b ≡ false
    by_value true is = absurd (other (bytes_is a b is))
    by_value false is = is

pub name_at_is : (servers : List PricedServer) (i : ℕ) → i < length servers → name_at servers i ≡ (get_or servers i nobody).server.name
name_at_is servers i within = rw (slice_get-get_or servers i nobody within) refl

-- a server that was found has the name
pub named_found : (servers : List PricedServer) (word : List ℕ) (i : ℕ) → server_named servers word ≡ Some i → (i < length servers) × (name_at servers i ≡ word)
named_found servers word i is =
    let at = position-Some (λ s. bytes_eq s.server.name word) servers i nobody is in
    (at.0, name_at_is servers i at.0 ∙ bytes_is (get_or servers i nobody).server.name word at.1)

-- where none was found, no server has the name
pub named_none : (servers : List PricedServer) (word : List ℕ) → server_named servers word ≡ None → (k : ℕ) (d : PricedServer) → k < length servers → (get_or servers k d).server.name ≢ word
named_none servers word none k d within =
    let p : PricedServer → Bool = λ s. bytes_eq s.server.name word in
    let past : length servers ≤ position_or_len p servers = grind (arith, nat_tests) in
    bytes_differ _ word (fails_before_first p servers k d (omega arith))

-- a name that no server has is not found
pub named_none_again : (servers : List PricedServer) (word : List ℕ) → ((k : ℕ) → k < length servers → (get_or servers k nobody).server.name ≢ word) → server_named servers word ≡ None
named_none_again servers word differ =
    let p : PricedServer → Bool = λ s. bytes_eq s.server.name word in
    let past : position_or_len p servers ≡ length servers = position_or_len_is p servers (length servers) nobody (omega arith) (λ k within. differ_bytes _ word (differ k within)) (λ within. absurd (omega arith)) in
    let no : ltb (position_or_len p servers) (length servers) ≡ false = grind (arith, nat_tests) in
    rw no refl

-- each server is found by its name
pub named_again : (servers : List PricedServer) (i : ℕ) → Distinct servers → i < length servers → server_named servers (name_at servers i) ≡ Some i
named_again servers i distinct within =
    let p : PricedServer → Bool = λ s. bytes_eq s.server.name (get_or servers i nobody).server.name in
    let at : position_or_len p servers ≡ i = position_or_len_is p servers i nobody (omega arith) (λ k before. differ_bytes _ _ (distinct k i nobody before within)) (λ in'. bytes_same (get_or servers i nobody).server.name) in
    let yes : ltb (position_or_len p servers) (length servers) ≡ true = grind (arith, nat_tests) in
    ap (server_named servers) (name_at_is servers i within) ∙ rw (yes, at) refl

-- a name holds no byte that names don't have
name_bytes_free : (mark : ℕ) (bytes : List ℕ) → is_name_byte mark ≡ false → list_all is_name_byte bytes ≡ true → HasNo mark bytes
name_bytes_free mark [] other lawful = All-nil (λ b. eqb b mark ≡ false)
name_bytes_free mark (b ∷ bytes) other lawful =
    let parts = and_true (is_name_byte b) _ lawful in
    All-cons (λ x. eqb x mark ≡ false) b bytes (byte_differs b mark parts.0 other) (name_bytes_free mark bytes other parts.1)
  where
    byte_differs : (b mark : ℕ) → is_name_byte b ≡ true → is_name_byte mark ≡ false → eqb b mark ≡ false
    byte_differs b mark yes_b no_mark' =
        elim (cases_eq b mark) [
          | inl equal ↦ let same : is_name_byte b ≡ is_name_byte mark = ap is_name_byte equal in cc
          | inr differs ↦ grind (arith, nat_tests)
        ]

name_parts : (bytes : List ℕ) → is_name bytes ≡ true → list_all is_name_byte bytes ≡ true
name_parts bytes name =
    let lawful = and_true (not (eqb (length bytes) 0) && _) (is_lawful bytes) name in
    (and_true (list_all is_name_byte bytes) _ lawful.1).0

pub name_free : (mark : ℕ) (bytes : List ℕ) → is_name_byte mark ≡ false → is_name bytes ≡ true → HasNo mark bytes
name_free mark bytes other name = name_bytes_free mark bytes other (name_parts bytes name)

-- a name is not the word for no server
pub name_not_dash : (bytes : List ℕ) → is_name bytes ≡ true → bytes_eq bytes (codes "-") ≡ false
name_not_dash bytes name = differ_bytes bytes (codes "-") (λ same. let dash : false ≡ true = sym (ap is_name same) ∙ name in cc)

-- what is kept of the words behind `server`
pub record IsServerLine (servers : List PricedServer) (words : List (List ℕ)) (s : PricedServer) : Type 0 where
  pub few : length servers < 128
  pub name : is_name s.server.name ≡ true
  pub new : server_named servers s.server.name ≡ None
  pub capacity : ForSome s.server.capacity (λ c. c < 2 ^ 32)
  pub price : s.price < 2 ^ 40
  pub off : s.server.capacity ≡ None → s.price ≡ 0
  pub spelled : words ≡ s.server.name ∷ usage_words s.server.capacity s.price

pub in_range_found : (u : Usage) → in_range u ≡ true → ForSome u.capacity (λ c. c < 2 ^ 32) × (u.price < 2 ^ 40)
in_range_found u is =
    let parts = and_true (option_map_or (λ c. ltb c (2 ^ 32)) u.capacity true) (ltb u.price (2 ^ 40)) is in
    ((λ c e. let small : ltb c (2 ^ 32) ≡ true = rw e at parts.0 in grind (arith, nat_tests)), grind (arith, nat_tests, parts.1))

usage_four : (cap c price p : List ℕ) (n m : ℕ) (u : Usage) → keyed (codes "cap") cap c ≡ Some n → keyed (codes "price") price p ≡ Some m → n < 2 ^ 32 → m < 2 ^ 40 → cap ∷ c ∷ price ∷ p ∷ [] ≡ usage_words (Some n) m
usage_four cap c price p n m u first second small_n small_m =
    let one = keyed_found (codes "cap") cap c n first (omega arith) in
    let two = keyed_found (codes "price") price p m second (omega arith) in
    rw (one.0, one.1, two.0, two.1) refl

usage_found : (words : List (List ℕ)) (u : Usage) → usage_of true words ≡ Some u → in_range u ≡ true → (words ≡ usage_words u.capacity u.price) × (u.capacity ≡ None → u.price ≡ 0)
unfolding usage_of
usage_found [] u is fits = cc
usage_found (word ∷ []) u is fits =
    let off = if_none (bytes_eq word (codes "off")) _ _ is in
    let made : Usage = record { capacity = None; price = 0 } in
    let same : made ≡ u = (let e = off.1 in cc) in
    (rw (bytes_is word (codes "off") off.0, ← same) refl, λ _. rw (← same) refl)
usage_found (cap ∷ c ∷ []) u is fits = cc
usage_found (cap ∷ c ∷ price ∷ []) u is fits = cc
usage_found (cap ∷ c ∷ price ∷ p ∷ []) u is fits =
    let one = bind_some (keyed (codes "cap") cap c) _ u is in
    let two = bind_some (keyed (codes "price") price p) _ u one.2 in
    let made : Usage = record { capacity = Some one.0; price = two.0 } in
    let same : made ≡ u = (let e = two.2 in cc) in
    let small = in_range_found made (let F : Usage → Type 0 = λ v. in_range v ≡ true in subst F (sym same) fits) in
    let spelled = usage_four cap c price p one.0 two.0 u one.1 two.1 (small.0 one.0 refl) small.1 in
    let F : Usage → Type 0 = λ v. (cap ∷ c ∷ price ∷ p ∷ [] ≡ usage_words v.capacity v.price) × (v.capacity ≡ None → v.price ≡ 0) in
    subst F same (spelled, λ none. absurd (some_is_none one.0 none))
  where
    some_is_none : (n : ℕ) → Some n ≡ None → ⊥
    some_is_none n is' = cc
usage_found (cap ∷ c ∷ price ∷ p ∷ word ∷ words) u is fits = cc

server_words_found : (servers : List PricedServer) (words : List (List ℕ)) (said : ServerWords) → server_words_of true servers words ≡ Some said → in_range said.usage ≡ true → length servers < 128 → IsServerLine servers words (priced_server said)
unfolding server_words_of
server_words_found servers [] said is fits few = absurd (none_is_some said is)
  where
    none_is_some : (x : ServerWords) → None ≡ Some x → ⊥
    none_is_some x e = cc
server_words_found servers (name ∷ words) said is fits few =
    let named = if_none (is_name name && is_none (server_named servers name)) _ _ is in
    let both = and_true (is_name name) (is_none (server_named servers name)) named.0 in
    let usage = bind_some (usage_of true words) _ said named.1 in
    let made : ServerWords = record { name = name; usage = usage.0 } in
    let same : made ≡ said = (let e = usage.2 in cc) in
    let F : ServerWords → Type 0 = λ v. IsServerLine servers (name ∷ words) (priced_server v) in
    let fits' : in_range usage.0 ≡ true = (let G : ServerWords → Type 0 = λ v. in_range v.usage ≡ true in subst G (sym same) fits) in
    let found = usage_found words usage.0 usage.1 fits' in
    let small = in_range_found usage.0 fits' in
    subst F same (record {
      few = few;
      name = both.0;
      new = none_is (server_named servers name) both.1;
      capacity = small.0;
      price = small.1;
      off = found.1;
      spelled = ap (λ ws. name ∷ ws) found.0;
    })
  where
    none_is : (o : Option ℕ) → is_none o ≡ true → o ≡ None
    none_is None yes' = refl
    none_is (Some x) yes' = cc

-- what is known of a server line that is read
pub server_found : (n : ℕ) (servers : List PricedServer) (words : List (List ℕ)) (s : PricedServer) → server_at n true servers words ≡ Ok s → IsServerLine servers words s
unfolding server_at
server_found n servers words s is =
    let said = bind_ok (ok_or (server_words_of true servers words) (BadLine n)) _ s is in
    let fits = if_err (ltb (length servers) 128 && in_range said.0.usage) _ _ _ said.2 in
    let both = and_true (ltb (length servers) 128) (in_range said.0.usage) fits.0 in
    let few : length servers < 128 = (let h = both.0 in grind (arith, nat_tests)) in
    let same : priced_server said.0 ≡ s = (let e = fits.1 in cc) in
    let F : PricedServer → Type 0 = λ v. IsServerLine servers words v in
    subst F same (server_words_found servers words said.0 (ok_or_ok _ _ _ said.1) both.1 few)

usage_again : (capacity : Option ℕ) (price : ℕ) → ForSome capacity (λ c. c < 2 ^ 32) → price < 2 ^ 40 → (capacity ≡ None → price ≡ 0) → usage_of true (usage_words capacity price) ≡ Some (record { capacity = capacity; price = price })
unfolding usage_of keyed
usage_again None price small_c small_p off = rw (off refl) refl
usage_again (Some c) price small_c small_p off =
    let n = numeral_again c (let b : c < 2 ^ 32 = small_c c refl in omega arith) in
    let m = numeral_again price (omega arith) in
    rw (n, m) refl

pub in_range_again : (capacity : Option ℕ) (price : ℕ) → ForSome capacity (λ c. c < 2 ^ 32) → price < 2 ^ 40 → in_range (record { capacity = capacity; price = price }) ≡ true
in_range_again None price small_c small_p = grind (arith, nat_tests)
in_range_again (Some c) price small_c small_p =
    let b : c < 2 ^ 32 = small_c c refl in
    let one : ltb c (2 ^ 32) ≡ true = grind (arith, nat_tests) in
    let two : ltb price (2 ^ 40) ≡ true = grind (arith, nat_tests) in
    rw (one, two) refl

-- a server line is read again
pub server_again : (n : ℕ) (servers : List PricedServer) (s : PricedServer) → IsServerLine servers (s.server.name ∷ usage_words s.server.capacity s.price) s → server_at n true servers (s.server.name ∷ usage_words s.server.capacity s.price) ≡ Ok s
unfolding server_at server_words_of
server_again n servers s line =
    let usage = usage_again s.server.capacity s.price line.capacity line.price line.off in
    let fits = in_range_again s.server.capacity s.price line.capacity line.price in
    let few : ltb (length servers) 128 ≡ true = (let h = line.few in grind (arith, nat_tests)) in
    rw (line.name, line.new, usage, few, fits) refl

-- a word of bytes above a mark doesn't hold it
pub above_mark : (mark : ℕ) (bytes : List ℕ) → mark < 44 → list_all (λ b. ltb 44 b) bytes ≡ true → HasNo mark bytes
above_mark mark [] below above = All-nil (λ b. eqb b mark ≡ false)
above_mark mark (b ∷ bytes) below above =
    let parts = and_true (ltb 44 b) _ above in
    All-cons (λ x. eqb x mark ≡ false) b bytes (let h = parts.0 in grind (arith, nat_tests)) (above_mark mark bytes below parts.1)

pub digits_free : (mark n : ℕ) → mark < 44 → n < 2 ^ 64 → HasNo mark (decimal n)
digits_free mark n below small = decimal_free mark n small (λ within. omega (arith, within.0))

-- the words of a server line hold no gap and no line end
usage_free : (mark : ℕ) (capacity : Option ℕ) (price : ℕ) → mark < 44 → ForSome capacity (λ c. c < 2 ^ 32) → price < 2 ^ 40 → All (HasNo mark) (usage_words capacity price)
usage_free mark None price below small_c small_p = All-cons (HasNo mark) (codes "off") [] (above_mark mark (codes "off") below refl) (All-nil (HasNo mark))
usage_free mark (Some c) price below small_c small_p =
    let b : c < 2 ^ 32 = small_c c refl in
    All-cons (HasNo mark) (codes "cap") (decimal c ∷ codes "price" ∷ decimal price ∷ []) (above_mark mark (codes "cap") below refl)
    (All-cons (HasNo mark) (decimal c) (codes "price" ∷ decimal price ∷ []) (digits_free mark c below (omega arith))
    (All-cons (HasNo mark) (codes "price") (decimal price ∷ []) (above_mark mark (codes "price") below refl)
    (All-cons (HasNo mark) (decimal price) [] (digits_free mark price below (omega arith)) (All-nil (HasNo mark)))))

pub server_words_free : (mark : ℕ) (s : PricedServer) → mark < 44 → is_name_byte mark ≡ false → is_name s.server.name ≡ true → ForSome s.server.capacity (λ c. c < 2 ^ 32) → s.price < 2 ^ 40 → All (HasNo mark) (codes "server" ∷ s.server.name ∷ usage_words s.server.capacity s.price)
server_words_free mark s below other name capacity price =
    let usage = usage_words s.server.capacity s.price in
    All-cons (HasNo mark) (codes "server") (s.server.name ∷ usage) (above_mark mark (codes "server") below refl)
    (All-cons (HasNo mark) s.server.name usage (name_free mark s.server.name other name) (usage_free mark s.server.capacity s.price below capacity price))

-- a server line comes apart again, holds no line end, and isn't the line `end`
pub server_line_apart : (s : PricedServer) → is_name s.server.name ≡ true → ForSome s.server.capacity (λ c. c < 2 ^ 32) → s.price < 2 ^ 40 → parts 32 (server_line s) ≡ codes "server" ∷ s.server.name ∷ usage_words s.server.capacity s.price
unfolding server_line
server_line_apart s name capacity price =
    parts_join 32 (codes "server") (s.server.name ∷ usage_words s.server.capacity s.price) (server_words_free 32 s (omega arith) refl name capacity price)

pub server_line_free : (s : PricedServer) → is_name s.server.name ≡ true → ForSome s.server.capacity (λ c. c < 2 ^ 32) → s.price < 2 ^ 40 → HasNo 10 (server_line s)
unfolding server_line
server_line_free s name capacity price =
    free_join 10 32 (codes "server") (s.server.name ∷ usage_words s.server.capacity s.price) gap_is_no_end (server_words_free 10 s (omega arith) refl name capacity price)

pub server_line_goes_on : (s : PricedServer) → bytes_eq (server_line s) (codes "end") ≡ false
unfolding server_line
server_line_goes_on s = refl

name_left : (front back : List PricedServer) (i : ℕ) → i < length front → name_at (front ++ back) i ≡ name_at front i
name_left front back i within =
    name_at_is (front ++ back) i (omega (arith, within, length-append front back))
    ∙ ap (λ s. s.server.name) (get_or_append_left front back nobody i within)
    ∙ sym (name_at_is front i within)

name_right : (front back : List PricedServer) (i : ℕ) → i < length back → name_at (front ++ back) (length front + i) ≡ name_at back i
name_right front back i within =
    name_at_is (front ++ back) (length front + i) (omega (arith, within, length-append front back))
    ∙ ap (λ s. s.server.name) (get_or-append-add front back i nobody)
    ∙ sym (name_at_is back i within)

-- a name that the later servers have is found there, since no earlier one has it
named_later : (front back : List PricedServer) (word : List ℕ) (i : ℕ) → Distinct (front ++ back) → server_named back word ≡ Some i → server_named (front ++ back) word ≡ Some (length front + i)
named_later front back word i distinct is =
    let at = named_found back word i is in
    ap (server_named (front ++ back)) (sym at.1 ∙ sym (name_right front back i at.0))
    ∙ named_again (front ++ back) (length front + i) distinct (omega (arith, at.0, length-append front back))

-- a name that no later server has is found among the earlier ones, if at all
named_earlier : (front back : List PricedServer) (word : List ℕ) → Distinct (front ++ back) → server_named back word ≡ None → server_named (front ++ back) word ≡ server_named front word
named_earlier front back word distinct none = by_value (server_named front word) refl
  where
    apart : (k : ℕ) → server_named front word ≡ None → k < length (front ++ back) → (get_or (front ++ back) k nobody).server.name ≢ word
    apart k none_front within =
        elim (cases_lt k (length front)) [
          | inl earlier ↦ rw (get_or_append_left front back nobody k earlier) (named_none front word none_front k nobody earlier)
          | inr later ↦
              let place : k ≡ length front + (k - length front) = omega arith in
              let in' : k - length front < length back = omega (arith, within, length-append front back) in
              rw (place, get_or-append-add front back (k - length front) nobody) (named_none back word none (k - length front) nobody in')
        ]

    by_value : (o : Option ℕ) → server_named front word ≡ o → server_named (front ++ back) word ≡ o
    by_value None is = named_none_again (front ++ back) word (λ k within. apart k is within)
    by_value (Some i) is =
        let at = named_found front word i is in
        ap (server_named (front ++ back)) (sym at.1 ∙ sym (name_left front back i at.0))
        ∙ named_again (front ++ back) i distinct (omega (arith, at.0, length-append front back))

-- a name that the servers from a number on have is found there
pub named_from_on : (servers : List PricedServer) (from : ℕ) (word : List ℕ) (i : ℕ) → Distinct servers → from ≤ length servers → server_named (drop from servers) word ≡ Some i → server_named servers word ≡ Some (from + i)
named_from_on servers from word i distinct within is =
    let whole = take-append-drop from servers in
    let D : List PricedServer → Type 0 = λ ss. Distinct ss in
    let found = named_later (take from servers) (drop from servers) word i (subst D (sym whole) distinct) is in
    ap (λ ss. server_named ss word) (sym whole) ∙ found ∙ ap (λ n. Some (n + i)) (length-take-le from servers within)

-- a name that none of them has is found before, if at all
pub named_before : (servers : List PricedServer) (from : ℕ) (word : List ℕ) → Distinct servers → server_named (drop from servers) word ≡ None → server_named servers word ≡ server_named (take from servers) word
named_before servers from word distinct none =
    let whole = take-append-drop from servers in
    let D : List PricedServer → Type 0 = λ ss. Distinct ss in
    ap (λ ss. server_named ss word) (sym whole) ∙ named_earlier (take from servers) (drop from servers) word (subst D (sym whole) distinct) none
