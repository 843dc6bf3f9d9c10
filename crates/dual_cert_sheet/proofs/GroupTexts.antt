-- Lines of groups, read and spelled.
use Rattle.std.proofs.Common.{◌≡◌, ℕ, ◌<◌, ◌≤◌, Bool, true, false, cond, Option, Some, List, [], ◌∷◌, length, codes, refl, subst, arith}
use Rattle.std.specs.Fmt.{decimal}
use Rattle.std.specs.List.{All}
use Rattle.std.specs.Option.{ForSome}
use Rattle.std.specs.Str.{bytes_eq}
use Rattle.std.proofs.lemmas.List.Elements.{All-cons}
use Rattle.lb_types.specs.Names.{is_name, is_name_byte}
use Rattle.lb_types.specs.Servers.{has}
use Rattle.lb_types_text.specs.Parts.{parts}
use Rattle.lb_types_text.proofs.Joins.{HasNo, parts_join, free_join}
use Rattle.lb_types_pins.specs.declared.kind.Group.{Group}
use Rattle.dual_cert_plan.specs.declared.server.Server.{Server}
use Rattle.dual_cert_plan.specs.declared.server.PricedServer.{PricedServer}
use Rattle.dual_cert_text.specs.declared.kind_words.SetWord.{SetWord}
use Rattle.dual_cert_text.specs.RowLines.{place_of, is_open, set_of, cost_of}
use Rattle.dual_cert_text.specs.Spellings.{place_word, set_word}
use Rattle.dual_cert_text.specs.Words.{positive_of}
use Rattle.dual_cert_text.proofs.RowTexts.{positive_found, positive_again, place_found, place_again, set_found, set_again, cost_found, cost_again, place_free, set_free, cost_free}
use Rattle.dual_cert_text.proofs.ServerTexts.{Distinct, above_mark, digits_free}
use Rattle.dual_cert_text.proofs.Steps.{bind_some}
use Rattle.dual_cert_text.proofs.WholeTexts.{gap_is_no_end}
use Rattle.dual_cert_sheet.specs.declared.group_line.GroupWords.{GroupWords}
use Rattle.dual_cert_sheet.specs.GroupLines.{group_words_of}
use Rattle.dual_cert_sheet.specs.SheetTexts.{at_no_price, group_of}
use Rattle.dual_cert_sheet.specs.SheetSpellings.{group_line}

-- what is kept of the words behind `group`
pub record IsGroup (has_costs : Bool) (servers : List PricedServer) (group : Group) : Type 0 where
  pub count : 1 ≤ group.count
  pub place : ForSome group.kind.place (λ s. s < length servers)
  pub permitted : (s : ℕ) → has group.kind.permitted s ≡ true → is_open servers s ≡ true
  pub cost : 1 ≤ group.kind.cost
  pub plain : has_costs ≡ false → group.kind.cost ≡ 1

-- the words of a group behind `group`
abbrev pub words_of_group : Bool → List PricedServer → Group → List (List ℕ)
words_of_group has_costs servers g =
    decimal g.count ∷ place_word servers g.kind.place ∷ set_word servers g.kind.permitted ∷ cond has_costs (decimal g.kind.cost ∷ []) []

spelled_three : (a b c a' b' c' : List ℕ) (d d' : List (List ℕ)) → a ≡ a' → b ≡ b' → c ≡ c' → d ≡ d' → a ∷ b ∷ c ∷ d ≡ a' ∷ b' ∷ c' ∷ d'
spelled_three a b c a' b' c' d d' one two three four = rw (one, two, three, four) refl

group_made : (has_costs : Bool) (servers : List PricedServer) (a b c : List ℕ) (d : List (List ℕ)) → length servers ≤ 128 → (n : ℕ) (p : Option ℕ) (s : SetWord) (x : ℕ) → positive_of a ≡ Some n → place_of servers b ≡ Some p → set_of servers c ≡ Some s → cost_of has_costs d ≡ Some x → s.is_rising ≡ true → n ≤ 16777216 → x ≤ 1000 → IsGroup has_costs servers (group_of (record { count = n; place = p; permitted = s; cost = x })) × (a ∷ b ∷ c ∷ d ≡ words_of_group has_costs servers (group_of (record { count = n; place = p; permitted = s; cost = x })))
group_made has_costs servers a b c d few n p s x is_n is_p is_s is_x rising count cost =
    let one = positive_found a n is_n (omega arith) in
    let two = place_found servers b p is_p in
    let three = set_found servers c s few is_s rising in
    let four = cost_found has_costs d x is_x (omega arith) in
    (record { count = one.1; place = two.1; permitted = three.1; cost = four.1; plain = four.2 }, spelled_three a b c _ _ _ d _ one.0 two.0 three.0 four.0)

-- a group that is read is spelled so
pub group_found : (has_costs : Bool) (servers : List PricedServer) (words : List (List ℕ)) (said : GroupWords) → length servers ≤ 128 → group_words_of has_costs servers words ≡ Some said → said.permitted.is_rising ≡ true → said.count ≤ 16777216 → said.cost ≤ 1000 → IsGroup has_costs servers (group_of said) × (words ≡ words_of_group has_costs servers (group_of said))
unfolding group_words_of
group_found has_costs servers [] said few is rising count cost = cc
group_found has_costs servers (a ∷ []) said few is rising count cost = cc
group_found has_costs servers (a ∷ b ∷ []) said few is rising count cost = cc
group_found has_costs servers (a ∷ b ∷ c ∷ d) said few is rising count cost =
    let n = bind_some (positive_of a) _ said is in
    let p = bind_some (place_of servers b) _ said n.2 in
    let s = bind_some (set_of servers c) _ said p.2 in
    let x = bind_some (cost_of has_costs d) _ said s.2 in
    let made : GroupWords = record { count = n.0; place = p.0; permitted = s.0; cost = x.0 } in
    let same : made ≡ said = (let t = x.2 in cc) in
    let F : GroupWords → Type 0 = λ v. v.permitted.is_rising ≡ true → v.count ≤ 16777216 → v.cost ≤ 1000 → IsGroup has_costs servers (group_of v) × (a ∷ b ∷ c ∷ d ≡ words_of_group has_costs servers (group_of v)) in
    subst F same (group_made has_costs servers a b c d few n.0 p.0 s.0 x.0 n.1 p.1 s.1 x.1) rising count cost

-- a group that is spelled is read
pub group_again : (has_costs : Bool) (servers : List PricedServer) (group : Group) → length servers ≤ 128 → Distinct servers → All (λ t. is_name t.server.name ≡ true) servers → IsGroup has_costs servers group → group.count ≤ 16777216 → group.kind.cost ≤ 1000 → group_words_of has_costs servers (words_of_group has_costs servers group) ≡ Some (record { count = group.count; place = group.kind.place; permitted = record { is_rising = true; servers = group.kind.permitted }; cost = group.kind.cost })
unfolding group_words_of
group_again has_costs servers group few distinct names kept count cost =
    let one = positive_again group.count kept.count (omega arith) in
    let two = place_again servers group.kind.place distinct names kept.place in
    let three = set_again servers group.kind.permitted few distinct names kept.permitted in
    let four = cost_again has_costs group.kind.cost kept.cost (omega arith) kept.plain in
    rw (one, two, three, four) refl

-- the words of a group hold no gap and no line end
group_words_free : (mark : ℕ) (has_costs : Bool) (servers : List PricedServer) (group : Group) → mark < 44 → is_name_byte mark ≡ false → All (λ t. is_name t.server.name ≡ true) servers → IsGroup has_costs servers group → group.count ≤ 16777216 → group.kind.cost ≤ 1000 → All (HasNo mark) (codes "group" ∷ words_of_group has_costs servers group)
group_words_free mark has_costs servers group below other names kept count cost =
    let cost_words = cond has_costs (decimal group.kind.cost ∷ []) [] in
    let set = set_word servers group.kind.permitted in
    let place = place_word servers group.kind.place in
    All-cons (HasNo mark) (codes "group") (decimal group.count ∷ place ∷ set ∷ cost_words) (above_mark mark (codes "group") below refl)
    (All-cons (HasNo mark) (decimal group.count) (place ∷ set ∷ cost_words) (digits_free mark group.count below (omega arith))
    (All-cons (HasNo mark) place (set ∷ cost_words) (place_free mark servers group.kind.place below other names kept.place)
    (All-cons (HasNo mark) set cost_words (set_free mark servers group.kind.permitted below other names kept.permitted)
    (cost_free mark has_costs group.kind.cost below (omega arith)))))

-- a group line comes apart again, holds no line end, and isn't the line `end`
pub group_line_apart : (has_costs : Bool) (servers : List Server) (group : Group) → All (λ t. is_name t.server.name ≡ true) (at_no_price servers) → IsGroup has_costs (at_no_price servers) group → group.count ≤ 16777216 → group.kind.cost ≤ 1000 → parts 32 (group_line has_costs servers group) ≡ codes "group" ∷ words_of_group has_costs (at_no_price servers) group
unfolding group_line
group_line_apart has_costs servers group names kept count cost =
    parts_join 32 (codes "group") (words_of_group has_costs (at_no_price servers) group) (group_words_free 32 has_costs (at_no_price servers) group (omega arith) refl names kept count cost)

pub group_line_free : (has_costs : Bool) (servers : List Server) (group : Group) → All (λ t. is_name t.server.name ≡ true) (at_no_price servers) → IsGroup has_costs (at_no_price servers) group → group.count ≤ 16777216 → group.kind.cost ≤ 1000 → HasNo 10 (group_line has_costs servers group)
unfolding group_line
group_line_free has_costs servers group names kept count cost =
    free_join 10 32 (codes "group") (words_of_group has_costs (at_no_price servers) group) gap_is_no_end (group_words_free 10 has_costs (at_no_price servers) group (omega arith) refl names kept count cost)

pub group_line_goes_on : (has_costs : Bool) (servers : List Server) (group : Group) → bytes_eq (group_line has_costs servers group) (codes "end") ≡ false
unfolding group_line
group_line_goes_on has_costs servers group = refl
