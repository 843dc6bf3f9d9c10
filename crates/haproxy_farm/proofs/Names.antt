-- Servers that are compared one after the other.
use Rattle.std.proofs.Common.{◌≡◌, ℕ, ◌+◌, ◌<◌, List, [], ◌∷◌, ◌++◌, length, get_or, take, sym, ap, subst, ◌∙◌, arith}
use Rattle.std.specs.Prelude.{◌≢◌}
use Rattle.std.specs.List.{All, AllPairs}
use Rattle.std.proofs.lemmas.Grind.{common_steps}
use Rattle.std.proofs.lemmas.List.{take_more}
use Rattle.std.proofs.lemmas.List.Elements.{All-push}
use Rattle.std.proofs.lemmas.List.Quantifiers.{all_pairs_push}
use Rattle.pin_set.specs.declared.view.ViewServer.{ViewServer}

abbrev pub Differ : ViewServer → ViewServer → Type 0
Differ a b = a.name ≢ b.name

take_one : (servers : List ViewServer) (i : ℕ) (one : ViewServer) → i < length servers → one ≡ get_or servers i one
    → take (i + 1) servers ≡ take i servers ++ one ∷ []
take_one servers i one below is = take_more servers i one below ∙ ap (λ (s : ViewServer). take i servers ++ s ∷ []) (sym is)

pub all_more : (P : ViewServer → Type 0) (servers : List ViewServer) (i : ℕ) (one : ViewServer) → i < length servers → one ≡ get_or servers i one
    → All P (take i servers) → P one → All P (take (i + 1) servers)
all_more P servers i one below is all here =
    let Holds : List ViewServer → Type 0 = All P in
    subst Holds (sym (take_one servers i one below is)) (All-push P (take i servers) one all here)

pub own_more : (servers : List ViewServer) (i : ℕ) (one : ViewServer) → i < length servers → one ≡ get_or servers i one
    → AllPairs Differ (take i servers) → All (λ s. s.name ≢ one.name) (take i servers) → AllPairs Differ (take (i + 1) servers)
own_more servers i one below is own new =
    let Holds : List ViewServer → Type 0 = AllPairs Differ in
    subst Holds (sym (take_one servers i one below is)) (all_pairs_push Differ (take i servers) one own new)

pub earlier_differ : (servers : List ViewServer) (i : ℕ) (one : ViewServer) → i < length servers → one ≡ get_or servers i one
    → AllPairs Differ servers → All (λ s. s.name ≢ one.name) (take i servers)
earlier_differ servers i one below is own k d inside same =
    let low : k < i = grind (arith, common_steps) in
    let there : get_or (take i servers) k d ≡ get_or servers k d = grind (arith, common_steps) in
    let here : get_or servers i d ≡ get_or servers i one = grind (arith, common_steps) in
    own k i d low below (ap (λ (s : ViewServer). s.name) (sym there) ∙ (same ∙ ap (λ (s : ViewServer). s.name) (is ∙ sym here)))
