-- What the words behind a request's key ask for, word by word.
use Rattle.std.proofs.Common.{◌≡◌, ℕ, ◌≤◌, Bool, true, false, nat_le, ◌&&◌, cond, List, [], ◌∷◌, ◌++◌, map, Option, Some, None, refl, sym, ap, subst, ◌∙◌, append-nil, append_assoc, leb-true, le-leb}
use Rattle.std.proofs.Math.Bridge.{le_prop}
use Rattle.lb_types.specs.declared.limits.TheConstants.{MAX_COST}
use Rattle.lb_config_values.specs.ServerView.{ServerView}
use Rattle.lb_config.specs.Finds.{server_place}
use Rattle.lb_script.specs.declared.asked.Asked.{Asked}
use Rattle.lb_script.specs.Words.{Word, ◌>>=◌, every, number_in}
use Rattle.lb_script.specs.Requests.{tells_cost, cost_digits, told_cost, cost_said, words_before, rule_in, priced, asked_of, lawful_cost, last_cost, asked_in}

-- what the words ask for, where these servers stand before those that they name, and these digits tell the cost, if any do
abbrev pub asked_told : Option Word → List ℕ → List ServerView → List Word → Option Asked
asked_told told front servers words =
    every (map (rule_in servers) (words_before told words)) >>= λ rules. (cost_said told >>= λ cost. asked_of (front ++ rules) cost)

abbrev pub asked_behind : List ℕ → List ServerView → List Word → Option Asked
asked_behind front servers words = asked_told (told_cost words) front servers words

pub asked_whole : (servers : List ServerView) (words : List Word) → asked_behind [] servers words ≡ asked_in servers words
unfolding asked_in
asked_whole servers words = refl

-- ---- a lawful cost

priced_lawful : (rules : List ℕ) (cost : ℕ) (b d : Bool) (is_from : nat_le 1 cost ≡ b) (is_to : nat_le cost MAX_COST ≡ d) (from : 1 ≤ cost) (to : cost ≤ MAX_COST)
    → b ≡ true → d ≡ true → priced rules cost b d is_from is_to ≡ Some (record { rules = rules; cost = cost; cost_from = from; cost_to = to })
priced_lawful rules cost true true is_from is_to from to h k =
    λ i. Some (record { rules = rules; cost = cost; cost_from = le_prop (leb-true 1 cost is_from) from i; cost_to = le_prop (leb-true cost MAX_COST is_to) to i })
priced_lawful rules cost false d is_from is_to from to h k = cc
priced_lawful rules cost true false is_from is_to from to h k = cc

-- of a lawful cost, what is asked for is there
asked_lawful : (rules : List ℕ) (cost : ℕ) (from : 1 ≤ cost) (to : cost ≤ MAX_COST)
    → asked_of rules cost ≡ Some (record { rules = rules; cost = cost; cost_from = from; cost_to = to })
asked_lawful rules cost from to = priced_lawful rules cost (nat_le 1 cost) (nat_le cost MAX_COST) refl refl from to (le-leb 1 cost from) (le-leb cost MAX_COST to)

priced_other : (rules : List ℕ) (cost : ℕ) (b d : Bool) (is_from : nat_le 1 cost ≡ b) (is_to : nat_le cost MAX_COST ≡ d)
    → cond (b && d) (Some cost) None ≡ None → priced rules cost b d is_from is_to ≡ None
priced_other rules cost true true is_from is_to none = cc
priced_other rules cost false d is_from is_to none = refl
priced_other rules cost true false is_from is_to none = refl

asked_other : (rules : List ℕ) (cost : ℕ) → lawful_cost cost ≡ None → asked_of rules cost ≡ None
asked_other rules cost none = priced_other rules cost (nat_le 1 cost) (nat_le cost MAX_COST) refl refl none

-- ---- no word is left

pub asked_end : (front : List ℕ) (servers : List ServerView) (from : 1 ≤ 1) (to : 1 ≤ MAX_COST)
    → asked_behind front servers [] ≡ Some (record { rules = front; cost = 1; cost_from = from; cost_to = to })
asked_end front servers from to = ap (λ rules. asked_of rules 1) (append-nil front) ∙ asked_lawful front 1 from to

-- ---- the word of the cost

is_told : (b : Bool) (behind digits : Word) → cond b (Some behind) None ≡ Some digits → b ≡ true
is_told true behind digits is = refl
is_told false behind digits is = cc

not_told : (b : Bool) (behind : Word) → cond b (Some behind) None ≡ None → b ≡ false
not_told true behind is = cc
not_told false behind is = refl

-- a word that tells a cost is no server
no_rule : (servers : List ServerView) (word digits : Word) → cost_digits word ≡ Some digits → rule_in servers word ≡ None
no_rule servers word digits is = rw (is_told (tells_cost word) _ digits is) refl

-- the word alone, whose digits say this cost or none
cost_alone : (front : List ℕ) (servers : List ServerView) (word digits : Word) → cost_digits word ≡ Some digits
    → asked_behind front servers (word ∷ []) ≡ (number_in digits >>= λ cost. asked_of front cost)
cost_alone front servers word digits is =
    subst (λ (told : Option Word). asked_told told front servers (word ∷ []) ≡ (number_in digits >>= λ cost. asked_of front cost)) (sym is)
    (ap (λ (rules : List ℕ). number_in digits >>= λ cost. asked_of rules cost) (append-nil front))

-- the word, and words behind it
cost_early : (told : Option Word) (front : List ℕ) (servers : List ServerView) (word next : Word) (more : List Word) → rule_in servers word ≡ None
    → asked_told told front servers (word ∷ next ∷ more) ≡ None
cost_early None front servers word next more none = rw none refl
cost_early (Some digits) front servers word next more none = rw none refl

chosen : (b : Bool) (number cost : ℕ) → cond b (Some number) None ≡ Some cost → number ≡ cost
chosen true number cost is = cc
chosen false number cost is = cc

lawful_then : (front : List ℕ) (number : Option ℕ) (cost : ℕ) (from : 1 ≤ cost) (to : cost ≤ MAX_COST) → (number >>= lawful_cost) ≡ Some cost
    → (number >>= λ cost. asked_of front cost) ≡ Some (record { rules = front; cost = cost; cost_from = from; cost_to = to })
lawful_then front None cost from to is = cc
lawful_then front (Some number) cost from to is =
    ap (λ (cost : ℕ). asked_of front cost) (chosen (nat_le 1 number && nat_le number MAX_COST) number cost is) ∙ asked_lawful front cost from to

lawful_else : (front : List ℕ) (number : Option ℕ) → (number >>= lawful_cost) ≡ None → (number >>= λ cost. asked_of front cost) ≡ None
lawful_else front None none = refl
lawful_else front (Some number) none = asked_other front number none

pub cost_ends : (front : List ℕ) (servers : List ServerView) (word digits : Word) (more : List Word) (cost : ℕ) (from : 1 ≤ cost) (to : cost ≤ MAX_COST)
    → cost_digits word ≡ Some digits → last_cost digits more ≡ Some cost
    → asked_behind front servers (word ∷ more) ≡ Some (record { rules = front; cost = cost; cost_from = from; cost_to = to })
unfolding last_cost
cost_ends front servers word digits [] cost from to is last = cost_alone front servers word digits is ∙ lawful_then front (number_in digits) cost from to last
cost_ends front servers word digits (next ∷ more) cost from to is last = cc

pub cost_fails : (front : List ℕ) (servers : List ServerView) (word digits : Word) (more : List Word)
    → cost_digits word ≡ Some digits → last_cost digits more ≡ None → asked_behind front servers (word ∷ more) ≡ None
unfolding last_cost
cost_fails front servers word digits [] is last = cost_alone front servers word digits is ∙ lawful_else front (number_in digits) last
cost_fails front servers word digits (next ∷ more) is last = cost_early (told_cost (next ∷ more)) front servers word next more (no_rule servers word digits is)

-- ---- a word that names a server, or nothing

-- the servers of a word and of those behind it
then_more : (front : List ℕ) (server : ℕ) (rules : Option (List ℕ)) (cost : Option ℕ)
    → ((rules >>= λ xs. Some (server ∷ xs)) >>= λ rules. (cost >>= λ cost. asked_of (front ++ rules) cost))
    ≡ (rules >>= λ rules. (cost >>= λ cost. asked_of ((front ++ server ∷ []) ++ rules) cost))
then_more front server None cost = refl
then_more front server (Some rules) None = refl
then_more front server (Some rules) (Some cost) = ap (λ rules. asked_of rules cost) (sym (append_assoc front (server ∷ []) rules))

rule_is : (servers : List ServerView) (word : Word) → cost_digits word ≡ None → rule_in servers word ≡ server_place servers word
rule_is servers word is = rw (not_told (tells_cost word) _ is) refl

-- the words before the cost begin with a word that tells none
behind_rule : (front : List ℕ) (servers : List ServerView) (word : Word) (more : List Word) → cost_digits word ≡ None
    → asked_behind front servers (word ∷ more)
    ≡ (every (rule_in servers word ∷ map (rule_in servers) (words_before (told_cost more) more)) >>= λ rules. (cost_said (told_cost more) >>= λ cost. asked_of (front ++ rules) cost))
behind_rule front servers word [] is =
    ap (λ (told : Option Word). asked_told told front servers (word ∷ [])) is
behind_rule front servers word (next ∷ more) is = by (told_cost (next ∷ more))
  where
    by : (told : Option Word) → asked_told told front servers (word ∷ next ∷ more)
        ≡ (every (rule_in servers word ∷ map (rule_in servers) (words_before told (next ∷ more))) >>= λ rules. (cost_said told >>= λ cost. asked_of (front ++ rules) cost))
    by None = refl
    by (Some digits) = refl

pub rule_counts : (front : List ℕ) (servers : List ServerView) (word : Word) (more : List Word) (server : ℕ) → cost_digits word ≡ None
    → server_place servers word ≡ Some server → asked_behind front servers (word ∷ more) ≡ asked_behind (front ++ server ∷ []) servers more
rule_counts front servers word more server is found =
    behind_rule front servers word more is
    ∙ rw (rule_is servers word is, found) (then_more front server (every (map (rule_in servers) (words_before (told_cost more) more))) (cost_said (told_cost more)))

pub rule_fails : (front : List ℕ) (servers : List ServerView) (word : Word) (more : List Word) → cost_digits word ≡ None
    → server_place servers word ≡ None → asked_behind front servers (word ∷ more) ≡ None
rule_fails front servers word more is none = behind_rule front servers word more is ∙ rw (rule_is servers word is, none) refl
