-- ACLs gathered by their names have the lines of their names.
use Rattle.std.proofs.Common.{◌≡◌, ℕ, zero, suc, ◌<◌, Bool, true, false, ◌||◌, nat_lt, cond, List, [], ◌∷◌, ◌++◌, length, get_or, set, Some, None, refl, sym, ap, ◌∙◌, arith}
use Rattle.std.specs.List.{cons_option, filter_map, list_any, position, position_or_len}
use Rattle.std.specs.Str.{bytes_eq}
use Rattle.std.specs.Option.{is_some}
use Rattle.std.proofs.lemmas.Bool.{both_ways, ltb-false, true≢false}
use Rattle.std.proofs.lemmas.List.{append_assoc, append-nil}
use Rattle.std.proofs.lemmas.List.Folds.{list_any_none}
use Rattle.std.proofs.lemmas.List.Sums.{fails_before_first}
use Rattle.std.proofs.lemmas.List.Quantifiers.{position-Some}
use Rattle.std.proofs.lemmas.List.Elements.{filter_map-append}
use Rattle.std.proofs.lemmas.Slice.Eq.{bytes_eq-Decides}
use Rattle.lb_config_conditions.specs.declared.rules.AclDeclaration.{AclDeclaration}
use Rattle.lb_config_rules.specs.GroupView.{GroupView}
use Rattle.lb_config_rules.specs.Groups.{grown, is_group, lines_in, new_group, with_line, with_lines}
use Rattle.lb_config_rules.specs.Rules.{line_of, lines_named}

not_held : (b : Bool) → (b ≡ true → ⊥) → b ≡ false
not_held false h = refl
not_held true h = absurd (h refl)

-- a line alone, where the test holds
line_alone : {X : Type 0} (b : Bool) (line : X) → cond b (line ∷ []) [] ≡ cons_option (cond b (Some line) None) []
line_alone true line = refl
line_alone false line = refl

-- a line behind those of its own group
grown_here : {X : Type 0} (b : Bool) (lines rest : List X) (line : X) →
    cond b (lines ++ line ∷ []) rest ≡ cond b lines rest ++ cons_option (cond b (Some line) None) []
grown_here true lines rest line = refl
grown_here false lines rest line = sym (append-nil rest)

-- a line of a group behind this one
grown_behind : {X : Type 0} (b c : Bool) (lines rest longer : List X) (line : X) → (b ≡ true → c ≡ false) →
    longer ≡ rest ++ cons_option (cond c (Some line) None) [] →
    cond b lines longer ≡ cond b lines rest ++ cons_option (cond c (Some line) None) []
grown_behind true c lines rest longer line apart is = rw (apart refl) (sym (append-nil lines))
grown_behind false c lines rest longer line apart is = is

-- what is x is not y, where x and y differ
apart : (x y z : List ℕ) → bytes_eq x y ≡ false → bytes_eq x z ≡ true → bytes_eq y z ≡ false
apart x y z differ same = not_held (bytes_eq y z) (λ other.
    let xz = (bytes_eq-Decides x z).0 same in
    let yz = (bytes_eq-Decides y z).0 other in
    both_ways (bytes_eq x y) differ ((bytes_eq-Decides x y).1 (xz ∙ sym yz)))

-- one line more
lines_grow : (groups : List GroupView) (acl : AclDeclaration) (name : List ℕ) →
    lines_in (with_line groups acl) name ≡ lines_in groups name ++ filter_map (line_of name) (acl ∷ [])
lines_grow [] acl name = line_alone (bytes_eq acl.name name) acl.line
lines_grow (group ∷ more) acl name = go (bytes_eq group.name acl.name) refl (lines_grow more acl name)
  where
    go : (b : Bool) → bytes_eq group.name acl.name ≡ b →
        lines_in (with_line more acl) name ≡ lines_in more name ++ filter_map (line_of name) (acl ∷ []) →
        lines_in (cond b (grown group acl.line ∷ more) (group ∷ with_line more acl)) name
        ≡ lines_in (group ∷ more) name ++ filter_map (line_of name) (acl ∷ [])
    go true e behind =
        let same : group.name ≡ acl.name = (bytes_eq-Decides group.name acl.name).0 e in
        let here : cond (bytes_eq group.name name) (group.lines ++ acl.line ∷ []) (lines_in more name)
        ≡ cond (bytes_eq group.name name) group.lines (lines_in more name) ++ cons_option (cond (bytes_eq group.name name) (Some acl.line) None) [] =
        grown_here (bytes_eq group.name name) group.lines (lines_in more name) acl.line in
        here ∙ ap (λ other. cond (bytes_eq group.name name) group.lines (lines_in more name) ++ cons_option (cond (bytes_eq other name) (Some acl.line) None) []) same
    go false e behind =
        grown_behind (bytes_eq group.name name) (bytes_eq acl.name name) group.lines (lines_in more name) (lines_in (with_line more acl) name) acl.line
        (apart group.name acl.name name e) behind

lines_gathered : (groups : List GroupView) (acls : List AclDeclaration) (name : List ℕ) →
    lines_in (with_lines groups acls) name ≡ lines_in groups name ++ lines_named acls name
lines_gathered groups [] name = sym (append-nil (lines_in groups name))
lines_gathered groups (acl ∷ more) name =
    lines_gathered (with_line groups acl) more name
    ∙ ap (λ lines. lines ++ lines_named more name) (lines_grow groups acl name)
    ∙ append_assoc (lines_in groups name) (filter_map (line_of name) (acl ∷ [])) (lines_named more name)
    ∙ ap (λ lines. lines_in groups name ++ lines) (sym (filter_map-append (line_of name) (acl ∷ []) more))

-- the lines of the name's group are the lines of the name
pub lines_all : (acls : List AclDeclaration) (name : List ℕ) → lines_in (with_lines [] acls) name ≡ lines_named acls name
lines_all acls name = lines_gathered [] acls name

-- where no group has the name, there is one more
with_line_none : (groups : List GroupView) (acl : AclDeclaration) → list_any (is_group acl.name) groups ≡ false → with_line groups acl ≡ groups ++ new_group acl ∷ []
with_line_none [] acl none = refl
with_line_none (group ∷ more) acl none = go (bytes_eq group.name acl.name) none (with_line_none more acl)
  where
    go : (b : Bool) → (b || list_any (is_group acl.name) more) ≡ false →
        (list_any (is_group acl.name) more ≡ false → with_line more acl ≡ more ++ new_group acl ∷ []) →
        cond b (grown group acl.line ∷ more) (group ∷ with_line more acl) ≡ group ∷ (more ++ new_group acl ∷ [])
    go true e behind = absurd (both_ways true e refl)
    go false e behind = ap (λ groups. group ∷ groups) (behind e)

-- where the group at i is the first that has the name, it gets the line
with_line_at : (groups : List GroupView) (acl : AclDeclaration) (i : ℕ) (d : GroupView) → i < length groups →
    is_group acl.name (get_or groups i d) ≡ true → ((k : ℕ) → k < i → is_group acl.name (get_or groups k d) ≡ false) →
    with_line groups acl ≡ set groups i (grown (get_or groups i d) acl.line)
with_line_at [] acl i d within here before = absurd (omega arith)
with_line_at (group ∷ more) acl zero d within here before = rw here refl
with_line_at (group ∷ more) acl (suc i) d within here before =
    rw (before 0 (omega arith)) (ap (λ groups. group ∷ groups) (with_line_at more acl i d (omega arith) here (λ k below. before (suc k) (omega arith))))

none_fails : (b : Bool) (i : ℕ) → cond b (Some i) None ≡ None → b ≡ false
none_fails true i e = absurd (true≢false (ap (λ o. is_some o) e))
none_fails false i e = refl

nowhere : {X : Type 0} (p : X → Bool) (xs : List X) → position p xs ≡ None → list_any p xs ≡ false
nowhere p xs none =
    let past = ltb-false (position_or_len p xs) (length xs) (none_fails (nat_lt (position_or_len p xs) (length xs)) (position_or_len p xs) none) in
    list_any_none p xs (λ k d within. fails_before_first p xs k d (omega (arith, past, within)))

-- a line of a name that no group has
pub line_alone_in : (groups : List GroupView) (acl : AclDeclaration) → position (is_group acl.name) groups ≡ None →
    with_line groups acl ≡ groups ++ new_group acl ∷ []
line_alone_in groups acl none = with_line_none groups acl (nowhere (is_group acl.name) groups none)

-- a line of the name of the group at i
pub line_grows : (groups : List GroupView) (acl : AclDeclaration) (i : ℕ) (d : GroupView) → position (is_group acl.name) groups ≡ Some i →
    with_line groups acl ≡ set groups i (grown (get_or groups i d) acl.line)
line_grows groups acl i d found =
    let first = position-Some (is_group acl.name) groups i d found in
    with_line_at groups acl i d first.0 first.1 first.2
