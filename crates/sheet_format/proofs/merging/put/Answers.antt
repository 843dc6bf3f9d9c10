use Rattle.std.proofs.Common.{◌≡◌, ℕ, ◌<◌, ◌≤◌, true, false, length, get_or, insert, List, refl, sym, ap, subst, ◌∙◌, arith}
use Rattle.std.proofs.lemmas.List.{get_or_default}
use Rattle.lb_types_pins.specs.declared.kind.Group.{Group}
use Rattle.lb_types_pins.specs.Kinds.{kind_before, same_kind}
use Rattle.lb_types_pins.proofs.Order.{same_kind-true}
use Rattle.pin_groups.proofs.Order.{behind_place, insert_rising, insert_counted, count_in-grown}
use Rattle.sheet_format.proofs.Sheets.{total_grown}
use Rattle.sheet_format.proofs.merging.put.Goals as goal
use Rattle.sheet_format.proofs.merging.put.Goals.{else-at-len-via-then-at-len+else-eq, else-at-len-via-else-at-len}

pub returns-then-eq-clause-counts : goal.returns-then-eq-clause-counts
returns-then-eq-clause-counts c = λ kind.
    let groups = c.args.groups.now.items in
    let at = c.place_of-at.result in
    let below : at < length groups = omega arith in
    let read : c.index.result.now ≡ c.index_mut.result.now =
    c.index.ensures ∙ (get_or_default groups at c.index.result.now c.index_mut.result.now below ∙ sym c.index_mut.ensures.value) in
    let same : c.index.result.now.kind ≡ c.args.more.kind = same_kind-true c.index.result.now.kind c.args.more.kind (sym c.eq.ensures ∙ c.if-eq.true) in
    count_in-grown groups at c.index_mut.result.now c.args.more kind below c.index_mut.ensures.value (ap (λ (g : Group). g.kind) (sym read) ∙ same)

pub returns-then-eq-clause-total : goal.returns-then-eq-clause-total
returns-then-eq-clause-total c =
    let groups = c.args.groups.now.items in
    let at = c.place_of-at.result in
    let below : at < length groups = omega arith in
    total_grown groups at c.index_mut.result.now c.args.more below c.index_mut.ensures.value

pub returns-in_ok-insert-clause-rising : goal.returns-in_ok-insert-clause-rising
returns-in_ok-insert-clause-rising c =
    let groups = c.args.groups.now.items in
    let at = c.place_of-at.result in
    let more = c.args.more in
    let other : (d : Group) → at < length groups → same_kind (get_or groups at d).kind more.kind ≡ false =
    λ d below. elim c.else-at-len.branch [
      | else-at-len-via-then-at-len+else-eq w ↦
          let read : w.index.result.now ≡ get_or groups at d = w.index.ensures ∙ get_or_default groups at w.index.result.now d below in
          ap (λ (g : Group). same_kind g.kind more.kind) (sym read) ∙ (sym w.eq.ensures ∙ w.if-eq.false)
      | else-at-len-via-else-at-len w ↦ absurd (omega arith)
    ] in
    let is_list = c.deref.ensures.value in
    let Within : List Group → Type 0 = λ gs. at ≤ length gs in
    let BeforeAll : List Group → Type 0 = λ gs. (k : ℕ) (d : Group) → k < at → kind_before (get_or gs k d).kind more.kind ≡ true in
    let BehindAll : List Group → Type 0 = λ gs. (k : ℕ) (d : Group) → at ≤ k → k < length gs → kind_before (get_or gs k d).kind more.kind ≡ false in
    let within = subst Within is_list c.place_of-at.ensures.within in
    let before = subst BeforeAll is_list c.place_of-at.ensures.before in
    let behind = subst BehindAll is_list c.place_of-at.ensures.behind in
    let items : c.insert.new.self.items ≡ insert groups at more = c.insert.ensures.items ∙ rw c.in_ok-insert.was refl in
    rw items (record {
      rising = insert_rising groups at more within c.requires.rising.rising before
          (λ k d from below. behind_place groups at more d c.requires.rising.rising behind (other d) k from below);
      counted = insert_counted groups at more c.requires.some c.requires.rising.counted;
    })
