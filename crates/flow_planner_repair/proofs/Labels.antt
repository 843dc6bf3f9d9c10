-- What a write changes of the labels.
use Rattle.std.proofs.Common.{◌≡◌, get_or, set, ℕ, ◌<◌, ◌≢◌, List, length, refl, sym, ap, ◌∙◌, inl, inr, get_or-set_same, get_or-set_other, length-set}
use Rattle.std.proofs.lemmas.Bool.{cases_eq}
use Rattle.flow_planner_repair.specs.declared.label.Label.{Label}
use Rattle.flow_planner_repair.specs.Searches.{no_label, dist, source, via, rank, IsRanked}

abbrev label_at : List Label → ℕ → Label
label_at labels o = get_or labels o no_label

-- of two lists of labels, what is the same at an option where the labels are
pub record IsSameAt (old new : List Label) (o : ℕ) : Type 0 where
  pub same_dist : dist new o ≡ dist old o
  pub same_source : source new o ≡ source old o
  pub same_via : via new o ≡ via old o
  pub same_rank : rank new o ≡ rank old o

pub label-other : (labels : List Label) (o k : ℕ) (new : Label) → k ≢ o → IsSameAt labels (set labels o new) k
unfolding dist source via rank
label-other labels o k new ne =
    let same = get_or-set_other labels o k new no_label ne in
    record {
      same_dist = ap (λ (l : Label). l.dist) same;
      same_source = ap (λ (l : Label). l.source) same;
      same_via = ap (λ (l : Label). l.via) same;
      same_rank = ap (λ (l : Label). l.rank) same;
    }

-- what a label that was written says
pub record IsLabel (labels : List Label) (o : ℕ) (label : Label) : Type 0 where
  pub is_dist : dist labels o ≡ label.dist
  pub is_source : source labels o ≡ label.source
  pub is_via : via labels o ≡ label.via
  pub is_rank : rank labels o ≡ label.rank

pub label-same : (labels : List Label) (o : ℕ) (new : Label) → o < length labels → IsLabel (set labels o new) o new
unfolding dist source via rank
label-same labels o new within =
    let same = get_or-set_same labels o new no_label within in
    record {
      is_dist = ap (λ (l : Label). l.dist) same;
      is_source = ap (λ (l : Label). l.source) same;
      is_via = ap (λ (l : Label). l.via) same;
      is_rank = ap (λ (l : Label). l.rank) same;
    }

pub label-read : (labels : List Label) (o : ℕ) (label : Label) → label ≡ get_or labels o no_label → IsLabel labels o label
unfolding dist source via rank
label-read labels o label is = record {
  is_dist = sym (ap (λ (l : Label). l.dist) is);
  is_source = sym (ap (λ (l : Label). l.source) is);
  is_via = sym (ap (λ (l : Label). l.via) is);
  is_rank = sym (ap (λ (l : Label). l.rank) is);
}

pub label-kept : (old new : List Label) (o : ℕ) → get_or new o no_label ≡ get_or old o no_label → IsSameAt old new o
unfolding dist source via rank
label-kept old new o same = record {
  same_dist = ap (λ (l : Label). l.dist) same;
  same_source = ap (λ (l : Label). l.source) same;
  same_via = ap (λ (l : Label). l.via) same;
  same_rank = ap (λ (l : Label). l.rank) same;
}

-- what stands in a label that is read
pub dist-is : (labels : List Label) (o : ℕ) → dist labels o ≡ (get_or labels o no_label).dist
unfolding dist
dist-is labels o = refl

pub rank-is : (labels : List Label) (o : ℕ) → rank labels o ≡ (get_or labels o no_label).rank
unfolding rank
rank-is labels o = refl

pub source-is : (labels : List Label) (o : ℕ) → source labels o ≡ (get_or labels o no_label).source
unfolding source
source-is labels o = refl

pub via-is : (labels : List Label) (o : ℕ) → via labels o ≡ (get_or labels o no_label).via
unfolding via
via-is labels o = refl

-- the labels with the rank of one option changed
abbrev pub with_rank : List Label → ℕ → ℕ → List Label
with_rank labels o r =
    set labels o (record {
      dist = (get_or labels o no_label).dist;
      source = (get_or labels o no_label).source;
      via = (get_or labels o no_label).via;
      rank = r;
    })

pub ranked-set : (labels : List Label) (o r : ℕ) → o < length labels → IsRanked labels (with_rank labels o r) o r
ranked-set labels o r within =
    let now = label-same labels o _ within in
    record {
      same_dist = λ k.
          elim (cases_eq k o) [
            | inl same ↦ ap (dist _) same ∙ (now.is_dist ∙ (sym (dist-is labels o) ∙ sym (ap (dist labels) same)))
            | inr other ↦ (label-other labels o k _ other).same_dist
          ];
      same_source = λ k.
          elim (cases_eq k o) [
            | inl same ↦ ap (source _) same ∙ (now.is_source ∙ (sym (source-is labels o) ∙ sym (ap (source labels) same)))
            | inr other ↦ (label-other labels o k _ other).same_source
          ];
      same_via = λ k.
          elim (cases_eq k o) [
            | inl same ↦ ap (via _) same ∙ (now.is_via ∙ (sym (via-is labels o) ∙ sym (ap (via labels) same)))
            | inr other ↦ (label-other labels o k _ other).same_via
          ];
      there = now.is_rank;
      others = λ k ne. (label-other labels o k _ ne).same_rank;
    }

pub ranked-length : (labels : List Label) (o r : ℕ) → length (with_rank labels o r) ≡ length labels
ranked-length labels o r = length-set labels o _
