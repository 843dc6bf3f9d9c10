-- Views that differ at most in the order of their pins.
use Rattle.std.proofs.Common.{◌≡◌, map, refl, sym, ◌∙◌, cond}
use Rattle.std.specs.Prelude.{count_by}
use Rattle.std.proofs.lemmas.List.Sorted.{IsPermutation-refl, IsPermutation-sym, IsPermutation-trans, IsPermutation-map, sum_by-IsPermutation}
use Rattle.lb_types_pins.specs.Kinds.{same_kind}
use Rattle.dual_cert_plan.specs.Sheets.{SheetParts}
use Rattle.pin_set.specs.Views.{ViewParts, kind_of, kinds_of}
use Rattle.cert_check_law.specs.Sheets.{listed_servers, StandsFor}
use Rattle.lb_desk_model.specs.States.{State, SameView, view_of}

pub same_view-refl : (a : ViewParts) → SameView a a
same_view-refl a = record { usable = refl; servers = refl; pins = IsPermutation-refl a.pins }

pub same_view-sym : (a b : ViewParts) → SameView a b → SameView b a
same_view-sym a b same = record {
  usable = sym same.usable;
  servers = sym same.servers;
  pins = IsPermutation-sym a.pins b.pins same.pins;
}

pub same_view-trans : (a b c : ViewParts) → SameView a b → SameView b c → SameView a c
same_view-trans a b c same more = record {
  usable = same.usable ∙ more.usable;
  servers = same.servers ∙ more.servers;
  pins = IsPermutation-trans a.pins b.pins c.pins same.pins more.pins;
}

pub same_view-equal : (old new : State) → new ≡ old → SameView (view_of old) (view_of new)
same_view-equal old new same = rw same (same_view-refl (view_of old))

-- a sheet that stands for a view stands for each that differs in the order of its pins alone
pub stands-same_view : (sheet : SheetParts) (a b : ViewParts) → SameView a b → StandsFor sheet a → StandsFor sheet b
stands-same_view sheet a b same stands = record {
  servers =
      let e : listed_servers a.usable a.servers ≡ listed_servers b.usable b.servers = rw (same.usable, same.servers) refl in
      stands.servers ∙ e;
  counts = λ kind.
      let kinds = IsPermutation-map (kind_of a.usable) a.pins b.pins same.pins in
      let counted = sum_by-IsPermutation (λ k. cond (same_kind kind k) 1 0) (map (kind_of a.usable) a.pins) (map (kind_of a.usable) b.pins) kinds in
      let e : count_by (same_kind kind) (kinds_of b) ≡ count_by (same_kind kind) (map (kind_of a.usable) b.pins) = rw same.usable refl in
      e ∙ (counted ∙ stands.counts kind);
}
