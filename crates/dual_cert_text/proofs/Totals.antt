-- Totals of a draft's rows.
use Rattle.std.proofs.Common.{◌≡◌, ◌≢◌, ℕ, ◌+◌, ◌<◌, ◌≤◌, Bool, ◌||◌, not, eqb, true, false, None, List, [], ◌∷◌, ◌++◌, length, refl, arith, length-append}
use Rattle.std.proofs.lemmas.List.Folds.{list_any-append}
use Rattle.std.proofs.lemmas.List.Quantifiers.{all_pairs_push}
use Rattle.std.proofs.lemmas.List.Sums.{sum_by_push}
use Rattle.lb_types_pins.specs.declared.kind.Row.{Row}
use Rattle.dual_cert_plan.specs.declared.server.PricedServer.{PricedServer}
use Rattle.dual_cert_text.specs.DraftFields.{KeepsTotals}
use Rattle.dual_cert_text.specs.ServerLines.{server_named}
use Rattle.dual_cert_text.proofs.ServerTexts.{named_none}

or_false : (b : Bool) → (b || false) ≡ b
or_false true = refl
or_false false = refl

pub KeepsTotals-push : (servers : List PricedServer) (rows : List Row) (count : ℕ) (costs : Bool) (row : Row) → KeepsTotals servers rows count costs → count + row.count ≤ 16777216 → KeepsTotals servers (rows ++ row ∷ []) (count + row.count) (costs || not (eqb row.kind.cost 1))
KeepsTotals-push servers rows count costs row kept fits =
    record {
      few = kept.few;
      distinct = kept.distinct;
      sum = let more = sum_by_push (λ r. r.count) rows row in grind (arith, kept.sum);
      small = fits;
      need = let more = list_any-append (λ r. not (eqb r.kind.cost 1)) rows (row ∷ []) in rw (kept.need, more, or_false) refl;
    }

pub KeepsTotals-server : (servers : List PricedServer) (rows : List Row) (count : ℕ) (costs : Bool) (s : PricedServer) → KeepsTotals servers rows count costs → length servers < 128 → server_named servers s.server.name ≡ None → KeepsTotals (servers ++ s ∷ []) rows count costs
KeepsTotals-server servers rows count costs s kept few new =
    record {
      few = omega (arith, few, length-append servers (s ∷ []));
      distinct = all_pairs_push (λ a b. a.server.name ≢ b.server.name) servers s kept.distinct (λ k d within. named_none servers s.server.name new k d within);
      sum = kept.sum;
      small = kept.small;
      need = kept.need;
    }
