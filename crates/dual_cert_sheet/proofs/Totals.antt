-- What a draft keeps, with a server or a group more.
use Rattle.std.proofs.Common.{◌≡◌, ◌≢◌, ℕ, ◌+◌, ◌<◌, ◌≤◌, Bool, ◌||◌, not, eqb, true, false, None, List, [], ◌∷◌, ◌++◌, length, refl, sym, ap, ◌∙◌, arith, length-append}
use Rattle.std.proofs.lemmas.List.{map_push}
use Rattle.std.proofs.lemmas.List.Folds.{list_any-append}
use Rattle.std.proofs.lemmas.List.Quantifiers.{all_pairs_push}
use Rattle.std.proofs.lemmas.List.Sums.{sum_by_push}
use Rattle.lb_types_pins.specs.declared.kind.Group.{Group}
use Rattle.dual_cert_plan.specs.declared.server.PricedServer.{PricedServer}
use Rattle.dual_cert_plan.specs.Plans.{servers_of}
use Rattle.dual_cert_text.specs.ServerLines.{server_named}
use Rattle.dual_cert_text.proofs.ServerTexts.{named_none}
use Rattle.dual_cert_sheet.specs.DraftFields.{KeepsTotals}
use Rattle.dual_cert_sheet.specs.SheetTexts.{free_server, at_no_price}

or_false : (b : Bool) → (b || false) ≡ b
or_false true = refl
or_false false = refl

pub KeepsTotals-group : (servers : List PricedServer) (groups : List Group) (count : ℕ) (costs : Bool) (group : Group) → KeepsTotals servers groups count costs → count + group.count ≤ 16777216 → KeepsTotals servers (groups ++ group ∷ []) (count + group.count) (costs || not (eqb group.kind.cost 1))
KeepsTotals-group servers groups count costs group kept fits =
    record {
      few = kept.few;
      distinct = kept.distinct;
      free = kept.free;
      sum = let more = sum_by_push (λ g. g.count) groups group in grind (arith, kept.sum);
      small = fits;
      need = let more = list_any-append (λ g. not (eqb g.kind.cost 1)) groups (group ∷ []) in rw (kept.need, more, or_false) refl;
    }

priced_fields : (s : PricedServer) → s.price ≡ 0 → free_server s.server ≡ s
priced_fields s free = let with_price : ℕ → PricedServer = λ price. record { server = s.server; price = price } in sym (ap with_price free)

pub KeepsTotals-server : (servers : List PricedServer) (groups : List Group) (count : ℕ) (costs : Bool) (s : PricedServer) → KeepsTotals servers groups count costs → length servers < 128 → server_named servers s.server.name ≡ None → s.price ≡ 0 → KeepsTotals (servers ++ s ∷ []) groups count costs
KeepsTotals-server servers groups count costs s kept few new free =
    record {
      few = omega (arith, few, length-append servers (s ∷ []));
      distinct = all_pairs_push (λ a b. a.server.name ≢ b.server.name) servers s kept.distinct (λ k d within. named_none servers s.server.name new k d within);
      free =
          ap at_no_price (map_push (λ p. p.server) servers s)
          ∙ map_push (λ t. free_server t) (servers_of servers) s.server
          ∙ rw (kept.free, priced_fields s free) refl;
      sum = kept.sum;
      small = kept.small;
      need = kept.need;
    }
