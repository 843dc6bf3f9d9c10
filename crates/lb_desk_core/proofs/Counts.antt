-- How many pins are at each server, in the table and in the book.
use Rattle.std.proofs.Common.{◌≡◌, ℕ, ◌+◌, ◌≤◌, Bool, true, cond, eqb, Some, List, [], ◌∷◌, ◌++◌, ap, arith}
use Rattle.std.proofs.lemmas.List.Sums.{sum_by-cons, sum_by-append, sum_by_push}
use Rattle.pin_set.specs.Assignments.{is_at}
use Rattle.pin_set.specs.declared.table_pin.TablePin.{TablePin}
use Rattle.lb_desk_model.specs.Serves.{load}
use Rattle.lb_desk_core.specs.Requests.{one_at}

-- ---- the table

pub load-cons : (p : TablePin) (pins : List TablePin) (server : ℕ) → load (p ∷ pins) server ≡ one_at p.pin.place server + load pins server
load-cons p pins server = sum_by-cons (λ (q : TablePin). cond (is_at server q.pin.place) 1 0) p pins

pub load-push : (pins : List TablePin) (p : TablePin) (server : ℕ) → load (pins ++ p ∷ []) server ≡ load pins server + one_at p.pin.place server
load-push pins p server = sum_by_push (λ (q : TablePin). cond (is_at server q.pin.place) 1 0) pins p

pub load-append : (xs ys : List TablePin) (server : ℕ) → load (xs ++ ys) server ≡ load xs server + load ys server
load-append xs ys server = sum_by-append (λ (q : TablePin). cond (is_at server q.pin.place) 1 0) xs ys

-- another pin in its place, behind the others
pub load-used : (before : List TablePin) (found : TablePin) (after : List TablePin) (used : TablePin) (server : ℕ)
    → load (before ++ after ++ used ∷ []) server + one_at found.pin.place server ≡ load (before ++ found ∷ after) server + one_at used.pin.place server
load-used before found after used server =
    omega (
      arith,
      load-push (before ++ after) used server,
      load-append before after server,
      load-append before (found ∷ after) server,
      load-cons found after server,
    )

-- a pin that stands in the table is counted where it is
pub load-found : (before : List TablePin) (found : TablePin) (after : List TablePin) (server : ℕ)
    → one_at found.pin.place server ≤ load (before ++ found ∷ after) server
load-found before found after server = omega (arith, load-append before (found ∷ after) server, load-cons found after server)

-- ---- one server

eqb-refl : (n : ℕ) → eqb n n ≡ true
eqb-refl n = grind (arith, Rattle.std.proofs.lemmas.Bool.Decides.nat_tests)

pub one_there : (server : ℕ) → one_at (Some server) server ≡ 1
one_there server = ap (λ (b : Bool). cond b 1 0) (eqb-refl server)
