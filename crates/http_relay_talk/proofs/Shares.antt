-- Shares of the records, one after another.
use Rattle.std.proofs.Common.{◌≡◌, ℕ, List, [], ◌∷◌, ◌++◌, append-nil, append_assoc, Option, refl, sym, subst, ap, ◌∙◌}
use Rattle.http_relay_wire.specs.Faults.{one_more}
use Rattle.http_relay_wire.specs.declared.fault.WireFault.{WireFault}
use Rattle.lb_desk_ports.specs.Calls.{counted}
use Rattle.lb_desk_ports.specs.declared.refused.Refused.{Refused}
use Rattle.http_relay_queue.proofs.Waits.{grows_none, grows_more}
use Rattle.http_relay_talk.specs.Shares.{Records, Share, nothing, joined, after_refusals, after_failures, Notes, Adds}

pub refusals_append : (xs ys : List Refused) (count : ℕ) → after_refusals (xs ++ ys) count ≡ after_refusals ys (after_refusals xs count)
refusals_append [] ys count = refl
refusals_append (x ∷ xs) ys count = refusals_append xs ys (counted count)

failures_append : (xs ys : List WireFault) (count : ℕ) → after_failures (xs ++ ys) count ≡ after_failures ys (after_failures xs count)
failures_append [] ys count = refl
failures_append (x ∷ xs) ys count = failures_append xs ys (one_more count)

notes_twice : {A : Type 0} (a b c : Option (List A)) (x y : List A) → Notes a b x → Notes b c y → Notes a c (x ++ y)
notes_twice a b c [] y p q = subst (λ old. Notes old c y) p q
notes_twice a b c (x ∷ xs) [] p q = subst (Notes a c) (sym (append-nil (x ∷ xs))) (subst (λ new. Notes a new (x ∷ xs)) (sym q) p)
notes_twice a b c (x ∷ xs) (y ∷ ys) p q = grows_more a b c (x ∷ xs) (y ∷ ys) p q

-- one share and then another are both
pub adds_twice : (p q : Share) (a b c : Records) → Adds p a b → Adds q b c → Adds (joined p q) a c
adds_twice p q a b c x y = record {
  entries = y.entries ∙ ap (λ zs. zs ++ q.entries) x.entries ∙ append_assoc a.entries p.entries q.entries;
  refusals = y.refusals ∙ ap (after_refusals q.refusals) x.refusals ∙ sym (refusals_append p.refusals q.refusals a.refusals);
  told = grows_more a.told b.told c.told p.told q.told x.told y.told;
  dials = notes_twice a.dials b.dials c.dials p.dials q.dials x.dials y.dials;
  talks = notes_twice a.talks b.talks c.talks p.talks q.talks x.talks y.talks;
  failures = y.failures ∙ ap (after_failures q.failures) x.failures ∙ sym (failures_append p.failures q.failures a.failures);
}

pub adds_nothing : (a : Records) → Adds nothing a a
adds_nothing a = record {
  entries = sym (append-nil a.entries);
  refusals = refl;
  told = grows_none a.told;
  dials = refl;
  talks = refl;
  failures = refl;
}

-- a share and then nothing is that share
pub joined_nothing : (p : Share) → joined p nothing ≡ p
joined_nothing p =
    ap (λ xs. record (joined p nothing) { entries = xs }) (append-nil p.entries)
    ∙ ap (λ xs. record (joined p nothing) { entries = p.entries; refusals = xs }) (append-nil p.refusals)
    ∙ ap (λ xs. record (joined p nothing) { entries = p.entries; refusals = p.refusals; told = xs }) (append-nil p.told)
    ∙ ap (λ xs. record (joined p nothing) { entries = p.entries; refusals = p.refusals; told = p.told; pauses = xs }) (append-nil p.pauses)
    ∙ ap (λ xs. record p { dials = xs; talks = p.talks ++ []; failures = p.failures ++ [] }) (append-nil p.dials)
    ∙ ap (λ xs. record p { talks = xs; failures = p.failures ++ [] }) (append-nil p.talks)
    ∙ ap (λ xs. record p { failures = xs }) (append-nil p.failures)

-- three shares in a row
pub joined_thrice : (p q r : Share) → joined (joined p q) r ≡ joined p (joined q r)
joined_thrice p q r =
    let a = joined (joined p q) r in
    let b = joined p (joined q r) in
    ap (λ xs. record a { entries = xs }) (append_assoc p.entries q.entries r.entries)
    ∙ ap (λ xs. record a { entries = b.entries; refusals = xs }) (append_assoc p.refusals q.refusals r.refusals)
    ∙ ap (λ xs. record a { entries = b.entries; refusals = b.refusals; told = xs }) (append_assoc p.told q.told r.told)
    ∙ ap (λ xs. record a { entries = b.entries; refusals = b.refusals; told = b.told; pauses = xs }) (append_assoc p.pauses q.pauses r.pauses)
    ∙ ap (λ xs. record b { dials = xs; talks = a.talks; failures = a.failures }) (append_assoc p.dials q.dials r.dials)
    ∙ ap (λ xs. record b { talks = xs; failures = a.failures }) (append_assoc p.talks q.talks r.talks)
    ∙ ap (λ xs. record b { failures = xs }) (append_assoc p.failures q.failures r.failures)
