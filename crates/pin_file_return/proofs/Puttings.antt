-- Pins that are set through a port, one after another.
use Rattle.std.proofs.Common.{◌≡◌, ◌≢◌, ℕ, ◌+◌, Result, Ok, Err, cond, List, [], ◌∷◌, ◌++◌, refl, sym, ap, ◌∙◌, subst, append_assoc, append-nil, arith}
use Rattle.std.specs.List.{fold}
use Rattle.std.specs.Prelude.{count_by}
use Rattle.std.specs.Result.{IsErr}
use Rattle.std.proofs.lemmas.Bool.{false≢true}
use Rattle.std.proofs.lemmas.List.{map_push}
use Rattle.pin_set.specs.declared.table_pin.TablePin.{TablePin}
use Rattle.lb_desk_law.specs.SetPins.{AreSetsOf, IsSetOf}
use Rattle.lb_desk_model.specs.declared.entry.Entry.{Entry}
use Rattle.lb_desk_model.specs.declared.event.Event.TheVariants.{Set}
use Rattle.lb_desk_model.specs.declared.event.SetPin.{SetPin}
use Rattle.lb_desk_model.specs.declared.reply.PinnedAs.{PinnedAs}
use Rattle.lb_desk_model.specs.Sets.{set_pin}
use Rattle.lb_desk_ports.specs.declared.refused.Refused.{Refused}
use Rattle.lb_desk_ports.specs.declared.replies.Pinning.{Pinning}
use Rattle.lb_desk_ports.specs.declared.replies.Pinning.TheVariants as pinning
use Rattle.lb_desk_ports.specs.Calls.{entry}
use Rattle.lb_desk_ports.specs.Ports.{pinning_reply}
use Rattle.pin_file_return.specs.Puts.{PutsAll, WereSet, is_pinned, rows_of}

pub none_set : (old : List Entry) → WereSet [] 0 old old
none_set old = record { made = []; entries = sym (append-nil old); sets = tt; count = refl }

sets_push : (pins : List TablePin) (p : TablePin) (made : List Entry) (e : Entry) → AreSetsOf pins made → (set : SetPin) × (e.event ≡ Set set) × IsSetOf p set
    → AreSetsOf (pins ++ p ∷ []) (made ++ e ∷ [])
sets_push [] p [] e sets one = (one, tt)
sets_push [] p (f ∷ made) e sets one = absurd sets
sets_push (q ∷ pins) p [] e sets one = absurd sets
sets_push (q ∷ pins) p (f ∷ made) e sets one = (sets.0, sets_push pins p made e sets.1 one)

count_push-from : (n : ℕ) (made : List Entry) (e : Entry)
    → fold (λ (a : ℕ) (x : Entry). a + cond (is_pinned x.reply) 1 0) n (made ++ e ∷ [])
    ≡ fold (λ (a : ℕ) (x : Entry). a + cond (is_pinned x.reply) 1 0) n made + cond (is_pinned e.reply) 1 0
count_push-from n [] e = refl
count_push-from n (f ∷ made) e = count_push-from (n + cond (is_pinned f.reply) 1 0) made e

count_push : (made : List Entry) (e : Entry)
    → count_by (λ x. is_pinned x.reply) (made ++ e ∷ []) ≡ count_by (λ x. is_pinned x.reply) made + cond (is_pinned e.reply) 1 0
count_push made e = count_push-from 0 made e

-- one pin more was set
pub one_more : (pins : List SetPin) (pin : SetPin) (pinned next : ℕ) (old mid new : List Entry) (answer : Pinning) → WereSet pins pinned old mid
    → new ≡ mid ++ entry (Set pin) (pinning_reply answer) ∷ [] → next ≡ pinned + cond (is_pinned (pinning_reply answer)) 1 0
    → WereSet (pins ++ pin ∷ []) next old new
one_more pins pin pinned next old mid new answer w grown count =
    let e : Entry = entry (Set pin) (pinning_reply answer) in
    record {
      made = w.made ++ e ∷ [];
      entries = grown ∙ (ap (λ (l : List Entry). l ++ e ∷ []) w.entries ∙ append_assoc old w.made (e ∷ []));
      sets = subst (λ (l : List TablePin). AreSetsOf l (w.made ++ e ∷ [])) (sym (map_push (λ s. set_pin s s.moment) pins pin))
          (sets_push (rows_of pins) (set_pin pin pin.moment) w.made e w.sets
          (pin, refl, record { name = refl; place = refl; cost = refl; moment = refl }));
      count = count ∙ (ap (λ (n : ℕ). n + cond (is_pinned e.reply) 1 0) w.count ∙ sym (count_push w.made e));
    }

-- one that is pinned counts
pub pinned_counts : (answer : Pinning) (how : PinnedAs) (pinned : ℕ) → answer ≡ Pinning.Pinned how → pinned + 1 ≡ pinned + cond (is_pinned (pinning_reply answer)) 1 0
pinned_counts answer how pinned is = subst (λ (a : Pinning). pinned + 1 ≡ pinned + cond (is_pinned (pinning_reply a)) 1 0) (sym is) refl

-- one that is answered otherwise doesn't
pub others_do_not : (answer : Pinning) (pinned : ℕ) → ((how : PinnedAs) → answer ≢ Pinning.Pinned how)
    → pinned ≡ pinned + cond (is_pinned (pinning_reply answer)) 1 0
others_do_not (pinning.Pinned how) pinned other = absurd (other how refl)
others_do_not pinning.NoTable pinned other = omega arith
others_do_not pinning.NoSuchServer pinned other = omega arith
others_do_not pinning.TableFull pinned other = omega arith

-- a call that was refused ends it, and changed nothing
pub refused_then : (r : Result ℕ Refused) (pins front rest : List SetPin) (pinned : ℕ) (old mid new : List Entry) → IsErr r → pins ≡ front ++ rest
    → WereSet front pinned old mid → new ≡ mid ++ [] → PutsAll pins old new r
refused_then (Ok n) pins front rest pinned old mid new err is w same = absurd (false≢true err)
refused_then (Err e) pins front rest pinned old mid new err is w same =
    (front, rest, pinned, is, subst (λ (l : List Entry). WereSet front pinned old l) (sym (same ∙ append-nil mid)) w)

-- one more is done, and the others are left
pub next_left : (done rest all later : List SetPin) (pin : SetPin) → done ++ rest ≡ all → rest ≡ pin ∷ later → (done ++ pin ∷ []) ++ later ≡ all
next_left done rest all later pin is next = append_assoc done (pin ∷ []) later ∙ ap (λ (l : List SetPin). done ++ l) (sym next) ∙ is
