-- A wait in the queue, one question after another.
use Rattle.std.proofs.Common.{◌≡◌, ℕ, ◌+◌, ◌-◌, ◌<◌, true, false, List, [], ◌∷◌, ◌++◌, length, Option, Some, None, Result, Ok, Err, refl, sym, ◌∙◌, ap, subst, append_assoc, append-nil, length-append, arith}
use Rattle.std.specs.Prelude.{replicate}
use Rattle.std.proofs.lemmas.List.{replicate-append-replicate}
use Rattle.std.proofs.lemmas.Grind.{common_steps}
use Rattle.lb_desk_model.specs.declared.entry.Entry.{Entry}
use Rattle.lb_desk_ports.specs.Calls.{Grows}
use Rattle.lb_desk_ports.specs.declared.refused.Refused.{Refused}
use Rattle.http_relay_queue.specs.Asks.{IsQueueing, HasEnded, pauses_left}
use Rattle.http_relay_queue.specs.declared.asking.Asking.{Asking}
use Rattle.http_relay_queue.specs.declared.asking.Asking.TheVariants.{Full, Ended}
use Rattle.http_relay_queue.specs.Queues.{is_over, start, GoesOn, Ends, full_entry, last_entries, Queued}
use Rattle.http_relay_queue.specs.declared.asking.Queueing.{Queueing}
use Rattle.http_relay_queue.specs.declared.queue.Waited.{Waited}
use Rattle.http_relay_queue.specs.declared.queue.Waited.TheVariants.{Over}

pub grows_none : {A : Type 0} (known : Option (List A)) → Grows known known []
grows_none None = tt
grows_none (Some xs) = grind (arith, common_steps)

pub grows_more : {A : Type 0} (a b c : Option (List A)) (xs ys : List A) → Grows a b xs → Grows b c ys → Grows a c (xs ++ ys)
grows_more a b None xs ys f s = tt
grows_more a None (Some cs) xs ys f s = absurd s
grows_more None (Some bs) (Some cs) xs ys f s = absurd f
grows_more (Some xs0) (Some bs) (Some cs) xs ys f s = s ∙ ap (λ zs. zs ++ ys) f ∙ append_assoc xs0 xs ys

-- one more of the same
replicate_more : {A : Type 0} (xs : List ℕ) (x : ℕ) (a : A) → replicate (length (xs ++ x ∷ [])) a ≡ replicate (length xs) a ++ a ∷ []
replicate_more xs x a = ap (λ n. replicate n a) (length-append xs (x ∷ [])) ∙ sym (replicate-append-replicate (length xs) 1 a)

goes_on_more : (limit : Option ℕ) (first count : ℕ) (waits : List ℕ) (now : ℕ) → GoesOn limit first count waits
    → is_over limit (count + length waits) (now - first) ≡ false → GoesOn limit first count (waits ++ now ∷ [])
goes_on_more limit first count [] now goes under =
    let same : count + 0 ≡ count = omega arith in
    (subst (λ n. is_over limit n (now - first) ≡ false) same under, tt)
goes_on_more limit first count (w ∷ ws) now goes under =
    let same : count + length (w ∷ ws) ≡ count + 1 + length ws = grind (arith, common_steps) in
    (goes.0, goes_on_more limit first (count + 1) ws now goes.1 (subst (λ n. is_over limit n (now - first) ≡ false) same under))

-- the port answered that the server is full no longer
pub answered : {S : Type 0} (limit : Option ℕ) (server : ℕ) (entries : List Entry) (told pauses : List ℕ) (queueing : Queueing)
    (answer : Result (Waited S) Refused)
    → IsQueueing limit server entries told pauses queueing → Ends limit told told answer
    → HasEnded limit server (entries ++ last_entries server answer) (told ++ []) (pauses ++ 50 ∷ []) answer
answered limit server entries told pauses queueing answer q ends =
    subst (λ t. HasEnded limit server (entries ++ last_entries server answer) t (pauses ++ 50 ∷ []) answer) (sym (append-nil told)) (record {
      told = told;
      waits = told;
      goes_on = subst (λ first. GoesOn limit first 0 told) q.starts q.goes_on;
      ends = ends;
      asked = ap (λ es. es ++ last_entries server answer) q.asked;
      tells = refl;
      pauses = q.due;
    })

starts_stay : (told : List ℕ) (now : ℕ) → 0 < length told → start (told ++ now ∷ []) ≡ start told
starts_stay [] now some = absurd (omega (arith, some))
starts_stay (first ∷ more) now some = refl

some_told : (pauses told : List ℕ) → pauses ++ 50 ∷ [] ≡ replicate (length told) 50 → 0 < length told
some_told pauses [] due = omega (arith, length-append pauses (50 ∷ []), ap (λ (xs : List ℕ). length xs) due)
some_told pauses (t ∷ ts) due = grind (arith, common_steps)

-- the server is full again, and the wait is not over
pub again : (limit : Option ℕ) (server now : ℕ) (entries : List Entry) (told pauses : List ℕ) (queueing : Queueing)
    → IsQueueing limit server entries told pauses queueing → is_over limit queueing.pauses (now - queueing.start) ≡ false
    → IsQueueing limit server (entries ++ full_entry server ∷ []) (told ++ now ∷ []) (pauses ++ 50 ∷ [])
    (record { start = queueing.start; pauses = queueing.pauses + 1 })
again limit server now entries told pauses queueing q under =
    let zero : queueing.pauses ≡ 0 + length told = omega (arith, q.count) in
    record {
      starts = q.starts ∙ sym (starts_stay told now (some_told pauses told q.due));
      goes_on = goes_on_more limit queueing.start 0 told now q.goes_on (subst (λ n. is_over limit n (now - queueing.start) ≡ false) zero under);
      count = omega (arith, q.count, length-append told (now ∷ []));
      due = ap (λ ps. ps ++ 50 ∷ []) q.due ∙ sym (replicate_more told now 50);
      asked = ap (λ es. es ++ full_entry server ∷ []) q.asked ∙ sym (replicate_more told now (full_entry server));
    }

-- the wait is over
pub is_out : {S : Type 0} (limit : Option ℕ) (server now : ℕ) (entries : List Entry) (told pauses : List ℕ) (queueing : Queueing)
    → IsQueueing limit server entries told pauses queueing → is_over limit queueing.pauses (now - queueing.start) ≡ true
    → HasEnded {S = S} limit server (entries ++ full_entry server ∷ []) (told ++ now ∷ []) (pauses ++ 50 ∷ []) (Ok Over)
is_out limit server now entries told pauses queueing q over = record {
  told = told ++ now ∷ [];
  waits = told;
  goes_on = subst (λ first. GoesOn limit first 0 told) (q.starts ∙ sym (starts_stay told now (some_told pauses told q.due))) q.goes_on;
  ends = (
    now,
    refl,
    subst (λ first. is_over limit (length told) (now - first) ≡ true) (q.starts ∙ sym (starts_stay told now (some_told pauses told q.due)))
        (subst (λ n. is_over limit n (now - queueing.start) ≡ true) q.count over),
  );
  asked = ap (λ es. es ++ full_entry server ∷ []) q.asked ∙ sym (replicate_more told now (full_entry server)) ∙ sym (append-nil (replicate (length (told ++ now ∷ [])) (full_entry server)));
  tells = refl;
  pauses = q.due;
}

-- a wait that has ended, wherever it is
pub wherever : {S : Type 0} (limit : Option ℕ) (server : ℕ) (entries : List Entry) (told pauses : List ℕ) (answer : Result (Waited S) Refused)
    (before after : List Entry) (tb ta pb pa : Option (List ℕ)) → HasEnded limit server entries told pauses answer
    → after ≡ before ++ entries → Grows tb ta told → Grows pb pa pauses → Queued limit server answer before after tb ta pb pa
wherever limit server entries told pauses answer before after tb ta pb pa h grown tells paused = record {
  told = h.told;
  waits = h.waits;
  goes_on = h.goes_on;
  ends = h.ends;
  asked = grown ∙ ap (λ es. before ++ es) h.asked ∙ sym (append_assoc before (replicate (length h.told) (full_entry server)) (last_entries server answer));
  tells = subst (Grows tb ta) h.tells tells;
  pauses = subst (Grows pb pa) h.pauses paused;
}

-- how many questions are left at most
abbrev pub questions_left : {S : Type 0} → Option ℕ → Result (Asking S) Refused → ℕ
questions_left limit (Ok (Full queueing)) = pauses_left limit queueing + 1
questions_left limit (Ok (Ended answer)) = 0
questions_left limit (Err refused) = 0
