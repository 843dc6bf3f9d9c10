-- Pins that weren't used for long: where last uses never fall along the list, they are its first ones.
use Rattle.std.proofs.Common.{◌≡◌, ℕ, ◌+◌, ◌<◌, ◌≤◌, zero, suc, Bool, true, false, not, cond, Option, Some, None, List, [], ◌∷◌, length, get_or, take, replicate, refl, sym, ap, subst, ◌∙◌, le-leb, arith}
use Rattle.std.specs.Prelude.{All, filter, count_by, nat_le}
use Rattle.std.specs.Option.{option_map_or, option_and_then}
use Rattle.std.proofs.lemmas.Bool.{leb-true, leb-false, lt-leb}
use Rattle.std.proofs.lemmas.List.Elements.{All-head, All-tail}
use Rattle.lb_types.specs.declared.table_settings.TableSettings.{TableSettings}
use Rattle.pin_set.specs.declared.table_pin.TablePin.{TablePin}
use Rattle.lb_desk_seen.proofs.Placed.{filter-count}
use Rattle.lb_desk_core.specs.Expiring.{is_older, is_due, AreRising, FirstStays, IsGone}

-- ---- those that aren't older

abbrev pub younger : ℕ → ℕ → List TablePin → List TablePin
younger expire now pins = filter (λ p. not (is_older expire now p)) pins

rising_rest : (p : TablePin) (pins : List TablePin) → AreRising (p ∷ pins) → AreRising pins
rising_rest p pins rising i j d before within = rising (suc i) (suc j) d (omega (arith, before)) (omega (arith, within))

rising_first : (p q : TablePin) (pins : List TablePin) → AreRising (p ∷ q ∷ pins) → p.last_use ≤ q.last_use
rising_first p q pins rising = rising 0 1 p (omega arith) (omega arith)

-- where the first one stays, the next one does
stays_next : (expire now : ℕ) (p q : TablePin) → p.last_use ≤ q.last_use → is_older expire now p ≡ false → is_older expire now q ≡ false
stays_next expire now p q rises stays = lt-leb (q.last_use + expire) now (omega (arith, rises, past))
  where
    past : now < p.last_use + expire
    past = leb-false (p.last_use + expire) now stays

all_stay : (expire now : ℕ) (p : TablePin) (pins : List TablePin) → AreRising (p ∷ pins) → is_older expire now p ≡ false
    → younger expire now (p ∷ pins) ≡ p ∷ pins
all_stay expire now p [] rising stays = ap (λ (b : Bool). cond (not b) (p ∷ []) []) stays
all_stay expire now p (q ∷ pins) rising stays =
    let next = stays_next expire now p q (rising_first p q pins rising) stays in
    ap (λ (b : Bool). cond (not b) (p ∷ younger expire now (q ∷ pins)) (younger expire now (q ∷ pins))) stays
    ∙ ap (λ (rest : List TablePin). p ∷ rest) (all_stay expire now q pins (rising_rest p (q ∷ pins) rising) next)

pub none_goes : (expire now : ℕ) (pins : List TablePin) → AreRising pins → FirstStays expire now pins → younger expire now pins ≡ pins
none_goes expire now [] rising first = refl
none_goes expire now (p ∷ pins) rising first = all_stay expire now p pins rising (first p pins refl)

-- ---- one that goes

pub gone_rising : (expire now : ℕ) (place : Option ℕ) (old new : List TablePin) → IsGone expire now place old new → AreRising old → AreRising new
gone_rising expire now place old new gone rising =
    rising_rest gone.pin new (subst (λ (pins : List TablePin). AreRising pins) gone.first rising)

pub gone_younger : (expire now : ℕ) (place : Option ℕ) (all old new : List TablePin) → IsGone expire now place old new
    → younger expire now all ≡ younger expire now old → younger expire now all ≡ younger expire now new
gone_younger expire now place all old new gone same =
    same
    ∙ (ap (λ (pins : List TablePin). younger expire now pins) gone.first
    ∙ ap (λ (b : Bool). cond (not b) (gone.pin ∷ younger expire now new) (younger expire now new)) gone.older)

-- ---- all that went

-- where the first one of the last ones stays, they are what is left of the first ones
pub all_gone : (expire now : ℕ) (all last left : List TablePin) → younger expire now all ≡ younger expire now last → AreRising last
    → FirstStays expire now last → left ≡ last → left ≡ younger expire now all
all_gone expire now all last left same rising first is = is ∙ (sym (none_goes expire now last rising first) ∙ sym same)

pub counted_gone : (expire now : ℕ) (all left : List TablePin) → left ≡ younger expire now all
    → length left + count_by (is_older expire now) all ≡ length all
counted_gone expire now all left is =
    omega (arith, ap (λ (pins : List TablePin). length pins) is, filter-count (is_older expire now) all)

-- ---- those that are due

-- for how long a table lets a pin stay without a use
abbrev pub limit_of : Option TableSettings → Option ℕ
limit_of settings = option_and_then (λ (t : TableSettings). t.expire) settings

pub due_as_older : (settings : Option TableSettings) (expire now : ℕ) (p : TablePin) → limit_of settings ≡ Some expire
    → is_due settings now p ≡ is_older expire now p
due_as_older None expire now p limit = absurd cc
due_as_older (Some t) expire now p limit = ap (λ (o : Option ℕ). option_map_or (λ (x : ℕ). is_older x now p) o false) limit

never_due : (settings : Option TableSettings) (now : ℕ) (p : TablePin) → limit_of settings ≡ None → is_due settings now p ≡ false
never_due None now p limit = refl
never_due (Some t) now p limit = ap (λ (o : Option ℕ). option_map_or (λ (x : ℕ). is_older x now p) o false) limit

none_counted : (test : TablePin → Bool) (pins : List TablePin) → ((p : TablePin) → test p ≡ false) → 0 ≡ count_by test pins
none_counted test [] none = refl
none_counted test (p ∷ pins) none = none_counted test pins none ∙ sym (rw (none p) refl)

none_left : (test : TablePin → Bool) (pins : List TablePin) → ((p : TablePin) → test p ≡ false) → pins ≡ filter (λ p. not (test p)) pins
none_left test [] none = refl
none_left test (p ∷ pins) none =
    ap (λ (rest : List TablePin). p ∷ rest) (none_left test pins none)
    ∙ sym (ap (λ (b : Bool). cond (not b) (p ∷ filter (λ q. not (test q)) pins) (filter (λ q. not (test q)) pins)) (none p))

pub never_counted : (settings : Option TableSettings) (now : ℕ) (pins : List TablePin) → limit_of settings ≡ None
    → 0 ≡ count_by (is_due settings now) pins
never_counted settings now pins limit = none_counted (is_due settings now) pins (λ p. never_due settings now p limit)

pub never_left : (settings : Option TableSettings) (now : ℕ) (pins : List TablePin) → limit_of settings ≡ None
    → pins ≡ filter (λ p. not (is_due settings now p)) pins
never_left settings now pins limit = none_left (is_due settings now) pins (λ p. never_due settings now p limit)

-- ---- all are due

-- so long ago
abbrev pub is_older_moment : ℕ → ℕ → ℕ → Bool
is_older_moment latest limit now = nat_le (latest + limit) now

-- where the latest moment is so long ago, a pin that wasn't used later is due
older_all : (settings : Option TableSettings) (limit now latest : ℕ) (p : TablePin) → limit_of settings ≡ Some limit
    → is_older_moment latest limit now ≡ true → p.last_use ≤ latest → is_due settings now p ≡ true
older_all settings limit now latest p of_limit older used =
    due_as_older settings limit now p of_limit ∙ le-leb (p.last_use + limit) now (omega (arith, used, leb-true (latest + limit) now older))

pub none_stays : (settings : Option TableSettings) (limit now latest : ℕ) (pins : List TablePin) → limit_of settings ≡ Some limit
    → is_older_moment latest limit now ≡ true → All (λ p. p.last_use ≤ latest) pins
    → [] ≡ filter (λ p. not (is_due settings now p)) pins
none_stays settings limit now latest [] of_limit older used = refl
none_stays settings limit now latest (p ∷ pins) of_limit older used =
    none_stays settings limit now latest pins of_limit older (All-tail (λ q. q.last_use ≤ latest) p pins used)
    ∙ sym (ap (λ (b : Bool). cond (not b) (p ∷ filter (λ q. not (is_due settings now q)) pins) (filter (λ q. not (is_due settings now q)) pins))
    (older_all settings limit now latest p of_limit older (All-head (λ q. q.last_use ≤ latest) p pins used)))

pub all_counted : (settings : Option TableSettings) (limit now latest : ℕ) (pins : List TablePin) → limit_of settings ≡ Some limit
    → is_older_moment latest limit now ≡ true → All (λ p. p.last_use ≤ latest) pins
    → length pins ≡ count_by (is_due settings now) pins
all_counted settings limit now latest pins of_limit older used =
    omega (arith, ap (λ (left : List TablePin). length left) (none_stays settings limit now latest pins of_limit older used), filter-count (is_due settings now) pins)

-- ---- books without pins

abbrev pub zeros : ℕ → List ℕ
zeros many = replicate many 0

pub zero_at : (many few server : ℕ) → get_or (take few (zeros many)) server 0 ≡ 0
zero_at zero zero server = refl
zero_at zero (suc few) server = refl
zero_at (suc many) zero server = refl
zero_at (suc many) (suc few) zero = refl
zero_at (suc many) (suc few) (suc server) = zero_at many few server
