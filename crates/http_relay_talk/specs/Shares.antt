-- What one request does of all that is recorded at a port, of a clock and at a dialer that serve several requests. Our own words.
use Rattle.std.specs.Prelude.{◌≡◌, ℕ, List, [], ◌∷◌, ◌++◌, Option, Result, Ok, Err}
use Rattle.http_relay_dial.specs.Dials.{Dial, Talk}
use Rattle.http_relay_wire.specs.Faults.{one_more}
use Rattle.http_relay_wire.specs.declared.fault.WireFault.{WireFault}
use Rattle.lb_desk_model.specs.declared.entry.Entry.{Entry}
use Rattle.lb_desk_ports.specs.Calls.{Grows, counted}
use Rattle.lb_desk_ports.specs.declared.refused.Refused.{Refused}

-- the records at one moment: a port's entries and refusals, a clock's moments, a dialer's dials, the connections that were given back
-- to it, and its failures
pub record Records : Type 0 where
  pub entries : List Entry
  pub refusals : ℕ
  pub told : Option (List ℕ)
  pub dials : Option (List Dial)
  pub talks : Option (List Talk)
  pub failures : ℕ

abbrev pub records : {P D : Type 0} → (P → List Entry) → (P → ℕ) → (D → Option (List Dial)) → (D → Option (List Talk)) → (D → ℕ)
    → P → Option (List ℕ) → D → Records
records entries refusals dials talks failures port told dialer = record {
  entries = entries port;
  refusals = refusals port;
  told = told;
  dials = dials dialer;
  talks = talks dialer;
  failures = failures dialer;
}

-- what one request did there, in its order, and the milliseconds of each pause that was due to it
pub record Share : Type 0 where
  pub entries : List Entry
  pub refusals : List Refused
  pub told : List ℕ
  pub pauses : List ℕ
  pub dials : List Dial
  pub talks : List Talk
  pub failures : List WireFault

-- a request that did nothing
abbrev pub nothing : Share
nothing = record { entries = []; refusals = []; told = []; pauses = []; dials = []; talks = []; failures = [] }

-- what a request did first, and then
abbrev pub joined : Share → Share → Share
joined first then = record {
  entries = first.entries ++ then.entries;
  refusals = first.refusals ++ then.refusals;
  told = first.told ++ then.told;
  pauses = first.pauses ++ then.pauses;
  dials = first.dials ++ then.dials;
  talks = first.talks ++ then.talks;
  failures = first.failures ++ then.failures;
}

-- the refusals of one call
abbrev pub refusals_of : {A : Type 0} → Result A Refused → List Refused
refusals_of (Ok answer) = []
refusals_of (Err refused) = refused ∷ []

-- a count of refusals after these, up to 2^64 - 1
abbrev pub after_refusals : List Refused → ℕ → ℕ
after_refusals [] count = count
after_refusals (refused ∷ more) count = after_refusals more (counted count)

-- a count of failures after these, up to 2^64 - 1
abbrev pub after_failures : List WireFault → ℕ → ℕ
after_failures [] count = count
after_failures (fault ∷ more) count = after_failures more (one_more count)

-- a record has grown by these, as in `Grows`; by none of them, and it is as it was
abbrev pub Notes : {A : Type 0} → Option (List A) → Option (List A) → List A → Type 0
Notes old new [] = new ≡ old
Notes old new (one ∷ more) = Grows old new (one ∷ more)

-- between two moments this was added to the records, and nothing else
pub record Adds (share : Share) (old new : Records) : Type 0 where
  pub entries : new.entries ≡ old.entries ++ share.entries
  pub refusals : new.refusals ≡ after_refusals share.refusals old.refusals
  pub told : Grows old.told new.told share.told
  pub dials : Notes old.dials new.dials share.dials
  pub talks : Notes old.talks new.talks share.talks
  pub failures : new.failures ≡ after_failures share.failures old.failures
