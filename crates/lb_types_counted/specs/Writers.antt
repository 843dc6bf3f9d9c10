-- What a writer that counts its failures holds, and what a write does to it. A write may take a part of its bytes, take
-- none, or fail: the trait `Write` of Rust's standard library.
use Rattle.std.specs.Prelude.{ℕ, ◌+◌, ◌-◌, ◌^◌, ◌<◌, ◌≤◌, Bool, true, ◌&&◌, ◌==◌, not, nat_lt, Option, List, length, take, Result, Ok, Err, if◌then◌else◌}
use Rattle.std.specs.Io.KnownBytes.{Appends}

pub record WriterState : Type 0 where
  -- the bytes that went out, where the wrapped writer knows them
  pub contents : Option (List ℕ)
  -- how many writes failed, up to 2^64 - 1, where the count stands still
  pub failures : ℕ

abbrev pub writer_state : Option (List ℕ) → ℕ → WriterState
writer_state contents failures = record { contents = contents; failures = failures }

-- the write failed, or took no byte although there was one
abbrev pub has_failed : {E : Type 0} → Result ℕ E → List ℕ → Bool
has_failed (Ok taken) bytes = taken == 0 && not (length bytes == 0)
has_failed (Err e) bytes = true

-- the count with one failure more, where it can hold it
abbrev pub one_more : ℕ → ℕ
one_more failures = if nat_lt failures (2 ^ 64 - 1) then failures + 1 else failures

-- the count is greater than it was, unless it stands at its largest
pub record Rises (old new : ℕ) : Type 0 where
  pub kept : old ≤ new
  pub more : old < 2 ^ 64 - 1 → old < new

-- a beginning of the text went out, which may be nothing or all of it
abbrev pub AppendsFront : Option (List ℕ) → Option (List ℕ) → List ℕ → Type 0
AppendsFront old new text = (n : ℕ) × Appends old new (take n text)

-- all of the text went out
pub record WritesWhole (old new : WriterState) (text : List ℕ) : Type 0 where
  pub whole : Appends old.contents new.contents text
  pub failures : old.failures ≤ new.failures

-- a write failed, and a beginning of the text went out
pub record WritesFront (old new : WriterState) (text : List ℕ) : Type 0 where
  pub front : AppendsFront old.contents new.contents text
  pub failures : Rises old.failures new.failures
