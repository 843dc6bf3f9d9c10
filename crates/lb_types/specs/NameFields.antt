-- How a name lies in its 64 bytes. No public clause cites this module.
use Rattle.std.specs.Prelude.{◌≡◌, ℕ, ◌+◌, ◌-◌, ◌≤◌, Bool, true, List, ◌++◌, length, take, drop, replicate, refl}
use Rattle.std.proofs.Common.{arith, take-append-drop, length-take-le}
use Rattle.lb_types.specs.declared.limits.TheConstants.{MAX_NAME_BYTES}
use Rattle.lb_types.specs.Names.{is_name}

-- the bytes, and zeros behind them up to the most bytes of a name
unfoldable pub padded : List ℕ → List ℕ
padded bytes = bytes ++ replicate (MAX_NAME_BYTES - length bytes) 0

-- the first `len` bytes are a name, and the others are zeros
pub record IsNameFields (bytes : List ℕ) (len : ℕ) : Type 0 where
  pub within : len ≤ MAX_NAME_BYTES
  pub whole : length bytes ≡ MAX_NAME_BYTES
  pub zeros : drop len bytes ≡ replicate (MAX_NAME_BYTES - len) 0
  pub name : is_name (take len bytes) ≡ true

pub length-name : (bytes : List ℕ) (len : ℕ) → IsNameFields bytes len → length (take len bytes) ≡ len
length-name bytes len kept = length-take-le len bytes (omega (arith, kept.within, kept.whole))

-- the bytes of a name, padded again, are its 64 bytes
pub padded-name : (bytes : List ℕ) (len : ℕ) → IsNameFields bytes len → padded (take len bytes) ≡ bytes
unfolding padded
padded-name bytes len kept = rw (length-name bytes len kept, ← kept.zeros) (take-append-drop len bytes)
