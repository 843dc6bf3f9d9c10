-- Keys as `show table` prints them: HAProxy Management Guide, section 9.3. A backslash and the byte after it belong
-- together. Our own: an escape that breaks off, as `\x` without two hexadecimal digits does, makes the text no key.
use Rattle.std.specs.Prelude.{ℕ, ◌+◌, ◌-◌, ◌*◌, Bool, true, ◌==◌, List, [], ◌∷◌, Option, Some, None, if◌then◌else◌}
use Rattle.lb_types.specs.Names.{is_between}

-- the hexadecimal digit that the byte is: `0` to `9`, `A` to `F` or `a` to `f`
abbrev pub digit_of : ℕ → Option ℕ
digit_of byte =
    if is_between 48 57 byte then Some (byte - 48)
    else if is_between 65 70 byte then Some (byte - 55)
    else if is_between 97 102 byte then Some (byte - 87)
    else None

-- the byte of two digits
abbrev pub byte_of : Option ℕ → Option ℕ → Option ℕ
byte_of (Some high) (Some low) = Some (high * 16 + low)
byte_of _ _ = None

-- the byte that a backslash and this byte stand for: a tab, LF, CR or ESC for `t`, `n`, `r` or `e`, and else the byte itself
abbrev pub meant : ℕ → ℕ
meant byte = if byte == 116 then 9 else if byte == 110 then 10 else if byte == 114 then 13 else if byte == 101 then 27 else byte

-- a byte, and then the key and the rest that follow it
abbrev pub with_byte : Option ℕ → Option (List ℕ × List ℕ) → Option (List ℕ × List ℕ)
with_byte (Some byte) (Some (key, rest)) = Some (byte ∷ key, rest)
with_byte _ _ = None

-- nothing is left, or a blank
abbrev pub ends_key : List ℕ → Bool
ends_key [] = true
ends_key (byte ∷ rest) = byte == 32

unfoldable mutual
  -- the key that a text begins with, and the rest: what follows it from the first blank on
  pub key_at : List ℕ → Option (List ℕ × List ℕ)
  key_at [] = Some ([], [])
  key_at (byte ∷ rest) =
      if byte == 32 then Some ([], byte ∷ rest)
      else if byte == 92 then escape_at rest
      else with_byte (Some byte) (key_at rest)

  -- the same after a backslash (92). An `x` (120) and two digits are a byte
  pub escape_at : List ℕ → Option (List ℕ × List ℕ)
  escape_at [] = None
  escape_at (byte ∷ rest) = if byte == 120 then code_at rest else with_byte (Some (meant byte)) (key_at rest)

  -- the same after `\x`
  pub code_at : List ℕ → Option (List ℕ × List ℕ)
  code_at (high ∷ low ∷ rest) = with_byte (byte_of (digit_of high) (digit_of low)) (key_at rest)
  code_at _ = None
