-- A key's bytes, read from the front of its text.
use Rattle.std.proofs.Common.{◌≡◌, ℕ, true, Option, Some, None, List, [], ◌∷◌, ◌++◌, refl, sym, ap, ◌∙◌, append_assoc, append-nil, option_map}
use Rattle.haproxy_admin.specs.Keys.{key_at, with_byte, ends_key}

-- these bytes, and then those that are left
abbrev pub then : List ℕ → Option (List ℕ × List ℕ) → Option (List ℕ × List ℕ)
then bytes read = option_map (λ two. (bytes ++ two.0, two.1)) read

then_more : (bytes : List ℕ) (byte : ℕ) (read : Option (List ℕ × List ℕ)) → then (bytes ++ byte ∷ []) read ≡ then bytes (with_byte (Some byte) read)
then_more bytes byte None = refl
then_more bytes byte (Some two) = ap (λ bs. Some (bs, two.1)) (append_assoc bytes (byte ∷ []) two.0)

-- a byte more
pub byte_more : (bytes text rest more : List ℕ) (byte : ℕ) → key_at rest ≡ with_byte (Some byte) (key_at more)
    → then bytes (key_at rest) ≡ key_at text → then (bytes ++ byte ∷ []) (key_at more) ≡ key_at text
byte_more bytes text rest more byte is so_far = then_more bytes byte (key_at more) ∙ ap (then bytes) (sym is) ∙ so_far

-- an escape that breaks off
pub broken_off : (bytes text rest : List ℕ) → key_at rest ≡ None → then bytes (key_at rest) ≡ key_at text → None ≡ key_at text
broken_off bytes text rest none so_far = ap (then bytes) (sym none) ∙ so_far

at_end : (rest : List ℕ) → ends_key rest ≡ true → key_at rest ≡ Some ([], rest)
unfolding key_at
at_end [] ends = refl
at_end (byte ∷ rest) ends = rw ends refl

-- the key's end
pub all_bytes : (bytes text rest : List ℕ) → ends_key rest ≡ true → then bytes (key_at rest) ≡ key_at text → Some (bytes, rest) ≡ key_at text
all_bytes bytes text rest ends so_far = ap (λ bs. Some (bs, rest)) (sym (append-nil bytes)) ∙ ap (then bytes) (sym (at_end rest ends)) ∙ so_far
