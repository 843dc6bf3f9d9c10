-- A word's bytes, read from its front.
use Rattle.std.proofs.Common.{◌≡◌, ℕ, false, eqb, Option, Some, None, List, [], ◌∷◌, ◌++◌, length, refl, sym, ap, ◌∙◌, append_assoc, append-nil, option_map}
use Rattle.command_socket_keys.specs.Keys.{bytes_in, with_byte}

-- these bytes, and then those that are left
abbrev pub then : List ℕ → Option (List ℕ) → Option (List ℕ)
then bytes rest = option_map (λ more. bytes ++ more) rest

then_more : (bytes : List ℕ) (byte : ℕ) (rest : Option (List ℕ)) → then (bytes ++ byte ∷ []) rest ≡ then bytes (with_byte (Some byte) rest)
then_more bytes byte None = refl
then_more bytes byte (Some more) = ap Some (append_assoc bytes (byte ∷ []) more)

plain : (byte : ℕ) (rest : List ℕ) → eqb byte 37 ≡ false → bytes_in (byte ∷ rest) ≡ with_byte (Some byte) (bytes_in rest)
unfolding bytes_in
plain byte [] other = rw other refl
plain byte (next ∷ []) other = rw other refl
plain byte (high ∷ low ∷ more) other = rw other refl

-- a byte that stands for itself
pub own_byte : (bytes word : List ℕ) (byte : ℕ) (rest : List ℕ) → eqb byte 37 ≡ false → then bytes (bytes_in (byte ∷ rest)) ≡ bytes_in word
    → then (bytes ++ byte ∷ []) (bytes_in rest) ≡ bytes_in word
own_byte bytes word byte rest other so_far = then_more bytes byte (bytes_in rest) ∙ ap (then bytes) (sym (plain byte rest other)) ∙ so_far

-- a byte that is escaped
pub escaped_byte : (bytes word behind more : List ℕ) (byte : ℕ) → bytes_in (37 ∷ behind) ≡ with_byte (Some byte) (bytes_in more)
    → then bytes (bytes_in (37 ∷ behind)) ≡ bytes_in word → then (bytes ++ byte ∷ []) (bytes_in more) ≡ bytes_in word
escaped_byte bytes word behind more byte is so_far = then_more bytes byte (bytes_in more) ∙ ap (then bytes) (sym is) ∙ so_far

-- a `%` that begins no escape
pub no_escape : (bytes word behind : List ℕ) → bytes_in (37 ∷ behind) ≡ None → then bytes (bytes_in (37 ∷ behind)) ≡ bytes_in word
    → None ≡ bytes_in word
no_escape bytes word behind none so_far = ap (then bytes) (sym none) ∙ so_far

-- nothing is left
pub all_bytes : (bytes word rest : List ℕ) → length rest ≡ 0 → then bytes (bytes_in rest) ≡ bytes_in word → Some bytes ≡ bytes_in word
unfolding bytes_in
all_bytes bytes word [] empty so_far = ap Some (sym (append-nil bytes)) ∙ so_far
all_bytes bytes word (byte ∷ rest) empty so_far = cc
