-- What the bytes of a line stand for: quotes, backslashes and comments of the HAProxy Configuration Manual 2.8, section 2.2
-- ("Quoting and escaping"). This profile is stricter: a backslash that nothing needs, and a `$` in double quotes without one,
-- are refused.
use Rattle.std.specs.Prelude.{ℕ, Bool, false, ◌==◌, ◌||◌, List, [], ◌∷◌, if◌then◌else◌}
use Rattle.std.specs.List.{list_any}
use Rattle.lb_config_words.specs.declared.fault.SpellingFault.TheVariants.{UnclosedQuote, RefusedBackslash, RefusedDollar}
use Rattle.lb_config_words.specs.declared.piece.Piece.{Piece}
use Rattle.lb_config_words.specs.declared.piece.Piece.TheVariants.{Gap, Mark, Letter, Broken}
use Rattle.lb_config_words.specs.declared.piece.Quoting.{Quoting}
use Rattle.lb_config_words.specs.declared.piece.Quoting.TheVariants as In

-- a space or a tab
abbrev pub is_blank : ℕ → Bool
is_blank byte = byte == 32 || byte == 9

-- a space, `#`, `\`, `'`, `"` or `$`: what a backslash may stand before
abbrev pub is_escapable : ℕ → Bool
is_escapable byte = byte == 32 || byte == 35 || byte == 92 || byte == 39 || byte == 34 || byte == 36

unfoldable mutual
  -- a double quote stands in the bytes, and no backslash before it
  pub closes_double : List ℕ → Bool
  closes_double [] = false
  closes_double (byte ∷ rest) = if byte == 92 then closes_behind rest else (byte == 34 || closes_double rest)

  -- the same behind a backslash, which takes one byte with it
  pub closes_behind : List ℕ → Bool
  closes_behind [] = false
  closes_behind (_ ∷ rest) = closes_double rest

-- a single quote stands in the bytes
abbrev pub closes_single : List ℕ → Bool
closes_single bytes = list_any (λ byte. byte == 39) bytes

-- the mark that opens a quote, and what stands behind it, if the quote is closed
abbrev pub opened : Bool → List Piece → List Piece
opened is_closed quoted = if is_closed then Mark ∷ quoted else Broken UnclosedQuote ∷ []

unfoldable mutual
  -- what each byte stands for, from a place outside quotes or in them up to the comment, the first refusal or the end
  pub pieces : Quoting → List ℕ → List Piece
  pieces quoting [] = []
  pieces In.Plain (byte ∷ rest) =
      if is_blank byte then Gap ∷ pieces In.Plain rest
      else (if byte == 35 then []
      else (if byte == 39 then opened (closes_single rest) (pieces In.Single rest)
      else (if byte == 34 then opened (closes_double rest) (pieces In.Double rest)
      else (if byte == 92 then escaped In.Plain rest
      else Letter byte ∷ pieces In.Plain rest))))
  pieces In.Single (byte ∷ rest) = if byte == 39 then Mark ∷ pieces In.Plain rest else Letter byte ∷ pieces In.Single rest
  pieces In.Double (byte ∷ rest) =
      if byte == 34 then Mark ∷ pieces In.Plain rest
      else (if byte == 36 then Broken RefusedDollar ∷ []
      else (if byte == 92 then escaped In.Double rest
      else Letter byte ∷ pieces In.Double rest))

  -- what stands behind a backslash
  pub escaped : Quoting → List ℕ → List Piece
  escaped quoting [] = Broken RefusedBackslash ∷ []
  escaped quoting (byte ∷ rest) = if is_escapable byte then Letter byte ∷ pieces quoting rest else Broken RefusedBackslash ∷ []
