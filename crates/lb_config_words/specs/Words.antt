-- The words of a line: HAProxy Configuration Manual 2.8, section 2.1 ("Configuration file format").
use Rattle.std.specs.Prelude.{ℕ, ◌-◌, Bool, true, false, not, ◌==◌, Option, Some, None, List, [], ◌∷◌, ◌++◌, length, Result, Ok, Err, if◌then◌else◌}
use Rattle.std.specs.List.{slice_split, filter}
use Rattle.lb_config_words.specs.declared.spelling.TheConstants.{MAX_WORDS}
use Rattle.lb_config_words.specs.declared.fault.SpellingFault.{SpellingFault}
use Rattle.lb_config_words.specs.declared.fault.SpellingFault.TheVariants.{TooManyWords}
use Rattle.lb_config_words.specs.declared.piece.Piece.{Piece}
use Rattle.lb_config_words.specs.declared.piece.Piece.TheVariants.{Gap, Letter, Broken}
use Rattle.lb_config_words.specs.declared.piece.Quoting.TheVariants.{Plain}
use Rattle.lb_config_words.specs.Pieces.{pieces}

-- words, and why the spelling breaks off behind them, if it does
pub record Spelled : Type 0 where
  pub words : List (List ℕ)
  pub ending : Option SpellingFault

-- a blank outside quotes
abbrev pub is_gap : Piece → Bool
is_gap Gap = true
is_gap _ = false

-- what stands between the gaps, where anything does: a pair of quotes does
abbrev pub groups : List Piece → List (List Piece)
groups all = filter (λ group. not (length group == 0)) (slice_split is_gap all)

-- the text in front of a word, where the word is one
abbrev pub with_front : List ℕ → Result (List ℕ) SpellingFault → Result (List ℕ) SpellingFault
with_front front (Ok word) = Ok (front ++ word)
with_front front (Err fault) = Err fault

-- the word that these pieces spell, or the first fault in them
unfoldable pub word_of : List Piece → Result (List ℕ) SpellingFault
word_of [] = Ok []
word_of (Letter byte ∷ rest) = with_front (byte ∷ []) (word_of rest)
word_of (Broken fault ∷ rest) = Err fault
word_of (_ ∷ rest) = word_of rest

-- nothing but a fault
abbrev pub broken : SpellingFault → Spelled
broken fault = record { words = []; ending = Some fault }

-- words in front of others
abbrev pub behind : List (List ℕ) → Spelled → Spelled
behind front spelled = record { words = front ++ spelled.words; ending = spelled.ending }

-- the group's word and what stands behind it, or the group's fault
abbrev pub one_more : Result (List ℕ) SpellingFault → Spelled → Spelled
one_more (Ok word) spelled = behind (word ∷ []) spelled
one_more (Err fault) spelled = broken fault

-- at most so many words; the next one is a fault at the place where it begins
unfoldable pub at_most : ℕ → List (List Piece) → Spelled
at_most limit [] = record { words = []; ending = None }
at_most limit (group ∷ more) = if limit == 0 then broken TooManyWords else one_more (word_of group) (at_most (limit - 1) more)

-- the words of a line without its end
unfoldable pub spelled_of : List ℕ → Spelled
spelled_of line = at_most MAX_WORDS (groups (pieces Plain line))
