-- The lines of a text: HAProxy Configuration Manual 2.8, section 2.1 ("Configuration file format"). They end with a line feed
-- (byte 10) or with a carriage return (byte 13) and a line feed; the last line's end may be missing.
use Rattle.std.specs.Prelude.{ℕ, ◌+◌, ◌-◌, ◌==◌, ◌&&◌, not, List, [], ◌∷◌, ◌++◌, length, take, get_or, if◌then◌else◌}
use Rattle.std.specs.Option.{is_none}
use Rattle.lb_types_text.specs.Parts.{parts}
use Rattle.lb_config_words.specs.LineView.{LineView}
use Rattle.lb_config_words.specs.Words.{Spelled, spelled_of}

-- the bytes without the carriage return at their end
unfoldable pub without_return : List ℕ → List ℕ
without_return bytes = if not (length bytes == 0) && get_or bytes (length bytes - 1) 0 == 13 then take (length bytes - 1) bytes else bytes

-- the line of this number, where it has a word or breaks off
unfoldable pub told : ℕ → Spelled → List LineView
told number spelled =
    if length spelled.words == 0 && is_none spelled.ending then []
    else record { number = number; words = spelled.words; ending = spelled.ending } ∷ []

-- the lines from this number on, given as what stands between the line feeds. Only before a line feed a carriage return ends a line
unfoldable pub lines_from : ℕ → List (List ℕ) → List LineView
lines_from number [] = []
lines_from number (part ∷ more) =
    if length more == 0 then told number (spelled_of part)
    else told number (spelled_of (without_return part)) ++ lines_from (number + 1) more

-- the lines of a text
abbrev pub lines_of : List ℕ → List LineView
lines_of text = lines_from 1 (parts 10 text)
