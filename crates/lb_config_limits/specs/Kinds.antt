-- What a line declares, by its first word, and `stick on` by its first two: HAProxy Configuration Manual 2.8, sections 2.1 and 4.1. `pin-cost` is this project's own.
use Rattle.std.specs.Prelude.{ℕ, ◌&&◌, List, [], ◌∷◌, Option, Some, None, codes, if◌then◌else◌}
use Rattle.std.specs.Option.{option_or}
use Rattle.std.specs.Str.{bytes_eq}
use Rattle.std.specs.Result.{result_ok}
use Rattle.lb_types.specs.Names.{name_of}
use Rattle.lb_config_limits.specs.declared.kind.Kind.{Kind}
use Rattle.lb_config_limits.specs.declared.kind.Kind.TheVariants as Of

-- words that begin a section
unfoldable pub section_kind : List ℕ → Option Kind
section_kind word =
    if bytes_eq word (codes "global") then Some Of.Section
    else (if bytes_eq word (codes "defaults") then Some Of.Section
    else (if bytes_eq word (codes "frontend") then Some Of.Frontend
    else (if bytes_eq word (codes "backend") then Some Of.Backend
    else (if bytes_eq word (codes "listen") then Some Of.Listen else None))))

-- words of lines that are counted in their section
unfoldable pub keyword_kind : List ℕ → Option Kind
keyword_kind word =
    if bytes_eq word (codes "server") then Some Of.Server
    else (if bytes_eq word (codes "acl") then Some Of.Acl else None)

-- words of rules, which are counted together
unfoldable pub rule_kind : List ℕ → Option Kind
rule_kind word =
    if bytes_eq word (codes "use_backend") then Some Of.Rule
    else (if bytes_eq word (codes "use-server") then Some Of.Rule
    else (if bytes_eq word (codes "pin-cost") then Some Of.Rule else None))

-- `stick on`; any other line `stick` has a fault of its own, wherever it stands
unfoldable pub stick_kind : List ℕ → List (List ℕ) → Option Kind
stick_kind word [] = None
stick_kind word (second ∷ rest) = if bytes_eq word (codes "stick") && bytes_eq second (codes "on") then Some Of.StickOn else None

-- what the line declares, if anything that is counted
unfoldable pub kind_of : List (List ℕ) → Option Kind
kind_of [] = None
kind_of (word ∷ rest) = option_or (option_or (option_or (section_kind word) (keyword_kind word)) (rule_kind word)) (stick_kind word rest)

-- the name behind the line's first word, if one stands there
unfoldable pub name_in : List (List ℕ) → Option (List ℕ)
name_in [] = None
name_in (word ∷ []) = None
name_in (word ∷ name ∷ rest) = result_ok (name_of name)
