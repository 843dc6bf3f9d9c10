-- Sections: HAProxy Configuration Manual 2.8, sections 2.5 and 4.
use Rattle.std.specs.Prelude.{ℕ, Bool, true, false, List, [], ◌∷◌, Option, Some, None, ◌||◌, codes, bytes_eq, if◌then◌else◌}
use Rattle.lb_config_keywords.specs.declared.section.Section.{Section}
use Rattle.lb_config_keywords.specs.declared.section.Section.TheVariants.{Global, Defaults, Frontend, Backend, Listen}

-- the section that the word begins
unfoldable pub section_of : List ℕ → Option Section
section_of word =
    if bytes_eq word (codes "global") then Some Global
    else (if bytes_eq word (codes "defaults") then Some Defaults
    else (if bytes_eq word (codes "frontend") then Some Frontend
    else (if bytes_eq word (codes "backend") then Some Backend
    else (if bytes_eq word (codes "listen") then Some Listen else None))))

-- the word is one of these
abbrev pub is_one_of : List (List ℕ) → List ℕ → Bool
is_one_of [] word = false
is_one_of (one ∷ more) word = bytes_eq word one || is_one_of more word

-- sections that are left out
abbrev pub left_out_sections : List (List ℕ)
left_out_sections =
    codes "peers" ∷ codes "resolvers" ∷ codes "userlist" ∷ codes "cache" ∷ codes "mailers" ∷ codes "program" ∷ codes "ring"
    ∷ codes "http-errors" ∷ codes "fcgi-app" ∷ []

unfoldable pub is_left_out_section : List ℕ → Bool
is_left_out_section word = is_one_of left_out_sections word

-- every section but `global`
abbrev pub is_proxy : Section → Bool
is_proxy Global = false
is_proxy _ = true

-- sections that clients reach
abbrev pub is_front : Section → Bool
is_front Frontend = true
is_front Listen = true
is_front _ = false

-- sections that have servers
abbrev pub is_back : Section → Bool
is_back Backend = true
is_back Listen = true
is_back _ = false

abbrev pub is_defaults : Section → Bool
is_defaults Defaults = true
is_defaults _ = false

abbrev pub is_global : Section → Bool
is_global Global = true
is_global _ = false
