-- Which section a word begins, and which keyword it is.
use Rattle.std.proofs.Common.{◌≡◌, ℕ, Bool, true, false, cond, List, ◌∷◌, Option, Some, None, refl, sym, subst, codes, bytes_eq}
use Rattle.std.proofs.lemmas.Option.{none-some, same_Some}
use Rattle.std.proofs.lemmas.Slice.Eq.{bytes_eq-Decides}
use Rattle.lb_config_keywords.specs.declared.keyword.ServerKeyword.{ServerKeyword}
use Rattle.lb_config_keywords.specs.declared.keyword.ServerKeyword.TheVariants as Server
use Rattle.lb_config_keywords.specs.declared.section.Section.{Section}
use Rattle.lb_config_keywords.specs.declared.section.Section.TheVariants as Begins
use Rattle.lb_config_keywords.specs.Keywords.{server_keyword}
use Rattle.lb_config_keywords.specs.Sections.{section_of}
use Rattle.lb_config_limits.specs.Kinds.{kind_of}
use Rattle.lb_config_limits.proofs.DeclaredNames.{IsInner}
use Rattle.lb_config_limits.proofs.FirstWords.{inner_kind}

-- the word of a section
abbrev pub section_word : Section → List ℕ
section_word Begins.Global = codes "global"
section_word Begins.Defaults = codes "defaults"
section_word Begins.Frontend = codes "frontend"
section_word Begins.Backend = codes "backend"
section_word Begins.Listen = codes "listen"

-- the word of a keyword of servers
abbrev pub server_word : ServerKeyword → List ℕ
server_word Server.Server = codes "server"
server_word Server.DefaultServer = codes "default-server"
server_word Server.StickTable = codes "stick-table"
server_word Server.Stick = codes "stick"
server_word Server.UseServer = codes "use-server"
server_word Server.PinCost = codes "pin-cost"

-- one test of a chain: what was found is found by its own word
tested : {K : Type 0} (spelt : K → List ℕ) (word : List ℕ) (found : K) (b : Bool) (first : K) (more : Option K) →
    (b ≡ true → word ≡ spelt first) → (more ≡ Some found → word ≡ spelt found) → cond b (Some first) more ≡ Some found → word ≡ spelt found
tested spelt word found true first more here there e = subst (λ k. word ≡ spelt k) (same_Some first found e) (here refl)
tested spelt word found false first more here there e = there e

same : (word text : List ℕ) → bytes_eq word text ≡ true → word ≡ text
same word text e = (bytes_eq-Decides word text).0 e

pub begun_by : (word : List ℕ) (found : Section) → section_of word ≡ Some found → word ≡ section_word found
unfolding section_of
begun_by word found e =
    tested section_word word found (bytes_eq word (codes "global")) Begins.Global _ (same word (codes "global"))
    (λ e. tested section_word word found (bytes_eq word (codes "defaults")) Begins.Defaults _ (same word (codes "defaults"))
    (λ e. tested section_word word found (bytes_eq word (codes "frontend")) Begins.Frontend _ (same word (codes "frontend"))
    (λ e. tested section_word word found (bytes_eq word (codes "backend")) Begins.Backend _ (same word (codes "backend"))
    (λ e. tested section_word word found (bytes_eq word (codes "listen")) Begins.Listen _ (same word (codes "listen"))
    (λ e. absurd (none-some found e)) e) e) e) e) e

pub keyword_by : (word : List ℕ) (found : ServerKeyword) → server_keyword word ≡ Some found → word ≡ server_word found
unfolding server_keyword
keyword_by word found e =
    tested server_word word found (bytes_eq word (codes "server")) Server.Server _ (same word (codes "server"))
    (λ e. tested server_word word found (bytes_eq word (codes "default-server")) Server.DefaultServer _ (same word (codes "default-server"))
    (λ e. tested server_word word found (bytes_eq word (codes "stick-table")) Server.StickTable _ (same word (codes "stick-table"))
    (λ e. tested server_word word found (bytes_eq word (codes "stick")) Server.Stick _ (same word (codes "stick"))
    (λ e. tested server_word word found (bytes_eq word (codes "use-server")) Server.UseServer _ (same word (codes "use-server"))
    (λ e. tested server_word word found (bytes_eq word (codes "pin-cost")) Server.PinCost _ (same word (codes "pin-cost"))
    (λ e. absurd (none-some found e)) e) e) e) e) e) e

-- where the chain finds none, each test fails
none_found : (a b c d e : Bool) →
    cond a (Some Begins.Global) (cond b (Some Begins.Defaults) (cond c (Some Begins.Frontend) (cond d (Some Begins.Backend) (cond e (Some Begins.Listen) None)))) ≡ None →
    (a ≡ false) × (b ≡ false) × (c ≡ false) × (d ≡ false) × (e ≡ false)
none_found true b c d e is = absurd (none-some Begins.Global (sym is))
none_found false true c d e is = absurd (none-some Begins.Defaults (sym is))
none_found false false true d e is = absurd (none-some Begins.Frontend (sym is))
none_found false false false true e is = absurd (none-some Begins.Backend (sym is))
none_found false false false false true is = absurd (none-some Begins.Listen (sym is))
none_found false false false false false is = (refl, refl, refl, refl, refl)

-- a word that begins no section
pub no_section : (word : List ℕ) (words : List (List ℕ)) → section_of word ≡ None → IsInner (kind_of (word ∷ words))
unfolding section_of
no_section word words e =
    let fails = none_found (bytes_eq word (codes "global")) (bytes_eq word (codes "defaults")) (bytes_eq word (codes "frontend"))
    (bytes_eq word (codes "backend")) (bytes_eq word (codes "listen")) e in
    inner_kind word words fails.0 fails.1 fails.2 fails.3 fails.4
