-- What lines declare, by their first words.
use Rattle.std.proofs.Common.{◌≡◌, ℕ, Bool, true, false, not, ◌&&◌, nat_le, ◌==◌, cond, List, [], ◌∷◌, length, Option, Some, None, Ok, refl, sym, ap, subst, codes, bytes_eq}
use Rattle.std.specs.Option.{option_or}
use Rattle.std.specs.Result.{result_ok}
use Rattle.std.proofs.lemmas.Bool.{and_parts, le-ltb, leb-true, not-true, cond_both}
use Rattle.lb_types.specs.declared.limits.TheConstants.{MAX_NAME_BYTES, MAX_SERVERS}
use Rattle.lb_types.specs.Names.{is_lawful, is_name, name_of}
use Rattle.lb_config_limits.specs.declared.declarations.TheConstants.{MAX_BACKENDS}
use Rattle.lb_config_limits.specs.declared.kind.Kind.{Kind}
use Rattle.lb_config_limits.specs.declared.kind.Kind.TheVariants as Of
use Rattle.lb_config_limits.specs.Kinds.{keyword_kind, kind_of, name_in, rule_kind, section_kind, stick_kind}
use Rattle.lb_config_limits.proofs.DeclaredNames.{AddsBackend, AddsIf, AddsServer, Grows, IsInner, KeepsServers}

inner_or : (a b : Option Kind) → IsInner a → IsInner b → IsInner (option_or a b)
inner_or None b left right = right
inner_or (Some kind) b left right = left

keyword_inner : (word : List ℕ) → IsInner (keyword_kind word)
unfolding keyword_kind
keyword_inner word =
    cond_both (bytes_eq word (codes "server")) _ _ IsInner (λ e. tt) (λ e. cond_both (bytes_eq word (codes "acl")) _ _ IsInner (λ e. tt) (λ e. tt))

rule_inner : (word : List ℕ) → IsInner (rule_kind word)
unfolding rule_kind
rule_inner word =
    cond_both (bytes_eq word (codes "use_backend")) _ _ IsInner (λ e. tt)
    (λ e. cond_both (bytes_eq word (codes "use-server")) _ _ IsInner (λ e. tt) (λ e. cond_both (bytes_eq word (codes "pin-cost")) _ _ IsInner (λ e. tt) (λ e. tt)))

stick_inner : (word : List ℕ) (words : List (List ℕ)) → IsInner (stick_kind word words)
unfolding stick_kind
stick_inner word [] = tt
stick_inner word (second ∷ words) =
    cond_both (bytes_eq word (codes "stick") && bytes_eq second (codes "on")) _ _ IsInner (λ e. tt) (λ e. tt)

no_section : (a b c d e : Bool) → a ≡ false → b ≡ false → c ≡ false → d ≡ false → e ≡ false →
    cond a (Some Of.Section) (cond b (Some Of.Section) (cond c (Some Of.Frontend) (cond d (Some Of.Backend) (cond e (Some Of.Listen) None)))) ≡ None
no_section a b c d e is_a is_b is_c is_d is_e = rw (is_a, is_b, is_c, is_d, is_e) refl

-- a line whose first word begins no section
pub inner_kind : (word : List ℕ) (words : List (List ℕ)) → bytes_eq word (codes "global") ≡ false → bytes_eq word (codes "defaults") ≡ false →
    bytes_eq word (codes "frontend") ≡ false → bytes_eq word (codes "backend") ≡ false → bytes_eq word (codes "listen") ≡ false →
    IsInner (kind_of (word ∷ words))
unfolding kind_of section_kind
inner_kind word words a b c d e =
    rw (no_section (bytes_eq word (codes "global")) (bytes_eq word (codes "defaults")) (bytes_eq word (codes "frontend"))
    (bytes_eq word (codes "backend")) (bytes_eq word (codes "listen")) a b c d e)
    (inner_or (option_or (keyword_kind word) (rule_kind word)) (stick_kind word words)
    (inner_or (keyword_kind word) (rule_kind word) (keyword_inner word) (rule_inner word)) (stick_inner word words))

-- such a line keeps the section's servers
pub keeps_servers : (kind : Option Kind) (old new : List (List ℕ)) → IsInner kind → KeepsServers kind old new → Grows MAX_SERVERS old new
keeps_servers None old new inner keeps = keeps
keeps_servers (Some Of.Section) old new inner keeps = absurd inner
keeps_servers (Some Of.Frontend) old new inner keeps = absurd inner
keeps_servers (Some Of.Backend) old new inner keeps = absurd inner
keeps_servers (Some Of.Listen) old new inner keeps = absurd inner
keeps_servers (Some Of.Server) old new inner keeps = keeps
keeps_servers (Some Of.Acl) old new inner keeps = keeps
keeps_servers (Some Of.Rule) old new inner keeps = keeps
keeps_servers (Some Of.StickOn) old new inner keeps = keeps

-- a line with this first word adds its name
pub adds_backend : (word : List ℕ) (words : List (List ℕ)) (name : Option (List ℕ)) (old new : List (List ℕ)) → word ≡ codes "backend" →
    AddsBackend (kind_of (word ∷ words)) name old new → AddsIf MAX_BACKENDS name old new
unfolding kind_of section_kind
adds_backend word words name old new e = subst (λ first. AddsBackend (kind_of (first ∷ words)) name old new → AddsIf MAX_BACKENDS name old new) (sym e) (λ adds. adds)

pub adds_listen : (word : List ℕ) (words : List (List ℕ)) (name : Option (List ℕ)) (old new : List (List ℕ)) → word ≡ codes "listen" →
    AddsBackend (kind_of (word ∷ words)) name old new → AddsIf MAX_BACKENDS name old new
unfolding kind_of section_kind
adds_listen word words name old new e = subst (λ first. AddsBackend (kind_of (first ∷ words)) name old new → AddsIf MAX_BACKENDS name old new) (sym e) (λ adds. adds)

pub adds_server : (word : List ℕ) (words : List (List ℕ)) (name : Option (List ℕ)) (old new : List (List ℕ)) → word ≡ codes "server" →
    AddsServer (kind_of (word ∷ words)) name old new → AddsIf MAX_SERVERS name old new
unfolding kind_of section_kind keyword_kind
adds_server word words name old new e = subst (λ first. AddsServer (kind_of (first ∷ words)) name old new → AddsIf MAX_SERVERS name old new) (sym e) (λ adds. adds)

name_is : (bytes : List ℕ) → is_name bytes ≡ true → name_of bytes ≡ Ok bytes
name_is bytes e =
    let all = and_parts (not (length bytes == 0) && nat_le (length bytes) MAX_NAME_BYTES) (is_lawful bytes) e in
    let two = and_parts (not (length bytes == 0)) (nat_le (length bytes) MAX_NAME_BYTES) all.0 in
    rw (not-true (length bytes == 0) two.0, le-ltb MAX_NAME_BYTES (length bytes) (leb-true (length bytes) MAX_NAME_BYTES two.1), all.1) refl

-- the name behind a line's first word
pub named : (word name : List ℕ) (words : List (List ℕ)) → is_name name ≡ true → name_in (word ∷ name ∷ words) ≡ Some name
unfolding name_in
named word name words e = ap result_ok (name_is name e)
