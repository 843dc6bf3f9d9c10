-- Servers that are kept have distinct names, and are at most 128.
use Rattle.std.proofs.Common.{◌≡◌, ◌≢◌, Bool, true, false, ◌&&◌, not, nat_lt, cond, List, [], ◌∷◌, ◌++◌, length, get_or, refl, arith}
use Rattle.std.specs.List.{list_any}
use Rattle.std.specs.Str.{bytes_eq}
use Rattle.std.proofs.lemmas.Bool.{both_ways, ltb-true, not-true}
use Rattle.std.proofs.lemmas.List.{length_push}
use Rattle.std.proofs.lemmas.List.Folds.{list_any_at}
use Rattle.std.proofs.lemmas.List.Quantifiers.{all_pairs_push}
use Rattle.std.proofs.lemmas.Slice.Eq.{bytes_eq-Decides}
use Rattle.lb_config_values.specs.ServerView.{ServerView}
use Rattle.lb_config.specs.Kept.{IsServers, kept_behind, may_follow, with_kept}

both_true : (a b : Bool) → (a && b) ≡ true → (a ≡ true) × (b ≡ true)
both_true true true e = (refl, refl)
both_true true false e = (refl, e)
both_true false b e = absurd (both_ways false refl e)

pushed_lawful : (front : List ServerView) (server : ServerView) → IsServers front → may_follow front server ≡ true → IsServers (front ++ server ∷ [])
pushed_lawful front server is may =
    let parts = both_true (nat_lt (length front) 128) (not (list_any (λ other. bytes_eq other.name server.name) front)) may in
    let none = not-true (list_any (λ other. bytes_eq other.name server.name) front) parts.1 in
    record {
      few = omega (arith, ltb-true (length front) 128 parts.0, length_push front server);
      distinct = all_pairs_push (λ a b. a.name ≢ b.name) front server is.distinct (λ k d within same.
          both_ways (list_any (λ other. bytes_eq other.name server.name) front) none
          (list_any_at (λ other. bytes_eq other.name server.name) front k d within
          ((bytes_eq-Decides (get_or front k d).name server.name).1 same)));
    }

kept_step : (front : List ServerView) (server : ServerView) → IsServers front → IsServers (with_kept front server)
kept_step front server is = go (may_follow front server) refl
  where
    go : (b : Bool) → may_follow front server ≡ b → IsServers (cond b (front ++ server ∷ []) front)
    go true e = pushed_lawful front server is e
    go false e = is

kept_lawful : (front servers : List ServerView) → IsServers front → IsServers (kept_behind front servers)
kept_lawful front [] is = is
kept_lawful front (server ∷ more) is = kept_lawful (with_kept front server) more (kept_step front server is)

no_servers : IsServers []
no_servers = record { few = omega arith; distinct = λ i j d before within. absurd (omega (arith, within)) }

-- all that are kept
pub lawful : (servers : List ServerView) → IsServers (kept_behind [] servers)
lawful servers = kept_lawful [] servers no_servers

-- one server more
pub kept_push : (front servers : List ServerView) (server : ServerView) → kept_behind front (servers ++ server ∷ []) ≡ with_kept (kept_behind front servers) server
kept_push front [] server = refl
kept_push front (first ∷ more) server = kept_push (with_kept front first) more server
