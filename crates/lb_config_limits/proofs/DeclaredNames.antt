-- Names that lines declare, one after another.
use Rattle.std.proofs.Common.{◌≡◌, ◌≢◌, ℕ, ◌+◌, ◌<◌, ◌≤◌, Bool, true, false, nat_lt, cond, List, [], ◌∷◌, ◌++◌, length, Option, Some, None, Result, Ok, Err, IfOk, ◌⊎◌, inl, inr, All, AllPairs, Ordering, Less, Equal, Greater, is_eq, nat_cmp, refl, sym, ap, arith, ◌∙◌, bytes_eq}
use Rattle.std.specs.Prelude.{⊤}
use Rattle.std.specs.BTreeSet.{insert_key}
use Rattle.std.specs.Cmp.Lexicographic.{slice_cmp}
use Rattle.std.specs.List.{list_any}
use Rattle.std.specs.Ordering.{match_ordering}
use Rattle.std.proofs.lemmas.Bool.{both_ways, ltb-true, or_cases, or_left, or_right, or_parts}
use Rattle.std.proofs.lemmas.List.{length_push}
use Rattle.std.proofs.lemmas.List.Elements.{All-nil, All-push, All-weaker}
use Rattle.std.proofs.lemmas.List.Quantifiers.{all_pairs_push}
use Rattle.std.proofs.lemmas.Map.Text.{is_eq-slice_cmp}
use Rattle.std.proofs.lemmas.Slice.Eq.{bytes_eq-Decides}
use Rattle.lb_types.specs.declared.limits.TheConstants.{MAX_SERVERS}
use Rattle.lb_config_limits.specs.declared.declarations.TheConstants.{MAX_BACKENDS}
use Rattle.lb_config_limits.specs.declared.fault.LimitFault.{LimitFault}
use Rattle.lb_config_limits.specs.declared.kind.Kind.{Kind}
use Rattle.lb_config_limits.specs.declared.kind.Kind.TheVariants as Of
use Rattle.lb_config_limits.specs.DeclaredView.{DeclaredView}
use Rattle.lb_config_limits.specs.Kinds.{kind_of, name_in}
use Rattle.lb_config_limits.specs.Limits.{◌>>=◌, added, one_more, take_acl, take_backend, take_frontend, take_kind, take_line, take_listen, take_rule, take_server, take_stick, with_room}

-- whether the set has the name
abbrev pub has : List (List ℕ) → List ℕ → Bool
has names name = list_any (bytes_eq name) names

-- the set has no more names than may be, and all that it had
pub record Grows (most : ℕ) (old new : List (List ℕ)) : Type 0 where
  pub few : length new ≤ most
  pub longer : length old ≤ length new
  pub keeps : (name : List ℕ) → has old name ≡ true → has new name ≡ true

-- the name is new, and the set has it now
pub record Adds (most : ℕ) (name : List ℕ) (old new : List (List ℕ)) : Type 0 where
  pub grows : Grows most old new
  pub longer : length old + 1 ≤ length new
  pub is_new : has old name ≡ false
  pub is_there : has new name ≡ true

pub stays : (most : ℕ) (names : List (List ℕ)) → length names ≤ most → Grows most names names
stays most names few = record { few = few; longer = omega arith; keeps = λ name e. e }

-- the names are in the set, each once
pub record AreKnown (most : ℕ) (set names : List (List ℕ)) : Type 0 where
  pub few : length set ≤ most
  pub counted : length names ≤ length set
  pub known : All (λ name. has set name ≡ true) names
  pub distinct : AllPairs (λ a b. a ≢ b) names

pub none_known : (most : ℕ) (set : List (List ℕ)) → length set ≤ most → AreKnown most set []
none_known most set few = record {
  few = few;
  counted = omega arith;
  known = All-nil (λ name. has set name ≡ true);
  distinct = λ i j d before within. absurd (omega (arith, within));
}

pub still_known : (most : ℕ) (old new names : List (List ℕ)) → Grows most old new → AreKnown most old names → AreKnown most new names
still_known most old new names grows is = record {
  few = grows.few;
  counted = omega (arith, is.counted, grows.longer);
  known = All-weaker (λ name. has old name ≡ true) (λ name. has new name ≡ true) grows.keeps names is.known;
  distinct = is.distinct;
}

pub one_more_known : (most : ℕ) (name : List ℕ) (old new names : List (List ℕ)) → Adds most name old new → AreKnown most old names →
    AreKnown most new (names ++ name ∷ [])
one_more_known most name old new names adds is =
    let others = still_known most old new names adds.grows is in
    record {
      few = others.few;
      counted = omega (arith, is.counted, adds.longer, length_push names name);
      known = All-push (λ name. has new name ≡ true) names name others.known adds.is_there;
      distinct = all_pairs_push (λ a b. a ≢ b) names name is.distinct (λ k d within equal.
          both_ways (has old name) adds.is_new (ap (has old) (sym equal) ∙ is.known k d within));
    }

-- a name at its place in the order, one step of the search
placed_at : (o : Ordering) (name x : List ℕ) (xs more : List (List ℕ)) → slice_cmp nat_cmp name x ≡ o → bytes_eq name x ≡ false → has more name ≡ true →
    has (match_ordering o (name ∷ x ∷ xs) (x ∷ xs) (x ∷ more)) name ≡ true
placed_at Less name x xs more at apart there = or_left (bytes_eq name name) (has (x ∷ xs) name) ((bytes_eq-Decides name name).1 refl)
placed_at Equal name x xs more at apart there = absurd (both_ways (bytes_eq name x) apart (sym (is_eq-slice_cmp name x) ∙ ap is_eq at))
placed_at Greater name x xs more at apart there = or_right (bytes_eq name x) (has more name) there

kept_at : (o : Ordering) (name x other : List ℕ) (xs more : List (List ℕ)) → has (x ∷ xs) other ≡ true → (has xs other ≡ true → has more other ≡ true) →
    has (match_ordering o (name ∷ x ∷ xs) (x ∷ xs) (x ∷ more)) other ≡ true
kept_at Less name x other xs more had keeps = or_right (bytes_eq other name) (has (x ∷ xs) other) had
kept_at Equal name x other xs more had keeps = had
kept_at Greater name x other xs more had keeps = go (or_cases (bytes_eq other x) (has xs other) had)
  where
    go : (bytes_eq other x ≡ true) ⊎ (has xs other ≡ true) → has (x ∷ more) other ≡ true
    go (inl e) = or_left (bytes_eq other x) (has more other) e
    go (inr e) = or_right (bytes_eq other x) (has more other) (keeps e)

longer_at : (o : Ordering) (name x : List ℕ) (xs more : List (List ℕ)) → slice_cmp nat_cmp name x ≡ o → bytes_eq name x ≡ false → length more ≡ length xs + 1 →
    length (match_ordering o (name ∷ x ∷ xs) (x ∷ xs) (x ∷ more)) ≡ length (x ∷ xs) + 1
longer_at Less name x xs more at apart e = omega arith
longer_at Equal name x xs more at apart e = absurd (both_ways (bytes_eq name x) apart (sym (is_eq-slice_cmp name x) ∙ ap is_eq at))
longer_at Greater name x xs more at apart e = omega (arith, e)

placed : (name : List ℕ) (names : List (List ℕ)) → has names name ≡ false → has (insert_key (slice_cmp nat_cmp) names name) name ≡ true
placed name [] e = or_left (bytes_eq name name) false ((bytes_eq-Decides name name).1 refl)
placed name (x ∷ xs) e =
    let parts = or_parts (bytes_eq name x) (has xs name) e in
    placed_at (slice_cmp nat_cmp name x) name x xs (insert_key (slice_cmp nat_cmp) xs name) refl parts.0 (placed name xs parts.1)

kept : (name other : List ℕ) (names : List (List ℕ)) → has names other ≡ true → has (insert_key (slice_cmp nat_cmp) names name) other ≡ true
kept name other [] e = absurd (both_ways false refl e)
kept name other (x ∷ xs) e = kept_at (slice_cmp nat_cmp name x) name x other xs (insert_key (slice_cmp nat_cmp) xs name) e (kept name other xs)

longer : (name : List ℕ) (names : List (List ℕ)) → has names name ≡ false → length (insert_key (slice_cmp nat_cmp) names name) ≡ length names + 1
longer name [] e = omega arith
longer name (x ∷ xs) e =
    let parts = or_parts (bytes_eq name x) (has xs name) e in
    longer_at (slice_cmp nat_cmp name x) name x xs (insert_key (slice_cmp nat_cmp) xs name) refl parts.0 (longer name xs parts.1)

-- a line without a name adds none
abbrev pub AddsIf : ℕ → Option (List ℕ) → List (List ℕ) → List (List ℕ) → Type 0
AddsIf most None old new = ⊤
AddsIf most (Some name) old new = Adds most name old new

-- one of two, by a test
cond_ok : {A E : Type 0} (P : A → Type 0) (b : Bool) (x y : Result A E) → (b ≡ true → IfOk x P) → (b ≡ false → IfOk y P) → IfOk (cond b x y) P
cond_ok P true x y met unmet = met refl
cond_ok P false x y met unmet = unmet refl

added_ok : (most : ℕ) (names : List (List ℕ)) (name : Option (List ℕ)) → length names < most →
    IfOk (added names name) (λ new. Grows most names new × AddsIf most name names new)
unfolding added
added_ok most names None room = (stays most names (omega (arith, room)), tt)
added_ok most names (Some name) room = cond_ok (λ new. Grows most names new × Adds most name names new) (has names name) _ _ (λ e. tt) is_new
  where
    is_new : has names name ≡ false → Grows most names (insert_key (slice_cmp nat_cmp) names name) × Adds most name names (insert_key (slice_cmp nat_cmp) names name)
    is_new e =
        let grown : Grows most names (insert_key (slice_cmp nat_cmp) names name) = record {
          few = omega (arith, room, longer name names e);
          longer = omega (arith, longer name names e);
          keeps = λ other had. kept name other names had;
        } in
        (grown, record { grows = grown; longer = omega (arith, longer name names e); is_new = e; is_there = placed name names e })

room_ok : (most : ℕ) (names : List (List ℕ)) → IfOk (with_room most names) (λ _. length names < most)
unfolding with_room
room_ok most names = cond_ok (λ _. length names < most) (nat_lt (length names) most) _ _ (λ e. ltb-true (length names) most e) (λ e. tt)

bind_ok : {A B : Type 0} (P : A → Type 0) (Q : B → Type 0) (r : Result A LimitFault) (f : A → Result B LimitFault) →
    IfOk r P → ((x : A) → P x → IfOk (f x) Q) → IfOk (r >>= f) Q
bind_ok P Q (Ok x) f first second = second x first
bind_ok P Q (Err e) f first second = tt

then_ok : {A B : Type 0} (Q : B → Type 0) (r : Result A LimitFault) (f : A → Result B LimitFault) → ((x : A) → IfOk (f x) Q) → IfOk (r >>= f) Q
then_ok Q (Ok x) f second = second x
then_ok Q (Err e) f second = tt

-- a line of this kind begins no section
abbrev pub IsInner : Option Kind → Type 0
IsInner (Some Of.Section) = ⊥
IsInner (Some Of.Frontend) = ⊥
IsInner (Some Of.Backend) = ⊥
IsInner (Some Of.Listen) = ⊥
IsInner _ = ⊤

-- where a line of this kind begins none, the section has all servers that it had
abbrev pub KeepsServers : Option Kind → List (List ℕ) → List (List ℕ) → Type 0
KeepsServers (Some Of.Section) old new = ⊤
KeepsServers (Some Of.Frontend) old new = ⊤
KeepsServers (Some Of.Backend) old new = ⊤
KeepsServers (Some Of.Listen) old new = ⊤
KeepsServers _ old new = Grows MAX_SERVERS old new

abbrev pub AddsServer : Option Kind → Option (List ℕ) → List (List ℕ) → List (List ℕ) → Type 0
AddsServer (Some Of.Server) name old new = AddsIf MAX_SERVERS name old new
AddsServer _ name old new = ⊤

abbrev pub AddsBackend : Option Kind → Option (List ℕ) → List (List ℕ) → List (List ℕ) → Type 0
AddsBackend (Some Of.Backend) name old new = AddsIf MAX_BACKENDS name old new
AddsBackend (Some Of.Listen) name old new = AddsIf MAX_BACKENDS name old new
AddsBackend _ name old new = ⊤

-- what a line of this kind and name leaves
pub record IsTaken (kind : Option Kind) (name : Option (List ℕ)) (old new : DeclaredView) : Type 0 where
  pub backends : Grows MAX_BACKENDS old.backends new.backends
  pub backend : AddsBackend kind name old.backends new.backends
  pub few_servers : length new.servers ≤ MAX_SERVERS
  pub servers : KeepsServers kind old.servers new.servers
  pub server : AddsServer kind name old.servers new.servers

kind_ok : (kind : Option Kind) (d : DeclaredView) (words : List (List ℕ)) → length d.backends ≤ MAX_BACKENDS → length d.servers ≤ MAX_SERVERS →
    IfOk (take_kind kind d words) (IsTaken kind (name_in words) d)
unfolding take_frontend take_backend take_listen take_server take_acl take_rule take_stick
kind_ok None d words few few_servers = record {
  backends = stays MAX_BACKENDS d.backends few;
  backend = tt;
  few_servers = few_servers;
  servers = stays MAX_SERVERS d.servers few_servers;
  server = tt;
}
kind_ok (Some Of.Section) d words few few_servers = record {
  backends = stays MAX_BACKENDS d.backends few;
  backend = tt;
  few_servers = omega arith;
  servers = tt;
  server = tt;
}
kind_ok (Some Of.Frontend) d words few few_servers =
    then_ok (IsTaken (Some Of.Frontend) (name_in words) d) (added d.frontends (name_in words)) _ (λ names. record {
      backends = stays MAX_BACKENDS d.backends few;
      backend = tt;
      few_servers = omega arith;
      servers = tt;
      server = tt;
    })
kind_ok (Some Of.Backend) d words few few_servers =
    bind_ok (λ _. length d.backends < MAX_BACKENDS) (IsTaken (Some Of.Backend) (name_in words) d) (with_room MAX_BACKENDS d.backends) _ (room_ok MAX_BACKENDS d.backends) (λ room has_room.
    bind_ok (λ new. Grows MAX_BACKENDS d.backends new × AddsIf MAX_BACKENDS (name_in words) d.backends new) (IsTaken (Some Of.Backend) (name_in words) d)
    (added d.backends (name_in words)) _ (added_ok MAX_BACKENDS d.backends (name_in words) has_room) (λ names is. record {
      backends = is.0;
      backend = is.1;
      few_servers = omega arith;
      servers = tt;
      server = tt;
    }))
kind_ok (Some Of.Listen) d words few few_servers =
    bind_ok (λ _. length d.backends < MAX_BACKENDS) (IsTaken (Some Of.Listen) (name_in words) d) (with_room MAX_BACKENDS d.backends) _ (room_ok MAX_BACKENDS d.backends) (λ room has_room.
    then_ok (IsTaken (Some Of.Listen) (name_in words) d) (added d.frontends (name_in words)) _ (λ frontends.
    bind_ok (λ new. Grows MAX_BACKENDS d.backends new × AddsIf MAX_BACKENDS (name_in words) d.backends new) (IsTaken (Some Of.Listen) (name_in words) d)
    (added d.backends (name_in words)) _ (added_ok MAX_BACKENDS d.backends (name_in words) has_room) (λ names is. record {
      backends = is.0;
      backend = is.1;
      few_servers = omega arith;
      servers = tt;
      server = tt;
    })))
kind_ok (Some Of.Server) d words few few_servers =
    bind_ok (λ _. length d.servers < MAX_SERVERS) (IsTaken (Some Of.Server) (name_in words) d) (with_room MAX_SERVERS d.servers) _ (room_ok MAX_SERVERS d.servers) (λ room has_room.
    bind_ok (λ new. Grows MAX_SERVERS d.servers new × AddsIf MAX_SERVERS (name_in words) d.servers new) (IsTaken (Some Of.Server) (name_in words) d)
    (added d.servers (name_in words)) _ (added_ok MAX_SERVERS d.servers (name_in words) has_room) (λ names is. record {
      backends = stays MAX_BACKENDS d.backends few;
      backend = tt;
      few_servers = is.0.few;
      servers = is.0;
      server = is.1;
    }))
kind_ok (Some Of.Acl) d words few few_servers =
    then_ok (IsTaken (Some Of.Acl) (name_in words) d) (one_more d.acls) _ (λ acls. record {
      backends = stays MAX_BACKENDS d.backends few;
      backend = tt;
      few_servers = few_servers;
      servers = stays MAX_SERVERS d.servers few_servers;
      server = tt;
    })
kind_ok (Some Of.Rule) d words few few_servers =
    then_ok (IsTaken (Some Of.Rule) (name_in words) d) (one_more d.rules) _ (λ rules. record {
      backends = stays MAX_BACKENDS d.backends few;
      backend = tt;
      few_servers = few_servers;
      servers = stays MAX_SERVERS d.servers few_servers;
      server = tt;
    })
kind_ok (Some Of.StickOn) d words few few_servers =
    cond_ok (IsTaken (Some Of.StickOn) (name_in words) d) d.has_stick _ _ (λ e. tt) (λ e. record {
      backends = stays MAX_BACKENDS d.backends few;
      backend = tt;
      few_servers = few_servers;
      servers = stays MAX_SERVERS d.servers few_servers;
      server = tt;
    })

pub line_ok : (d : DeclaredView) (words : List (List ℕ)) → length d.backends ≤ MAX_BACKENDS → length d.servers ≤ MAX_SERVERS →
    IfOk (take_line d words) (IsTaken (kind_of words) (name_in words) d)
unfolding take_line
line_ok d words few few_servers = kind_ok (kind_of words) d words few few_servers
