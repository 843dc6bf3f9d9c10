-- What a line may not do because of the lines before it: names and counts of the HAProxy Configuration Manual 2.8, sections 2.1
-- and 4. The limits themselves are this project's own: 64 backends, and in a section 128 servers, 256 lines of ACLs, 256 rules
-- and one `stick on`.
use Rattle.std.specs.Prelude.{◌≡◌, ℕ, ◌+◌, true, false, nat_lt, List, [], length, Option, Some, None, Result, Ok, Err, if◌then◌else◌}
use Rattle.std.specs.List.{list_any}
use Rattle.std.specs.BTreeSet.{insert_key}
use Rattle.std.specs.Cmp.Lexicographic.{slice_cmp}
use Rattle.std.specs.Ordering.{nat_cmp}
use Rattle.std.specs.Str.{bytes_eq}
use Rattle.lb_types.specs.declared.limits.TheConstants.{MAX_SERVERS}
use Rattle.lb_config_limits.specs.declared.declarations.TheConstants.{MAX_BACKENDS, MAX_LINES}
use Rattle.lb_config_limits.specs.declared.fault.LimitFault.{LimitFault}
use Rattle.lb_config_limits.specs.declared.fault.LimitFault.TheVariants.{Duplicate, TooMany, SecondStick}
use Rattle.lb_config_limits.specs.declared.fault.LimitError.{LimitError}
use Rattle.lb_config_limits.specs.declared.fault.LimitError.TheVariants as errors
use Rattle.lb_config_limits.specs.declared.kind.Kind.{Kind}
use Rattle.lb_config_limits.specs.declared.kind.Kind.TheVariants as Of
use Rattle.lb_config_limits.specs.DeclaredView.{DeclaredView}
use Rattle.lb_config_limits.specs.Kinds.{kind_of, name_in}

-- the second step, if the first one found no fault
infixl 10 ◌>>=◌
abbrev pub ◌>>=◌ : {A B : Type 0} → Result A LimitFault → (A → Result B LimitFault) → Result B LimitFault
(Ok x) >>= f = f x
(Err e) >>= f = Err e

-- what a call gave, seen by `view`, is what the definition has
abbrev pub Reads : {A B : Type 0} → (A → B) → Result A LimitFault → Result B LimitFault → Type 0
Reads view (Ok x) reading = reading ≡ Ok (view x)
Reads view (Err fault) reading = reading ≡ Err fault

-- the same, unless memory ran out
abbrev pub Gives : {A B : Type 0} → (A → B) → Result A LimitError → Result B LimitFault → Type 0
Gives view (Ok x) reading = reading ≡ Ok (view x)
Gives view (Err errors.Memory) reading = Unit {0}
Gives view (Err (errors.Fault fault)) reading = reading ≡ Err fault

-- before the first line
abbrev pub nothing : DeclaredView
nothing = record { frontends = []; backends = []; servers = []; acls = 0; rules = 0; has_stick = false }

-- a section begins with nothing of its own
abbrev pub new_section : DeclaredView → DeclaredView
new_section d = record { frontends = d.frontends; backends = d.backends; servers = []; acls = 0; rules = 0; has_stick = false }

-- the names, in the order of their bytes, with one more, which may not be among them. A line without a name is refused for that
-- where its words are read
unfoldable pub added : List (List ℕ) → Option (List ℕ) → Result (List (List ℕ)) LimitFault
added names None = Ok names
added names (Some name) = if list_any (bytes_eq name) names then Err Duplicate else Ok (insert_key (slice_cmp nat_cmp) names name)

-- there are fewer names than may be
unfoldable pub with_room : ℕ → List (List ℕ) → Result (Unit {0}) LimitFault
with_room limit names = if nat_lt (length names) limit then Ok _ else Err TooMany

-- the count with one line more
abbrev pub one_more : ℕ → Result ℕ LimitFault
one_more count = if nat_lt count MAX_LINES then Ok (count + 1) else Err TooMany

-- a section `frontend`
unfoldable pub take_frontend : DeclaredView → List (List ℕ) → Result DeclaredView LimitFault
take_frontend d words = do
  names ← added d.frontends (name_in words)
  Ok (new_section (record d { frontends = names }))

-- a section `backend`
unfoldable pub take_backend : DeclaredView → List (List ℕ) → Result DeclaredView LimitFault
take_backend d words = do
  room ← with_room MAX_BACKENDS d.backends
  names ← added d.backends (name_in words)
  Ok (new_section (record d { backends = names }))

-- a section `listen` is a frontend and a backend
unfoldable pub take_listen : DeclaredView → List (List ℕ) → Result DeclaredView LimitFault
take_listen d words = do
  room ← with_room MAX_BACKENDS d.backends
  frontends ← added d.frontends (name_in words)
  backends ← added d.backends (name_in words)
  Ok (new_section (record d { frontends = frontends; backends = backends }))

-- a server
unfoldable pub take_server : DeclaredView → List (List ℕ) → Result DeclaredView LimitFault
take_server d words = do
  room ← with_room MAX_SERVERS d.servers
  names ← added d.servers (name_in words)
  Ok (record d { servers = names })

-- a line of an ACL
unfoldable pub take_acl : DeclaredView → Result DeclaredView LimitFault
take_acl d = one_more d.acls >>= λ acls. Ok (record d { acls = acls })

-- a rule
unfoldable pub take_rule : DeclaredView → Result DeclaredView LimitFault
take_rule d = one_more d.rules >>= λ rules. Ok (record d { rules = rules })

-- a line `stick on`
unfoldable pub take_stick : DeclaredView → Result DeclaredView LimitFault
take_stick d = if d.has_stick then Err SecondStick else Ok (record d { has_stick = true })

-- what is declared behind a line of these words, or why it may not stand there
abbrev pub take_kind : Option Kind → DeclaredView → List (List ℕ) → Result DeclaredView LimitFault
take_kind None d words = Ok d
take_kind (Some Of.Section) d words = Ok (new_section d)
take_kind (Some Of.Frontend) d words = take_frontend d words
take_kind (Some Of.Backend) d words = take_backend d words
take_kind (Some Of.Listen) d words = take_listen d words
take_kind (Some Of.Server) d words = take_server d words
take_kind (Some Of.Acl) d words = take_acl d
take_kind (Some Of.Rule) d words = take_rule d
take_kind (Some Of.StickOn) d words = take_stick d

unfoldable pub take_line : DeclaredView → List (List ℕ) → Result DeclaredView LimitFault
take_line d words = take_kind (kind_of words) d words
