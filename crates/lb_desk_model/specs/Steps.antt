-- One event is one step of the machine: which reply goes with it, and what state follows.
use Rattle.std.specs.Prelude.{◌≡◌, ◌≢◌, ◌⊎◌, ℕ, ◌+◌, Bool, true, false, not, nat_le, filter, count_by, None, IsSome, Err}
use Rattle.std.specs.Option.{option_map_or}
use Rattle.server_state.specs.declared.checked.Checked.TheVariants.{Took, Ignored}
use Rattle.lb_desk_model.specs.declared.event.Event.{Event}
use Rattle.lb_desk_model.specs.declared.event.Event.TheVariants.{Serve, Set, Clear, Open, Close, Expire, Check, Command, Snapshot, Install}
use Rattle.lb_desk_model.specs.declared.reply.Refusal.TheVariants.{NoSuchServer, Full, NotServing, NotOpen, TableFull, Stale, Bad, NoServer}
use Rattle.lb_desk_model.specs.declared.reply.Reply.{Reply}
use Rattle.lb_desk_model.specs.declared.reply.Reply.TheVariants.{Served, Pinned, NoTable, Cleared, NoPin, Opened, Closed, Expired, Checked, Done, Sheet, Installed, Refused}
use Rattle.pin_set.specs.declared.table_pin.TablePin.{TablePin}
use Rattle.lb_desk_model.specs.Picks.{connections_at, has_room}
use Rattle.lb_desk_model.specs.Installs.{IsSheetOf, Judges, Installs}
use Rattle.lb_desk_model.specs.Serves.{AreServers, IsNew, Serves, HasNoServer, moment_of}
use Rattle.lb_desk_model.specs.Sets.{AreThere, Sets, HasNoRoom, Clears}
use Rattle.lb_desk_model.specs.Servers.{Opens, Closes, TakesResult, IgnoresResult, Changes, RefusesChange, RefusesResult}
use Rattle.lb_desk_model.specs.States.{State, SameView, serving, view_of}

-- the pin wasn't used for as long as the table says, at this moment
abbrev pub has_expired : State → ℕ → TablePin → Bool
has_expired state now p = option_map_or (λ table. option_map_or (λ expire. nat_le (p.last_use + expire) now) table.expire false) state.table false

-- what an event does to all but the version
abbrev pub Does : State → Event → Reply → State → Type 0
-- ---- a server for a request
Does old (Serve request) (Served server how) new = AreServers old request.rules × Serves old request server how new
Does old (Serve request) (Refused NoSuchServer) new = (AreServers old request.rules → ⊥) × (new ≡ old)
Does old (Serve request) (Refused NoServer) new = AreServers old request.rules × HasNoServer old request × (new ≡ old)
-- ---- a pin that is set, and one that is cleared
Does old (Set set) (Pinned how) new = AreThere old set × IsSome old.table × Sets old set how new
Does old (Set set) NoTable new = AreThere old set × (old.table ≡ None) × (new ≡ old)
Does old (Set set) (Refused NoSuchServer) new = (AreThere old set → ⊥) × (new ≡ old)
Does old (Set set) (Refused TableFull) new = AreThere old set × IsSome old.table × HasNoRoom old set × (new ≡ old)
Does old (Clear name) Cleared new = Clears old name new
Does old (Clear name) NoPin new = IsNew name old.pins × (new ≡ old)
-- ---- connections
Does old (Open server) Opened new = Opens old server new
Does old (Open server) (Refused NotServing) new = (serving old server ≡ false) × (new ≡ old)
Does old (Open server) (Refused Full) new = (serving old server ≡ true) × (has_room old.servers server ≡ false) × (new ≡ old)
Does old (Close server) Closed new = Closes old server new
Does old (Close server) (Refused NotOpen) new = (connections_at old.servers server ≡ 0) × (new ≡ old)
-- ---- the pins that weren't used for long
Does old (Expire now) (Expired count) new = (count ≡ count_by (has_expired old (moment_of old now)) old.pins)
    × (new ≡ record old { pins = filter (λ p. not (has_expired old (moment_of old now) p)) old.pins })
-- ---- checks
Does old (Check server ok) (Checked (Took flip)) new = TakesResult old server ok flip new
Does old (Check server ok) (Checked Ignored) new = IgnoresResult old server × (new ≡ old)
Does old (Check server ok) (Refused refusal) new = RefusesResult old server refusal × (new ≡ old)
-- ---- commands
Does old (Command change) Done new = Changes old change new
Does old (Command change) (Refused refusal) new = RefusesChange old change refusal × (new ≡ old)
-- ---- plans
Does old Snapshot (Sheet sheet) new = IsSheetOf old sheet × (new ≡ old)
Does old (Install plan) (Refused Stale) new = (plan.version ≢ old.version) × (new ≡ old)
Does old (Install plan) (Refused (Bad fault)) new = (plan.version ≡ old.version) × Judges old plan (Err fault) × (new ≡ old)
Does old (Install plan) (Installed score) new = (plan.version ≡ old.version) × Installs old plan score new
-- ---- no other reply is given
Does old event reply new = ⊥

-- the version grows by one exactly where the view has changed
abbrev pub Counts : State → State → State → Type 0
Counts old acted new =
    (SameView (view_of old) (view_of acted) × (new ≡ acted))
    ⊎ ((SameView (view_of old) (view_of acted) → ⊥) × (new ≡ record acted { version = old.version + 1 }))

-- one event: what it does, and then the version
pub record Step (old : State) (event : Event) (reply : Reply) (new : State) : Type 0 where
  pub acted : State
  pub does : Does old event reply acted
  pub counts : Counts old acted new
