-- When a check makes a server go up or down: HAProxy Configuration Manual 2.8, `rise` and `fall`. The line that says so is our own, in
-- the manner of HAProxy's notices.
use Rattle.std.specs.Prelude.{ℕ, Bool, true, false, List, [], ◌∷◌, ◌++◌, Option, Some, None, Result, Ok, Err, codes, if◌then◌else◌}
use Rattle.rise_fall.specs.declared.flip.Flip.{Flip}
use Rattle.rise_fall.specs.declared.flip.Flip.TheVariants.{Stays, WentUp, WentDown}
use Rattle.server_state.specs.declared.checked.Checked.TheVariants as checked
use Rattle.lb_desk_ports.specs.declared.refused.Refused.{Refused}
use Rattle.lb_desk_ports.specs.declared.replies.Filed.{Filed}
use Rattle.lb_desk_ports.specs.declared.replies.Filed.TheVariants as filed
use Rattle.check_workers_round.specs.declared.outcome.CheckMade.{CheckMade}
use Rattle.check_workers_loop.specs.declared.flips.Flipped.{Flipped}

-- the server went up, or down
abbrev pub flipped : ℕ → Bool → Flipped
flipped server is_up = record { server = server; is_up = is_up }

-- what one more result did to the server
abbrev pub flip_by : ℕ → Flip → Option Flipped
flip_by server Stays = None
flip_by server WentUp = Some (flipped server true)
flip_by server WentDown = Some (flipped server false)

-- what a result that was filed did to the server
abbrev pub flip_filed : ℕ → Result Filed Refused → Option Flipped
flip_filed server (Ok (filed.Checked (checked.Took flip))) = flip_by server flip
flip_filed server (Ok (filed.Checked checked.Ignored)) = None
flip_filed server (Ok filed.NoSuchServer) = None
flip_filed server (Ok filed.NotChecked) = None
flip_filed server (Err refused) = None

-- the server that a check made go up or down, if one was made and did
abbrev pub flip_of : Option CheckMade → Option Flipped
flip_of (Some made) = flip_filed made.server made.filed
flip_of None = None

-- how a line says it
abbrev pub state_word : Bool → List ℕ
state_word is_up = if is_up then codes "UP" else codes "DOWN"

-- the line that says of this server of this backend that it went up, or down
abbrev pub flip_line : List ℕ → List ℕ → Bool → List ℕ
flip_line backend server is_up = codes "Server " ++ backend ++ codes "/" ++ server ++ codes " is " ++ state_word is_up ++ 10 ∷ []
