-- Which backend of the tried configuration takes a head, and what an answer may teach it. Our own.
use Rattle.std.specs.Prelude.{ℕ, Bool, Option, Some, None, if◌then◌else◌}
use Rattle.lb_acl.specs.declared.head.Version.{Version}
use Rattle.lb_acl.specs.declared.key.StickOn.{StickOn}
use Rattle.lb_desk_model.specs.declared.event.Request.{Request}
use Rattle.http_relay_talk.specs.Lessons.{LessonView}
use Rattle.lb_acl.specs.declared.head.Version.TheVariants.{Http10, Http11}

-- a backend takes heads, or none
abbrev pub taker : Bool → ℕ → Option ℕ
taker takes backend = if takes then Some backend else None

-- the first backend takes heads of HTTP/1.0, the second those of HTTP/1.1
abbrev pub backend_for : Bool → Bool → Version → Option ℕ
backend_for first second Http10 = taker first 0
backend_for first second Http11 = taker second 1

-- what the answer to the request may teach a backend of this pattern, where answers teach it
abbrev pub lesson_by : Bool → StickOn → Request → Option LessonView
lesson_by learns pattern request = if learns
    then Some (record { pattern = pattern; want = 0; cost = request.cost; moment = request.moment })
    else None
