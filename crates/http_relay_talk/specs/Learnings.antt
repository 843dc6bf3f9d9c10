-- A piece more of an answer, and what is learned of it. No public clause cites this module.
use Rattle.std.specs.Prelude.{◌≡◌, ◌⊎◌, ℕ, Bool, true, false, ⊤, List, ◌++◌, Option, Some, None, Result, Ok, Err}
use Rattle.lb_desk_model.specs.declared.entry.Entry.{Entry}
use Rattle.set_cookie.specs.Answers.{is_unfinished}
use Rattle.set_cookie.specs.TaughtKeys.{IsTaughtKey}
use Rattle.http_relay_talk.specs.Lessons.{LessonView, Makes, SetsTaughtPin, Taught, both, untaught}
use Rattle.http_relay_talk.specs.Visits.{IsLearning}
use Rattle.http_relay_talk.specs.declared.learning.Front.{Front}
use Rattle.http_relay_talk.specs.declared.learning.Learning.{Learning}
use Rattle.http_relay_talk.specs.declared.learning.Learning.TheVariants.{Over, Goes}

-- after so much of the answer, which has taught this, a piece came: this was done at the port for it, and with that so much is learned
abbrev pub LearnsMore : Option LessonView → ℕ → List ℕ → List ℕ → Taught → List Entry → List Entry → ℕ → ℕ → Learning → Type 0
LearnsMore lesson server answer piece taught old new refusals refused learning =
    (more : Taught) × Makes more old new refusals refused × IsLearning lesson server (answer ++ piece) learning (both taught more)

-- the same after the bytes that were kept, which have taught nothing
abbrev pub TeachesMore : Front → List ℕ → List Entry → List Entry → ℕ → ℕ → Learning → Type 0
TeachesMore front piece old new refusals refused learning =
    (more : Taught) × Makes more old new refusals refused
    × IsLearning (Some front.lesson) front.server (front.bytes.items ++ piece) learning more

-- This was learned of an answer, and whether more of it may teach something is said. Nothing was learned where more may teach something or
-- memory ran out; else the pin that the answer teaches was set, or it teaches none
abbrev pub TeachesAll : {E : Type 0} → LessonView → ℕ → List ℕ → Taught → Result Bool E → Type 0
TeachesAll lesson server answer taught (Ok true) = (is_unfinished answer ≡ true) × (taught ≡ untaught)
TeachesAll lesson server answer taught (Ok false) = (is_unfinished answer ≡ false)
    × ((IsTaughtKey lesson.pattern answer None × (taught ≡ untaught)) ⊎ SetsTaughtPin lesson server answer taught)
TeachesAll lesson server answer taught (Err failed) = taught ≡ untaught

-- the piece is kept with the bytes that were, or nothing is learned any more
abbrev pub Keeps : Front → List ℕ → Learning → Type 0
Keeps front piece Over = ⊤
Keeps front piece (Goes later) =
    (later.lesson ≡ front.lesson) × (later.server ≡ front.server) × (later.bytes.items ≡ front.bytes.items ++ piece)
