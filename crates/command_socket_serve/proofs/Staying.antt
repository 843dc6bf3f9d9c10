-- Each desk stays at its backend, whatever it is asked.
use Rattle.std.proofs.Common.{◌≡◌, ◌∙◌, ◌⊎◌, inl, inr, ℕ, zero, suc, Option, Some, None, Result, Ok, Err, List, [], ◌∷◌, map, refl, sym, ap}
use Rattle.std.specs.Prelude.{slice_get, slice_set}
use Rattle.std.proofs.lemmas.Option.{none-some, same_Some}
use Rattle.command_socket.specs.declared.resolved.Resolved.{Resolved}
use Rattle.command_socket.specs.declared.resolved.Resolved.TheVariants as Is
use Rattle.command_socket.specs.declared.socket.BackendTask.{BackendTask}
use Rattle.command_socket.specs.declared.socket.BackendTask.TheVariants as Task
use Rattle.command_socket.specs.declared.socket.PinChange.{PinChange}
use Rattle.command_socket.specs.declared.socket.SocketResolved.{SocketResolved}
use Rattle.command_socket.specs.declared.socket.SocketResolved.TheVariants as Named
use Rattle.command_socket_keys.specs.Keys.{key_in}
use Rattle.command_socket_words.specs.declared.fault.CommandFault.{CommandFault}
use Rattle.command_socket_words.specs.declared.socket_command.SocketCommand.{SocketCommand}
use Rattle.lb_answers.specs.declared.named_backend.NamedBackend.{NamedBackend}
use Rattle.lb_desk_model.specs.Backends.{OpenedBackend}
use Rattle.pin_set.specs.declared.pin.PinId.{PinId}
use Rattle.pin_set.specs.declared.pin_key.PinKey.{PinKey}
use Rattle.command_socket_serve.specs.Answers.{Answers, CarriesOut, CarriesOutPlain, looked_up}
use Rattle.command_socket_serve.specs.Consoles.{ConsoleView}
use Rattle.command_socket_serve.specs.Desks.{AtDesk, DeskSeen, backends_at}
use Rattle.command_socket_serve.specs.Lines.{AreAnswered}
use Rattle.command_socket_serve.specs.Outcomes.{Outcome}
use Rattle.command_socket_serve.specs.Tasks.{Asks, ChangesEach, ChangesKey, OfKey, OfWord, ShowsKey, type_of}

-- ---- one desk

abbrev Stays : DeskSeen → DeskSeen → Type 0
Stays old new = new.backend ≡ old.backend

same : (old new : DeskSeen) → new ≡ old → Stays old new
same old new is = ap (λ (d : DeskSeen). d.backend) is

each_stays : (named : NamedBackend) (change : PinChange) (moment : ℕ) (names : List PinId) (old new : DeskSeen) (text : List ℕ)
    → ChangesEach named change moment names old new text → Stays old new
each_stays named change moment [] old new text is = same old new is.0
each_stays named change moment (name ∷ more) old new text (between, first, rest, whole, one, others) =
    each_stays named change moment more between new rest others ∙ one.backend

key_stays : (key : Option PinKey) (Does : PinKey → DeskSeen → DeskSeen → List ℕ → Type 0) (old new : DeskSeen) (text : List ℕ)
    → ((k : PinKey) → Does k old new text → Stays old new) → OfKey key Does old new text → Stays old new
key_stays None Does old new text stays is = same old new is.0
key_stays (Some key) Does old new text stays is = stays key is

word_stays : (named : NamedBackend) (word : List ℕ) (Does : PinKey → DeskSeen → DeskSeen → List ℕ → Type 0) (old new : DeskSeen) (text : List ℕ)
    → ((k : PinKey) → Does k old new text → Stays old new) → OfWord named word Does old new text → Stays old new
word_stays named word Does old new text stays (inl is) = is.0.backend
word_stays named word Does old new text stays (inr is) = key_stays (key_in (type_of named) word) Does old new text stays is

asked_stays : (named : NamedBackend) (moment : ℕ) (task : BackendTask) (old new : DeskSeen) (text : List ℕ) → Asks named moment task old new text
    → Stays old new
asked_stays named moment (Task.ShowKey word) old new text is =
    word_stays named word (ShowsKey named) old new text (λ key shows. shows.2.backend) is
asked_stays named moment (Task.ChangeKey word change) old new text is =
    word_stays named word (ChangesKey named change moment) old new text
    (λ key changes. each_stays named change moment _ changes.1 new text changes.4 ∙ changes.3.backend) is
asked_stays named moment Task.ShowSheet old new text is = is.backend
asked_stays named moment Task.PlanDry old new text is = is.backend

-- ---- all desks

module _ {D : Type 0} (seen : D → DeskSeen) where
  set_stays : (desks : List D) (place : ℕ) (old new : D) → slice_get desks place ≡ Some old → Stays (seen old) (seen new)
      → backends_at seen (slice_set desks place new) ≡ backends_at seen desks
  set_stays [] place old new there stays = refl
  set_stays (d ∷ ds) zero old new there stays =
      ap (λ (b : OpenedBackend). b ∷ backends_at seen ds) (stays ∙ ap (λ (x : D). (seen x).backend) (sym (same_Some d old there)))
  set_stays (d ∷ ds) (suc place) old new there stays =
      ap (λ (bs : List OpenedBackend). (seen d).backend ∷ bs) (set_stays ds place old new there stays)

  at_stays : (place : ℕ) (desks used : List D) (Does : DeskSeen → DeskSeen → Type 0)
      → ((old new : DeskSeen) → Does old new → Stays old new) → AtDesk seen place desks used Does → backends_at seen used ≡ backends_at seen desks
  at_stays place desks used Does stays at =
      ap (λ (ds : List D). backends_at seen ds) at.others
      ∙ set_stays desks place at.old at.new at.there (stays (seen at.old) (seen at.new) at.is)

  plain_stays : (console : ConsoleView) (command : Resolved) (desks used : List D) (outcome : Outcome)
      → CarriesOutPlain seen console command desks used outcome → backends_at seen used ≡ backends_at seen desks
  plain_stays console (Is.Change place change) desks used outcome is = at_stays place desks used _ (λ old new changes. changes.backend) is.2
  plain_stays console (Is.Plan place) desks used outcome is = at_stays place desks used _ (λ old new plans. plans.backend) is.0
  plain_stays console (Is.Show what place) desks used outcome is =
      at_stays place desks used _ (λ old new shows. shows.kept.backend) is.2
  plain_stays console Is.Stop desks used outcome is = ap (λ (ds : List D). backends_at seen ds) is.1

  carried_stays : (console : ConsoleView) (command : SocketResolved) (desks used : List D) (outcome : Outcome)
      → CarriesOut seen console command desks used outcome → backends_at seen used ≡ backends_at seen desks
  carried_stays console (Named.Plain command) desks used outcome is = plain_stays console command desks used outcome is
  carried_stays console (Named.Asked place task) desks used outcome is =
      at_stays place desks used _ (λ old new asks. asked_stays is.0 console.moment task old new outcome.text asks) is.2

  one_stays : (console : ConsoleView) (said : Result SocketResolved CommandFault) (desks used : List D) (outcome : Outcome)
      → Answers seen console said desks used outcome → backends_at seen used ≡ backends_at seen desks
  one_stays console (Ok command) desks used outcome is = carried_stays console command desks used outcome is
  one_stays console (Err fault) desks used outcome is = ap (λ (ds : List D). backends_at seen ds) is.1

  -- commands leave each desk at its backend
  pub all_stay : (console : ConsoleView) (commands : List (Result SocketCommand CommandFault)) (desks used : List D) (outcome : Outcome)
      → AreAnswered seen console commands desks used outcome → backends_at seen used ≡ backends_at seen desks
  all_stay console [] desks used outcome is = ap (λ (ds : List D). backends_at seen ds) is.0
  all_stay console (command ∷ more) desks used outcome (between, first, rest, whole, one, others) =
      all_stay console more between used rest others ∙ one_stays console (looked_up console.config command) desks between first one
