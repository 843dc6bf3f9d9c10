-- Where a bad number is told, that word alone is wrong: with 0 in its place the words up to it are a command.
use Rattle.std.proofs.Common.{◌≡◌, ◌≢◌, ℕ, Bool, true, false, cond, List, [], ◌∷◌, ◌++◌, codes, Option, Some, None, Result, Ok, Err, refl, sym, ap, ◌∙◌}
use Rattle.std.specs.Option.{ok_or}
use Rattle.std.specs.Str.{bytes_eq}
use Rattle.lb_types.specs.Names.{is_name}
use Rattle.lb_types_text.specs.Parts.{parts}
use Rattle.server_state.specs.declared.settings.AdminState.{AdminState}
use Rattle.server_state.specs.declared.settings.AdminState.TheVariants.{Ready, Drain, Maint}
use Rattle.server_state.specs.declared.change.Setting.{Setting}
use Rattle.server_state.specs.declared.change.Setting.TheVariants.{Admin, Health, Weight, MaxConnections, MaxPins}
use Rattle.command_socket_words.specs.declared.command.ServerName.{ServerName}
use Rattle.command_socket_words.specs.declared.command.Shown.{Shown}
use Rattle.command_socket_words.specs.declared.command.Shown.TheVariants as shown
use Rattle.command_socket_words.specs.declared.command.Command.{Command}
use Rattle.command_socket_words.specs.declared.command.Command.TheVariants.{Set, Plan, Show}
use Rattle.command_socket_words.specs.declared.fault.CommandFault.{CommandFault}
use Rattle.command_socket_words.specs.declared.fault.CommandFault.TheVariants.{UnknownCommand, BadNumber}
use Rattle.command_socket_words.specs.Faults.{◌>>=◌}
use Rattle.command_socket_words.specs.Words.{Word, at_end, last, behind}
use Rattle.command_socket_words.specs.Values.{name_in, server_of, server_in, number_in}
use Rattle.command_socket_words.specs.Settings.{admin_in, health_in, weight_in, setting_of}
use Rattle.command_socket_words.specs.Commands.{switch_of, numbered_of, server_numbered_of, set_server_of, set_of, shown_in, show_of, plan_of, command_of}
use Rattle.command_socket_words.proofs.Steps.{mapped_err}
use Rattle.command_socket_words.proofs.FirstFaults.{some_number_is, setting_chain, set_numbered, set_server_numbered, set_chain, command_stop, command_chain}

-- a bad number stands in the words, and with 0 in its place those up to it are read
abbrev pub HasBadNumber : (A : Type 0) → (List Word → Result A CommandFault) → List Word → Type 0
HasBadNumber A f words =
    (front more : List Word) × (bad : Word) × (x : A)
    × (words ≡ front ++ bad ∷ more) × (number_in bad ≡ Err BadNumber) × (f (front ++ codes "0" ∷ []) ≡ Ok x)

-- the reading tells bad numbers so
abbrev pub TellsNumbers : (A : Type 0) → (List Word → Result A CommandFault) → Type 0
TellsNumbers A f = (words : List Word) → f words ≡ Err BadNumber → HasBadNumber A f words

numbers-unknown : (A : Type 0) → TellsNumbers A (λ words. Err UnknownCommand)
numbers-unknown A words is = cc

numbers-if : (A : Type 0) (b : Bool) (f g : List Word → Result A CommandFault) → TellsNumbers A f → TellsNumbers A g → TellsNumbers A (λ words. cond b (f words) (g words))
numbers-if A true f g first second = first
numbers-if A false f g first second = second

-- a reading of the words behind the first one, which it depends on
numbers-first : (A : Type 0) (g : List Word → Result A CommandFault) (f : Word → List Word → Result A CommandFault) → g [] ≢ Err BadNumber → ((word : Word) (more : List Word) → g (word ∷ more) ≡ f word more) → ((word : Word) → TellsNumbers A (f word)) → TellsNumbers A g
numbers-first A g f none some each [] told = absurd (none told)
numbers-first A g f none some each (w ∷ words) told =
    let found = each w words (sym (some w words) ∙ told) in
    (w ∷ found.0, found.1, found.2, found.3, ap (λ ws. w ∷ ws) found.4, found.5, some w (found.0 ++ codes "0" ∷ []) ∙ found.6)

-- a reading, and a step without a fault behind it
numbers-map : (A B : Type 0) (f : List Word → Result A CommandFault) (h : A → B) → TellsNumbers A f → TellsNumbers B (λ words. f words >>= λ x. Ok (h x))
numbers-map A B f h kept words is =
    let found = kept words (mapped_err (f words) h BadNumber is) in
    (found.0, found.1, found.2, h found.3, found.4, found.5, rw found.6 refl)

-- a reading behind a step that reads no number
numbers-given : (A B : Type 0) (r : Result A CommandFault) (f : A → List Word → Result B CommandFault) → r ≢ Err BadNumber → ((x : A) → TellsNumbers B (f x)) → TellsNumbers B (λ words. r >>= λ x. f x words)
numbers-given A B (Ok x) f other each words is = each x words is
numbers-given A B (Err e) f other each words is = let same : e ≡ BadNumber = cc in absurd (other (ap Err same))

-- a word means something; where it is told as a bad number it is one, and 0 would mean something
abbrev MeansNumbers : (A : Type 0) → (Word → Result A CommandFault) → Type 0
MeansNumbers A meaning = (word : Word) → meaning word ≡ Err BadNumber → (x : A) × (number_in word ≡ Err BadNumber) × (meaning (codes "0") ≡ Ok x)

no_numbers : (A : Type 0) (meaning : Word → Result A CommandFault) → ((word : Word) → meaning word ≢ Err BadNumber) → MeansNumbers A meaning
no_numbers A meaning none word told = absurd (none word told)

-- one word that means something
numbers-last : (A : Type 0) (meaning : Word → Result A CommandFault) → MeansNumbers A meaning → TellsNumbers A (last meaning)
unfolding last at_end
numbers-last A meaning means [] is = cc
numbers-last A meaning means (w ∷ more) is =
    let zero_means = means w (fault_is_its (meaning w) more is) in
    ([], more, w, zero_means.0, refl, zero_means.1, rw zero_means.2 refl)
  where
    fault_is_its : (r : Result A CommandFault) (rest : List Word) → (r >>= λ y. (at_end rest >>= λ _. Ok y)) ≡ Err BadNumber → r ≡ Err BadNumber
    fault_is_its (Ok y) [] told = cc
    fault_is_its (Ok y) (v ∷ rest) told = cc
    fault_is_its (Err e) rest told = cc

-- a word that has to stand there, and a reading behind it
numbers-behind : (A : Type 0) (key : Word) (f : List Word → Result A CommandFault) → TellsNumbers A f → TellsNumbers A (behind key f)
unfolding behind
numbers-behind A key f kept =
    numbers-first A (behind key f) (λ w rest. cond (bytes_eq w key) (f rest) (Err UnknownCommand)) (λ is. cc) (λ w rest. refl)
    (λ w. numbers-if A (bytes_eq w key) f (λ rest. Err UnknownCommand) kept (numbers-unknown A))

-- a word that is chosen from some is no number
chosen : {A : Type 0} (b : Bool) (x : A) (r : Result A CommandFault) → r ≢ Err BadNumber → cond b (Ok x) r ≢ Err BadNumber
chosen true x r other is = cc
chosen false x r other is = other is

abbrev no_word : (A : Type 0) → Result A CommandFault
no_word A = Err UnknownCommand

none_chosen : (A : Type 0) → no_word A ≢ Err BadNumber
none_chosen A is = cc

name_is_none : (word : Word) → name_in word ≢ Err BadNumber
unfolding name_in
name_is_none word = chosen (is_name word) word (no_word (List ℕ)) (none_chosen (List ℕ))

ok_or_is_none : {A : Type 0} (o : Option A) → ok_or o UnknownCommand ≢ Err BadNumber
ok_or_is_none None is = cc
ok_or_is_none (Some x) is = cc

server_is_none : (word : Word) → server_in word ≢ Err BadNumber
unfolding server_in
server_is_none word = ok_or_is_none (server_of (parts 47 word))

admin_is_none : (word : Word) → admin_in word ≢ Err BadNumber
unfolding admin_in
admin_is_none word = chosen (bytes_eq word (codes "ready")) (Admin Ready) _ (chosen (bytes_eq word (codes "drain")) (Admin Drain) _ (chosen (bytes_eq word (codes "maint")) (Admin Maint) _ (none_chosen Setting)))

health_is_none : (word : Word) → health_in word ≢ Err BadNumber
unfolding health_in
health_is_none word = chosen (bytes_eq word (codes "up")) (Health true) _ (chosen (bytes_eq word (codes "down")) (Health false) _ (none_chosen Setting))

shown_is_none : (word : Word) → shown_in word ≢ Err BadNumber
unfolding shown_in
shown_is_none word = chosen (bytes_eq word (codes "plan")) shown.Plan _ (chosen (bytes_eq word (codes "table")) shown.Table _ (chosen (bytes_eq word (codes "journal")) shown.Journal _ (none_chosen Shown)))

number_means : MeansNumbers ℕ number_in
number_means word told = (0, told, some_number_is)

weight_means : MeansNumbers Setting weight_in
unfolding weight_in
weight_means word told = (Weight 0, mapped_err (number_in word) (λ n. Weight n) BadNumber told, rw some_number_is refl)

setting_numbers : TellsNumbers Setting setting_of
unfolding setting_of
setting_numbers =
    numbers-first Setting setting_of setting_chain (λ is. cc) (λ w more. refl)
    (λ w. numbers-if Setting _ (last admin_in) _ (numbers-last Setting admin_in (no_numbers Setting admin_in admin_is_none))
    (numbers-if Setting _ (last health_in) _ (numbers-last Setting health_in (no_numbers Setting health_in health_is_none))
    (numbers-if Setting _ (last weight_in) _ (numbers-last Setting weight_in weight_means) (numbers-unknown Setting))))

last_name : TellsNumbers (List ℕ) (last name_in)
last_name = numbers-last (List ℕ) name_in (no_numbers (List ℕ) name_in name_is_none)

switch_numbers : (state : AdminState) → TellsNumbers Command (switch_of state)
unfolding switch_of
switch_numbers state =
    numbers-map ServerName Command _ (λ server. Set server (Admin state))
    (numbers-behind ServerName (codes "server") (last server_in) (numbers-last ServerName server_in (no_numbers ServerName server_in server_is_none)))

numbered_numbers : TellsNumbers (ServerName × ℕ) numbered_of
unfolding numbered_of
numbered_numbers =
    numbers-first (ServerName × ℕ) numbered_of (λ w more. server_in w >>= λ server. (last number_in more >>= λ n. Ok (server, n))) (λ is. cc) (λ w more. refl)
    (λ w. numbers-given ServerName (ServerName × ℕ) (server_in w) (λ server more. last number_in more >>= λ n. Ok (server, n)) (server_is_none w) (λ server. numbers-map ℕ (ServerName × ℕ) (last number_in) (λ n. (server, n)) (numbers-last ℕ number_in number_means)))

server_numbered_numbers : TellsNumbers (ServerName × ℕ) server_numbered_of
unfolding server_numbered_of
server_numbered_numbers = numbers-behind (ServerName × ℕ) (codes "server") numbered_of numbered_numbers

set_server_numbers : TellsNumbers Command set_server_of
unfolding set_server_of
set_server_numbers =
    numbers-first Command set_server_of (λ w more. server_in w >>= λ server. (setting_of more >>= λ setting. Ok (Set server setting))) (λ is. cc) (λ w more. refl)
    (λ w. numbers-given ServerName Command (server_in w) (λ server more. setting_of more >>= λ setting. Ok (Set server setting)) (server_is_none w) (λ server. numbers-map Setting Command setting_of (λ setting. Set server setting) setting_numbers))

set_numbers : TellsNumbers Command set_of
unfolding set_of
set_numbers =
    numbers-first Command set_of set_chain (λ is. cc) (λ w more. refl)
    (λ w. numbers-if Command _ set_server_of _ set_server_numbers
    (numbers-if Command _ (set_numbered Weight) _ (numbers-map (ServerName × ℕ) Command numbered_of (λ x. Set x.0 (Weight x.1)) numbered_numbers)
    (numbers-if Command _ (set_server_numbered MaxConnections) _ (numbers-map (ServerName × ℕ) Command server_numbered_of (λ x. Set x.0 (MaxConnections x.1)) server_numbered_numbers)
    (numbers-if Command _ (set_server_numbered MaxPins) _ (numbers-map (ServerName × ℕ) Command server_numbered_of (λ x. Set x.0 (MaxPins x.1)) server_numbered_numbers) (numbers-unknown Command)))))

show_numbers : TellsNumbers Command show_of
unfolding show_of
show_numbers =
    numbers-first Command show_of (λ w more. shown_in w >>= λ what. (last name_in more >>= λ backend. Ok (Show what backend))) (λ is. cc) (λ w more. refl)
    (λ w. numbers-given Shown Command (shown_in w) (λ what more. last name_in more >>= λ backend. Ok (Show what backend)) (shown_is_none w) (λ what. numbers-map (List ℕ) Command (last name_in) (λ backend. Show what backend) last_name))

plan_numbers : TellsNumbers Command plan_of
unfolding plan_of
plan_numbers =
    numbers-map (List ℕ) Command _ (λ backend. Plan backend) (numbers-behind (List ℕ) (codes "backend") (last name_in) last_name)

stop_numbers : TellsNumbers Command command_stop
unfolding at_end
stop_numbers [] is = cc
stop_numbers (w ∷ more) is = cc

-- commands tell bad numbers so
pub command_numbers : TellsNumbers Command command_of
unfolding command_of
command_numbers =
    numbers-first Command command_of command_chain (λ is. cc) (λ w more. refl)
    (λ w. numbers-if Command _ set_of _ set_numbers
    (numbers-if Command _ (switch_of Ready) _ (switch_numbers Ready)
    (numbers-if Command _ (switch_of Maint) _ (switch_numbers Maint)
    (numbers-if Command _ plan_of _ plan_numbers
    (numbers-if Command _ show_of _ show_numbers (numbers-if Command _ command_stop _ stop_numbers (numbers-unknown Command)))))))
