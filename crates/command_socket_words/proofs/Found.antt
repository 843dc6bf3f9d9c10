-- What is read was said.
use Rattle.std.proofs.Common.{◌≡◌, ℕ, ◌^◌, ◌<◌, ◌⊎◌, inl, inr, true, false, List, [], ◌∷◌, codes, Result, Ok, Err, refl, sym, ap, subst, ◌∙◌}
use Rattle.std.specs.Str.{bytes_eq}
use Rattle.lb_types.specs.Names.{is_name}
use Rattle.server_state.specs.declared.settings.AdminState.{AdminState}
use Rattle.server_state.specs.declared.settings.AdminState.TheVariants.{Ready, Drain, Maint}
use Rattle.server_state.specs.declared.change.Setting.{Setting}
use Rattle.server_state.specs.declared.change.Setting.TheVariants.{Admin, Health, Weight, MaxConnections, MaxPins}
use Rattle.command_socket_words.specs.declared.command.ServerName.{ServerName}
use Rattle.command_socket_words.specs.declared.command.Shown.{Shown}
use Rattle.command_socket_words.specs.declared.command.Command.{Command}
use Rattle.command_socket_words.specs.declared.command.Command.TheVariants.{Set, Show, Stop}
use Rattle.command_socket_words.specs.declared.fault.CommandFault.{CommandFault}
use Rattle.command_socket_words.specs.declared.fault.CommandFault.TheVariants.{UnknownCommand}
use Rattle.command_socket_words.specs.Faults.{◌>>=◌}
use Rattle.command_socket_words.specs.Words.{Word, at_end, last, behind}
use Rattle.command_socket_words.specs.Values.{name_in, server_in, number_in}
use Rattle.command_socket_words.specs.Settings.{admin_in, health_in, weight_in, setting_of}
use Rattle.command_socket_words.specs.Commands.{switch_of, numbered_of, server_numbered_of, set_server_of, set_of, shown_in, show_of, plan_of, command_of}
use Rattle.command_socket_words.specs.Meanings.{server_word, IsNumeral, admin_word, SaysSetting, shown_word, Says, FitsSetting, IsCommand}
use Rattle.command_socket_words.proofs.Steps.{bind_ok, if_err, by_word, bytes_is}
use Rattle.command_socket_words.proofs.Meant.{name_found, server_found, number_found}

abbrev found_is : {A : Type 0} → A → Result A CommandFault
found_is x = Ok x

ok_same : {A : Type 0} (x y : A) → found_is x ≡ Ok y → x ≡ y
ok_same x y is = cc

-- the words say the command, which is one as the program has it
abbrev Means : List Word → Command → Type 0
Means words command = IsCommand command × Says words command

last_found : {A : Type 0} (meaning : Word → Result A CommandFault) (words : List Word) (x : A) → last meaning words ≡ Ok x → (word : Word) × (words ≡ word ∷ []) × (meaning word ≡ Ok x)
unfolding last at_end
last_found meaning [] x is = cc
last_found meaning (word ∷ []) x is =
    let found = bind_ok (meaning word) (λ y. Ok y) x is in
    (word, refl, found.1 ∙ found.2)
last_found meaning (word ∷ next ∷ more) x is =
    let found = bind_ok (meaning word) (λ y. Err UnknownCommand) x is in cc

behind_found : {A : Type 0} (key : Word) (f : List Word → Result A CommandFault) (words : List Word) (x : A) → behind key f words ≡ Ok x → (more : List Word) × (words ≡ key ∷ more) × (f more ≡ Ok x)
unfolding behind
behind_found key f [] x is = cc
behind_found key f (word ∷ more) x is =
    let test = if_err (bytes_eq word key) UnknownCommand (f more) x is in
    (more, ap (λ w. w ∷ more) (bytes_is word key test.0), test.1)

admin_found : (word : Word) (setting : Setting) → admin_in word ≡ Ok setting → (state : AdminState) × (word ≡ admin_word state) × (Admin state ≡ setting)
unfolding admin_in
admin_found word setting is =
    elim (by_word word (codes "ready") _ _ setting is) [
      | inl ready ↦ (Ready, ready.0, ok_same _ _ ready.1)
      | inr other ↦ elim (by_word word (codes "drain") _ _ setting other) [
        | inl drain ↦ (Drain, drain.0, ok_same _ _ drain.1)
        | inr last ↦ elim (by_word word (codes "maint") _ _ setting last) [
          | inl maint ↦ (Maint, maint.0, ok_same _ _ maint.1)
          | inr none ↦ cc
        ]
      ]
    ]

health_found : (word : Word) (setting : Setting) → health_in word ≡ Ok setting → ((word ≡ codes "up") × (Health true ≡ setting)) ⊎ ((word ≡ codes "down") × (Health false ≡ setting))
unfolding health_in
health_found word setting is =
    elim (by_word word (codes "up") _ _ setting is) [
      | inl up ↦ inl (up.0, ok_same _ _ up.1)
      | inr other ↦ elim (by_word word (codes "down") _ _ setting other) [
        | inl down ↦ inr (down.0, ok_same _ _ down.1)
        | inr none ↦ cc
      ]
    ]

-- what stands behind `set server b/s`
abbrev SetsSo : Word → List Word → Setting → Type 0
SetsSo server words setting = FitsSetting setting × SaysSetting (codes "set" ∷ codes "server" ∷ server ∷ words) server setting

abbrev set_words : Word → List Word → List Word
set_words server words = codes "set" ∷ codes "server" ∷ server ∷ words

two_words : (server word a b : Word) (more : List Word) → word ≡ a → more ≡ b ∷ [] → set_words server (word ∷ more) ≡ set_words server (a ∷ b ∷ [])
two_words server word a b more first rest = ap (λ w. set_words server (w ∷ more)) first ∙ ap (λ ws. set_words server (a ∷ ws)) rest

state_found : (server word : Word) (more : List Word) (setting : Setting) → word ≡ codes "state" → last admin_in more ≡ Ok setting → SetsSo server (word ∷ more) setting
state_found server word more setting key read =
    let only = last_found admin_in more setting read in
    let found = admin_found only.0 setting only.2 in
    subst (λ s. SetsSo server (word ∷ more) s) found.2
    (tt, inl (two_words server word (codes "state") (admin_word found.0) more key (only.1 ∙ ap (λ v. v ∷ []) found.1)))

health_setting_found : (server word : Word) (more : List Word) (setting : Setting) → word ≡ codes "health" → last health_in more ≡ Ok setting → SetsSo server (word ∷ more) setting
health_setting_found server word more setting key read =
    let only = last_found health_in more setting read in
    elim (health_found only.0 setting only.2) [
      | inl up ↦ subst (λ s. SetsSo server (word ∷ more) s) up.1 (tt, two_words server word (codes "health") (codes "up") more key (only.1 ∙ ap (λ v. v ∷ []) up.0))
      | inr down ↦ subst (λ s. SetsSo server (word ∷ more) s) down.1 (tt, two_words server word (codes "health") (codes "down") more key (only.1 ∙ ap (λ v. v ∷ []) down.0))
    ]

weight_setting_found : (server word : Word) (more : List Word) (setting : Setting) → word ≡ codes "weight" → last weight_in more ≡ Ok setting → SetsSo server (word ∷ more) setting
unfolding weight_in
weight_setting_found server word more setting key read =
    let only = last_found weight_in more setting read in
    let number = bind_ok (number_in only.0) (λ n. Ok (Weight n)) setting only.2 in
    let numeral = number_found only.0 number.0 number.1 in
    subst (λ s. SetsSo server (word ∷ more) s) (ok_same _ _ number.2)
    (numeral.1, (only.0, numeral.0, inr (two_words server word (codes "weight") only.0 more key only.1)))

setting_found : (server : Word) (words : List Word) (setting : Setting) → setting_of words ≡ Ok setting → SetsSo server words setting
unfolding setting_of
setting_found server [] setting is = cc
setting_found server (word ∷ more) setting is =
    elim (by_word word (codes "state") _ _ setting is) [
      | inl state ↦ state_found server word more setting state.0 state.1
      | inr other ↦ elim (by_word word (codes "health") _ _ setting other) [
        | inl health ↦ health_setting_found server word more setting health.0 health.1
        | inr third ↦ elim (by_word word (codes "weight") _ _ setting third) [
          | inl weight ↦ weight_setting_found server word more setting weight.0 weight.1
          | inr none ↦ cc
        ]
      ]
    ]

-- a server's word, and a number's
record Numbered (words : List Word) (x : ServerName × ℕ) : Type 0 where
  server : ServerName
  n : ℕ
  digits : Word
  is : (server, n) ≡ x
  words_are : words ≡ server_word server ∷ digits ∷ []
  backend_name : is_name server.backend ≡ true
  server_name : is_name server.server ≡ true
  numeral : IsNumeral digits n
  small : n < 2 ^ 64

numbered_found : (words : List Word) (x : ServerName × ℕ) → numbered_of words ≡ Ok x → Numbered words x
unfolding numbered_of
numbered_found [] x is = cc
numbered_found (word ∷ more) x is =
    let server = bind_ok (server_in word) _ x is in
    let number = bind_ok (last number_in more) (λ n. Ok (server.0, n)) x server.2 in
    let names = server_found word server.0 server.1 in
    let only = last_found number_in more number.0 number.1 in
    let numeral = number_found only.0 number.0 only.2 in
    record {
      server = server.0;
      n = number.0;
      digits = only.0;
      is = ok_same _ _ number.2;
      words_are = ap (λ w. w ∷ more) names.0 ∙ ap (λ ws. server_word server.0 ∷ ws) only.1;
      backend_name = names.1;
      server_name = names.2;
      numeral = numeral.0;
      small = numeral.1;
    }

switch_found : (state : AdminState) (words : List Word) (command : Command) → switch_of state words ≡ Ok command → (server : ServerName) × (words ≡ codes "server" ∷ server_word server ∷ []) × (is_name server.backend ≡ true) × (is_name server.server ≡ true) × (Set server (Admin state) ≡ command)
unfolding switch_of
switch_found state words command is =
    let server = bind_ok (behind (codes "server") (last server_in) words) _ command is in
    let key = behind_found (codes "server") (last server_in) words server.0 server.1 in
    let only = last_found server_in key.0 server.0 key.2 in
    let names = server_found only.0 server.0 only.2 in
    (server.0, key.1 ∙ ap (λ ws. codes "server" ∷ ws) (only.1 ∙ ap (λ w. w ∷ []) names.0), names.1, names.2, ok_same _ _ server.2)

set_server_found : (words : List Word) (command : Command) → set_server_of words ≡ Ok command → Means (codes "set" ∷ codes "server" ∷ words) command
unfolding set_server_of
set_server_found [] command is = cc
set_server_found (word ∷ more) command is =
    let server = bind_ok (server_in word) _ command is in
    let setting = bind_ok (setting_of more) (λ s. Ok (Set server.0 s)) command server.2 in
    let names = server_found word server.0 server.1 in
    let said = setting_found (server_word server.0) more setting.0 setting.1 in
    let same = ap (λ w. codes "set" ∷ codes "server" ∷ w ∷ more) names.0 in
    subst (λ c. Means (codes "set" ∷ codes "server" ∷ word ∷ more) c) (ok_same _ _ setting.2)
    ((names.1, names.2, said.0), subst (λ ws. SaysSetting ws (server_word server.0) setting.0) (sym same) said.1)

weight_found : (words : List Word) (command : Command) → (numbered_of words >>= λ x. Ok (Set x.0 (Weight x.1))) ≡ Ok command → Means (codes "set" ∷ codes "weight" ∷ words) command
weight_found words command is =
    let x = bind_ok (numbered_of words) _ command is in
    let found = numbered_found words x.0 x.1 in
    let same = ap (λ y. Set y.0 (Weight y.1)) found.is ∙ ok_same _ _ x.2 in
    subst (λ c. Means (codes "set" ∷ codes "weight" ∷ words) c) same
    ((found.backend_name, found.server_name, found.small), (found.digits, found.numeral, inl (ap (λ ws. codes "set" ∷ codes "weight" ∷ ws) found.words_are)))

maxconn_found : (words : List Word) (command : Command) → (server_numbered_of words >>= λ x. Ok (Set x.0 (MaxConnections x.1))) ≡ Ok command → Means (codes "set" ∷ codes "maxconn" ∷ words) command
unfolding server_numbered_of
maxconn_found words command is =
    let x = bind_ok (behind (codes "server") numbered_of words) _ command is in
    let key = behind_found (codes "server") numbered_of words x.0 x.1 in
    let found = numbered_found key.0 x.0 key.2 in
    let same = ap (λ y. Set y.0 (MaxConnections y.1)) found.is ∙ ok_same _ _ x.2 in
    let whole = key.1 ∙ ap (λ ws. codes "server" ∷ ws) found.words_are in
    subst (λ c. Means (codes "set" ∷ codes "maxconn" ∷ words) c) same
    ((found.backend_name, found.server_name, found.small), (found.digits, found.numeral, ap (λ ws. codes "set" ∷ codes "maxconn" ∷ ws) whole))

maxpins_found : (words : List Word) (command : Command) → (server_numbered_of words >>= λ x. Ok (Set x.0 (MaxPins x.1))) ≡ Ok command → Means (codes "set" ∷ codes "maxpins" ∷ words) command
unfolding server_numbered_of
maxpins_found words command is =
    let x = bind_ok (behind (codes "server") numbered_of words) _ command is in
    let key = behind_found (codes "server") numbered_of words x.0 x.1 in
    let found = numbered_found key.0 x.0 key.2 in
    let same = ap (λ y. Set y.0 (MaxPins y.1)) found.is ∙ ok_same _ _ x.2 in
    let whole = key.1 ∙ ap (λ ws. codes "server" ∷ ws) found.words_are in
    subst (λ c. Means (codes "set" ∷ codes "maxpins" ∷ words) c) same
    ((found.backend_name, found.server_name, found.small), (found.digits, found.numeral, ap (λ ws. codes "set" ∷ codes "maxpins" ∷ ws) whole))

-- words that mean a command, and those that are the same, mean it
same_means : (a b : List Word) (command : Command) → a ≡ b → Means b command → Means a command
same_means a b command same means = subst (λ ws. Means ws command) (sym same) means

set_found : (words : List Word) (command : Command) → set_of words ≡ Ok command → Means (codes "set" ∷ words) command
unfolding set_of
set_found [] command is = cc
set_found (word ∷ more) command is =
    elim (by_word word (codes "server") _ _ command is) [
      | inl server ↦ same_means _ _ command (ap (λ w. codes "set" ∷ w ∷ more) server.0) (set_server_found more command server.1)
      | inr second ↦ elim (by_word word (codes "weight") _ _ command second) [
        | inl weight ↦ same_means _ _ command (ap (λ w. codes "set" ∷ w ∷ more) weight.0) (weight_found more command weight.1)
        | inr third ↦ elim (by_word word (codes "maxconn") _ _ command third) [
          | inl maxconn ↦ same_means _ _ command (ap (λ w. codes "set" ∷ w ∷ more) maxconn.0) (maxconn_found more command maxconn.1)
          | inr fourth ↦ elim (by_word word (codes "maxpins") _ _ command fourth) [
            | inl maxpins ↦ same_means _ _ command (ap (λ w. codes "set" ∷ w ∷ more) maxpins.0) (maxpins_found more command maxpins.1)
            | inr none ↦ cc
          ]
        ]
      ]
    ]

enable_found : (words : List Word) (command : Command) → switch_of Ready words ≡ Ok command → Means (codes "enable" ∷ words) command
enable_found words command is =
    let found = switch_found Ready words command is in
    subst (λ c. Means (codes "enable" ∷ words) c) found.4 ((found.2, found.3, tt), inr (ap (λ ws. codes "enable" ∷ ws) found.1))

disable_found : (words : List Word) (command : Command) → switch_of Maint words ≡ Ok command → Means (codes "disable" ∷ words) command
disable_found words command is =
    let found = switch_found Maint words command is in
    subst (λ c. Means (codes "disable" ∷ words) c) found.4 ((found.2, found.3, tt), inr (ap (λ ws. codes "disable" ∷ ws) found.1))

plan_found : (words : List Word) (command : Command) → plan_of words ≡ Ok command → Means (codes "plan" ∷ words) command
unfolding plan_of
plan_found words command is =
    let backend = bind_ok (behind (codes "backend") (last name_in) words) _ command is in
    let key = behind_found (codes "backend") (last name_in) words backend.0 backend.1 in
    let only = last_found name_in key.0 backend.0 key.2 in
    let name = name_found only.0 backend.0 only.2 in
    let whole = key.1 ∙ ap (λ ws. codes "backend" ∷ ws) (only.1 ∙ ap (λ w. w ∷ []) name.0) in
    subst (λ c. Means (codes "plan" ∷ words) c) (ok_same _ _ backend.2) (name.1, ap (λ ws. codes "plan" ∷ ws) whole)

shown_found : (word : Word) (what : Shown) → shown_in word ≡ Ok what → word ≡ shown_word what
unfolding shown_in
shown_found word what is =
    elim (by_word word (codes "plan") _ _ what is) [
      | inl plan ↦ plan.0 ∙ ap shown_word (ok_same _ _ plan.1)
      | inr other ↦ elim (by_word word (codes "table") _ _ what other) [
        | inl table ↦ table.0 ∙ ap shown_word (ok_same _ _ table.1)
        | inr last ↦ elim (by_word word (codes "journal") _ _ what last) [
          | inl journal ↦ journal.0 ∙ ap shown_word (ok_same _ _ journal.1)
          | inr none ↦ cc
        ]
      ]
    ]

show_found : (words : List Word) (command : Command) → show_of words ≡ Ok command → Means (codes "show" ∷ words) command
unfolding show_of
show_found [] command is = cc
show_found (word ∷ more) command is =
    let what = bind_ok (shown_in word) _ command is in
    let backend = bind_ok (last name_in more) (λ b. Ok (Show what.0 b)) command what.2 in
    let only = last_found name_in more backend.0 backend.1 in
    let name = name_found only.0 backend.0 only.2 in
    let first = ap (λ w. codes "show" ∷ w ∷ more) (shown_found word what.0 what.1) in
    let rest = ap (λ ws. codes "show" ∷ shown_word what.0 ∷ ws) (only.1 ∙ ap (λ w. w ∷ []) name.0) in
    subst (λ c. Means (codes "show" ∷ word ∷ more) c) (ok_same _ _ backend.2) (name.1, first ∙ rest)

stop_found : (words : List Word) (command : Command) → (at_end words >>= λ _. Ok Stop) ≡ Ok command → Means (codes "stop" ∷ words) command
unfolding at_end
stop_found [] command is = subst (λ c. Means (codes "stop" ∷ []) c) (ok_same _ _ is) (tt, refl)
stop_found (word ∷ more) command is = cc

-- what is read was said
pub command_found : (words : List Word) (command : Command) → command_of words ≡ Ok command → IsCommand command × Says words command
unfolding command_of
command_found [] command is = cc
command_found (word ∷ more) command is =
    elim (by_word word (codes "set") _ _ command is) [
      | inl set ↦ same_means _ _ command (ap (λ w. w ∷ more) set.0) (set_found more command set.1)
      | inr second ↦ elim (by_word word (codes "enable") _ _ command second) [
        | inl enable ↦ same_means _ _ command (ap (λ w. w ∷ more) enable.0) (enable_found more command enable.1)
        | inr third ↦ elim (by_word word (codes "disable") _ _ command third) [
          | inl disable ↦ same_means _ _ command (ap (λ w. w ∷ more) disable.0) (disable_found more command disable.1)
          | inr fourth ↦ elim (by_word word (codes "plan") _ _ command fourth) [
            | inl plan ↦ same_means _ _ command (ap (λ w. w ∷ more) plan.0) (plan_found more command plan.1)
            | inr fifth ↦ elim (by_word word (codes "show") _ _ command fifth) [
              | inl show ↦ same_means _ _ command (ap (λ w. w ∷ more) show.0) (show_found more command show.1)
              | inr sixth ↦ elim (by_word word (codes "stop") _ _ command sixth) [
                | inl stop ↦ same_means _ _ command (ap (λ w. w ∷ more) stop.0) (stop_found more command stop.1)
                | inr none ↦ cc
              ]
            ]
          ]
        ]
      ]
    ]
