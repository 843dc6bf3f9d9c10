-- Servers with distinct names are all kept.
use Rattle.std.proofs.Common.{◌≡◌, ◌≢◌, ℕ, ◌<◌, ◌≤◌, true, not, nat_lt, List, [], ◌∷◌, ◌++◌, length, get_or, map, Option, AllPairs, refl, sym, ap, subst, ◌∙◌, arith, append_assoc, append-nil, length-append, option_to_list, bytes_eq}
use Rattle.std.specs.List.{list_any}
use Rattle.std.proofs.lemmas.Bool.{and_from, cond-true, false_from_ne_true, lt-ltb, not_from_false}
use Rattle.std.proofs.lemmas.List.{get_or-map, get_or_append_left, get_or_at, length-map, map-append}
use Rattle.std.proofs.lemmas.List.Folds.{list_any_none}
use Rattle.std.proofs.lemmas.Slice.Eq.{bytes_eq-Decides}
use Rattle.lb_types.specs.declared.limits.TheConstants.{MAX_SERVERS}
use Rattle.check_workers_rule.specs.CheckRequests.{CheckLine}
use Rattle.lb_config_lines.specs.declared.setting.Setting.{Setting}
use Rattle.lb_config_lines.specs.declared.setting.Setting.TheVariants as Set
use Rattle.lb_config_parameters.specs.OptionsView.{OptionsView}
use Rattle.lb_config_sections.specs.Names.{gathered, server_name}
use Rattle.lb_config_sections.specs.SectionView.{SectionView}
use Rattle.lb_config_sections.specs.declared.config_section.NumberedSetting.{NumberedSetting}
use Rattle.lb_config_values.specs.ServerView.{ServerView}
use Rattle.lb_config_values.specs.Servers.{server_in, servers_behind, with_default}
use Rattle.lb_config_values.specs.declared.defaults.Defaults.{Defaults}
use Rattle.lb_config.specs.Configs.{check_line_of, max_pins_of, servers_of}
use Rattle.lb_config.specs.Kept.{kept_behind, may_follow}
use Rattle.lb_config_valid.specs.Names.{AreNames, names_of}

-- names apart, of servers apart
servers_apart : (servers : List ServerView) → AllPairs (λ a b. a ≢ b) (map (λ (server : ServerView). server.name) servers) → AllPairs (λ (a b : ServerView). a.name ≢ b.name) servers
servers_apart servers apart i j d before within same =
    let names = map (λ (server : ServerView). server.name) servers in
    apart i j d.name before (subst (λ n. j < n) (sym (length-map servers (λ (server : ServerView). server.name))) within)
    (get_or-map (λ (server : ServerView). server.name) servers i d d.name (omega (arith, before, within)) ∙ same
    ∙ sym (get_or-map (λ (server : ServerView). server.name) servers j d d.name within))

-- the next server has a name of its own
may : (front more : List ServerView) (server : ServerView) → length (front ++ server ∷ more) ≤ MAX_SERVERS →
    AllPairs (λ (a b : ServerView). a.name ≢ b.name) (front ++ server ∷ more) → may_follow front server ≡ true
may front more server few apart =
    let long = length-append front (server ∷ more) in
    and_from (nat_lt (length front) MAX_SERVERS) (not (list_any (λ (other : ServerView). bytes_eq other.name server.name) front))
    (lt-ltb (length front) MAX_SERVERS (omega (arith, few, long)))
    (not_from_false (list_any (λ (other : ServerView). bytes_eq other.name server.name) front)
    (list_any_none (λ (other : ServerView). bytes_eq other.name server.name) front (λ k d within.
    false_from_ne_true (bytes_eq (get_or front k d).name server.name) (λ e.
    apart k (length front) d within (omega (arith, long))
    (ap (λ (one : ServerView). one.name) (get_or_append_left front (server ∷ more) d k within)
    ∙ (bytes_eq-Decides (get_or front k d).name server.name).0 e
    ∙ ap (λ (one : ServerView). one.name) (sym (get_or_at front server more d (length front) refl)))))))

all_kept : (front servers : List ServerView) → length (front ++ servers) ≤ MAX_SERVERS →
    AllPairs (λ (a b : ServerView). a.name ≢ b.name) (front ++ servers) → kept_behind front servers ≡ front ++ servers
all_kept front [] few apart = sym (append-nil front)
all_kept front (server ∷ more) few apart =
    let pushed : (front ++ server ∷ []) ++ more ≡ front ++ server ∷ more = append_assoc front (server ∷ []) more in
    ap (λ next. kept_behind next more) (cond-true (may_follow front server) (front ++ server ∷ []) front (may front more server few apart))
    ∙ all_kept (front ++ server ∷ []) more (subst (λ all. length all ≤ MAX_SERVERS) (sym pushed) few)
    (subst (AllPairs (λ (a b : ServerView). a.name ≢ b.name)) (sym pushed) apart)
    ∙ pushed

-- a setting's server has its name
own_name : (max_pins : ℕ) (check : Option CheckLine) (defaults : OptionsView) (setting : Setting) →
    map (λ (server : ServerView). server.name) (option_to_list (server_in max_pins check defaults setting)) ≡ option_to_list (server_name setting)
own_name max_pins check defaults (Set.Server line) = refl
own_name max_pins check defaults _ = refl

names_are : (max_pins : ℕ) (check : Option CheckLine) (defaults : OptionsView) (settings : List NumberedSetting) →
    map (λ (server : ServerView). server.name) (servers_behind max_pins check defaults settings) ≡ gathered (λ numbered. server_name numbered.setting) settings
names_are max_pins check defaults [] = refl
names_are max_pins check defaults (numbered ∷ more) =
    let rest = servers_behind max_pins check (with_default defaults numbered.setting) more in
    map-append (λ (server : ServerView). server.name) (option_to_list (server_in max_pins check defaults numbered.setting)) rest
    ∙ ap (λ first. first ++ map (λ (server : ServerView). server.name) rest) (own_name max_pins check defaults numbered.setting)
    ∙ ap (λ names. option_to_list (server_name numbered.setting) ++ names) (names_are max_pins check (with_default defaults numbered.setting) more)

pub keeps_servers : (section : SectionView) → AreNames MAX_SERVERS (names_of section).servers → (defaults : Defaults) →
    map (λ (server : ServerView). server.name) (servers_of defaults section.settings) ≡ (names_of section).servers
keeps_servers section are defaults =
    let settings = section.settings in
    let servers = servers_behind (max_pins_of settings) (check_line_of defaults settings) defaults.servers settings in
    let names : map (λ (server : ServerView). server.name) servers ≡ (names_of section).servers =
    names_are (max_pins_of settings) (check_line_of defaults settings) defaults.servers settings in
    ap (map (λ (server : ServerView). server.name))
    (all_kept [] servers
    (subst (λ n. n ≤ MAX_SERVERS) (length-map servers (λ (server : ServerView). server.name)) (subst (λ all. length all ≤ MAX_SERVERS) (sym names) are.few))
    (servers_apart servers (subst (AllPairs (λ a b. a ≢ b)) (sym names) are.distinct)))
    ∙ names
