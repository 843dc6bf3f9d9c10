-- The facts of ranges that settings and tables carry make no two of them differ.
use Rattle.std.proofs.Common.{◌≡◌, ℕ, ◌≤◌, Bool, List, [], ◌∷◌, map, Option, Some, None, option_map, refl, sym, ap, subst, ◌∙◌}
use Rattle.std.proofs.Math.Bridge.{le_prop}
use Rattle.lb_types.specs.declared.limits.TheConstants.{MAX_PINS, MAX_WEIGHT}
use Rattle.rise_fall.specs.declared.health.TheConstants.{MAX_STREAK}
use Rattle.server_state.specs.declared.settings.CheckSettings.{CheckSettings}
use Rattle.server_state.specs.declared.settings.ServerSettings.{ServerSettings}
use Rattle.lb_config_values.specs.ServerView.{CheckCounts, SettingsView, check_counts, settings_view}
use Rattle.lb_desk_model.specs.Backends.{BackendParts}
use Rattle.lb_desk_model.specs.declared.backend.BackendServer.{BackendServer}
use Rattle.lb_types.specs.declared.table_settings.TableSettings.{TableSettings}
use Rattle.lb_types.specs.declared.balance.Balance.{Balance}
use Rattle.lb_desk_backend.specs.Configured.{OpensAsOneBackend, ServerParts, TableParts, server_parts, table_parts}

-- a function that tells things apart tells lists and options of them apart
abbrev Tells : {A B : Type 0} → (A → B) → Type 0
Tells {A} f = (x y : A) → f x ≡ f y → x ≡ y

tells_lists : {A B : Type 0} (f : A → B) → Tells f → (xs ys : List A) → map f xs ≡ map f ys → xs ≡ ys
tells_lists f tells [] [] e = refl
tells_lists f tells [] (y ∷ ys) e = absurd cc
tells_lists f tells (x ∷ xs) [] e = absurd cc
tells_lists f tells (x ∷ xs) (y ∷ ys) e =
    let both : f x ∷ map f xs ≡ f y ∷ map f ys = e in
    let first : f x ≡ f y = cc in
    let rest : map f xs ≡ map f ys = cc in
    ap (λ z. z ∷ xs) (tells x y first) ∙ ap (λ zs. y ∷ zs) (tells_lists f tells xs ys rest)

tells_options : {A B : Type 0} (f : A → B) → Tells f → (x y : Option A) → option_map f x ≡ option_map f y → x ≡ y
tells_options f tells None None e = refl
tells_options f tells None (Some y) e = absurd cc
tells_options f tells (Some x) None e = absurd cc
tells_options f tells (Some x) (Some y) e =
    let both : Some (f x) ≡ Some (f y) = e in
    let one : f x ≡ f y = cc in
    ap Some (tells x y one)

abbrev table_at : (parts : TableParts) → 1 ≤ parts.size → parts.size ≤ MAX_PINS → TableSettings
table_at parts from to = record { size = parts.size; expire = parts.expire; no_purge = parts.no_purge; size_from = from; size_to = to }

same_table : (a b : TableParts) → a ≡ b → (from : 1 ≤ a.size) (to : a.size ≤ MAX_PINS) (from' : 1 ≤ b.size) (to' : b.size ≤ MAX_PINS) →
    table_at a from to ≡ table_at b from' to'
same_table a b e =
    subst (λ (b : TableParts). (from : 1 ≤ a.size) (to : a.size ≤ MAX_PINS) (from' : 1 ≤ b.size) (to' : b.size ≤ MAX_PINS) → table_at a from to ≡ table_at b from' to')
    e (λ from to from' to'. ap (λ fact. table_at a fact to) (le_prop from from') ∙ ap (λ fact. table_at a from' fact) (le_prop to to'))

tells_tables : Tells table_parts
tells_tables a b e = same_table (table_parts a) (table_parts b) e a.size_from a.size_to b.size_from b.size_to

abbrev check_at : (counts : CheckCounts) → 1 ≤ counts.rise → counts.rise ≤ MAX_STREAK → 1 ≤ counts.fall → counts.fall ≤ MAX_STREAK → CheckSettings
check_at counts rise_from rise_to fall_from fall_to = record {
  rise = counts.rise;
  fall = counts.fall;
  rise_from = rise_from;
  rise_to = rise_to;
  fall_from = fall_from;
  fall_to = fall_to;
}

same_check : (a b : CheckCounts) → a ≡ b → (i : 1 ≤ a.rise) (j : a.rise ≤ MAX_STREAK) (k : 1 ≤ a.fall) (l : a.fall ≤ MAX_STREAK)
    (i' : 1 ≤ b.rise) (j' : b.rise ≤ MAX_STREAK) (k' : 1 ≤ b.fall) (l' : b.fall ≤ MAX_STREAK) → check_at a i j k l ≡ check_at b i' j' k' l'
same_check a b e =
    subst (λ (b : CheckCounts). (i : 1 ≤ a.rise) (j : a.rise ≤ MAX_STREAK) (k : 1 ≤ a.fall) (l : a.fall ≤ MAX_STREAK)
    (i' : 1 ≤ b.rise) (j' : b.rise ≤ MAX_STREAK) (k' : 1 ≤ b.fall) (l' : b.fall ≤ MAX_STREAK) → check_at a i j k l ≡ check_at b i' j' k' l')
    e (λ i j k l i' j' k' l'. ap (λ fact. check_at a fact j k l) (le_prop i i') ∙ ap (λ fact. check_at a i' fact k l) (le_prop j j')
    ∙ ap (λ fact. check_at a i' j' fact l) (le_prop k k') ∙ ap (λ fact. check_at a i' j' k' fact) (le_prop l l'))

tells_checks : Tells check_counts
tells_checks a b e =
    same_check (check_counts a) (check_counts b) e a.rise_from a.rise_to a.fall_from a.fall_to b.rise_from b.rise_to b.fall_from b.fall_to

abbrev settings_at : (view : SettingsView) → Option CheckSettings → view.weight ≤ MAX_WEIGHT → view.max_pins ≤ MAX_PINS → ServerSettings
settings_at view check weight max_pins = record {
  admin = view.admin;
  weight = view.weight;
  max_connections = view.max_connections;
  max_pins = view.max_pins;
  backup = view.backup;
  check = check;
  weight_in_range = weight;
  max_pins_in_range = max_pins;
}

same_settings : (a b : SettingsView) → a ≡ b → (c d : Option CheckSettings) → c ≡ d → (w : a.weight ≤ MAX_WEIGHT) (p : a.max_pins ≤ MAX_PINS)
    (w' : b.weight ≤ MAX_WEIGHT) (p' : b.max_pins ≤ MAX_PINS) → settings_at a c w p ≡ settings_at b d w' p'
same_settings a b e c d same =
    subst (λ (b : SettingsView). (w : a.weight ≤ MAX_WEIGHT) (p : a.max_pins ≤ MAX_PINS) (w' : b.weight ≤ MAX_WEIGHT) (p' : b.max_pins ≤ MAX_PINS) →
    settings_at a c w p ≡ settings_at b d w' p')
    e (λ w p w' p'. ap (λ check. settings_at a check w p) same ∙ ap (λ fact. settings_at a d fact p) (le_prop w w')
    ∙ ap (λ fact. settings_at a d w' fact) (le_prop p p'))

tells_settings : Tells settings_view
tells_settings a b e =
    same_settings (settings_view a) (settings_view b) e a.check b.check
    (tells_options check_counts tells_checks a.check b.check (ap (λ (view : SettingsView). view.check) e))
    a.weight_in_range a.max_pins_in_range b.weight_in_range b.max_pins_in_range

abbrev server_at : List ℕ → ServerSettings → BackendServer
server_at name settings = record { name = name; settings = settings }

tells_servers : Tells server_parts
tells_servers a b e =
    ap (λ (name : List ℕ). server_at name a.settings) (ap (λ (parts : ServerParts). parts.name) e)
    ∙ ap (λ (settings : ServerSettings). server_at b.name settings) (tells_settings a.settings b.settings (ap (λ (parts : ServerParts). parts.settings) e))

abbrev parts_at : Balance → Bool → Option TableSettings → List BackendServer → BackendParts
parts_at balance all_backups table servers = record { balance = balance; all_backups = all_backups; table = table; servers = servers }

pub one_backend : OpensAsOneBackend
one_backend config a b first second =
    ap (λ (one : Balance). parts_at one a.all_backups a.table a.servers) (first.balance ∙ sym second.balance)
    ∙ ap (λ (one : Bool). parts_at b.balance one a.table a.servers) (first.all_backups ∙ sym second.all_backups)
    ∙ ap (λ (one : Option TableSettings). parts_at b.balance b.all_backups one a.servers)
    (tells_options table_parts tells_tables a.table b.table (first.table ∙ sym second.table))
    ∙ ap (λ (one : List BackendServer). parts_at b.balance b.all_backups b.table one)
    (tells_lists server_parts tells_servers a.servers b.servers (first.servers ∙ sym second.servers))
