-- The last plan of a journal that lies in two parts.
use Rattle.std.proofs.Common.{◌≡◌, Option, Some, None, List, [], ◌∷◌, ◌++◌, refl, ap, ◌∙◌}
use Rattle.std.specs.Borrow.{Bor}
use Rattle.std.specs.List.{filter_map, last_or}
use Rattle.std.specs.Option.{option_copied, option_or}
use Rattle.std.proofs.lemmas.List.Elements.{filter_map-append}
use Rattle.lb_desk_model.specs.declared.entry.Entry.{Entry}
use Rattle.lb_answers.specs.Journals.{last_installed, plan_installed}

parts : {A : Type 0} (o : Option A) (xs ys : List A) → last_or o (xs ++ ys) ≡ last_or (last_or o xs) ys
parts o [] ys = refl
parts o (x ∷ xs) ys = parts (Some x) xs ys

some : {A : Type 0} (x : A) (xs : List A) (o : Option A) → last_or (Some x) xs ≡ option_or (last_or (Some x) xs) o
some x [] o = refl
some x (y ∷ xs) o = some y xs o

behind : {A : Type 0} (o : Option A) (xs : List A) → last_or o xs ≡ option_or (last_or None xs) o
behind o [] = refl
behind o (x ∷ xs) = some x xs o

pub last_of_parts : (earlier later : List Entry) → last_installed (earlier ++ later) ≡ option_or (last_installed later) (last_installed earlier)
last_of_parts earlier later =
    ap (last_or None) (filter_map-append (λ (e : Entry). plan_installed e.event e.reply) earlier later)
    ∙ (parts None (filter_map (λ (e : Entry). plan_installed e.event e.reply) earlier) (filter_map (λ (e : Entry). plan_installed e.event e.reply) later)
    ∙ behind (last_installed earlier) (filter_map (λ (e : Entry). plan_installed e.event e.reply) later))

pub copied_or : {A : Type 0} (a b : Option (Bor A)) → option_copied (option_or a b) ≡ option_or (option_copied a) (option_copied b)
copied_or None b = refl
copied_or (Some x) b = refl
