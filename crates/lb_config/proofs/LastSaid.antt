-- The last value that a section's lines say, where each that they say is in its range.
use Rattle.std.proofs.Common.{List, [], ◌∷◌, Option, Some, None, IfSome, All, unwrap_or}
use Rattle.std.specs.List.{cons_option, last_or}
use Rattle.std.specs.Option.{option_or}
use Rattle.std.proofs.lemmas.List.Elements.{All-cons, All-head, All-nil, All-tail}
use Rattle.lb_config_lines.specs.declared.setting.Setting.{Setting}
use Rattle.lb_config_sections.specs.declared.config_section.NumberedSetting.{NumberedSetting}
use Rattle.lb_config_values.specs.Values.{last_said, said}
use Rattle.lb_config_valid.specs.Numbers.{HasNumbers}
use Rattle.lb_config.specs.SaidInRange.{HaveNumbers}

pub first_number : (numbered : NumberedSetting) (more : List NumberedSetting) → HaveNumbers (numbered ∷ more) → HasNumbers numbered.setting
first_number numbered more are = All-head (λ (one : NumberedSetting). HasNumbers one.setting) numbered more are

pub more_numbers : (numbered : NumberedSetting) (more : List NumberedSetting) → HaveNumbers (numbered ∷ more) → HaveNumbers more
more_numbers numbered more are = All-tail (λ (one : NumberedSetting). HasNumbers one.setting) numbered more are

-- one value more, if there is one
next_ok : {A : Type 0} (P : A → Type 0) (before : Option A) (value : Option A) (rest : List A) →
    ((start : Option A) → IfSome start P → IfSome (last_or start rest) P) → IfSome value P →
    IfSome before P → IfSome (last_or before (cons_option value rest)) P
next_ok P before None rest ends is was = ends before was
next_ok P before (Some x) rest ends is was = ends (Some x) is

-- the last that is said, if each is so
pub last_ok : {A : Type 0} (P : A → Type 0) (value : Setting → Option A) →
    ((setting : Setting) → HasNumbers setting → IfSome (value setting) P) →
    (settings : List NumberedSetting) → HaveNumbers settings → (before : Option A) → IfSome before P →
    IfSome (last_said before value settings) P
last_ok P value is [] are before was = was
last_ok P value is (numbered ∷ more) are before was =
    next_ok P before (value numbered.setting) (said value more)
    (λ start so. last_ok P value is more (more_numbers numbered more are) start so)
    (is numbered.setting (first_number numbered more are)) was

-- one more in front, if there is one
first_said_ok : {A : Type 0} (P : A → Type 0) (value : Option A) (rest : List A) → IfSome value P → All P rest → All P (cons_option value rest)
first_said_ok P None rest is are = are
first_said_ok P (Some x) rest is are = All-cons P x rest is are

-- all that is said, if each is so
pub all_ok : {A : Type 0} (P : A → Type 0) (value : Setting → Option A) →
    ((setting : Setting) → HasNumbers setting → IfSome (value setting) P) →
    (settings : List NumberedSetting) → HaveNumbers settings → All P (said value settings)
all_ok P value is [] are = All-nil P
all_ok P value is (numbered ∷ more) are =
    first_said_ok P (value numbered.setting) (said value more) (is numbered.setting (first_number numbered more are))
    (all_ok P value is more (more_numbers numbered more are))

-- a value, or its default
pub or_default : {A : Type 0} (P : A → Type 0) (o : Option A) (default : A) → IfSome o P → P default → P (unwrap_or o default)
or_default P None default is by_default = by_default
or_default P (Some x) default is by_default = is

-- a value, or one said before
pub either_ok : {A : Type 0} (P : A → Type 0) (a b : Option A) → IfSome a P → IfSome b P → IfSome (option_or a b) P
either_ok P None b first second = second
either_ok P (Some x) b first second = first
