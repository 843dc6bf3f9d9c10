-- Conditions: HAProxy Configuration Manual 2.8, section 7.2. Words are joined by and; `or` and `||` part alternatives; each `!`,
-- joined to the next word or not, turns the next test round; words between `{` and `}` are an anonymous ACL.
use Rattle.std.specs.Prelude.{ℕ, ◌%◌, Bool, false, not, ◌&&◌, ◌||◌, ◌==◌, List, [], ◌∷◌, ◌++◌, length, drop, is_some, unwrap_or, Option, Some, None, Result, Ok, Err, codes, bytes_eq, if◌then◌else◌}
use Rattle.std.specs.List.{prefix_len}
use Rattle.lb_acl.specs.declared.cond.Polarity.{Polarity}
use Rattle.lb_acl.specs.declared.cond.Polarity.TheVariants.{If, Unless}
use Rattle.lb_config_arguments.specs.declared.fault.Fault.{Fault}
use Rattle.lb_config_arguments.specs.declared.fault.Fault.TheVariants.{UnknownWord, Missing}
use Rattle.lb_config_arguments.specs.Faults.{◌>>=◌}
use Rattle.lb_config_arguments.specs.Reading.{each_word, word_at, word_or_end_at, name_in}
use Rattle.lb_config_arguments.specs.Rest.{Rest}
use Rattle.lb_config_conditions.specs.declared.unresolved.UnresolvedAcl.{UnresolvedAcl}
use Rattle.lb_config_conditions.specs.declared.unresolved.UnresolvedAcl.TheVariants.{Named, Anonymous}
use Rattle.lb_config_conditions.specs.AclDraftView.{AclDraftView}
use Rattle.lb_config_conditions.specs.AclLines.{no_acl, acl_word, acl_end}
use Rattle.lb_config_conditions.specs.CondDraftView.{CondDraftView}
use Rattle.lb_config_conditions.specs.UnresolvedCondView.{UnresolvedCondView}

-- nothing was read
abbrev pub no_cond : CondDraftView
no_cond = record { alternatives = []; terms = []; bang = None; open_acl = None }

-- how many `!` the word begins with
abbrev pub bang_count : List ℕ → ℕ
bang_count word = prefix_len (λ byte. byte == 33) word

-- whether the `!` so far and so many more turn the next test round
unfoldable pub turned : ℕ → Option Bool → Option Bool
turned count bang =
    if count == 0 then bang else Some (if count % 2 == 1 then not (unwrap_or bang false) else unwrap_or bang false)

-- the condition with a test more
abbrev pub with_term : CondDraftView → UnresolvedAcl → CondDraftView
with_term cond acl =
    record cond { terms = cond.terms ++ (record { is_negated = unwrap_or cond.bang false; acl = acl }) ∷ []; bang = None }

-- the alternative ends here; it has a test, and a test stands behind each `!`
unfoldable pub alternative_end : CondDraftView → Result CondDraftView Fault
alternative_end cond =
    if length cond.terms == 0 || is_some cond.bang then Err Missing
    else Ok (record cond { alternatives = cond.alternatives ++ cond.terms ∷ []; terms = [] })

-- the word parts alternatives
abbrev pub is_or : List ℕ → Bool
is_or word = bytes_eq word (codes "or") || bytes_eq word (codes "||")

-- a word outside braces, without the `!` that it begins with
unfoldable pub plain_word : CondDraftView → List ℕ → Result CondDraftView Fault
plain_word cond word =
    if is_or word then alternative_end cond
    else (if bytes_eq word (codes "{") then Ok (record cond { open_acl = Some no_acl })
    else (name_in word >>= λ name. Ok (with_term cond (Named name))))

-- a word outside braces; one of `!` alone turns the next one
unfoldable pub outer_word : CondDraftView → List ℕ → Result CondDraftView Fault
outer_word cond word =
    if not (bang_count word == 0) && bang_count word == length word then Ok (record cond { bang = turned (bang_count word) cond.bang })
    else plain_word (record cond { bang = turned (bang_count word) cond.bang }) (drop (bang_count word) word)

-- a word in braces
unfoldable pub inner_word : CondDraftView → AclDraftView → List ℕ → Result CondDraftView Fault
inner_word cond acl word =
    if bytes_eq word (codes "}") then (acl_end acl >>= λ line. Ok (with_term cond (Anonymous line)))
    else (acl_word acl word >>= λ more. Ok (record cond { open_acl = Some more }))

-- a word more
abbrev pub cond_word_under : CondDraftView → Option AclDraftView → List ℕ → Result CondDraftView Fault
cond_word_under cond None word = outer_word cond word
cond_word_under cond (Some acl) word = inner_word cond acl word

unfoldable pub cond_word : CondDraftView → List ℕ → Result CondDraftView Fault
cond_word cond word = cond_word_under (record cond { open_acl = None }) cond.open_acl word

-- the condition whose words end here; no brace is open
unfoldable pub cond_end : Polarity → CondDraftView → Result UnresolvedCondView Fault
cond_end polarity cond =
    if is_some cond.open_acl then Err Missing
    else (alternative_end cond >>= λ whole. Ok (record { polarity = polarity; alternatives = whole.alternatives }))

-- the condition up to the line's end
unfoldable pub cond_at : Polarity → Rest → Result UnresolvedCondView Fault
cond_at polarity rest = each_word cond_word no_cond rest >>= cond_end polarity

-- `if` or `unless`
unfoldable pub polarity_in : List ℕ → Result Polarity Fault
polarity_in word = if bytes_eq word (codes "if") then Ok If else (if bytes_eq word (codes "unless") then Ok Unless else Err UnknownWord)

-- `if` or `unless` and a condition, which have to be there
unfoldable pub rule_cond_at : Rest → Result UnresolvedCondView Fault
rule_cond_at rest = do
  word ← word_at rest
  polarity ← polarity_in word.0
  cond_at polarity word.1

-- the same behind a word that was read, if there was one
abbrev pub cond_behind : Option (List ℕ) → Rest → Result (Option UnresolvedCondView) Fault
cond_behind None rest = Ok None
cond_behind (Some word) rest = do
  polarity ← polarity_in word
  cond ← cond_at polarity rest
  Ok (Some cond)

-- `if` or `unless` and a condition, or nothing
unfoldable pub optional_cond_at : Rest → Result (Option UnresolvedCondView) Fault
optional_cond_at rest = word_or_end_at rest >>= λ next. cond_behind next.0 next.1
