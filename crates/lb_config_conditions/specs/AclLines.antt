-- The words of an ACL: HAProxy Configuration Manual 2.8, section 7.1. The flag `-i` stands before `--`, each at most once and before
-- the first value; behind `--` or a value a word that begins with `-` is a value.
use Rattle.std.specs.Prelude.{ℕ, Bool, true, false, not, ◌&&◌, ◌||◌, ◌==◌, ◌+◌, nat_lt, nat_eq, List, [], ◌∷◌, ◌++◌, length, take, drop, Option, Some, None, Result, Ok, Err, codes, bytes_eq, if◌then◌else◌}
use Rattle.std.specs.List.{starts_with}
use Rattle.std.specs.Option.{ok_or}
use Rattle.lb_acl.specs.declared.acl.AclLine.{AclLine}
use Rattle.lb_acl.specs.declared.acl.AclLine.TheVariants as Line
use Rattle.lb_acl.specs.NetworkView.{NetworkView}
use Rattle.lb_config_arguments.specs.declared.fault.Fault.{Fault}
use Rattle.lb_config_arguments.specs.declared.fault.Fault.TheVariants.{UnknownWord, Missing, LeftOut}
use Rattle.lb_config_arguments.specs.Addresses.{ipv4_of}
use Rattle.lb_config_arguments.specs.Faults.{◌>>=◌}
use Rattle.lb_config_arguments.specs.Numbers.{number_in}
use Rattle.lb_config_arguments.specs.Reading.{each_word, name_at}
use Rattle.lb_config_arguments.specs.Rest.{Rest}
use Rattle.lb_config_conditions.specs.declared.criterion.Criterion.{Criterion}
use Rattle.lb_config_conditions.specs.declared.criterion.Criterion.TheVariants.{Source, Texts}
use Rattle.lb_config_conditions.specs.declared.rules.AclDeclaration.{AclDeclaration}
use Rattle.lb_config_conditions.specs.AclDraftView.{AclDraftView}
use Rattle.lb_config_conditions.specs.Calls.{place_of}
use Rattle.lb_config_conditions.specs.Criteria.{criterion_in}

-- how many first bits count: all, or as many as stand behind the `/`
unfoldable pub prefix_in : List ℕ → Result ℕ Fault
prefix_in word = if nat_lt (place_of 47 word) (length word) then number_in 0 32 (drop (place_of 47 word + 1) word) else Ok 32

-- an address, and how many of its first bits count
unfoldable pub network_in : List ℕ → Result NetworkView Fault
network_in word = do
  address ← ok_or (ipv4_of (take (place_of 47 word) word)) (LeftOut word)
  bits ← prefix_in word
  Ok (record { address = address; prefix_len = bits })

-- nothing was read
abbrev pub no_acl : AclDraftView
no_acl = record { criterion = None; ignores_case = false; is_literal = false; networks = []; texts = [] }

-- a flag may stand here: no value was read, and no `--`
unfoldable pub takes_flags : AclDraftView → Bool
takes_flags acl = not acl.is_literal && length acl.networks == 0 && length acl.texts == 0

-- a word that begins with `-`, where a flag may stand
unfoldable pub flag_word : AclDraftView → List ℕ → Result AclDraftView Fault
flag_word acl word =
    if bytes_eq word (codes "--") then Ok (record acl { is_literal = true })
    else (if bytes_eq word (codes "-i") && not acl.ignores_case then Ok (record acl { ignores_case = true })
    else (if bytes_eq word (codes "-f") || bytes_eq word (codes "-m") then Err (LeftOut word) else Err UnknownWord))

-- the criterion tests the client's address
abbrev pub tests_source : Criterion → Bool
tests_source Source = true
tests_source (Texts sample matching) = false

-- a value: an address, or a text
unfoldable pub value_word : AclDraftView → Bool → List ℕ → Result AclDraftView Fault
value_word acl is_source word =
    if is_source then (network_in word >>= λ network. Ok (record acl { networks = acl.networks ++ network ∷ [] }))
    else Ok (record acl { texts = acl.texts ++ word ∷ [] })

-- a flag or a value
unfoldable pub argument_word : AclDraftView → Bool → List ℕ → Result AclDraftView Fault
argument_word acl is_source word =
    if takes_flags acl && starts_with nat_eq word (codes "-") then flag_word acl word else value_word acl is_source word

-- a word more: the criterion, a flag or a value
abbrev pub acl_word_under : AclDraftView → Option Criterion → List ℕ → Result AclDraftView Fault
acl_word_under acl None word = criterion_in word >>= λ criterion. Ok (record acl { criterion = Some criterion })
acl_word_under acl (Some criterion) word = argument_word acl (tests_source criterion) word

unfoldable pub acl_word : AclDraftView → List ℕ → Result AclDraftView Fault
acl_word acl word = acl_word_under acl acl.criterion word

-- the ACL whose words end here; it has a value
abbrev pub acl_end_under : AclDraftView → Option Criterion → Result AclLine Fault
acl_end_under acl None = Err Missing
acl_end_under acl (Some Source) = if length acl.networks == 0 then Err Missing else Ok (Line.Source acl.networks)
acl_end_under acl (Some (Texts sample matching)) =
    if length acl.texts == 0 then Err Missing
    else Ok (Line.Text (record { sample = sample; matching = matching; ignores_case = acl.ignores_case; values = acl.texts }))

unfoldable pub acl_end : AclDraftView → Result AclLine Fault
acl_end acl = acl_end_under acl acl.criterion

-- the ACL that the words up to the line's end are
unfoldable pub acl_at : Rest → Result AclLine Fault
acl_at rest = each_word acl_word no_acl rest >>= acl_end

-- the words behind `acl`
unfoldable pub declaration_at : Rest → Result AclDeclaration Fault
declaration_at rest = do
  name ← name_at rest
  line ← acl_at name.1
  Ok (record { name = name.0; line = line })
