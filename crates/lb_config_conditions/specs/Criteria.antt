-- Criteria of ACLs and patterns of `stick on`: HAProxy Configuration Manual 2.8, sections 7.1 and 7.3.3 to 7.3.6. Criteria that
-- are not named here are left out.
use Rattle.std.specs.Prelude.{ℕ, List, Result, Ok, Err, codes, bytes_eq, if◌then◌else◌}
use Rattle.lb_acl.specs.declared.acl.Sample.TheVariants as Of
use Rattle.lb_acl.specs.declared.key.KeySample.{KeySample}
use Rattle.lb_acl.specs.declared.key.KeySample.TheVariants as Key
use Rattle.lb_acl.specs.declared.matching.Matching.TheVariants.{Equal, Begins, Ends}
use Rattle.lb_config_arguments.specs.declared.fault.Fault.{Fault}
use Rattle.lb_config_arguments.specs.declared.fault.Fault.TheVariants.{UnknownWord, LeftOut}
use Rattle.lb_config_arguments.specs.Faults.{◌>>=◌}
use Rattle.lb_config_conditions.specs.declared.criterion.Criterion.{Criterion}
use Rattle.lb_config_conditions.specs.declared.criterion.Criterion.TheVariants.{Source, Texts}
use Rattle.lb_config_conditions.specs.Calls.{is_call_of, call_argument, token_in}

-- the criterion that the word names
unfoldable pub criterion_in : List ℕ → Result Criterion Fault
criterion_in word =
    if bytes_eq word (codes "src") then Ok Source
    else (if bytes_eq word (codes "method") then Ok (Texts Of.Method Equal)
    else (if bytes_eq word (codes "path") then Ok (Texts Of.Path Equal)
    else (if bytes_eq word (codes "path_beg") then Ok (Texts Of.Path Begins)
    else (if bytes_eq word (codes "path_end") then Ok (Texts Of.Path Ends)
    else (if is_call_of (codes "hdr") (codes "req.hdr") word
    then (token_in (call_argument word) >>= λ name. Ok (Texts (Of.Field name) Equal))
    else Err (LeftOut word))))))

-- the pattern that the word names
unfoldable pub pattern_in : List ℕ → Result KeySample Fault
pattern_in word =
    if bytes_eq word (codes "src") then Ok Key.Source
    else (if is_call_of (codes "hdr") (codes "req.hdr") word then (token_in (call_argument word) >>= λ name. Ok (Key.Field name))
    else (if is_call_of (codes "cook") (codes "req.cook") word then (token_in (call_argument word) >>= λ name. Ok (Key.Cookie name))
    else Err UnknownWord))
