-- Words with an argument in parentheses, as `hdr(host)`: HAProxy Configuration Manual 2.8, section 7.3. A name of a field or of a
-- cookie is a token of RFC 9110, section 5.6.2.
use Rattle.std.specs.Prelude.{ℕ, ◌-◌, ◌+◌, Bool, ◌&&◌, ◌||◌, ◌==◌, not, nat_lt, get_or, List, length, take, drop, Result, Ok, Err, codes, bytes_eq, if◌then◌else◌}
use Rattle.std.specs.Char.{is_ascii_alphanumeric}
use Rattle.std.specs.List.{list_any, list_all, position_or_len}
use Rattle.lb_config_arguments.specs.declared.fault.Fault.{Fault}
use Rattle.lb_config_arguments.specs.declared.fault.Fault.TheVariants.{Missing, BadName}

-- the place of the first such byte, or the length
abbrev pub place_of : ℕ → List ℕ → ℕ
place_of mark bytes = position_or_len (λ byte. byte == mark) bytes

-- the word is a name, an argument in parentheses, and nothing more
unfoldable pub is_call : List ℕ → Bool
is_call word = nat_lt (place_of 40 word) (length word) && get_or word (length word - 1) 0 == 41

-- the name before the first parenthesis
unfoldable pub call_name : List ℕ → List ℕ
call_name word = take (place_of 40 word) word

-- what stands in the parentheses
unfoldable pub call_argument : List ℕ → List ℕ
call_argument word = take (length word - place_of 40 word - 2) (drop (place_of 40 word + 1) word)

-- the call has one argument
unfoldable pub has_one_argument : List ℕ → Bool
has_one_argument word = not (list_any (λ byte. byte == 44) (call_argument word))

-- the word is a call of the one or the other name with one argument
unfoldable pub is_call_of : List ℕ → List ℕ → List ℕ → Bool
is_call_of name long_name word =
    is_call word && has_one_argument word && (bytes_eq (call_name word) name || bytes_eq (call_name word) long_name)

-- a byte of a token
abbrev pub is_token_byte : ℕ → Bool
is_token_byte byte = is_ascii_alphanumeric byte || list_any (λ mark. mark == byte) (codes "!#$%&'*+-.^_`|~")

-- the argument as a name of a field or of a cookie
unfoldable pub token_in : List ℕ → Result (List ℕ) Fault
token_in argument =
    if length argument == 0 then Err Missing else (if list_all is_token_byte argument then Ok argument else Err BadName)
