-- How the end of a request's body is told, and which heads are refused because two readers could see it at different places:
-- RFC 9112, sections 6.1 to 6.3 and 7. Our own, and stricter: a request of HTTP/1.0 has no coding, the one coding is `chunked`, a length
-- has at most 18 digits, a length beside a coding is refused, and so are `CONNECT` and a `Connection` that names `Host`,
-- `Content-Length` or `Transfer-Encoding`. Laxer than RFC 9110, section 8.6: lengths that are equal as numbers all pass, each on its line as it
-- came.
use Rattle.std.specs.Prelude.{ℕ, Bool, true, false, ◌==◌, ◌&&◌, ◌||◌, not, nat_lt, List, length, codes, bytes_eq, count_by, Option, Some, None, Result, Ok, Err, if◌then◌else◌}
use Rattle.std.specs.List.{list_any, list_all, find}
use Rattle.std.specs.Option.{option_map_or, option_and_then, is_none}
use Rattle.lb_types_text.specs.Numbers.{digits_of}
use Rattle.lb_types_text.specs.declared.numbers.Digits.{Digits}
use Rattle.lb_types_text.specs.declared.numbers.Digits.TheVariants.{Misspelt, TooLarge, Value}
use Rattle.lb_acl.specs.declared.head.Version.{Version}
use Rattle.lb_acl.specs.declared.head.Version.TheVariants.{Http10, Http11}
use Rattle.lb_acl.specs.Bytes.{is_equal, trimmed}
use Rattle.lb_acl.specs.FieldView.{FieldView}
use Rattle.lb_acl.specs.Fields.{is_named}
use Rattle.lb_acl.specs.HeadView.{HeadView}
use Rattle.http_relay_forward.specs.Options.{is_option}
use Rattle.http_relay_forward.specs.declared.framing.BodyKind.{BodyKind}
use Rattle.http_relay_forward.specs.declared.framing.BodyKind.TheVariants.{Empty, Length, Chunked}
use Rattle.http_relay_forward.specs.declared.framing.HeadRefusal.{HeadRefusal}
use Rattle.http_relay_forward.specs.declared.framing.HeadRefusal.TheVariants.{BadHead, BothLengths}

-- the field is a Content-Length
abbrev pub is_length_field : FieldView → Bool
is_length_field field = is_named (codes "Content-Length") field

-- the field is a Transfer-Encoding
abbrev pub is_coding_field : FieldView → Bool
is_coding_field field = is_named (codes "Transfer-Encoding") field

-- the number that the digits spell, if they are some
abbrev pub value_of : Digits → Option ℕ
value_of Misspelt = None
value_of TooLarge = None
value_of (Value number) = Some number

-- the number that a text of 1 to 18 digits spells
abbrev pub length_of : List ℕ → Option ℕ
length_of text = if nat_lt 18 (length text) then None else value_of (digits_of text)

-- the number that the field's value spells
abbrev pub told_length : FieldView → Option ℕ
told_length field = length_of (trimmed field.value)

-- the field's value spells this number
abbrev pub tells : ℕ → FieldView → Bool
tells number field = option_map_or (λ told. told == number) (told_length field) false

-- some Content-Length spells no number
abbrev pub has_bad_length : List FieldView → Bool
has_bad_length fields = list_any (λ field. is_length_field field && is_none (told_length field)) fields

-- the number that the first Content-Length spells
abbrev pub first_length : List FieldView → Option ℕ
first_length fields = option_and_then told_length (find is_length_field fields)

-- some Content-Length spells another number than the first
abbrev pub lengths_differ : List FieldView → Bool
lengths_differ fields =
    option_map_or (λ number. list_any (λ field. is_length_field field && not (tells number field)) fields) (first_length fields) false

-- there is a Transfer-Encoding
abbrev pub is_coded : List FieldView → Bool
is_coded fields = list_any is_coding_field fields

-- the one Transfer-Encoding is `chunked`
abbrev pub is_chunked : List FieldView → Bool
is_chunked fields =
    (count_by is_coding_field fields == 1)
    && list_any (λ field. is_coding_field field && is_equal true (trimmed field.value) (codes "chunked")) fields

-- the version has chunks
abbrev pub has_chunks : Version → Bool
has_chunks Http10 = false
has_chunks Http11 = true

-- there is a coding, and it isn't that of a chunked request of HTTP/1.1
abbrev pub has_bad_coding : HeadView → Bool
has_bad_coding head = is_coded head.fields && not (has_chunks head.version && is_chunked head.fields)

-- a Connection field names a field that tells the host or the body
abbrev pub names_framing : List FieldView → Bool
names_framing fields =
    is_option fields (codes "Host") || is_option fields (codes "Content-Length") || is_option fields (codes "Transfer-Encoding")

-- no server should see this head, for another reason than two lengths
abbrev pub is_bad : HeadView → Bool
is_bad head = bytes_eq head.method (codes "CONNECT") || names_framing head.fields || has_bad_coding head || has_bad_length head.fields

-- the head tells the end of its body twice, and not alike
abbrev pub has_both_lengths : List FieldView → Bool
has_both_lengths fields = (is_coded fields && list_any is_length_field fields) || lengths_differ fields

-- how the end of the body is told where the head isn't refused
abbrev pub told_end : List FieldView → BodyKind
told_end fields = if is_coded fields then Chunked else option_map_or Length (first_length fields) Empty

-- how the end of the body is told, or why the head is refused
unfoldable pub framing : HeadView → Result BodyKind HeadRefusal
framing head =
    if is_bad head then Err BadHead else (if has_both_lengths head.fields then Err BothLengths else Ok (told_end head.fields))

-- a body of this kind can have bytes
abbrev pub has_body : BodyKind → Bool
has_body Empty = false
has_body (Length number) = nat_lt 0 number
has_body Chunked = true

-- the client waits for leave to send its body: RFC 9110, section 10.1.1
abbrev pub expects_continue : HeadView → BodyKind → Bool
expects_continue head kind =
    has_chunks head.version && has_body kind
    && list_any (λ field. is_named (codes "Expect") field && is_equal true (trimmed field.value) (codes "100-continue")) head.fields
