-- The key that `stick on` takes from a request: HAProxy Configuration Manual 2.8, `stick on` and `stick-table`, sections 7.3.3
-- (`src`) and 7.3.6 (`req.hdr`, `req.cook`). A key of a table of type `string` is cut to its length.
use Rattle.std.specs.Prelude.{◌≡◌, ℕ, ◌==◌, List, length, take, Option, Some, None, if◌then◌else◌}
use Rattle.std.specs.List.{last_or}
use Rattle.std.specs.Net.Addr.{ipv4_octets}
use Rattle.std.specs.Net.Text.{ipv4_text}
use Rattle.std.specs.Net.Grammar.{IsIpv4Text}
use Rattle.std.specs.declared.net.ipv4_addr.Ipv4Addr.{Ipv4Addr}
use Rattle.pin_set.specs.declared.pin_key.PinKey.{PinKey}
use Rattle.pin_set.specs.declared.pin_key.PinKey.TheVariants as Key
use Rattle.lb_acl.specs.declared.key.KeySample.{KeySample}
use Rattle.lb_acl.specs.declared.key.KeySample.TheVariants as Of
use Rattle.lb_acl.specs.declared.key.TableType.{TableType}
use Rattle.lb_acl.specs.declared.key.TableType.TheVariants as Table
use Rattle.lb_acl.specs.declared.key.StickOn.{StickOn}
use Rattle.lb_acl.specs.HeadView.{HeadView}
use Rattle.lb_acl.specs.Fields.{values_of}
use Rattle.lb_acl.specs.Cookies.{cookies_of}

-- the text that a pattern names, if the request has it: the client's address, the last value of the fields, or of the cookies
abbrev pub found : KeySample → HeadView → Option (List ℕ)
found Of.Source head = Some (ipv4_text (ipv4_octets head.source))
found (Of.Field name) head = last_or None (values_of name head.fields)
found (Of.Cookie name) head = last_or None (cookies_of name head.fields)

-- What a table makes of a text. One of type `ip` takes four numbers 0 to 255 without leading zeros, joined by dots, and else there
-- is no key. One of type `string` takes the first bytes
abbrev pub IsKeyIn : TableType → List ℕ → Option PinKey → Type 0
IsKeyIn Table.Ip text None = (address : Ipv4Addr) → ¬ IsIpv4Text text address
IsKeyIn Table.Ip text (Some (Key.Ipv4 address)) = IsIpv4Text text address
IsKeyIn Table.Ip text (Some (Key.Text key)) = ⊥
IsKeyIn (Table.Text len) text key = key ≡ Some (Key.Text (take len text))

-- an empty text is none
abbrev pub nonempty : List ℕ → Option (List ℕ)
nonempty text = if length text == 0 then None else Some text

-- without a text there is no key
abbrev pub IsKeyOfText : TableType → Option (List ℕ) → Option PinKey → Type 0
IsKeyOfText table None key = key ≡ None
IsKeyOfText table (Some text) key = IsKeyIn table text key

-- nothing found, or an empty text, gives no key
abbrev pub IsKeyFrom : TableType → Option (List ℕ) → Option PinKey → Type 0
IsKeyFrom table None key = key ≡ None
IsKeyFrom table (Some text) key = IsKeyOfText table (nonempty text) key

-- the key of the request, or that it has none
abbrev pub IsKeyOf : StickOn → HeadView → Option PinKey → Type 0
IsKeyOf pattern head key = IsKeyFrom pattern.table (found pattern.sample head) key
