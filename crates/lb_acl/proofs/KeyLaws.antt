-- A request has one key.
use Rattle.std.proofs.Common.{◌≡◌, List, ℕ, Option, Some, None, refl, sym, ap, ◌∙◌}
use Rattle.std.proofs.NetLemmas.Theorems.{IsIpv4Text_unique}
use Rattle.pin_set.specs.declared.pin_key.PinKey.{PinKey}
use Rattle.pin_set.specs.declared.pin_key.PinKey.TheVariants as Key
use Rattle.lb_acl.specs.declared.key.TableType.{TableType}
use Rattle.lb_acl.specs.declared.key.TableType.TheVariants as Table
use Rattle.lb_acl.specs.declared.key.StickOn.{StickOn}
use Rattle.lb_acl.specs.HeadView.{HeadView}
use Rattle.lb_acl.specs.Keys.{IsKeyIn, IsKeyOfText, IsKeyFrom, IsKeyOf, found, nonempty}

one_key_in : (table : TableType) (text : List ℕ) (a b : Option PinKey) → IsKeyIn table text a → IsKeyIn table text b → a ≡ b
one_key_in Table.Ip text None None h k = refl
one_key_in Table.Ip text None (Some (Key.Ipv4 y)) h k = absurd (h y k)
one_key_in Table.Ip text None (Some (Key.Text y)) h k = absurd k
one_key_in Table.Ip text (Some (Key.Ipv4 x)) None h k = absurd (k x h)
one_key_in Table.Ip text (Some (Key.Ipv4 x)) (Some (Key.Ipv4 y)) h k = ap (λ address. Some (Key.Ipv4 address)) (IsIpv4Text_unique text x y h k)
one_key_in Table.Ip text (Some (Key.Ipv4 x)) (Some (Key.Text y)) h k = absurd k
one_key_in Table.Ip text (Some (Key.Text x)) b h k = absurd h
one_key_in (Table.Text len) text a b h k = h ∙ sym k

one_key_of_text : (table : TableType) (text : Option (List ℕ)) (a b : Option PinKey) → IsKeyOfText table text a → IsKeyOfText table text b → a ≡ b
one_key_of_text table None a b h k = h ∙ sym k
one_key_of_text table (Some text) a b h k = one_key_in table text a b h k

one_key_from : (table : TableType) (text : Option (List ℕ)) (a b : Option PinKey) → IsKeyFrom table text a → IsKeyFrom table text b → a ≡ b
one_key_from table None a b h k = h ∙ sym k
one_key_from table (Some text) a b h k = one_key_of_text table (nonempty text) a b h k

-- two keys of one request under one pattern are the same
pub one_key : (pattern : StickOn) (head : HeadView) (a b : Option PinKey) → IsKeyOf pattern head a → IsKeyOf pattern head b → a ≡ b
one_key pattern head a b h k = one_key_from pattern.table (found pattern.sample head) a b h k
