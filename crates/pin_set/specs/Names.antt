-- `==` of names decides whether they are one.
use Rattle.std.proofs.Common.{◌≡◌, ℕ, ◌==◌, List, ap, ap₂}
use Rattle.std.specs.Bool.{Decides}
use Rattle.std.proofs.lemmas.Bool.Decides.{Decides-and, Decides-like, Decides-eqb}
use Rattle.std.specs.Cmp.Lexicographic.{bytes_decides}
use Rattle.std.specs.declared.net.ipv4_addr.Ipv4Addr.{Ipv4Addr}
use Rattle.pin_set.specs.declared.pin.PinId.{PinId}
use Rattle.pin_set.specs.declared.pin_key.PinKey.{PinKey}
use Rattle.pin_set.specs.declared.pin_key.PinKey.TheVariants.{Ipv4, Text}
use Rattle.pin_set.specs.contracts.pin.PinIdPartialEq.TheImpl as name_eq
use Rattle.pin_set.specs.contracts.pin_key.PinKeyPartialEq.TheImpl as key_eq

ipv4_decide : (x y : Ipv4Addr) → Decides ((key_eq.ghosts).eq (Ipv4 x) (Ipv4 y)) (x ≡ y)
ipv4_decide x y =
    Decides-like ((key_eq.ghosts).eq (Ipv4 x) (Ipv4 y)) (ap (λ (octets : List ℕ). record { octets = octets })) (ap (λ (a : Ipv4Addr). a.octets))
    (bytes_decides x.octets y.octets)

text_decide : (x y : List ℕ) → Decides ((key_eq.ghosts).eq (Text x) (Text y)) (x ≡ y)
text_decide x y = bytes_decides x y

keys_decide : (a b : PinKey) → Decides ((key_eq.ghosts).eq a b) (a ≡ b)
keys_decide (Ipv4 x) (Ipv4 y) = Decides-like ((key_eq.ghosts).eq (Ipv4 x) (Ipv4 y)) (ap Ipv4) (λ e. cc) (ipv4_decide x y)
keys_decide (Text x) (Text y) = Decides-like ((key_eq.ghosts).eq (Text x) (Text y)) (ap Text) (λ e. cc) (text_decide x y)
keys_decide (Ipv4 x) (Text y) = (λ e. cc, λ e. cc)
keys_decide (Text x) (Ipv4 y) = (λ e. cc, λ e. cc)

pub names_decide : (a b : PinId) → Decides ((name_eq.ghosts).eq a b) (a ≡ b)
names_decide a b =
    Decides-like ((name_eq.ghosts).eq a b)
    (λ e. ap₂ (λ (k : PinKey) (w : ℕ). record { key = k; want = w }) e.0 e.1)
    (λ e. (ap (λ (n : PinId). n.key) e, ap (λ (n : PinId). n.want) e))
    (Decides-and ((key_eq.ghosts).eq a.key b.key) (a.want == b.want) (keys_decide a.key b.key) (Decides-eqb a.want b.want))
