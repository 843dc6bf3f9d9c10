use Rattle.std.proofs.Common.{◌≡◌, ℕ, List, Option, Some, None, refl}
use Rattle.std.specs.Option.{option_map}
use Rattle.std.specs.declared.net.ipv4_addr.Ipv4Addr.{Ipv4Addr}
use Rattle.pin_set.specs.declared.pin_key.PinKey.TheVariants as Key
use Rattle.lb_acl.specs.declared.key.TableType.{TableType}
use Rattle.lb_acl.specs.declared.key.TableType.TheVariants as Table
use Rattle.lb_acl.specs.Keys.{IsKeyIn}
use Rattle.lb_config_arguments.specs.Addresses.{ipv4_of}
use Rattle.lb_script.specs.Requests.{key_of_type}
use Rattle.lb_script.proofs.Addresses.{address_written, none_written}
use Rattle.lb_script.proofs.laws.keys_are_those_of_requests.Goals as goal

of_address : (word : List ℕ) (read : Option Ipv4Addr) → ipv4_of word ≡ read → IsKeyIn Table.Ip word (option_map (λ address. Key.Ipv4 address) read)
of_address word None reads = λ address. none_written word address reads
of_address word (Some address) reads = address_written word address reads

of_type : (kind : TableType) (word : List ℕ) → IsKeyIn kind word (key_of_type kind word)
of_type Table.Ip word = of_address word (ipv4_of word) refl
of_type (Table.Text len) word = refl

pub returns : goal.returns
returns c = of_type
