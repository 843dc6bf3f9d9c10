-- A request in a script: `serve MOMENT KEY [server ..] [cost=N]`. The form is our own. The key is one of the backend's table
-- (HAProxy Configuration Manual 2.8, `stick-table`: an address under `type ip`, else at most `len` bytes), and the servers are those
-- of the `use-server` rules that the request matches, in the rules' order.
use Rattle.std.specs.Prelude.{◌≡◌, ℕ, Bool, true, nat_le, ◌==◌, ◌&&◌, List, [], ◌∷◌, length, take, drop, map, codes, Option, Some, None, refl, bytes_eq, if◌then◌else◌}
use Rattle.std.specs.Option.{option_and_then, option_map}
use Rattle.std.proofs.lemmas.Bool.{leb-true}
use Rattle.lb_types.specs.declared.limits.TheConstants.{MAX_COST}
use Rattle.pin_set.specs.declared.pin_key.PinKey.{PinKey}
use Rattle.pin_set.specs.declared.pin_key.PinKey.TheVariants as Key
use Rattle.lb_acl.specs.declared.key.TableType.{TableType}
use Rattle.lb_acl.specs.declared.key.TableType.TheVariants as Table
use Rattle.lb_config_arguments.specs.Addresses.{ipv4_of}
use Rattle.lb_config_parameters.specs.TableViews.{StickTableView}
use Rattle.lb_config_values.specs.ServerView.{ServerView}
use Rattle.lb_config.specs.ConfigViews.{BackendView}
use Rattle.lb_config.specs.Finds.{server_place}
use Rattle.lb_desk_model.specs.declared.event.Request.{Request}
use Rattle.lb_script.specs.declared.asked.Asked.{Asked}
use Rattle.lb_script.specs.Words.{Word, ◌>>=◌, at_end, number_in, every}

-- ---- the key

-- the key that a word is in a table of the type
abbrev pub key_of_type : TableType → Word → Option PinKey
key_of_type Table.Ip word = option_map (λ address. Key.Ipv4 address) (ipv4_of word)
key_of_type (Table.Text len) word = Some (Key.Text (take len word))

-- the key that a word is for the backend: without a table all of the word
abbrev pub key_in : Option StickTableView → Word → Option PinKey
key_in None word = Some (Key.Text word)
key_in (Some table) word = key_of_type table.kind word

-- The key that the word asks with, or `-`, which asks without a key. What is cut to `-` is a key
unfoldable pub asked_key : Option StickTableView → Word → Option (Option PinKey)
asked_key table word =
    if bytes_eq word (codes "-") then Some None
    else if length word == 0 then None
    else option_map (λ key. Some key) (key_in table word)

-- ---- the servers and the cost

-- the word begins as one that tells a cost does
abbrev pub tells_cost : Word → Bool
tells_cost word = bytes_eq (take 5 word) (codes "cost=")

-- what stands behind `cost=`
abbrev pub cost_digits : Word → Option Word
cost_digits word = if tells_cost word then Some (drop 5 word) else None

abbrev pub last_word : List Word → Option Word
last_word [] = None
last_word (word ∷ []) = Some word
last_word (word ∷ next ∷ more) = last_word (next ∷ more)

abbrev pub all_but_last : List Word → List Word
all_but_last [] = []
all_but_last (word ∷ []) = []
all_but_last (word ∷ next ∷ more) = word ∷ all_but_last (next ∷ more)

-- the digits of the cost, which the last word alone may tell
abbrev pub told_cost : List Word → Option Word
told_cost words = option_and_then cost_digits (last_word words)

abbrev pub cost_said : Option Word → Option ℕ
cost_said None = Some 1
cost_said (Some digits) = number_in digits

-- what the pin costs: 1 where nothing is said
abbrev pub cost_of : List Word → Option ℕ
cost_of words = cost_said (told_cost words)

abbrev pub words_before : Option Word → List Word → List Word
words_before None words = words
words_before (Some digits) words = all_but_last words

-- the server that a word names. No server's name has a `=`
abbrev pub rule_in : List ServerView → Word → Option ℕ
rule_in servers word = if tells_cost word then None else server_place servers word

-- the servers that the words name, all but the one of the cost
abbrev pub rules_of : List ServerView → List Word → Option (List ℕ)
rules_of servers words = every (map (rule_in servers) (words_before (told_cost words) words))

-- these servers and this cost, where both tests of the cost hold
abbrev pub priced : List ℕ → (cost : ℕ) → (from to : Bool) → nat_le 1 cost ≡ from → nat_le cost MAX_COST ≡ to → Option Asked
priced rules cost true true from to =
    Some (record { rules = rules; cost = cost; cost_from = leb-true 1 cost from; cost_to = leb-true cost MAX_COST to })
priced rules cost from to _ _ = None

-- these servers and this cost, where the cost is from 1 to 1000
abbrev pub asked_of : List ℕ → ℕ → Option Asked
asked_of rules cost = priced rules cost (nat_le 1 cost) (nat_le cost MAX_COST) refl refl

abbrev pub lawful_cost : ℕ → Option ℕ
lawful_cost cost = if nat_le 1 cost && nat_le cost MAX_COST then Some cost else None

-- the lawful cost that the digits of the last word say
unfoldable pub last_cost : Word → List Word → Option ℕ
last_cost digits words = at_end digits words >>= number_in >>= lawful_cost

-- what the words behind the key ask for
unfoldable pub asked_in : List ServerView → List Word → Option Asked
asked_in servers words = do
  rules ← rules_of servers words
  cost ← cost_of words
  asked_of rules cost

-- ---- the request

abbrev pub request_of : Option PinKey → ℕ → Asked → Request
request_of key moment asked = record {
  key = key;
  rules = asked.rules;
  cost = asked.cost;
  moment = moment;
  cost_from = asked.cost_from;
  cost_to = asked.cost_to;
}

-- the request that the words behind `serve` say
unfoldable pub request_in : BackendView → List Word → Option Request
request_in backend (moment ∷ key ∷ more) = do
  at ← number_in moment
  found ← asked_key backend.rules.table key
  asked ← asked_in backend.servers more
  Some (request_of found at asked)
request_in backend _ = None
