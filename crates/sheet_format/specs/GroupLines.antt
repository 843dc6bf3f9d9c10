-- What lines of groups say of their pins, with numbers of any size and the names of a set in any order.
use Rattle.std.specs.Prelude.{ℕ, Option, Some, None, List, [], ◌∷◌}
use Rattle.lb_types_text.specs.Numbers.{numeral_of}
use Rattle.dual_cert_plan.specs.declared.server.PricedServer.{PricedServer}
use Rattle.dual_cert_text.specs.RowLines.{place_of, set_of}
use Rattle.dual_cert_text.specs.Words.{◌>>=◌, positive_of}
use Rattle.sheet_format.specs.declared.group_line.GroupWords.{GroupWords}

-- the cost at a line's end, which is 1 where none is said
unfoldable pub cost_of : List (List ℕ) → Option ℕ
cost_of [] = Some 1
cost_of (word ∷ []) = positive_of word
cost_of _ = None

-- the words behind `group`: COUNT PLACE SET, and COST if it isn't 1
unfoldable pub group_words_of : List PricedServer → List (List ℕ) → Option GroupWords
group_words_of servers (count ∷ place ∷ set ∷ words) = do
  n ← numeral_of count
  from ← place_of servers place
  permitted ← set_of servers set
  c ← cost_of words
  Some (record { count = n; place = from; permitted = permitted.servers; cost = c })
group_words_of _ _ = None
