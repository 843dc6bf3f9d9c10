-- What lines of groups say of their pins: how many there are, where they are, where they may be and what each costs to
-- move. Numbers are of any size, and a set's names in any order.
use Rattle.std.specs.Prelude.{ℕ, Bool, Option, Some, None, List, ◌∷◌}
use Rattle.dual_cert_plan.specs.declared.server.PricedServer.{PricedServer}
use Rattle.dual_cert_text.specs.RowLines.{place_of, set_of, cost_of}
use Rattle.dual_cert_text.specs.Words.{◌>>=◌, positive_of}
use Rattle.dual_cert_sheet.specs.declared.group_line.GroupWords.{GroupWords}

-- the words behind `group`: COUNT PLACE SET, and COST
unfoldable pub group_words_of : Bool → List PricedServer → List (List ℕ) → Option GroupWords
group_words_of has_costs servers (count ∷ place ∷ set ∷ words) = do
  n ← positive_of count
  from ← place_of servers place
  permitted ← set_of servers set
  c ← cost_of has_costs words
  Some (record { count = n; place = from; permitted = permitted; cost = c })
group_words_of _ _ _ = None
