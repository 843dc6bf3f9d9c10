use Rattle.std.proofs.Common.{◌≡◌, ℕ, ◌≤◌, List, ◌∷◌, Option, Some, sym, ◌∙◌}
use Rattle.std.proofs.Math.Bridge.{le_prop}
use Rattle.lb_types.specs.declared.limits.TheConstants.{MAX_COST}
use Rattle.pin_set.specs.declared.pin_key.PinKey.{PinKey}
use Rattle.lb_config.specs.ConfigViews.{BackendView}
use Rattle.lb_script.specs.declared.asked.Asked.{Asked}
use Rattle.lb_script.specs.Words.{Word, number_in}
use Rattle.lb_script.specs.Requests.{asked_key, asked_in, request_in}
use Rattle.lb_script.proofs.requests.read_request.Goals as goal

-- what the words say, put together. A cost is in its range in one way
said : (backend : BackendView) (moment word : Word) (more : List Word) (number : ℕ) (key : Option PinKey) (asked : Asked) (from : 1 ≤ asked.cost) (to : asked.cost ≤ MAX_COST)
    → number_in moment ≡ Some number → asked_key backend.rules.table word ≡ Some key → asked_in backend.servers more ≡ Some asked
    → Some (record { key = key; rules = asked.rules; cost = asked.cost; moment = number; cost_from = from; cost_to = to }) ≡ request_in backend (moment ∷ word ∷ more)
unfolding request_in
said backend moment word more number key asked from to number_is key_is asked_is =
    rw (number_is, key_is, asked_is) λ i. Some (record {
      key = key;
      rules = asked.rules;
      cost = asked.cost;
      moment = number;
      cost_from = le_prop from asked.cost_from i;
      cost_to = le_prop to asked.cost_to i;
    })

pub returns : goal.returns
returns c =
    let key_is : asked_key c.args.backend.now.rules.table c.in-Some-next_part.word.now ≡ Some c.in-Some-2.key =
    rw (← c.rules.ensures.exact, ← c.table.ensures) (sym c.in_ok-key.ensures ∙ c.in-Some-2.is) in
    let asked_is : asked_in c.args.backend.now.servers c.next_part-2.new.self ≡ Some c.in-Some-3.asked =
    rw (← c.servers.ensures.exact) (sym c.in_ok-asked.ensures ∙ c.in-Some-3.is) in
    let number_is : number_in c.in-Some.moment.now ≡ Some c.in-Some-read_number.moment = sym c.in-Some-read_number.ensures in
    rw (c.in-Some.ensures.first, c.in-Some-next_part.ensures.first, c.from_millis.ensures)
    (said c.args.backend.now c.in-Some.moment.now c.in-Some-next_part.word.now c.next_part-2.new.self c.in-Some-read_number.moment c.in-Some-2.key c.in-Some-3.asked _ _ number_is key_is asked_is)
