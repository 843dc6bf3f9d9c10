use Rattle.std.proofs.Common.{◌≡◌, ℕ, ◌≤◌, List, ◌∷◌, Some, sym, ◌∙◌}
use Rattle.std.proofs.Math.Bridge.{le_prop}
use Rattle.lb_types.specs.declared.limits.TheConstants.{MAX_COST}
use Rattle.pin_set.specs.declared.pin_key.PinKey.{PinKey}
use Rattle.server_state.specs.Farm.{set_of}
use Rattle.lb_config.specs.ConfigViews.{BackendView}
use Rattle.lb_config.specs.Finds.{server_place}
use Rattle.lb_script.specs.declared.asked.Asked.{Asked}
use Rattle.lb_script.specs.Words.{Word, number_in}
use Rattle.lb_script.specs.Requests.{asked_in}
use Rattle.lb_script.specs.SetPins.{named, pin_key, set_in}
use Rattle.lb_script.proofs.set_pins.read_set.Goals as goal

-- what the words say, put together. A cost is in its range in one way
said : (backend : BackendView) (moment word place : Word) (more : List Word) (number : ℕ) (key : PinKey) (server : ℕ) (asked : Asked) (from : 1 ≤ asked.cost) (to : asked.cost ≤ MAX_COST)
    → number_in moment ≡ Some number → pin_key backend.rules.table word ≡ Some key → server_place backend.servers place ≡ Some server → asked_in backend.servers more ≡ Some asked
    → Some (record { name = named key (set_of asked.rules); server = server; cost = asked.cost; moment = number; cost_from = from; cost_to = to })
    ≡ set_in backend (moment ∷ word ∷ place ∷ more)
unfolding set_in
said backend moment word place more number key server asked from to number_is key_is server_is asked_is =
    rw (number_is, key_is, server_is, asked_is) λ i. Some (record {
      name = named key (set_of asked.rules);
      server = server;
      cost = asked.cost;
      moment = number;
      cost_from = le_prop from asked.cost_from i;
      cost_to = le_prop to asked.cost_to i;
    })

pub returns : goal.returns
returns c =
    let key_is : pin_key c.args.backend.now.rules.table c.in-Some-next_part.word.now ≡ Some c.in-Some-2.key =
    rw (← c.rules.ensures.exact, ← c.table.ensures) (sym c.in_ok-key.ensures ∙ c.in-Some-2.is) in
    let server_is : server_place c.args.backend.now.servers c.in-Some-next_part-2.place.now ≡ Some c.in-Some-find_server.server =
    rw (← c.servers.ensures.exact) (sym c.in-Some-find_server.ensures) in
    let asked_is : asked_in c.args.backend.now.servers c.next_part-3.new.self ≡ Some c.in-Some-3.asked =
    rw (← c.servers-2.ensures.exact) (sym c.in_ok-asked.ensures ∙ c.in-Some-3.is) in
    let number_is : number_in c.in-Some.moment.now ≡ Some c.in-Some-read_number.moment = sym c.in-Some-read_number.ensures in
    rw (c.in-Some.ensures.first, c.in-Some-next_part.ensures.first, c.in-Some-next_part-2.ensures.first, c.from_millis.ensures, c.set_of-want.ensures, c.servers-3.ensures)
    (said c.args.backend.now c.in-Some.moment.now c.in-Some-next_part.word.now c.in-Some-next_part-2.place.now c.next_part-3.new.self c.in-Some-read_number.moment c.in-Some-2.key c.in-Some-find_server.server c.in-Some-3.asked _ _ number_is key_is server_is asked_is)
