use Rattle.std.proofs.Common.{◌≡◌, true, refl, sym, ◌∙◌, ◌&&◌}
use Rattle.lb_desk_model.specs.Serves.{is_full, keeps_pins}
use Rattle.lb_desk_core.specs.Acting.{ForEach}
use Rattle.lb_desk_core.proofs.SetPins.{full_on}
use Rattle.lb_desk_core.proofs.parts.Parts.set_new.Goals as goal

pub returns-then-keeps_pins-clause-acts : goal.returns-then-keeps_pins-clause-acts
returns-then-keeps_pins-clause-acts g c =
    let shown = c.args.self.now.shown in
    let full : ForEach shown (λ state. (is_full state && keeps_pins state) ≡ true) =
    λ state is. rw (sym (c.is_full.ensures state is) ∙ c.if-is_full.true, sym (c.keeps_pins.ensures state is) ∙ c.if-keeps_pins.true) refl in
    full_on shown c.args.set.now c.requires.place c.requires.unknown full
