use Rattle.std.proofs.Common.{◌≡◌, Err, None, sym, ◌∙◌}
use Rattle.lb_config.specs.Configs.{config_in}
use Rattle.lb_script.specs.Backends.{only_place}
use Rattle.lb_replay.proofs.Written.{both_ok, some_any, writes_fault, writes_no_farm}
use Rattle.lb_replay.proofs.job.replay.Goals as goal

pub returns-in-Err-Fault : goal.returns-in-Err-Fault
returns-in-Err-Fault g c =
    let read : config_in c.args.config.now ≡ Err c.in-Err-Fault.fault = rw c.in-Err-Fault.field-0-is at c.in-Err-Fault.ensures in
    both_ok c.tell_fault.result _ _ _ (λ went told whole. some_any (g.S.Read.remaining c.args.script) _ (λ lines.
    writes_fault c.args.config.now lines c.in-Err-Fault.fault told c.args.out.now.contents c.tell_fault.new.out.contents _ read went whole))
    c.tell_fault.ensures.told c.tell_fault.ensures.whole

pub returns-in_default : goal.returns-in_default
returns-in_default g c =
    let none : only_place c.in-Ok.config.backends ≡ None = sym c.only_backend.ensures.exact ∙ c.in_default.is in
    both_ok c.complain.result _ _ _ (λ went told whole. some_any (g.S.Read.remaining c.args.script) _ (λ lines.
    writes_no_farm c.args.config.now lines c.in-Ok.config told c.args.out.now.contents _ _ c.in-Ok.ensures none went whole))
    c.complain.ensures.told c.complain.ensures.whole
