use Rattle.dual_cert_text.specs.Spellings.{server_line}
use Rattle.dual_cert_write.proofs.plan_text.send_server.Goals as goal

pub returns-in_default : goal.returns-in_default
unfolding server_line
returns-in_default g c =
    let line = rw c.name-name.ensures at c.send_line.ensures in
    rw c.in_default.is line

pub returns : goal.returns
unfolding server_line
returns g c =
    let line = rw (c.name-name.ensures, c.as_bytes-capacity.ensures.value, c.format.ensures.text, c.as_bytes-price.ensures.value, c.format-2.ensures.text) at c.send_line-2.ensures in
    rw c.in-Some.is line
