use Rattle.http_relay_dial.specs.Dials.{talk_of}
use Rattle.http_relay_exchange.proofs.exchanging.exchange.Goals as goal

pub returns-in-Ok : goal.returns-in-Ok
returns-in-Ok g c before begun =
    let told = c.in-Ok.ensures in (
      talk_of g.C.Wire.written g.C.Wire.reading g.C.Wire.faults c.send_request.new.client,
      talk_of g.S.Wire.written g.S.Wire.reading g.S.Wire.faults c.send_request.new.server,
      c.in_default.ensures before begun,
      record {
        copied = told.copied;
        client_faults = told.client;
        server_faults = told.server;
        client_reading = told.client_reading;
        server_written = told.server_written;
      },
    )

pub returns-in-Err-copy_back : goal.returns-in-Err-copy_back
returns-in-Err-copy_back g c before begun =
    let told = c.in-Err-copy_back.ensures in (
      talk_of g.C.Wire.written g.C.Wire.reading g.C.Wire.faults c.send_request.new.client,
      talk_of g.S.Wire.written g.S.Wire.reading g.S.Wire.faults c.send_request.new.server,
      c.in_default.ensures before begun,
      record {
        copied = told.copied;
        client_faults = told.client;
        server_faults = told.server;
        client_reading = told.client_reading;
        server_written = told.server_written;
      },
    )
