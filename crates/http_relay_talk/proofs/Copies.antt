-- A response that is copied piece by piece, over two connections.
use Rattle.std.proofs.Common.{◌≡◌, ℕ, true, Result, Ok, OnOk, refl, ap, ◌∙◌}
use Rattle.std.specs.Io.KnownBytes.{IsAtEnd}
use Rattle.http_relay_body.proofs.Copies.{copied_nothing, copied_twice, copied_whole}
use Rattle.http_relay_body.specs.Copies.{server_faults, client_faults}
use Rattle.http_relay_body.specs.declared.response.CopyFault.{CopyFault}
use Rattle.http_relay_dial.specs.Dials.{Talk}
use Rattle.http_relay_exchange.specs.Exchanges.{CopiesBack}
use Rattle.http_relay_talk.specs.Visits.{CopiesFrom}

-- one piece and what follows
pub copies_twice : (n : ℕ) (client between after server drained done : Talk) (count : ℕ) (answer : Result ℕ CopyFault)
    → CopiesFrom n client between server drained (Ok count) → CopiesFrom count between after drained done answer → CopiesFrom n client after server done answer
copies_twice n client between after server drained done count answer x y = record {
  copied = copied_twice n server.reading drained.reading done.reading client.written between.written after.written count answer x.copied y.copied;
  client_faults = y.client_faults ∙ ap (client_faults answer) x.client_faults;
  server_faults = y.server_faults ∙ ap (server_faults answer) x.server_faults;
  client_reading = y.client_reading ∙ x.client_reading;
  server_written = y.server_written ∙ x.server_written;
}

-- all pieces are the response
pub copies_whole : (client after server drained : Talk) (answer : Result ℕ CopyFault) → CopiesFrom 0 client after server drained answer
    → OnOk answer (IsAtEnd drained.reading.unread × (drained.reading.ended ≡ true)) → CopiesBack client after server drained answer
copies_whole client after server drained answer x end = record {
  copied = copied_whole server.reading drained.reading client.written after.written answer x.copied end;
  client_faults = x.client_faults;
  server_faults = x.server_faults;
  client_reading = x.client_reading;
  server_written = x.server_written;
}

-- nothing was copied yet
pub copies_none : (client server : Talk) → CopiesFrom 0 client client server server (Ok 0)
copies_none client server = record {
  copied = copied_nothing 0 server.reading client.written refl;
  client_faults = refl;
  server_faults = refl;
  client_reading = refl;
  server_written = refl;
}
