use Rattle.command_socket_serve.proofs.Reading.{reads_text}
use Rattle.command_socket_serve.proofs.connection.read_text.Goals as goal

pub returns : goal.returns
returns g c =
    reads_text (g.C.Read.remaining c.args.stream.now) c.read_until.new.buf.items
    (rw (c.in_ok-reader.ensures.capacity, c.in_ok-reader.ensures.empty, c.in_ok-reader.ensures.inner, c.take.ensures.limit, c.take.ensures.inner, c.new-text.ensures.items)
    at c.in_ok-read_until.ensures.bytes)
