-- Which socket a listener is over. Our own words.
use Rattle.std.specs.declared.net.tcp.TcpListener.{TcpListener}
use Rattle.http_relay_listen.specs.declared.client_listener.ClientListener.{ClientListener}

abbrev pub socket_of : ClientListener → TcpListener
socket_of listener = listener.socket
