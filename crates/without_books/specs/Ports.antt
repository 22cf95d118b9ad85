-- The address that is taken to serve books.
use Rattle.std.specs.Net.Addr.{IsLoopbackV4, MatchIp}
use Rattle.std.specs.Net.Socket.{socket_ip}
use Rattle.std.specs.declared.net.socket_addr.SocketAddr.{SocketAddr}

-- an address of this machine alone
abbrev pub IsLoopback : SocketAddr → Type 0
IsLoopback address = MatchIp (socket_ip address) IsLoopbackV4 (λ _. ⊥)
