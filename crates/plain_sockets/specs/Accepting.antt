-- What accept comes to, as the definitions say it.
use Rattle.posix_defs.specs.Socket.{Accepting as Plain, Takes, Waits, Refuses}
use Rattle.plain_sockets.specs.declared.accepting.Accepting.{Accepting}
use Rattle.plain_sockets.specs.declared.accepting.Accepting.TheVariants as accepting

-- the definitions' word for an answer
abbrev pub meant : Accepting → Plain
meant (accepting.Takes place) = Takes place
meant accepting.Waits = Waits
meant (accepting.Refuses errno) = Refuses errno
