-- How far a socket has come, as the definitions say it.
use Rattle.posix_defs.specs.Socket.{Stage as Plain, Idle, Listening, Connected}
use Rattle.plain_sockets.specs.declared.stage.Stage.{Stage}
use Rattle.plain_sockets.specs.declared.stage.Stage.TheVariants as stage

abbrev pub stage_of : Stage → Plain
stage_of stage.Idle = Idle
stage_of (stage.Listening waiting) = Listening waiting.items
stage_of (stage.Connected peer shut_read shut_write) = Connected peer shut_read shut_write
