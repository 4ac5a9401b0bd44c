-- What reading and writing a queue come to, as the definitions say it.
use Rattle.posix_defs.specs.Pipe.{Moving as Plain, Moves, Blocks, Fails}
use Rattle.plain_bytes.specs.declared.moving.Moving.{Moving}
use Rattle.plain_bytes.specs.declared.moving.Moving.TheVariants as moving

-- the definitions' word for an answer
abbrev pub meant : Moving → Plain
meant (moving.Moves count) = Moves count
meant moving.Blocks = Blocks
meant (moving.Fails errno) = Fails errno
