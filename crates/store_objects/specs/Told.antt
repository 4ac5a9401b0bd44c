-- Worlds in which a process goes on as its call was told.
use Rattle.std.specs.Prelude.{ℕ}
use Rattle.kabi_types.specs.declared.scripts.Script.{Script}
use Rattle.posix_defs.specs.Control.{after_part}
use Rattle.posix_defs.specs.Plain.{control_of, with_control}
use Rattle.posix_defs.specs.World.{World}
use Rattle.posix_defs.specs.declared.turner.Turned.{Turned}
use Rattle.posix_defs.specs.declared.turner.Turned.TheVariants as turned
use Rattle.store_objects.specs.Standing.{answered_in}

-- behind its call, where that is over; else it stays at it
abbrev pub behind_in : Script → World → ℕ → Turned → World
behind_in script world pid (turned.Done reply) = answered_in script world pid reply
behind_in script world pid _ = world

-- at its write still, of which so many bytes more are done
abbrev pub partly_in : World → ℕ → ℕ → World
partly_in world pid moved = record world { plain = with_control world.plain pid (after_part (control_of world.plain pid) moved) }
