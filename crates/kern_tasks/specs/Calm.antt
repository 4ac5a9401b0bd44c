-- Turns that leave every process alive.
use Rattle.std.specs.Prelude.{Bool, true, false, ◌||◌}
use Rattle.kabi_types.specs.declared.calls.CallKind.{CallKind}
use Rattle.kabi_types.specs.declared.calls.CallKind.TheVariants.{Kill}
use Rattle.posix_defs.specs.declared.turner.Turned.{Turned}
use Rattle.posix_defs.specs.declared.turner.Turned.TheVariants.{Ended, Gone, Part, Sleep}

abbrev pub is_kill : CallKind → Bool
is_kill Kill = true
is_kill _ = false

abbrev pub is_over : Turned → Bool
is_over (Ended _) = true
is_over Gone = true
is_over _ = false

-- the turn of such a call may have ended a process
abbrev pub may_end : CallKind → Turned → Bool
may_end kind told = is_kill kind || is_over told

-- the turn leaves its call asleep
abbrev pub leaves_asleep : Turned → Bool
leaves_asleep Sleep = true
leaves_asleep (Part _) = true
leaves_asleep _ = false
