-- What an `accept` is told.
use Rattle.std.specs.Prelude.{ℕ, pos, Option, None, Some, Result, Ok, Err}
use Rattle.kabi_types.specs.declared.errnos.Errno.{Errno}
use Rattle.kabi_types.specs.declared.replies.Reply.{Reply}
use Rattle.kabi_types.specs.declared.replies.Reply.TheVariants.{Fail, Val}

-- the number of the socket that was taken, or why there is none; nothing yet where it has to wait
abbrev pub told_as : Result (Option ℕ) Errno → Option Reply
told_as (Ok (Some fd)) = Some (Val (pos fd))
told_as (Ok None) = None
told_as (Err errno) = Some (Fail errno)
