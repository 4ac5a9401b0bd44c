-- What is told of a call on names.
use Rattle.std.specs.Prelude.{ℕ, pos, Option, None, Result, Ok, Err}
use Rattle.kabi_types.specs.declared.errnos.Errno.{Errno}
use Rattle.kabi_types.specs.declared.replies.Reply.{Reply}
use Rattle.kabi_types.specs.declared.replies.Reply.TheVariants.{Fail, Val}

-- 0, or the fault
abbrev pub done_reply : Result (Unit {0}) Errno → Reply
done_reply (Ok done) = Val (pos 0)
done_reply (Err errno) = Fail errno

-- the same of a call that names the socket whose name it freed
abbrev pub freed_reply : Result (Option ℕ) Errno → Reply
freed_reply (Ok freed) = Val (pos 0)
freed_reply (Err errno) = Fail errno

-- the node of that name, if it freed one
abbrev pub freed_node : Result (Option ℕ) Errno → Option ℕ
freed_node (Ok freed) = freed
freed_node (Err errno) = None
