-- The two values of a reply that go to registers.
use Rattle.std.specs.Prelude.{ℕ, ℤ, pos, neg_ℤ, List, [], ◌∷◌}
use Rattle.kabi_types.specs.declared.replies.Reply.{Reply}
use Rattle.kabi_types.specs.declared.replies.Reply.TheVariants as reply
use Rattle.kabi_types.specs.Errno.{number_of}
use Rattle.kabi_types.specs.Packed.{packed_number}

-- the first byte, and 0 where there is none
abbrev pub first_byte : List ℕ → ℕ
first_byte [] = 0
first_byte (b ∷ _) = b

abbrev pub first_of : Reply → ℤ
first_of (reply.Val n) = n
first_of (reply.Pair a _) = pos a
first_of (reply.Stat info) = pos info.number
first_of (reply.Waited pid _) = pos pid
first_of (reply.Polled polled) = pos polled.hits
first_of (reply.Bytes bytes) = pos (first_byte bytes)
first_of (reply.Fail errno) = neg_ℤ (pos (number_of errno))

abbrev pub second_of : Reply → ℤ
second_of (reply.Val _) = pos 0
second_of (reply.Pair _ b) = pos b
second_of (reply.Stat info) = pos info.size
second_of (reply.Waited _ status) = pos status
second_of (reply.Polled polled) = packed_number polled.revents
second_of (reply.Bytes _) = pos 0
second_of (reply.Fail _) = pos 0
