-- Whether two entries are the same.
use Rattle.std.specs.Prelude.{◌==◌, ◌&&◌, Bool, false}
use Rattle.std.specs.Ordering.{int_eq}
use Rattle.std.specs.Str.{bytes_eq}
use Rattle.kabi_types.specs.Words.{word_of}
use Rattle.kabi_types.specs.declared.calls.CallKind.{CallKind}
use Rattle.kabi_types.specs.Errno.{number_of}
use Rattle.kabi_types.specs.declared.replies.NodeKind.{NodeKind}
use Rattle.kabi_types.specs.declared.replies.Reply.{Reply}
use Rattle.kabi_types.specs.declared.replies.Reply.TheVariants as reply
use Rattle.kabi_types.specs.declared.replies.StatInfo.{StatInfo}
use Rattle.kabi_types.specs.declared.entries.Cached.{Cached}
use Rattle.kabi_types.specs.declared.entries.Entry.{Entry}
use Rattle.kabi_types.specs.declared.entries.Entry.TheVariants as entry
use Rattle.posix_defs.specs.Lines.{cache_text, node_text}

-- calls of one kind have one word
abbrev pub is_same_kind : CallKind → CallKind → Bool
is_same_kind a b = bytes_eq (word_of a) (word_of b)

-- so have nodes of one kind
abbrev pub is_same_node : NodeKind → NodeKind → Bool
is_same_node a b = bytes_eq (node_text a) (node_text b)

-- and caches
abbrev pub is_same_cache : Cached → Cached → Bool
is_same_cache a b = bytes_eq (cache_text a) (cache_text b)

abbrev pub is_same_info : StatInfo → StatInfo → Bool
is_same_info a b = (is_same_node a.kind b.kind && (a.number == b.number)) && ((a.nlink == b.nlink) && (a.size == b.size))

abbrev pub is_same_reply : Reply → Reply → Bool
is_same_reply (reply.Val a) (reply.Val b) = int_eq a b
is_same_reply (reply.Pair a c) (reply.Pair b d) = (a == b) && (c == d)
is_same_reply (reply.Stat a) (reply.Stat b) = is_same_info a b
is_same_reply (reply.Waited a c) (reply.Waited b d) = (a == b) && (c == d)
is_same_reply (reply.Polled a) (reply.Polled b) = (a.hits == b.hits) && bytes_eq a.revents b.revents
is_same_reply (reply.Bytes a) (reply.Bytes b) = bytes_eq a b
is_same_reply (reply.Fail a) (reply.Fail b) = number_of a == number_of b
is_same_reply _ _ = false

-- in all that they say
abbrev pub is_same_entry : Entry → Entry → Bool
is_same_entry (entry.Done p a x) (entry.Done q b y) = ((p == q) && is_same_kind a b) && is_same_reply x y
is_same_entry (entry.Part p a x) (entry.Part q b y) = ((p == q) && is_same_kind a b) && (x == y)
is_same_entry (entry.Refused p a x) (entry.Refused q b y) = ((p == q) && is_same_kind a b) && (x == y)
is_same_entry (entry.Slept p a) (entry.Slept q b) = (p == q) && is_same_kind a b
is_same_entry (entry.Ended p a x) (entry.Ended q b y) = ((p == q) && is_same_kind a b) && (x == y)
is_same_entry (entry.Gone p a) (entry.Gone q b) = (p == q) && is_same_kind a b
is_same_entry (entry.Killed p v n l) (entry.Killed q w m k) = ((p == q) && (v == w)) && ((n == m) && (l == k))
is_same_entry (entry.Evicted a) (entry.Evicted b) = is_same_cache a b
is_same_entry _ _ = false
