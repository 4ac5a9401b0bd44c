-- Entries that are found the same are one, and each is found the same as itself.
use Rattle.std.proofs.Common.{◌≡◌, ℕ, ◌==◌, ◌&&◌, Bool, true, false, List, [], ◌∷◌, cond, Option, None, Some, refl, ap, sym, ◌∙◌}
use Rattle.std.specs.Str.{bytes_eq}
use Rattle.std.proofs.lemmas.Bool.{false≢true}
use Rattle.std.proofs.lemmas.Bool.Decides.{Decides-eqb, Decides-int_eq}
use Rattle.std.proofs.lemmas.Option.{same_Some}
use Rattle.std.proofs.lemmas.Slice.Eq.{bytes_eq-Decides}
use Rattle.kabi_types.specs.Call.{all_kinds}
use Rattle.kabi_types.specs.Words.{word_of}
use Rattle.kabi_types.specs.declared.calls.CallKind.{CallKind}
use Rattle.kabi_types.specs.declared.calls.CallKind.TheVariants as kind
use Rattle.kabi_types.specs.Errno.{number_of}
use Rattle.kabi_types.specs.declared.errnos.Errno.{Errno}
use Rattle.kabi_types.specs.declared.errnos.Errno.TheVariants as errno
use Rattle.kabi_types.specs.declared.replies.NodeKind.{NodeKind}
use Rattle.kabi_types.specs.declared.replies.NodeKind.TheVariants as node
use Rattle.kabi_types.specs.declared.replies.Reply.{Reply}
use Rattle.kabi_types.specs.declared.replies.Reply.TheVariants as reply
use Rattle.kabi_types.specs.declared.replies.StatInfo.{StatInfo}
use Rattle.kabi_types.specs.declared.entries.Cached.{Cached}
use Rattle.kabi_types.specs.declared.entries.Cached.TheVariants as cached
use Rattle.kabi_types.specs.declared.entries.Entry.{Entry}
use Rattle.kabi_types.specs.declared.entries.Entry.TheVariants as entry
use Rattle.posix_defs.specs.Lines.{cache_text, node_text}
use Rattle.run_pasts.specs.SameEntry.{is_same_cache, is_same_entry, is_same_info, is_same_kind, is_same_node, is_same_reply}

-- ---- tests

pub both_true : (a b : Bool) → (a && b) ≡ true → (a ≡ true) × (b ≡ true)
both_true true b h = (refl, h)
both_true false b h = absurd (false≢true h)

pub true_both : (a b : Bool) → a ≡ true → b ≡ true → (a && b) ≡ true
true_both a b g h = ap (λ x. x && b) g ∙ h

same_number : (a b : ℕ) → (a == b) ≡ true → a ≡ b
same_number a b h = (Decides-eqb a b).0 h

number_same : (a : ℕ) → (a == a) ≡ true
number_same a = (Decides-eqb a a).1 refl

same_bytes : (a b : List ℕ) → bytes_eq a b ≡ true → a ≡ b
same_bytes a b h = (bytes_eq-Decides a b).0 h

bytes_same : (a : List ℕ) → bytes_eq a a ≡ true
bytes_same a = (bytes_eq-Decides a a).1 refl

-- ---- what has a word or a number of its own

-- the first of these that passes a test
first_by : {K : Type 0} → (K → Bool) → List K → Option K
first_by passes [] = None
first_by passes (k ∷ ks) = cond (passes k) (Some k) (first_by passes ks)

kind_of_word : List ℕ → Option CallKind
kind_of_word text = first_by (λ other. bytes_eq (word_of other) text) all_kinds

word_back : (which : CallKind) → kind_of_word (word_of which) ≡ Some which
unfolding first_by kind_of_word
word_back kind.Getpid = refl
word_back kind.Getppid = refl
word_back kind.SchedYield = refl
word_back kind.Fork = refl
word_back kind.Exec = refl
word_back kind.Exit = refl
word_back kind.Waitpid = refl
word_back kind.Kill = refl
word_back kind.Mmap = refl
word_back kind.Munmap = refl
word_back kind.Store = refl
word_back kind.Load = refl
word_back kind.OpenFile = refl
word_back kind.Close = refl
word_back kind.Dup = refl
word_back kind.Dup2 = refl
word_back kind.Fcntl = refl
word_back kind.Read = refl
word_back kind.Write = refl
word_back kind.Pread = refl
word_back kind.Pwrite = refl
word_back kind.Lseek = refl
word_back kind.Readdir = refl
word_back kind.Ftruncate = refl
word_back kind.Fstat = refl
word_back kind.Stat = refl
word_back kind.Chdir = refl
word_back kind.Mkdir = refl
word_back kind.Rmdir = refl
word_back kind.Unlink = refl
word_back kind.Link = refl
word_back kind.Rename = refl
word_back kind.Pipe = refl
word_back kind.Socket = refl
word_back kind.Socketpair = refl
word_back kind.Bind = refl
word_back kind.Listen = refl
word_back kind.Connect = refl
word_back kind.Accept = refl
word_back kind.Shutdown = refl
word_back kind.Poll = refl
word_back kind.Signal = refl
word_back kind.Mkfifo = refl
word_back kind.Setlk = refl
word_back kind.Setlkw = refl
word_back kind.Getlk = refl

all_errnos : List Errno
all_errnos =
    errno.EPERM ∷ errno.ENOENT ∷ errno.ESRCH ∷ errno.ENXIO ∷ errno.ENOEXEC ∷ errno.EBADF ∷ errno.ECHILD ∷ errno.EAGAIN
    ∷ errno.ENOMEM ∷ errno.EACCES ∷ errno.EFAULT ∷ errno.EBUSY ∷ errno.EEXIST ∷ errno.ENOTDIR ∷ errno.EISDIR
    ∷ errno.EINVAL ∷ errno.EMFILE ∷ errno.EFBIG ∷ errno.ENOSPC ∷ errno.ESPIPE ∷ errno.EMLINK ∷ errno.EPIPE
    ∷ errno.ENAMETOOLONG ∷ errno.ENOTEMPTY ∷ errno.EOVERFLOW ∷ errno.ENOTSOCK ∷ errno.EDESTADDRREQ ∷ errno.EOPNOTSUPP
    ∷ errno.EADDRINUSE ∷ errno.EISCONN ∷ errno.ENOTCONN ∷ errno.ECONNREFUSED ∷ errno.EDEADLK ∷ []

errno_of_number : ℕ → Option Errno
errno_of_number n = first_by (λ other. number_of other == n) all_errnos

number_back : (which : Errno) → errno_of_number (number_of which) ≡ Some which
unfolding first_by errno_of_number all_errnos
number_back errno.EPERM = refl
number_back errno.ENOENT = refl
number_back errno.ESRCH = refl
number_back errno.ENXIO = refl
number_back errno.ENOEXEC = refl
number_back errno.EBADF = refl
number_back errno.ECHILD = refl
number_back errno.EAGAIN = refl
number_back errno.ENOMEM = refl
number_back errno.EACCES = refl
number_back errno.EFAULT = refl
number_back errno.EBUSY = refl
number_back errno.EEXIST = refl
number_back errno.ENOTDIR = refl
number_back errno.EISDIR = refl
number_back errno.EINVAL = refl
number_back errno.EMFILE = refl
number_back errno.EFBIG = refl
number_back errno.ENOSPC = refl
number_back errno.ESPIPE = refl
number_back errno.EMLINK = refl
number_back errno.EPIPE = refl
number_back errno.ENAMETOOLONG = refl
number_back errno.ENOTEMPTY = refl
number_back errno.EOVERFLOW = refl
number_back errno.ENOTSOCK = refl
number_back errno.EDESTADDRREQ = refl
number_back errno.EOPNOTSUPP = refl
number_back errno.EADDRINUSE = refl
number_back errno.EISCONN = refl
number_back errno.ENOTCONN = refl
number_back errno.ECONNREFUSED = refl
number_back errno.EDEADLK = refl

node_of_word : List ℕ → Option NodeKind
node_of_word text = first_by (λ other. bytes_eq (node_text other) text) (node.File ∷ node.Dir ∷ node.Sock ∷ node.Pipe ∷ node.Fifo ∷ [])

node_back : (which : NodeKind) → node_of_word (node_text which) ≡ Some which
unfolding first_by node_of_word
node_back node.File = refl
node_back node.Dir = refl
node_back node.Sock = refl
node_back node.Pipe = refl
node_back node.Fifo = refl

cache_of_word : List ℕ → Option Cached
cache_of_word text = first_by (λ other. bytes_eq (cache_text other) text) (cached.Name ∷ cached.Block ∷ cached.Vnode ∷ [])

cache_back : (which : Cached) → cache_of_word (cache_text which) ≡ Some which
unfolding first_by cache_of_word
cache_back cached.Name = refl
cache_back cached.Block = refl
cache_back cached.Vnode = refl

-- what is told back from what it is told by is the same where that is
told_back : {K T : Type 0} (tells : K → T) (back : T → Option K) → ((k : K) → back (tells k) ≡ Some k) → (a b : K) → tells a ≡ tells b → a ≡ b
told_back tells back again a b h = same_Some a b (sym (again a) ∙ ap back h ∙ again b)

same_kind : (a b : CallKind) → is_same_kind a b ≡ true → a ≡ b
same_kind a b h = told_back word_of kind_of_word word_back a b (same_bytes _ _ h)

same_node : (a b : NodeKind) → is_same_node a b ≡ true → a ≡ b
same_node a b h = told_back node_text node_of_word node_back a b (same_bytes _ _ h)

same_cache : (a b : Cached) → is_same_cache a b ≡ true → a ≡ b
same_cache a b h = told_back cache_text cache_of_word cache_back a b (same_bytes _ _ h)

same_errno : (a b : Errno) → (number_of a == number_of b) ≡ true → a ≡ b
same_errno a b h = told_back number_of errno_of_number number_back a b (same_number _ _ h)

-- ---- replies

abbrev info_of : NodeKind → ℕ → ℕ → ℕ → StatInfo
info_of kind number nlink size = record { kind = kind; number = number; nlink = nlink; size = size }

same_info : (a b : StatInfo) → is_same_info a b ≡ true → a ≡ b
same_info a b h =
    let halves = both_true _ _ h in
    let first = both_true _ _ halves.0 in
    let second = both_true _ _ halves.1 in
    ap (λ k. info_of k a.number a.nlink a.size) (same_node a.kind b.kind first.0)
    ∙ ap (λ n. info_of b.kind n a.nlink a.size) (same_number a.number b.number first.1)
    ∙ ap (λ n. info_of b.kind b.number n a.size) (same_number a.nlink b.nlink second.0)
    ∙ ap (info_of b.kind b.number b.nlink) (same_number a.size b.size second.1)

info_same : (a : StatInfo) → is_same_info a a ≡ true
info_same a = true_both _ _ (true_both _ _ (bytes_same (node_text a.kind)) (number_same a.number)) (true_both _ _ (number_same a.nlink) (number_same a.size))

abbrev polled_of : ℕ → List ℕ → Reply
polled_of hits revents = reply.Polled (record { hits = hits; revents = revents })

same_reply : (x y : Reply) → is_same_reply x y ≡ true → x ≡ y
same_reply (reply.Val a) (reply.Val b) h = ap reply.Val ((Decides-int_eq a b).0 h)
same_reply (reply.Pair a c) (reply.Pair b d) h =
    let parts = both_true _ _ h in ap (λ n. reply.Pair n c) (same_number a b parts.0) ∙ ap (reply.Pair b) (same_number c d parts.1)
same_reply (reply.Stat a) (reply.Stat b) h = ap reply.Stat (same_info a b h)
same_reply (reply.Waited a c) (reply.Waited b d) h =
    let parts = both_true _ _ h in ap (λ n. reply.Waited n c) (same_number a b parts.0) ∙ ap (reply.Waited b) (same_number c d parts.1)
same_reply (reply.Polled a) (reply.Polled b) h =
    let parts = both_true _ _ h in
    ap (λ n. polled_of n a.revents) (same_number a.hits b.hits parts.0) ∙ ap (polled_of b.hits) (same_bytes a.revents b.revents parts.1)
same_reply (reply.Bytes a) (reply.Bytes b) h = ap reply.Bytes (same_bytes a b h)
same_reply (reply.Fail a) (reply.Fail b) h = ap reply.Fail (same_errno a b h)
same_reply _ _ h = absurd (false≢true h)

reply_same : (x : Reply) → is_same_reply x x ≡ true
reply_same (reply.Val a) = (Decides-int_eq a a).1 refl
reply_same (reply.Pair a b) = true_both _ _ (number_same a) (number_same b)
reply_same (reply.Stat a) = info_same a
reply_same (reply.Waited a b) = true_both _ _ (number_same a) (number_same b)
reply_same (reply.Polled a) = true_both _ _ (number_same a.hits) (bytes_same a.revents)
reply_same (reply.Bytes a) = bytes_same a
reply_same (reply.Fail a) = number_same (number_of a)

-- ---- entries

-- of a process and a call of its
named_same : (p q : ℕ) (a b : CallKind) → ((p == q) && is_same_kind a b) ≡ true → (p ≡ q) × (a ≡ b)
named_same p q a b h = let parts = both_true _ _ h in (same_number p q parts.0, same_kind a b parts.1)

pub same_entry : (x y : Entry) → is_same_entry x y ≡ true → x ≡ y
same_entry (entry.Done p a x) (entry.Done q b y) h =
    let parts = both_true _ _ h in
    let named = named_same p q a b parts.0 in
    let replies : x ≡ y = same_reply x y parts.1 in
    cc
same_entry (entry.Part p a x) (entry.Part q b y) h =
    let parts = both_true _ _ h in let named = named_same p q a b parts.0 in let counts : x ≡ y = same_number x y parts.1 in cc
same_entry (entry.Refused p a x) (entry.Refused q b y) h =
    let parts = both_true _ _ h in let named = named_same p q a b parts.0 in let bounds : x ≡ y = same_number x y parts.1 in cc
same_entry (entry.Slept p a) (entry.Slept q b) h = let named = named_same p q a b h in cc
same_entry (entry.Ended p a x) (entry.Ended q b y) h =
    let parts = both_true _ _ h in let named = named_same p q a b parts.0 in let statuses : x ≡ y = same_number x y parts.1 in cc
same_entry (entry.Gone p a) (entry.Gone q b) h = let named = named_same p q a b h in cc
same_entry (entry.Killed p v n l) (entry.Killed q w m k) h =
    let halves = both_true _ _ h in
    let pids = both_true _ _ halves.0 in
    let sums = both_true _ _ halves.1 in
    let killed : p ≡ q = same_number p q pids.0 in
    let waiters : v ≡ w = same_number v w pids.1 in
    let needs : n ≡ m = same_number n m sums.0 in
    let lives : l ≡ k = same_number l k sums.1 in
    cc
same_entry (entry.Evicted a) (entry.Evicted b) h = ap entry.Evicted (same_cache a b h)
same_entry _ _ h = absurd (false≢true h)

same_named : (p : ℕ) (a : CallKind) → ((p == p) && is_same_kind a a) ≡ true
same_named p a = true_both _ _ (number_same p) (bytes_same (word_of a))

pub entry_same : (x : Entry) → is_same_entry x x ≡ true
entry_same (entry.Done p a x) = true_both _ _ (same_named p a) (reply_same x)
entry_same (entry.Part p a x) = true_both _ _ (same_named p a) (number_same x)
entry_same (entry.Refused p a x) = true_both _ _ (same_named p a) (number_same x)
entry_same (entry.Slept p a) = same_named p a
entry_same (entry.Ended p a x) = true_both _ _ (same_named p a) (number_same x)
entry_same (entry.Gone p a) = same_named p a
entry_same (entry.Killed p v n l) = true_both _ _ (true_both _ _ (number_same p) (number_same v)) (true_both _ _ (number_same n) (number_same l))
entry_same (entry.Evicted a) = bytes_same (cache_text a)
