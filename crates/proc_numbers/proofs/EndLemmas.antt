-- What the ends of queues have in common, each by the lemmas of its own.
use Rattle.std.proofs.Common.{◌≡◌, ℕ, ℤ, ◌+◌, ◌-◌, ◌<◌, ◌≤◌, Bool, min, List, [], ◌++◌, take, drop, length, Option, None, Some, refl, ap, sym, subst, ◌∙◌}
use Rattle.chunk_queue.specs.Moving.{moved_by, moving_of}
use Rattle.chunk_queue.specs.declared.moved.Moved.{Moved}
use Rattle.kheap_slabs.specs.Objects.{object}
use Rattle.kheap_slabs.specs.Purse.{Purse}
use Rattle.kheap_slabs.specs.declared.objects.Desc.{Desc}
use Rattle.kheap_slabs.specs.declared.objects.Target.{Target}
use Rattle.kheap_slabs.specs.declared.objects.Target.TheVariants as target
use Rattle.kheap_slabs.specs.Heap.{Heap}
use Rattle.kheap_slabs.specs.Paid.{TakesNothing}
use Rattle.open_laws.specs.Described.{inode_in}
use Rattle.open_laws.specs.Owned.{HasItsOwners}
use Rattle.page_space.specs.Contents.{IsOwnedWith, SpaceMoves}
use Rattle.page_space.specs.Putting.{Puts}
use Rattle.pipe_ends.specs.Standing.{StandsFor as PipeStandsFor}
use Rattle.posix_defs.specs.Memory.{Memory, loaded}
use Rattle.posix_defs.specs.Pipe.{Moves, Pipe, after_write, pipe_read}
use Rattle.posix_defs.specs.Sockets.{sock_read}
use Rattle.proc_table.specs.Table.{TableView}
use Rattle.usock_core.specs.Standing.{StandsFor as SocketsStandFor}
use Rattle.proc_numbers.specs.Found.{IsNamed, IsOffNodes}
use Rattle.proc_numbers.specs.PipeMoving.{UnlessMoves, moved_in}
use Rattle.proc_numbers.specs.QueueEnds.{Behind, IsEndIn, IsOpenEnd, LeavesBut, PutsIn, ReadsEnd, StandsBehind, TakesOut, end_of, read_of, unread, write_of}
use Rattle.proc_numbers.specs.Spaces.{HasSpace}
use Rattle.proc_numbers.specs.Standing.{IsKept}
use Rattle.proc_numbers.specs.declared.ends.QueueEnd.{QueueEnd}
use Rattle.proc_numbers.specs.declared.ends.QueueEnd.TheVariants as queue
use Rattle.proc_numbers.specs.declared.lookups.Found.{Found}
use Rattle.proc_numbers.proofs.Capped as capped
use Rattle.proc_numbers.proofs.MayMove.{pipe_of}
use Rattle.proc_numbers.proofs.Moved.{kept_changed}
use Rattle.proc_numbers.proofs.SocketReads as sock_reads
use Rattle.proc_numbers.proofs.SocketWrites as sock_writes
use Rattle.proc_numbers.proofs.Taking as taking
use Rattle.proc_numbers.proofs.Told.{keyed_there, on_named, socket_there}
use Rattle.proc_numbers.proofs.Took as took
use Rattle.proc_numbers.proofs.Turning.{kept_turned}

-- ---- what is open

pub same_end : (one other : QueueEnd) → Some one ≡ Some other → one ≡ other
same_end one other e = cc

-- what a description is open on is there
pub open_end : (h : Heap) (at : ℕ) (desc : Desc) (on : QueueEnd) → HasItsOwners h [] → object h.descs at ≡ Some desc → end_of desc.target ≡ Some on → IsOpenEnd h on
open_end h at desc on owners there = by_target desc.target refl
  where
    by_target : (what : Target) → desc.target ≡ what → end_of what ≡ Some on → IsOpenEnd h on
    by_target (target.Inode number) is e = cc
    by_target (target.Pipe key) is e = subst (IsOpenEnd h) (same_end (queue.Pipe key) on e) (pipe_of h at key desc owners there is)
    by_target (target.Sock key) is e = subst (IsOpenEnd h) (same_end (queue.Sock key) on e) (on_named h at key desc there is)

pub end_in : (h : Heap) (on : QueueEnd) → HasItsOwners h [] → IsOpenEnd h on → IsEndIn h on
end_in h (queue.Pipe key) owners opened = opened
end_in h (queue.Sock key) owners opened = socket_there h [] key owners opened

-- a number that is open on no node is open on an end
pub only_queue : (h : Heap) (kept : TableView) (pid : ℕ) (fd : ℤ) (found : Found) → IsOffNodes h kept pid fd → IsNamed h kept pid fd found
    → object h.descs found.key ≡ Some found.desc → end_of found.desc.target ≡ None → ⊥
only_queue h kept pid fd found off named is none =
    by_target found.desc.target (off named.held found.desc named.is (ap (object h.descs) named.same ∙ is)) none
  where
    by_target : (what : Target) → inode_in what ≡ None → end_of what ≡ None → ⊥
    by_target (target.Inode number) node is_end = cc
    by_target (target.Pipe key) node is_end = cc
    by_target (target.Sock key) node is_end = cc

-- something is behind an end that is there
pub behind_in : (h : Heap) (on : QueueEnd) → IsEndIn h on → (behind : Behind on) × StandsBehind h on behind
behind_in h (queue.Pipe key) there = ((there.0, there.1), there.2)
behind_in h (queue.Sock key) there = (there.sockets, there.stands)

-- ---- reading

-- 4096 bytes are all that can come
pub read_capped : (h : Heap) (on : QueueEnd) (behind : Behind on) (nonblock : Bool) (n : ℕ) → StandsBehind h on behind
    → read_of on behind nonblock (min n 4096) ≡ read_of on behind nonblock n
read_capped h (queue.Pipe key) behind nonblock n stands = capped.read_capped behind.0 nonblock n stands.within
read_capped h (queue.Sock key) behind nonblock n stands = sock_reads.read_capped behind key nonblock n stands.linked

-- the bytes that came stand in the room for them
pub out_long : (h : Heap) (on : QueueEnd) (behind : Behind on) (nonblock : Bool) (n count : ℕ) → StandsBehind h on behind → 0 < n
    → Moves count ≡ read_of on behind nonblock (min n 4096) → (was out : List ℕ) → out ≡ take count (unread on behind) ++ drop count was → count ≤ length out
out_long h (queue.Pipe key) behind nonblock n count stands some answer was out is = took.out_long behind.0 nonblock n count stands.within answer was out some is
out_long h (queue.Sock key) behind nonblock n count stands some answer was out is = sock_reads.out_long behind key nonblock n count stands.linked answer was out some is

-- and no more come than are asked for
pub count_within : (h : Heap) (on : QueueEnd) (behind : Behind on) (nonblock : Bool) (n count : ℕ) → StandsBehind h on behind → 0 < n
    → Moves count ≡ read_of on behind nonblock (min n 4096) → count ≤ n
count_within h (queue.Pipe key) behind nonblock n count stands some answer = took.count_within behind.0 nonblock n count stands.within answer
count_within h (queue.Sock key) behind nonblock n count stands some answer = sock_reads.count_within behind key nonblock n count stands.linked some answer

-- what was put in memory
pub reads_so : (old : Heap) (before : Purse) (mid new : Heap) (after : Purse) (space : List (Option ℕ)) (on : QueueEnd) (behind : Behind on) (nonblock : Bool) (n count start : ℕ) (was out : List ℕ)
    → StandsBehind old on behind → 0 < n → Moves count ≡ read_of on behind nonblock (min n 4096) → LeavesBut old mid on → TakesNothing old mid → TakesOut old mid on behind count
    → out ≡ take count (unread on behind) ++ drop count was → Puts mid before new after space start (take count out)
    → (k : ℕ) → read_of on behind nonblock n ≡ Moves k → ReadsEnd old before new after space on start behind k
reads_so old before mid new after space (queue.Pipe key) behind nonblock n count start was out stands some answer leaves takes taken out_is puts =
    took.reads_so behind.0 nonblock n count stands.within answer some old before mid new after space key start behind.1 was out leaves.0 takes leaves.1 taken out_is puts
reads_so old before mid new after space (queue.Sock key) behind nonblock n count start was out stands some answer leaves takes taken out_is puts =
    sock_reads.reads_so behind key nonblock n count stands.linked answer some old before mid new after space start was out leaves takes taken.0 taken.1 taken.2 out_is puts

-- the space is owned still
pub owned_mid : (old mid : Heap) (on : QueueEnd) (space : List (Option ℕ)) → LeavesBut old mid on → IsOwnedWith old space → IsOwnedWith mid space
owned_mid old mid (queue.Pipe key) space leaves is = took.owned_mid old mid key space leaves.0 leaves.1 is
owned_mid old mid (queue.Sock key) space leaves is = sock_reads.owned_mid old mid space leaves is

-- what isn't a queue's nor a space's is as it was
pub beside_both : (old mid new : Heap) (on : QueueEnd) (space now : List (Option ℕ)) → LeavesBut old mid on → SpaceMoves mid new space now
    → new ≡ record old { nodes = new.nodes; pages = new.pages; pipes = new.pipes; chunks = new.chunks; socks = new.socks; high = new.high }
beside_both old mid new (queue.Pipe key) space now leaves moves =
    let beside = capped.beside_both old mid new key space now leaves.0 moves in
    beside ∙ ap (λ socks. record old { nodes = new.nodes; pages = new.pages; pipes = new.pipes; chunks = new.chunks; socks = socks; high = new.high }) (sym (ap (λ (h : Heap). h.socks) beside))
beside_both old mid new (queue.Sock key) space now leaves moves =
    let beside = sock_reads.beside_both old mid new space now leaves.others moves in
    beside ∙ ap (λ pipes. record old { nodes = new.nodes; pages = new.pages; pipes = pipes; chunks = new.chunks; socks = new.socks; high = new.high }) (sym (ap (λ (h : Heap). h.pipes) beside))

pub beside_none : (old new : Heap) → new ≡ old
    → new ≡ record old { nodes = new.nodes; pages = new.pages; pipes = new.pipes; chunks = new.chunks; socks = new.socks; high = new.high }
beside_none old new same =
    subst (λ (h : Heap). h ≡ record old { nodes = h.nodes; pages = h.pages; pipes = h.pipes; chunks = h.chunks; socks = h.socks; high = h.high }) (sym same) refl

pub kept_taken : (old : Heap) (before : Purse) (new : Heap) (after : Purse) (kept : TableView) (pid : ℕ) (space : List (Option ℕ)) (on : QueueEnd) (start n : ℕ) (nonblock : Bool)
    → IsKept old kept → HasSpace old kept pid space → IsOpenEnd old on
    → ((behind : Behind on) (k : ℕ) → StandsBehind old on behind → read_of on behind nonblock n ≡ Moves k → ReadsEnd old before new after space on start behind k)
    → ((behind : Behind on) → StandsBehind old on behind → UnlessMoves (read_of on behind nonblock n) (new ≡ old)) → IsKept new kept
kept_taken old before new after kept pid space (queue.Pipe key) start n nonblock is has opened reads refused =
    let behind : Pipe × ℕ = (opened.0, opened.1) in
    taking.kept_taken old before new after kept pid space key start n nonblock is has opened.0 opened.1 opened.2 (pipe_read opened.0 nonblock n)
    (λ k. reads behind k opened.2) (refused behind opened.2)
kept_taken old before new after kept pid space (queue.Sock key) start n nonblock is has opened reads refused =
    let socks = is.owners.held.socks in
    sock_reads.kept_taken old before new after kept pid space key start n nonblock is has socks.sockets socks.stands
    (keyed_there old [] key is.owners opened socks.sockets socks.stands) (sock_read socks.sockets key nonblock n)
    (λ k. reads socks.sockets k socks.stands) (refused socks.sockets socks.stands)

-- ---- writing

-- Of the n - done bytes that are left at most 4096 were copied, from where they begin: as many go as of all that are left.
pub put_answer : (on : QueueEnd) (behind : Behind on) (nonblock : Bool) (n done start rest : ℕ) (memory : Memory) (bytes : List ℕ) (len : ℕ) → bytes ≡ loaded memory rest len → len ≡ min (n - done) 4096
    → (done < n → rest ≡ start + done) → (answer : Moved) → moving_of answer ≡ write_of on behind nonblock n (length bytes) → moving_of answer ≡ write_of on behind nonblock n (n - done)
put_answer (queue.Pipe key) behind nonblock n done start rest memory bytes len bytes_are len_is begins answer moves =
    capped.put_answer behind.0 nonblock n done start rest memory bytes len bytes_are len_is begins answer moves
put_answer (queue.Sock key) behind nonblock n done start rest memory bytes len bytes_are len_is begins answer moves =
    sock_writes.put_answer behind key nonblock n done start rest memory bytes len bytes_are len_is begins answer moves

-- and they are the same ones
pub puts_so : (old new : Heap) (on : QueueEnd) (behind : Behind on) (nonblock : Bool) (n done start rest : ℕ) (memory : Memory) (bytes : List ℕ) (len : ℕ) → bytes ≡ loaded memory rest len
    → len ≡ min (n - done) 4096 → (done < n → rest ≡ start + done) → (answer : Moved) → moving_of answer ≡ write_of on behind nonblock n (length bytes)
    → PutsIn old new on behind bytes (moved_by answer)
    → PutsIn old new on behind (loaded memory (start + done) (n - done)) (moved_in (write_of on behind nonblock n (n - done)))
puts_so old new (queue.Pipe key) behind nonblock n done start rest memory bytes len bytes_are len_is begins answer moves puts =
    subst (λ (p : Pipe). PipeStandsFor new key p behind.1) (capped.put_bytes behind.0 nonblock n done start rest memory bytes len bytes_are len_is begins answer moves) puts
puts_so old new (queue.Sock key) behind nonblock n done start rest memory bytes len bytes_are len_is begins answer moves puts = record {
  stands = subst (SocketsStandFor new) (sock_writes.put_bytes behind key nonblock n done start rest memory bytes len bytes_are len_is begins answer moves) puts.stands;
  queues = puts.queues;
}

-- what isn't a queue's is as it was
pub beside_put : (old new : Heap) (on : QueueEnd) → LeavesBut old new on → new ≡ record old { pipes = new.pipes; chunks = new.chunks; socks = new.socks; high = new.high }
beside_put old new (queue.Pipe key) leaves =
    let beside = leaves.0.kept in
    beside ∙ ap (λ socks. record old { pipes = new.pipes; chunks = new.chunks; socks = socks; high = new.high }) (sym (ap (λ (h : Heap). h.socks) beside))
beside_put old new (queue.Sock key) leaves =
    let beside = leaves.others.kept in
    beside ∙ ap (λ pipes. record old { pipes = pipes; chunks = new.chunks; socks = new.socks; high = new.high }) (sym (ap (λ (h : Heap). h.pipes) beside))

pub kept_put : (old new : Heap) (kept : TableView) (on : QueueEnd) (bytes : List ℕ) (nonblock : Bool) (n left : ℕ) → IsKept old kept → IsOpenEnd old on → LeavesBut old new on
    → ((behind : Behind on) → StandsBehind old on behind → PutsIn old new on behind bytes (moved_in (write_of on behind nonblock n left))) → IsKept new kept
kept_put old new kept (queue.Pipe key) bytes nonblock n left is opened leaves puts =
    let behind : Pipe × ℕ = (opened.0, opened.1) in
    kept_turned old new key leaves.0 opened.0 (after_write opened.0 bytes (moved_in (write_of (queue.Pipe key) behind nonblock n left))) opened.1 opened.1 opened.2 (puts behind opened.2) refl refl kept is leaves.1
kept_put old new kept (queue.Sock key) bytes nonblock n left is opened leaves puts = kept_changed old new leaves kept is
