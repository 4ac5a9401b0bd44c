-- What a call of `write` is answered, by what its number names: a node, or an end of a queue.
use Rattle.std.proofs.Common.{◌≡◌, ◌≢◌, ℕ, zero, suc, ◌+◌, ◌-◌, ◌<◌, ◌==◌, ℤ, pos, Bool, true, false, cond, List, [], Option, None, Some, Result, Ok, Err, refl, ap, sym, subst, ◌∙◌, arith, eq-eqb, ne_eqb}
use Rattle.std.specs.Option.{option_map}
use Rattle.kabi_types.specs.Arguments.{count_of}
use Rattle.kabi_types.specs.declared.calls.Call.TheVariants as call
use Rattle.kabi_types.specs.declared.errnos.Errno.{Errno}
use Rattle.kabi_types.specs.declared.errnos.Errno.TheVariants.{EFAULT, ENOTCONN}
use Rattle.kabi_types.specs.declared.replies.Reply.TheVariants.{Val}
use Rattle.kabi_types.specs.declared.scripts.Script.{Script}
use Rattle.kheap_slabs.specs.declared.objects.Target.{Target}
use Rattle.kheap_slabs.specs.declared.objects.Target.TheVariants as target
use Rattle.kheap_slabs.specs.Heap.{Heap}
use Rattle.chunk_queue.specs.Moving.{would_wait}
use Rattle.open_laws.specs.Described.{counted_in, target_in}
use Rattle.open_laws.specs.Owned.{HasItsOwners}
use Rattle.open_laws.specs.Placed.{Numbers}
use Rattle.posix_defs.specs.Account.{Account}
use Rattle.posix_defs.specs.Answer.{Answer, failed, replied}
use Rattle.posix_defs.specs.Calls.Opened.{Opened, answer_on, if_writable, on_open}
use Rattle.posix_defs.specs.Calls.Reading.{of_bytes}
use Rattle.posix_defs.specs.Calls.Writing.{bytes_left, did_part, place_of_write, put_in_pipe, put_in_socket, write_ignoring, write_queue, write_target, wrote}
use Rattle.posix_defs.specs.Files.State.{Files, pipe_at}
use Rattle.posix_defs.specs.Machine.{blocks}
use Rattle.posix_defs.specs.Memory.{is_mapped_range, loaded}
use Rattle.posix_defs.specs.Pipe.{Moving, Moves, Blocks, Fails, Pipe, pipe_write}
use Rattle.posix_defs.specs.Plain.{Plain}
use Rattle.posix_defs.specs.Process.{memory_of}
use Rattle.posix_defs.specs.Socket.{Connected, Idle, Listening, Stage, is_connected}
use Rattle.posix_defs.specs.Sockets.{sock_write, stage_at, write_in_stage}
use Rattle.posix_defs.specs.Tree.{Tree}
use Rattle.posix_defs.specs.TreeChanges.{write as tree_write}
use Rattle.posix_defs.specs.declared.turner.Turned.{Turned}
use Rattle.proc_table.specs.Table.{TableView}
use Rattle.proc_numbers.specs.Found.{opened_in}
use Rattle.proc_numbers.specs.PipeMoving.{UnlessMoves, moved_in, told_write}
use Rattle.proc_numbers.specs.QueueEnds.{Behind, IsOpenEnd, LeavesBut, PutsIn, StandsBehind, end_of, is_linked, write_of}
use Rattle.proc_numbers.specs.Standing.{IsKept, Leads, StandsFor}
use Rattle.proc_numbers.specs.declared.ends.QueueEnd.{QueueEnd}
use Rattle.proc_numbers.specs.declared.ends.QueueEnd.TheVariants as queue
use Rattle.proc_numbers.specs.declared.lookups.Found.{Found}
use Rattle.proc_numbers.proofs.EndLemmas.{same_end}
use Rattle.proc_numbers.proofs.Putting.{leads_written, pipe_there}
use Rattle.proc_numbers.proofs.ReadCall.{calm}
use Rattle.proc_numbers.proofs.RightBytes.{mapped_at}
use Rattle.proc_numbers.proofs.SocketWrites.{connected_told, write_told}
use Rattle.proc_numbers.proofs.SocketWrites as sock_writes
use Rattle.proc_numbers.proofs.Told.{keyed_there}

-- a write of a queue blocks where its bytes have to wait
queue_blocks : (script : Script) (plain : Plain) (pid : ℕ) (nonblock : Bool) (n done : ℕ) (next : ℕ → Files) (moving : Moving)
    → blocks (write_queue script plain pid nonblock n done next moving) ≡ would_wait moving
queue_blocks script plain pid nonblock n done next (Moves k) = go (k == n - done) nonblock
  where
    go : (all waits : Bool) → blocks (cond all (replied script (record plain { files = next k }) pid (Val (pos n))) (cond waits (replied script (record plain { files = next k }) pid (Val (pos (done + k)))) (did_part (record plain { files = next k }) pid k))) ≡ false
    go true waits = refl
    go false true = refl
    go false false = refl
queue_blocks script plain pid nonblock n done next Blocks = refl
queue_blocks script plain pid nonblock n done next (Fails errno) = go (done == 0)
  where
    go : (none : Bool) → blocks (cond none (failed script plain pid errno) (replied script plain pid (Val (pos done)))) ≡ false
    go true = refl
    go false = refl

module _ (script : Script) (numbers : Numbers) (plain : Plain) (pid : ℕ) (fd addr n : ℤ) (done : ℕ) where
  -- what a call with this description is answered
  abbrev pub of_opened : Opened → Answer
  of_opened opened = of_bytes script plain pid addr n (write_target script plain pid opened addr (count_of n) done opened.is.target)

  -- the call, by what may be written
  abbrev pub asked : Answer
  asked = on_open script plain pid fd (λ opened. if_writable script plain pid opened (of_opened opened))

  pub write_asks : write_ignoring script plain pid fd addr n done ≡ asked
  unfolding write_ignoring
  write_asks = refl

  -- the call, where the number is looked up as this one
  pub asks_with : (as_fd : ℤ) (result o : Option Found) → as_fd ≡ fd
      → on_open script plain pid as_fd (λ opened. if_writable script plain pid opened (of_opened opened)) ≡ answer_on script plain pid of_opened (option_map (opened_in numbers) result)
      → result ≡ o → asked ≡ answer_on script plain pid of_opened (option_map (opened_in numbers) o)
  asks_with as_fd result o same found is =
      ap (λ z. on_open script plain pid z (λ opened. if_writable script plain pid opened (of_opened opened))) (sym same)
      ∙ found ∙ ap (λ r. answer_on script plain pid of_opened (option_map (opened_in numbers) r)) is

  -- What the number names is open on an end of a queue.
  module _ (found : Found) (on : QueueEnd) (is_end : end_of found.desc.target ≡ Some on) (opens : asked ≡ answer_on script plain pid of_opened (Some (opened_in numbers found)))
      (start v : ℕ) (v_is : v ≡ count_of n) (begins : 0 < v → start ≡ count_of addr) where
    abbrev nonblock : Bool
    nonblock = found.desc.flags.nonblock

    -- what it comes to in the machine, of m bytes
    moving_at : QueueEnd → ℕ → Moving
    moving_at (queue.Pipe key) m = pipe_write (pipe_at plain.files (numbers.pipes key)) nonblock m (m - done)
    moving_at (queue.Sock key) m = sock_write plain.files.sockets (numbers.socks key) nonblock (m - done)

    -- the files after the first k of these bytes went in
    put_at : QueueEnd → List ℕ → ℕ → Files
    put_at (queue.Pipe key) bytes k = put_in_pipe plain.files (numbers.pipes key) bytes k
    put_at (queue.Sock key) bytes k = put_in_socket plain.files (numbers.socks key) bytes k

    -- whether somebody is at the other end
    linked_at : QueueEnd → Bool
    linked_at (queue.Pipe key) = true
    linked_at (queue.Sock key) = is_connected (stage_at plain.files.sockets (numbers.socks key))

    -- its answer where its bytes are mapped and somebody is there, by how many bytes it has and where they begin
    of_linked : QueueEnd → ℕ → ℕ → Answer
    of_linked which m from = write_queue script plain pid nonblock m done (put_at which (loaded (memory_of plain.table pid) (from + done) (m - done))) (moving_at which m)

    of_end : QueueEnd → ℕ → ℕ → Answer
    of_end which m from = cond (linked_at which) (of_linked which m from) (failed script plain pid ENOTCONN)

    on_target : Target → Answer
    on_target what = of_bytes script plain pid addr n (write_target script plain pid (opened_in numbers found) addr (count_of n) done (target_in numbers what))

    on_end : (what : Target) → end_of what ≡ Some on → on_target what ≡ of_bytes script plain pid addr n (of_end on (count_of n) (count_of addr))
    unfolding moving_at put_at linked_at of_linked of_end on_target
    on_end (target.Inode number) e = cc
    on_end (target.Pipe key) e =
        subst (λ which. on_target (target.Pipe key) ≡ of_bytes script plain pid addr n (of_end which (count_of n) (count_of addr))) (same_end (queue.Pipe key) on e) refl
    on_end (target.Sock key) e =
        subst (λ which. on_target (target.Sock key) ≡ of_bytes script plain pid addr n (of_end which (count_of n) (count_of addr))) (same_end (queue.Sock key) on e) refl

    by_range : (b : Bool) → is_mapped_range (memory_of plain.table pid) start v ≡ b
        → write_ignoring script plain pid fd addr n done ≡ cond b (cond (v == 0) (replied script plain pid (Val (pos 0))) (of_end on v (count_of addr))) (failed script plain pid EFAULT)
    unfolding on_target
    by_range b tells =
        write_asks ∙ opens
        ∙ on_end found.desc.target is_end
        ∙ ap (λ t. cond t (cond (count_of n == 0) (replied script plain pid (Val (pos 0))) (of_end on (count_of n) (count_of addr))) (failed script plain pid EFAULT))
        (ap (is_mapped_range (memory_of plain.table pid) (count_of addr)) (sym v_is) ∙ sym (mapped_at (memory_of plain.table pid) start (count_of addr) v begins) ∙ tells)
        ∙ ap (λ m. cond b (cond (m == 0) (replied script plain pid (Val (pos 0))) (of_end on m (count_of addr))) (failed script plain pid EFAULT)) (sym v_is)

    pub write_unmapped : is_mapped_range (memory_of plain.table pid) start v ≡ false → write_ignoring script plain pid fd addr n done ≡ failed script plain pid EFAULT
    write_unmapped tells = by_range false tells

    pub write_nothing : is_mapped_range (memory_of plain.table pid) start v ≡ true → v ≡ 0 → write_ignoring script plain pid fd addr n done ≡ replied script plain pid (Val (pos 0))
    write_nothing tells none = by_range true tells ∙ ap (λ b. cond b (replied script plain pid (Val (pos 0))) (of_end on v (count_of addr))) (eq-eqb v 0 none)

    positive : (m : ℕ) → m ≢ 0 → 0 < m
    positive zero some = absurd (some refl)
    positive (suc m) some = omega arith

    write_goes : is_mapped_range (memory_of plain.table pid) start v ≡ true → v ≢ 0 → write_ignoring script plain pid fd addr n done ≡ of_end on v start
    write_goes tells some =
        by_range true tells ∙ ap (λ b. cond b (replied script plain pid (Val (pos 0))) (of_end on v (count_of addr))) (ne_eqb v 0 some)
        ∙ ap (of_end on v) (sym (begins (positive v some)))

    linked_blocks : (which : QueueEnd) (m from : ℕ) → blocks (of_linked which m from) ≡ would_wait (moving_at which m)
    unfolding of_linked
    linked_blocks which m from = queue_blocks script plain pid nonblock m done (put_at which (loaded (memory_of plain.table pid) (from + done) (m - done))) (moving_at which m)

    module _ (h : Heap) (kept : TableView) (account : Account) (stands : StandsFor numbers h kept plain account) (owners : HasItsOwners h []) (is_open : IsOpenEnd h on) where
      -- what the heap tells of the other end is so in the machine
      linked_so : (which : QueueEnd) → IsOpenEnd h which → (b : Bool) → ((behind : Behind which) → StandsBehind h which behind → b ≡ is_linked which behind) → b ≡ linked_at which
      unfolding linked_at
      linked_so (queue.Pipe key) it b tells = let behind : Pipe × ℕ = (it.0, it.1) in tells behind it.2
      linked_so (queue.Sock key) it b tells =
          let keyed = stands.opened.opened.socketed in
          tells keyed.keyed keyed.stands
          ∙ sym (connected_told numbers.socks keyed.keyed plain.files.sockets key keyed.stands.linked keyed.renamed (keyed_there h [] key owners it keyed.keyed keyed.stands))

      by_linked : (b : Bool) → linked_at on ≡ b → of_end on v start ≡ cond b (of_linked on v start) (failed script plain pid ENOTCONN)
      unfolding of_end
      by_linked b is = ap (λ t. cond t (of_linked on v start) (failed script plain pid ENOTCONN)) is

      pub write_unlinked : is_mapped_range (memory_of plain.table pid) start v ≡ true → v ≢ 0 → (b : Bool) → ((behind : Behind on) → StandsBehind h on behind → b ≡ is_linked on behind) → b ≡ false
          → write_ignoring script plain pid fd addr n done ≡ failed script plain pid ENOTCONN
      write_unlinked tells some b told is = write_goes tells some ∙ by_linked false (sym (linked_so on is_open b told) ∙ is)

      -- and what it tells of waiting
      waits_so : (which : QueueEnd) → IsOpenEnd h which → (b : Bool) → ((behind : Behind which) → StandsBehind h which behind → b ≡ would_wait (write_of which behind nonblock v (v - done)))
          → b ≡ would_wait (moving_at which v)
      unfolding moving_at
      waits_so (queue.Pipe key) it b tells =
          let behind : Pipe × ℕ = (it.0, it.1) in
          tells behind it.2 ∙ ap (λ p. would_wait (pipe_write p nonblock v (v - done))) (sym (pipe_there numbers h kept plain.files key it.0 it.1 stands.opened it.2))
      waits_so (queue.Sock key) it b tells =
          let keyed = stands.opened.opened.socketed in
          tells keyed.keyed keyed.stands
          ∙ sym (ap would_wait (write_told numbers.socks keyed.keyed plain.files.sockets key keyed.stands.linked keyed.renamed (keyed_there h [] key owners it keyed.keyed keyed.stands) nonblock (v - done)))

      -- who finds nobody there doesn't wait
      unlinked_flows : (which : QueueEnd) → linked_at which ≡ false → would_wait (moving_at which v) ≡ false
      unfolding linked_at moving_at
      unlinked_flows (queue.Pipe key) is = cc
      unlinked_flows (queue.Sock key) is = never (stage_at plain.files.sockets (numbers.socks key)) is
        where
          never : (stage : Stage) → is_connected stage ≡ false → would_wait (write_in_stage plain.files.sockets stage nonblock (v - done)) ≡ false
          never Idle not = refl
          never (Listening waiting) not = refl
          never (Connected peer shut_read shut_write) not = cc

      end_blocks : (from : ℕ) → blocks (of_end on v from) ≡ would_wait (moving_at on v)
      unfolding of_end
      end_blocks from = by_bool (linked_at on) refl
        where
          by_bool : (b : Bool) → linked_at on ≡ b → blocks (cond b (of_linked on v from) (failed script plain pid ENOTCONN)) ≡ would_wait (moving_at on v)
          by_bool true is = linked_blocks on v from
          by_bool false is = sym (unlinked_flows on is)

      -- whether it would sleep
      pub write_sleeps : is_mapped_range (memory_of plain.table pid) start v ≡ true → v ≢ 0 → (b : Bool)
          → ((behind : Behind on) → StandsBehind h on behind → b ≡ would_wait (write_of on behind nonblock v (v - done))) → b ≡ blocks (write_ignoring script plain pid fd addr n done)
      write_sleeps tells some b waits = waits_so on is_open b waits ∙ sym (ap blocks (write_goes tells some) ∙ end_blocks start)

      -- who needn't wait for the queue doesn't sleep, whatever is mapped
      pub write_flows : (b : Bool) → ((behind : Behind on) → StandsBehind h on behind → b ≡ would_wait (write_of on behind nonblock v (v - done))) → b ≡ false
          → false ≡ blocks (write_ignoring script plain pid fd addr n done)
      write_flows b waits flows =
          sym (ap blocks (by_range (is_mapped_range (memory_of plain.table pid) start v) refl)
          ∙ calm script plain pid (is_mapped_range (memory_of plain.table pid) start v) (v == 0) (of_end on v (count_of addr)) (end_blocks (count_of addr) ∙ sym (waits_so on is_open b waits) ∙ flows))

      -- What it leads to once its bytes have moved.
      pub write_leads : is_mapped_range (memory_of plain.table pid) start v ≡ true → v ≢ 0 → (b : Bool) → ((behind : Behind on) → StandsBehind h on behind → b ≡ is_linked on behind) → b ≡ true
          → (new : Heap) → IsKept h kept → LeavesBut h new on → (told : Turned)
          → ((behind : Behind on) → StandsBehind h on behind → told ≡ told_write nonblock v done (write_of on behind nonblock v (v - done)))
          → ((behind : Behind on) → StandsBehind h on behind
          → PutsIn h new on behind (loaded (memory_of plain.table pid) (start + done) (v - done)) (moved_in (write_of on behind nonblock v (v - done))))
          → ((behind : Behind on) → StandsBehind h on behind → UnlessMoves (write_of on behind nonblock v (v - done)) (new ≡ h))
          → Leads script numbers new kept plain account pid (call.Write fd addr n done) (write_ignoring script plain pid fd addr n done) told
      unfolding moving_at put_at of_linked
      write_leads tells some b linked is_linked new is leaves told so puts refused =
          subst (λ answer. Leads script numbers new kept plain account pid (call.Write fd addr n done) answer told)
          (sym (write_goes tells some ∙ by_linked true (sym (linked_so on is_open b linked) ∙ is_linked))) (by_end on is_open leaves so puts refused)
        where
          bytes : List ℕ
          bytes = loaded (memory_of plain.table pid) (start + done) (v - done)

          by_end : (which : QueueEnd) → IsOpenEnd h which → LeavesBut h new which
              → ((behind : Behind which) → StandsBehind h which behind → told ≡ told_write nonblock v done (write_of which behind nonblock v (v - done)))
              → ((behind : Behind which) → StandsBehind h which behind → PutsIn h new which behind bytes (moved_in (write_of which behind nonblock v (v - done))))
              → ((behind : Behind which) → StandsBehind h which behind → UnlessMoves (write_of which behind nonblock v (v - done)) (new ≡ h))
              → Leads script numbers new kept plain account pid (call.Write fd addr n done) (of_linked which v start) told
          by_end (queue.Pipe key) it leaves so puts refused =
              let behind : Pipe × ℕ = (it.0, it.1) in
              subst (Leads script numbers new kept plain account pid (call.Write fd addr n done) (of_linked (queue.Pipe key) v start)) (sym (so behind it.2))
              (subst (λ p. Leads script numbers new kept plain account pid (call.Write fd addr n done)
              (write_queue script plain pid nonblock v done (put_in_pipe plain.files (numbers.pipes key) bytes) (pipe_write p nonblock v (v - done)))
              (told_write nonblock v done (pipe_write it.0 nonblock v (v - done))))
              (sym (pipe_there numbers h kept plain.files key it.0 it.1 stands.opened it.2))
              (leads_written script numbers h new kept plain account pid fd addr n done key is stands nonblock v done bytes it.0 it.1 it.2 (pipe_write it.0 nonblock v (v - done))
              leaves.0 leaves.1 (puts behind it.2) (refused behind it.2)))
          by_end (queue.Sock key) it leaves so puts refused =
              let keyed = stands.opened.opened.socketed in
              let used = keyed_there h [] key owners it keyed.keyed keyed.stands in
              subst (Leads script numbers new kept plain account pid (call.Write fd addr n done) (of_linked (queue.Sock key) v start)) (sym (so keyed.keyed keyed.stands))
              (subst (λ moving. Leads script numbers new kept plain account pid (call.Write fd addr n done)
              (write_queue script plain pid nonblock v done (put_in_socket plain.files (numbers.socks key) bytes) moving)
              (told_write nonblock v done (sock_write keyed.keyed key nonblock (v - done))))
              (sym (write_told numbers.socks keyed.keyed plain.files.sockets key keyed.stands.linked keyed.renamed used nonblock (v - done)))
              (sock_writes.leads_written script numbers h new kept plain account pid fd addr n done key is stands used nonblock v done bytes leaves
              (sock_write keyed.keyed key nonblock (v - done)) (puts keyed.keyed keyed.stands) (refused keyed.keyed keyed.stands)))

  -- What it names is a node: that never blocks.
  module _ (found : Found) (none : end_of found.desc.target ≡ None) (opens : asked ≡ answer_on script plain pid of_opened (Some (opened_in numbers found))) where
    pub node_flows : false ≡ blocks (write_ignoring script plain pid fd addr n done)
    node_flows = sym (ap blocks (write_asks ∙ opens) ∙ by_target found.desc.target none)
      where
        neither : (b : Bool) (one two : Answer) → blocks one ≡ false → blocks two ≡ false → blocks (cond b one two) ≡ false
        neither true one two first second = first
        neither false one two first second = second

        wrote_some : (opened : Opened) (at : ℕ) (written : Result (ℕ × Tree) Errno) → blocks (wrote script plain pid opened at written) ≡ false
        wrote_some opened at (Ok written) = refl
        wrote_some opened at (Err errno) = refl

        by_target : (what : Target) → end_of what ≡ None → blocks (of_opened (record { place = numbers.descs found.key; is = record (counted_in numbers found.desc).is { target = target_in numbers what } })) ≡ false
        by_target (target.Inode number) e =
            let opened : Opened = record { place = numbers.descs found.key; is = record (counted_in numbers found.desc).is { target = target_in numbers (target.Inode number) } } in
            neither (is_mapped_range (memory_of plain.table pid) (count_of addr) (count_of n)) _ _
            (neither (count_of n == 0) _ _ refl
            (wrote_some opened (place_of_write plain.files.tree opened number)
            (tree_write plain.files.tree number (place_of_write plain.files.tree opened number) (bytes_left plain pid addr (count_of n) done)))) refl
        by_target (target.Pipe key) e = cc
        by_target (target.Sock key) e = cc
