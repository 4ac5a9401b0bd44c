-- What a call of `read` is answered, by what its number names: a node, or an end of a queue.
use Rattle.std.proofs.Common.{◌≡◌, ◌≢◌, ℕ, zero, suc, ◌<◌, ◌==◌, ℤ, pos, Bool, true, false, cond, List, [], Option, None, Some, refl, ap, sym, subst, ◌∙◌, arith, eq-eqb, ne_eqb}
use Rattle.std.specs.Option.{option_map}
use Rattle.kabi_types.specs.Arguments.{count_of}
use Rattle.kabi_types.specs.declared.calls.Call.TheVariants as call
use Rattle.kabi_types.specs.declared.errnos.Errno.TheVariants.{EFAULT}
use Rattle.kabi_types.specs.declared.replies.Reply.TheVariants.{Val}
use Rattle.kabi_types.specs.declared.scripts.Script.{Script}
use Rattle.kheap_slabs.specs.Purse.{Purse}
use Rattle.kheap_slabs.specs.declared.objects.Target.{Target}
use Rattle.kheap_slabs.specs.declared.objects.Target.TheVariants as target
use Rattle.kheap_slabs.specs.Heap.{Heap}
use Rattle.chunk_queue.specs.Moving.{would_wait}
use Rattle.open_laws.specs.Described.{counted_in, target_in}
use Rattle.open_laws.specs.Owned.{HasItsOwners}
use Rattle.open_laws.specs.Placed.{Numbers}
use Rattle.posix_defs.specs.Account.{Account}
use Rattle.posix_defs.specs.Answer.{Answer, failed, replied}
use Rattle.posix_defs.specs.Calls.Opened.{Opened, answer_on, if_readable, on_open}
use Rattle.posix_defs.specs.Calls.Reading.{of_bytes, read, read_from_pipe, read_from_socket, read_target, unless_directory}
use Rattle.posix_defs.specs.Files.State.{pipe_at}
use Rattle.posix_defs.specs.Machine.{blocks}
use Rattle.posix_defs.specs.Memory.{is_mapped_range}
use Rattle.posix_defs.specs.Pipe.{Moving, Moves, Blocks, Fails, Pipe, pipe_read}
use Rattle.posix_defs.specs.Plain.{Plain}
use Rattle.posix_defs.specs.Process.{memory_of}
use Rattle.posix_defs.specs.Sockets.{sock_read}
use Rattle.posix_defs.specs.Tree.{is_directory}
use Rattle.posix_defs.specs.declared.turner.Turned.{Turned}
use Rattle.proc_table.specs.Table.{TableView}
use Rattle.proc_numbers.specs.Found.{opened_in}
use Rattle.proc_numbers.specs.PipeMoving.{UnlessMoves, told_read}
use Rattle.proc_numbers.specs.QueueEnds.{Behind, IsOpenEnd, ReadsEnd, StandsBehind, end_of, read_of}
use Rattle.proc_numbers.specs.Spaces.{HasSpace}
use Rattle.proc_numbers.specs.Standing.{IsKept, Leads, StandsFor}
use Rattle.proc_numbers.specs.declared.ends.QueueEnd.{QueueEnd}
use Rattle.proc_numbers.specs.declared.ends.QueueEnd.TheVariants as queue
use Rattle.proc_numbers.specs.declared.lookups.Found.{Found}
use Rattle.proc_numbers.proofs.EndLemmas.{same_end}
use Rattle.proc_numbers.proofs.Putting.{pipe_there}
use Rattle.proc_numbers.proofs.RightBytes.{mapped_at}
use Rattle.proc_numbers.proofs.SocketReads as sock_reads
use Rattle.proc_numbers.proofs.SocketReads.{read_told}
use Rattle.proc_numbers.proofs.Taking as taking
use Rattle.proc_numbers.proofs.Told.{keyed_there}

-- where an answer doesn't block, neither does the choice between it, a reply of nothing, and a fault
pub calm : (script : Script) (plain : Plain) (pid : ℕ) (mapped none : Bool) (answer : Answer) → blocks answer ≡ false
    → blocks (cond mapped (cond none (replied script plain pid (Val (pos 0))) answer) (failed script plain pid EFAULT)) ≡ false
calm script plain pid true true answer is = refl
calm script plain pid true false answer is = is
calm script plain pid false none answer is = refl

module _ (script : Script) (numbers : Numbers) (plain : Plain) (pid : ℕ) (fd addr n : ℤ) where
  -- what a call with this description is answered
  abbrev pub of_opened : Opened → Answer
  of_opened opened = unless_directory script plain pid opened (of_bytes script plain pid addr n (read_target script plain pid opened addr (count_of n) opened.is.target))

  -- the call, by what may be read
  abbrev pub asked : Answer
  asked = on_open script plain pid fd (λ opened. if_readable script plain pid opened (of_opened opened))

  pub read_asks : read script plain pid fd addr n ≡ asked
  unfolding read
  read_asks = refl

  -- the call, where the number is looked up as this one
  pub asks_with : (as_fd : ℤ) (result o : Option Found) → as_fd ≡ fd
      → on_open script plain pid as_fd (λ opened. if_readable script plain pid opened (of_opened opened)) ≡ answer_on script plain pid of_opened (option_map (opened_in numbers) result)
      → result ≡ o → asked ≡ answer_on script plain pid of_opened (option_map (opened_in numbers) o)
  asks_with as_fd result o same found is =
      ap (λ z. on_open script plain pid z (λ opened. if_readable script plain pid opened (of_opened opened))) (sym same)
      ∙ found ∙ ap (λ r. answer_on script plain pid of_opened (option_map (opened_in numbers) r)) is

  -- What the number names is open on an end of a queue.
  module _ (found : Found) (on : QueueEnd) (is_end : end_of found.desc.target ≡ Some on) (opens : asked ≡ answer_on script plain pid of_opened (Some (opened_in numbers found)))
      (start v : ℕ) (v_is : v ≡ count_of n) (begins : 0 < v → start ≡ count_of addr) where
    abbrev nonblock : Bool
    nonblock = found.desc.flags.nonblock

    -- what it comes to in the machine
    moving_at : QueueEnd → ℕ → Moving
    moving_at (queue.Pipe key) m = pipe_read (pipe_at plain.files (numbers.pipes key)) nonblock m
    moving_at (queue.Sock key) m = sock_read plain.files.sockets (numbers.socks key) nonblock m

    -- its answer where its bytes are mapped
    of_end : QueueEnd → ℕ → Answer
    of_end (queue.Pipe key) m = read_from_pipe script plain pid (numbers.pipes key) addr (pipe_read (pipe_at plain.files (numbers.pipes key)) nonblock m)
    of_end (queue.Sock key) m = read_from_socket script plain pid (numbers.socks key) addr (sock_read plain.files.sockets (numbers.socks key) nonblock m)

    pipe_blocks : (place : ℕ) (moving : Moving) → blocks (read_from_pipe script plain pid place addr moving) ≡ would_wait moving
    pipe_blocks place (Moves k) = refl
    pipe_blocks place Blocks = refl
    pipe_blocks place (Fails errno) = refl

    socket_blocks : (place : ℕ) (moving : Moving) → blocks (read_from_socket script plain pid place addr moving) ≡ would_wait moving
    socket_blocks place (Moves k) = refl
    socket_blocks place Blocks = refl
    socket_blocks place (Fails errno) = refl

    -- it blocks where it has to wait
    end_blocks : (which : QueueEnd) (m : ℕ) → blocks (of_end which m) ≡ would_wait (moving_at which m)
    unfolding moving_at of_end
    end_blocks (queue.Pipe key) m = pipe_blocks (numbers.pipes key) (pipe_read (pipe_at plain.files (numbers.pipes key)) nonblock m)
    end_blocks (queue.Sock key) m = socket_blocks (numbers.socks key) (sock_read plain.files.sockets (numbers.socks key) nonblock m)

    on_target : Opened → Target → Answer
    on_target opened what = unless_directory script plain pid (record opened { is = record opened.is { target = target_in numbers what } })
        (of_bytes script plain pid addr n (read_target script plain pid opened addr (count_of n) (target_in numbers what)))

    on_end : (what : Target) → end_of what ≡ Some on → on_target (opened_in numbers found) what ≡ of_bytes script plain pid addr n (of_end on (count_of n))
    unfolding of_end on_target
    on_end (target.Inode number) e = cc
    on_end (target.Pipe key) e =
        subst (λ which. on_target (opened_in numbers found) (target.Pipe key) ≡ of_bytes script plain pid addr n (of_end which (count_of n))) (same_end (queue.Pipe key) on e) refl
    on_end (target.Sock key) e =
        subst (λ which. on_target (opened_in numbers found) (target.Sock key) ≡ of_bytes script plain pid addr n (of_end which (count_of n))) (same_end (queue.Sock key) on e) refl

    by_range : (b : Bool) → is_mapped_range (memory_of plain.table pid) start v ≡ b
        → read script plain pid fd addr n ≡ cond b (cond (v == 0) (replied script plain pid (Val (pos 0))) (of_end on v)) (failed script plain pid EFAULT)
    unfolding on_target
    by_range b tells =
        read_asks ∙ opens
        ∙ on_end found.desc.target is_end
        ∙ ap (λ t. cond t (cond (count_of n == 0) (replied script plain pid (Val (pos 0))) (of_end on (count_of n))) (failed script plain pid EFAULT))
        (ap (is_mapped_range (memory_of plain.table pid) (count_of addr)) (sym v_is) ∙ sym (mapped_at (memory_of plain.table pid) start (count_of addr) v begins) ∙ tells)
        ∙ ap (λ m. cond b (cond (m == 0) (replied script plain pid (Val (pos 0))) (of_end on m)) (failed script plain pid EFAULT)) (sym v_is)

    pub read_unmapped : is_mapped_range (memory_of plain.table pid) start v ≡ false → read script plain pid fd addr n ≡ failed script plain pid EFAULT
    read_unmapped tells = by_range false tells

    pub read_nothing : is_mapped_range (memory_of plain.table pid) start v ≡ true → v ≡ 0 → read script plain pid fd addr n ≡ replied script plain pid (Val (pos 0))
    read_nothing tells none = by_range true tells ∙ ap (λ b. cond b (replied script plain pid (Val (pos 0))) (of_end on v)) (eq-eqb v 0 none)

    read_goes : is_mapped_range (memory_of plain.table pid) start v ≡ true → v ≢ 0 → read script plain pid fd addr n ≡ of_end on v
    read_goes tells some = by_range true tells ∙ ap (λ b. cond b (replied script plain pid (Val (pos 0))) (of_end on v)) (ne_eqb v 0 some)

    module _ (h : Heap) (kept : TableView) (account : Account) (stands : StandsFor numbers h kept plain account) (owners : HasItsOwners h []) (is_open : IsOpenEnd h on) where
      -- what the heap tells of waiting is so in the machine
      waits_so : (which : QueueEnd) → IsOpenEnd h which → (b : Bool) → ((behind : Behind which) (m : ℕ) → StandsBehind h which behind → b ≡ would_wait (read_of which behind nonblock m))
          → b ≡ would_wait (moving_at which v)
      unfolding moving_at
      waits_so (queue.Pipe key) it b tells =
          let behind : Pipe × ℕ = (it.0, it.1) in
          tells behind v it.2 ∙ ap (λ p. would_wait (pipe_read p nonblock v)) (sym (pipe_there numbers h kept plain.files key it.0 it.1 stands.opened it.2))
      waits_so (queue.Sock key) it b tells =
          let keyed = stands.opened.opened.socketed in
          tells keyed.keyed v keyed.stands
          ∙ sym (ap would_wait (read_told numbers.socks keyed.keyed plain.files.sockets key nonblock v keyed.stands.linked keyed.renamed (keyed_there h [] key owners it keyed.keyed keyed.stands)))

      -- whether it would sleep
      pub read_sleeps : is_mapped_range (memory_of plain.table pid) start v ≡ true → v ≢ 0 → (b : Bool)
          → ((behind : Behind on) (m : ℕ) → StandsBehind h on behind → b ≡ would_wait (read_of on behind nonblock m)) → b ≡ blocks (read script plain pid fd addr n)
      read_sleeps tells some b waits = waits_so on is_open b waits ∙ sym (ap blocks (read_goes tells some) ∙ end_blocks on v)

      -- who needn't wait for the queue doesn't sleep, whatever is mapped
      pub read_flows : (b : Bool) → ((behind : Behind on) (m : ℕ) → StandsBehind h on behind → b ≡ would_wait (read_of on behind nonblock m)) → b ≡ false
          → false ≡ blocks (read script plain pid fd addr n)
      read_flows b waits flows =
          sym (ap blocks (by_range (is_mapped_range (memory_of plain.table pid) start v) refl)
          ∙ calm script plain pid (is_mapped_range (memory_of plain.table pid) start v) (v == 0) (of_end on v) (end_blocks on v ∙ sym (waits_so on is_open b waits) ∙ flows))

      -- What it leads to once bytes have moved.
      pub read_leads : is_mapped_range (memory_of plain.table pid) start v ≡ true → v ≢ 0 → (before : Purse) (new : Heap) (after : Purse) (space : List (Option ℕ)) → IsKept h kept → HasSpace h kept pid space
          → (told : Turned) → ((behind : Behind on) → StandsBehind h on behind → told ≡ told_read (read_of on behind nonblock v))
          → ((behind : Behind on) (k : ℕ) → StandsBehind h on behind → read_of on behind nonblock v ≡ Moves k → ReadsEnd h before new after space on start behind k)
          → ((behind : Behind on) → StandsBehind h on behind → UnlessMoves (read_of on behind nonblock v) (new ≡ h))
          → Leads script numbers new kept plain account pid (call.Read fd addr n) (read script plain pid fd addr n) told
      unfolding of_end
      read_leads tells some before new after space is has told so reads refused =
          subst (λ answer. Leads script numbers new kept plain account pid (call.Read fd addr n) answer told) (sym (read_goes tells some)) (by_end on is_open so reads refused)
        where
          positive : (m : ℕ) → m ≢ 0 → 0 < m
          positive zero some = absurd (some refl)
          positive (suc m) some = omega arith

          by_end : (which : QueueEnd) → IsOpenEnd h which → ((behind : Behind which) → StandsBehind h which behind → told ≡ told_read (read_of which behind nonblock v))
              → ((behind : Behind which) (k : ℕ) → StandsBehind h which behind → read_of which behind nonblock v ≡ Moves k → ReadsEnd h before new after space which start behind k)
              → ((behind : Behind which) → StandsBehind h which behind → UnlessMoves (read_of which behind nonblock v) (new ≡ h))
              → Leads script numbers new kept plain account pid (call.Read fd addr n) (of_end which v) told
          by_end (queue.Pipe key) it so reads refused =
              let behind : Pipe × ℕ = (it.0, it.1) in
              subst (Leads script numbers new kept plain account pid (call.Read fd addr n) (of_end (queue.Pipe key) v)) (sym (so behind it.2))
              (subst (λ p. Leads script numbers new kept plain account pid (call.Read fd addr n) (read_from_pipe script plain pid (numbers.pipes key) addr (pipe_read p nonblock v)) (told_read (pipe_read it.0 nonblock v)))
              (sym (pipe_there numbers h kept plain.files key it.0 it.1 stands.opened it.2))
              (taking.leads_taken h before new after kept pid space key start v nonblock is has it.0 it.1 it.2 script numbers plain account stands fd addr n (begins (positive v some)) (positive v some)
              (pipe_read it.0 nonblock v) refl (λ k. reads behind k it.2) (refused behind it.2)))
          by_end (queue.Sock key) it so reads refused =
              let keyed = stands.opened.opened.socketed in
              let used = keyed_there h [] key owners it keyed.keyed keyed.stands in
              subst (Leads script numbers new kept plain account pid (call.Read fd addr n) (of_end (queue.Sock key) v)) (sym (so keyed.keyed keyed.stands))
              (subst (λ moving. Leads script numbers new kept plain account pid (call.Read fd addr n) (read_from_socket script plain pid (numbers.socks key) addr moving) (told_read (sock_read keyed.keyed key nonblock v)))
              (sym (read_told numbers.socks keyed.keyed plain.files.sockets key nonblock v keyed.stands.linked keyed.renamed used))
              (sock_reads.leads_taken h before new after kept pid space key start v nonblock is has keyed.keyed keyed.stands used script numbers plain account stands refl fd addr n
              (begins (positive v some)) (positive v some) (sock_read keyed.keyed key nonblock v) refl (λ k. reads keyed.keyed k keyed.stands) (refused keyed.keyed keyed.stands)))

  -- What it names is a node: that never blocks.
  module _ (found : Found) (none : end_of found.desc.target ≡ None) (opens : asked ≡ answer_on script plain pid of_opened (Some (opened_in numbers found))) where
    pub node_flows : false ≡ blocks (read script plain pid fd addr n)
    node_flows = sym (ap blocks (read_asks ∙ opens) ∙ by_target found.desc.target none)
      where
        -- of two answers that don't block none does
        neither : (b : Bool) (one two : Answer) → blocks one ≡ false → blocks two ≡ false → blocks (cond b one two) ≡ false
        neither true one two first second = first
        neither false one two first second = second

        by_target : (what : Target) → end_of what ≡ None → blocks (of_opened (record { place = numbers.descs found.key; is = record (counted_in numbers found.desc).is { target = target_in numbers what } })) ≡ false
        by_target (target.Inode number) e =
            neither (is_directory plain.files.tree number) _ _ refl
            (neither (is_mapped_range (memory_of plain.table pid) (count_of addr) (count_of n)) _ _ (neither (count_of n == 0) _ _ refl refl) refl)
        by_target (target.Pipe key) e = cc
        by_target (target.Sock key) e = cc
