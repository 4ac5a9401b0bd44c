-- A pipe is made with a Desc for each of its ends: its owners, and what heap and table stand for.
use Rattle.std.proofs.Common.{◌≡◌, ◌≢◌, ◌⊎◌, ℕ, zero, suc, ◌+◌, ◌<◌, ◌==◌, ◌&&◌, ◌++◌, Bool, true, false, List, [], ◌∷◌, length, cond, eqb, count_by, Option, None, Some, IsSome, is_some, refl, sym, ap, subst, ◌∙◌, arith, eq-eqb, ne_eqb, inl, inr, length-append}
use Rattle.std.specs.Prelude.{slice_index_or}
use Rattle.std.proofs.lemmas.Bool.{cases_eq}
use Rattle.std.proofs.lemmas.List.{get_or_at, get_or_past, length-set}
use Rattle.kheap_slabs.specs.Objects.{InUse, object, put}
use Rattle.kheap_slabs.specs.declared.objects.Access.{Access}
use Rattle.kheap_slabs.specs.declared.objects.Access.TheVariants as mode
use Rattle.kheap_slabs.specs.declared.objects.Desc.{Desc}
use Rattle.kheap_slabs.specs.declared.objects.Descriptor.{Descriptor as HeldDescriptor}
use Rattle.kheap_slabs.specs.declared.objects.Pipe.{Pipe as HeldPipe}
use Rattle.kheap_slabs.specs.declared.objects.Sock.{Sock}
use Rattle.kheap_slabs.specs.declared.objects.Target.{Target}
use Rattle.kheap_slabs.specs.declared.objects.Target.TheVariants as target
use Rattle.kheap_slabs.specs.Heap.{Heap}
use Rattle.chunk_queue.specs.Chained.{place_of}
use Rattle.chunk_queue.proofs.HeldLemmas.{HasBytes-same}
use Rattle.open_laws.specs.Described.{AreDescribed, Counted, CountedList, access_in, counted_in, inode_in, target_in, uncounted}
use Rattle.open_laws.specs.Open.{AreOpen, descriptor_by, descriptors_by}
use Rattle.open_laws.specs.Owned.{CountsItsNames, HasItsEnds, HasItsOwners, IsHeldOpen, IsThereFor, all_namings, desc_count, desc_count_at, has_read_end, has_write_end, is_on_pipe, sock_in, socks_named}
use Rattle.open_laws.specs.Piped.{ArePiped}
use Rattle.open_laws.specs.Socketed.{AreSocketed}
use Rattle.open_laws.proofs.DropLemmas.{socketed_on}
use Rattle.open_laws.proofs.OwnerLemmas.{named_by, names}
use Rattle.pipe_ends.specs.Standing.{IsPipeAt, StandsFor}
use Rattle.pipe_ends.proofs.StandingLemmas.{held_len, stands_same as pipe_stands_same}
use Rattle.open_laws.specs.Placed.{Numbers, numbered}
use Rattle.open_laws.proofs.PlaceLemmas.{placed_made, placed_unchanged}
use Rattle.posix_defs.specs.Files.Descriptions.{Description, Descriptions, OnPipe, ReadOnly, WriteOnly, may_read, may_write, new_description}
use Rattle.posix_defs.specs.Files.Descriptors.{Descriptors}
use Rattle.posix_defs.specs.Files.State.{Files, with_descriptions, with_pipes}
use Rattle.posix_defs.specs.Pipe.{new_pipe}
use Rattle.usock_core.specs.Standing.{queue_in}
use Rattle.usock_core.proofs.HeldLemmas.{held_moved}
use Rattle.usock_core.proofs.StandingLemmas.{held_on}
use Rattle.proc_table.specs.Procs.{numbers_in, proc_of}
use Rattle.proc_table.specs.Table.{TableView, procs_at}
use Rattle.proc_table.proofs.PlaceLemmas.{some_same}
use Rattle.proc_numbers.specs.Having.{AreListed, HaveOpen, OpensNoNode, places_in}
use Rattle.proc_numbers.specs.Naming.{places_of}
use Rattle.proc_numbers.specs.Queues.{QueuesStand}
use Rattle.proc_numbers.proofs.Listing.{openings_on}
use Rattle.proc_numbers.proofs.NumberNames.{desc_named}
use Rattle.proc_numbers.proofs.Sums.{count_cons, one_if}
use Rattle.proc_numbers.specs.PipeOpening.{KeepsNumbers, PipeOpens, end_of, with_ends}
use Rattle.proc_numbers.proofs.Made.{counted_on, length_uncounted, longer, made_count, made_described, made_here, made_named, made_others, made_sock, none_counted, uncounted_more, used_apart}

-- a number that was given, and those that stay
given : (number : ℕ → ℕ) (key place : ℕ) → numbered number key place key ≡ place
given number key place = ap (λ b. cond b place (number key)) (eq-eqb key key refl)

kept_by : (number : ℕ → ℕ) (key place other : ℕ) → other ≢ key → numbered number key place other ≡ number other
kept_by number key place other apart = ap (λ b. cond b place (number other)) (ne_eqb other key apart)

nothing_used : {X : Type 0} (o : Option X) → o ≡ None → IsSome o → ⊥
nothing_used None none some = cc
nothing_used (Some x) none some = cc

module _ (old new : Heap) (pipe reading writing : ℕ) (opens : PipeOpens old new pipe reading writing) where
  abbrev first : Desc
  first = end_of pipe mode.Read

  abbrev second : Desc
  second = end_of pipe mode.Write

  abbrev mid : List (Option Desc)
  mid = put old.descs reading first

  mid_within : writing < length mid
  mid_within = subst (λ n. writing < n) (sym (length-set old.descs reading (Some first))) opens.also_within

  pub same_procs : new.procs ≡ old.procs
  same_procs = ap (λ (h : Heap). h.procs) opens.beside

  pub same_leaves : new.leaves ≡ old.leaves
  same_leaves = ap (λ (h : Heap). h.leaves) opens.beside

  same_socks : new.socks ≡ old.socks
  same_socks = ap (λ (h : Heap). h.socks) opens.beside

  same_chunks : new.chunks ≡ old.chunks
  same_chunks = ap (λ (h : Heap). h.chunks) opens.beside

  -- ---- a Desc of the new heap

  pub data Which (key : ℕ) (desc : Desc) : Type 0 where
    is_reading : key ≡ reading → desc ≡ first → Which key desc
    is_writing : key ≡ writing → desc ≡ second → Which key desc
    is_other : key ≢ reading → key ≢ writing → object old.descs key ≡ Some desc → Which key desc

  which : (key : ℕ) (desc : Desc) → object new.descs key ≡ Some desc → Which key desc
  which key desc at = elim (cases_eq key writing) [
    | inl same ↦ is_writing same (some_same (object new.descs key) desc second at (ap (λ (d : List (Option Desc)). object d key) opens.descs ∙ ap (object (put mid writing second)) same ∙ made_here mid writing second opens.also_free mid_within))
    | inr apart ↦
        let in_mid : object mid key ≡ Some desc = sym (made_others mid writing second opens.also_free mid_within key apart) ∙ ap (λ (d : List (Option Desc)). object d key) (sym opens.descs) ∙ at in
        elim (cases_eq key reading) [
          | inl same ↦ is_reading same (some_same (object mid key) desc first in_mid (ap (object mid) same ∙ made_here old.descs reading first opens.free opens.within))
          | inr away ↦ is_other away apart (sym (made_others old.descs reading first opens.free opens.within key away) ∙ in_mid)
        ]
  ]

  pub no_node : OpensNoNode old.descs → OpensNoNode new.descs
  no_node none key desc at = by_which (which key desc at)
    where
      by_which : Which key desc → inode_in desc.target ≡ None
      by_which (is_reading same it) = ap (λ (d : Desc). inode_in d.target) it
      by_which (is_writing same it) = ap (λ (d : Desc). inode_in d.target) it
      by_which (is_other away apart was) = none key desc was

  -- a new pipe has no bytes
  pub queues_made : QueuesStand old new
  queues_made = record {
    pipes = λ key held at some. by_key key held at some (cases_eq key pipe);
    socks = λ key some. ap (λ (s : List (Option Sock)). queue_in (object s key)) same_socks;
  }
    where
      by_key : (key : ℕ) (held : HeldPipe) → object new.pipes key ≡ Some held → 0 < held.queue.len → (key ≡ pipe) ⊎ (key ≢ pipe)
          → (was : HeldPipe) × (object old.pipes key ≡ Some was) × (place_of was.queue ≡ place_of held.queue)
      by_key key held at some (inl same) = absurd (
          let none : held.queue.len ≡ 0 = held_len new pipe held new_pipe 0 (ap (object new.pipes) (sym same) ∙ at) opens.stands in omega (arith, none, some))
      by_key key held at some (inr apart) = (held, sym (opens.pipes key apart) ∙ at, refl)

  -- ---- owners

  module _ (hand : List ℕ) (owners : HasItsOwners old hand) where
    -- no Desc was open on a pipe of that key
    not_on_it : (key : ℕ) (desc : Desc) → object old.descs key ≡ Some desc → is_on_pipe pipe desc.target ≡ false
    not_on_it key desc at = by_target desc.target (owners.held.targets key desc at)
      where
        by_target : (what : Target) → IsThereFor old desc.access what → is_on_pipe pipe what ≡ false
        by_target (target.Inode number) there = refl
        by_target (target.Pipe other) there = ne_eqb other pipe (λ same. nothing_used (object old.pipes other) (ap (object old.pipes) same ∙ opens.vacant) there.0)
        by_target (target.Sock sock) there = refl

    pipe_apart : (other : ℕ) → InUse old.pipes other → other ≢ pipe
    pipe_apart other used same = nothing_used (object old.pipes other) (ap (object old.pipes) same ∙ opens.vacant) used

    named_now : CountsItsNames new (reading ∷ writing ∷ hand)
    named_now = record {
      counts = λ key.
          let one = made_named old.descs reading first opens.free opens.within key in
          let other = made_named mid writing second opens.also_free mid_within key in
          let in_new : desc_count_at new.descs key ≡ desc_count_at (put mid writing second) key = ap (λ (d : List (Option Desc)). desc_count_at d key) opens.descs in
          let before = owners.named.counts key in
          let in_procs : all_namings new key ≡ all_namings old key = ap (λ (h : Heap). all_namings h key) opens.beside in
          let hand_one = count_cons (λ k. k == key) reading (writing ∷ hand) in
          let hand_other = count_cons (λ k. k == key) writing hand in
          omega (arith, one, other, in_new, before, in_procs, hand_one, hand_other);
      named = λ key used. by_desc key (object new.descs key) refl used;
    }
      where
        counted : (key : ℕ) (desc : Desc) → Which key desc → 0 < desc.count
        counted key desc (is_reading same it) = subst (λ (d : Desc). 0 < d.count) (sym it) (omega arith)
        counted key desc (is_writing same it) = subst (λ (d : Desc). 0 < d.count) (sym it) (omega arith)
        counted key desc (is_other away apart was) = subst (λ o. 0 < desc_count o) was (owners.named.named key (ap is_some was))

        by_desc : (key : ℕ) (o : Option Desc) → object new.descs key ≡ o → IsSome o → 0 < desc_count_at new.descs key
        by_desc key None none used = cc
        by_desc key (Some desc) at used = subst (λ o. 0 < desc_count o) (sym at) (counted key desc (which key desc at))

    -- how many Descs a test counts
    count_now : (test : Option Desc → Bool) → test None ≡ false → count_by test new.descs ≡ count_by test old.descs + one_if (test (Some first)) + one_if (test (Some second))
    count_now test none =
        let one = made_count old.descs reading first opens.free opens.within test none in
        let other = made_count mid writing second opens.also_free mid_within test none in
        let in_new : count_by test new.descs ≡ count_by test (put mid writing second) = ap (count_by test) opens.descs in
        omega (arith, one, other, in_new)

    ends_of_it : HasItsEnds new.descs pipe opens.stands.held
    ends_of_it =
        let readers = count_now (has_read_end pipe) refl in
        let writers = count_now (has_write_end pipe) refl in
        let no_reader = none_counted (has_read_end pipe) old.descs refl (λ key desc at. ap (λ b. b && may_read (access_in desc.access)) (not_on_it key desc at)) in
        let no_writer = none_counted (has_write_end pipe) old.descs refl (λ key desc at. ap (λ b. b && may_write (access_in desc.access)) (not_on_it key desc at)) in
        let on = eq-eqb pipe pipe refl in
        let first_reads : one_if (has_read_end pipe (Some first)) ≡ 1 = ap (λ b. one_if (b && true)) on in
        let second_reads : one_if (has_read_end pipe (Some second)) ≡ 0 = ap (λ b. one_if (b && false)) on in
        let first_writes : one_if (has_write_end pipe (Some first)) ≡ 0 = ap (λ b. one_if (b && false)) on in
        let second_writes : one_if (has_write_end pipe (Some second)) ≡ 1 = ap (λ b. one_if (b && true)) on in
        let r : opens.stands.held.readers ≡ 1 = opens.stands.readers in
        let w : opens.stands.held.writers ≡ 1 = opens.stands.writers in
        record {
          readers = omega (arith, readers, no_reader, first_reads, second_reads, r);
          writers = omega (arith, writers, no_writer, first_writes, second_writes, w);
          some_end = omega (arith, r, w);
        }

    ends_of_others : (other : ℕ) (held : HeldPipe) → other ≢ pipe → HasItsEnds old.descs other held → HasItsEnds new.descs other held
    ends_of_others other held apart ends =
        let off : eqb pipe other ≡ false = ne_eqb pipe other (λ same. apart (sym same)) in
        let readers = count_now (has_read_end other) refl in
        let writers = count_now (has_write_end other) refl in
        let first_reads : one_if (has_read_end other (Some first)) ≡ 0 = ap (λ b. one_if (b && true)) off in
        let second_reads : one_if (has_read_end other (Some second)) ≡ 0 = ap (λ b. one_if (b && false)) off in
        let first_writes : one_if (has_write_end other (Some first)) ≡ 0 = ap (λ b. one_if (b && false)) off in
        let second_writes : one_if (has_write_end other (Some second)) ≡ 0 = ap (λ b. one_if (b && true)) off in
        let r = ends.readers in
        let w = ends.writers in
        record {
          readers = omega (arith, readers, first_reads, second_reads, r);
          writers = omega (arith, writers, first_writes, second_writes, w);
          some_end = ends.some_end;
        }

    target_now : (access : Access) (what : Target) → IsThereFor old access what → IsThereFor new access what
    target_now access (target.Inode number) there = tt
    target_now access (target.Pipe other) there = (subst IsSome (sym (opens.pipes other (pipe_apart other there.0))) there.0, there.1)
    target_now access (target.Sock sock) there = subst (λ (s : List (Option Sock)). InUse s sock) (sym same_socks) there

    it_is_there : (access : Access) → access ≢ mode.Both → IsThereFor new access (target.Pipe pipe)
    it_is_there access one = (ap is_some opens.stands.there, one)

    sock_now : (key : ℕ) → sock_in (object new.descs key) ≡ sock_in (object old.descs key)
    sock_now key =
        ap (λ (d : List (Option Desc)). sock_in (object d key)) opens.descs
        ∙ made_sock mid writing second opens.also_free mid_within refl key
        ∙ made_sock old.descs reading first opens.free opens.within refl key

    held_now : IsHeldOpen new
    held_now = record {
      targets = λ key desc at. there_for key desc (which key desc at);
      pipes = λ other held at. ends other held at (cases_eq other pipe);
      stand = λ other used. stands other used (cases_eq other pipe);
      socks = held_moved new (socks_named old.descs) (socks_named new.descs)
          (λ s among. let by = names old.descs s among in named_by new.descs by.0 s (sock_now by.0 ∙ by.1))
          (λ s among. let by = names new.descs s among in named_by old.descs by.0 s (sym (sock_now by.0) ∙ by.1))
          (held_on old new (socks_named old.descs) same_socks (λ key sock bytes is has. HasBytes-same old new sock.queue bytes same_chunks has) owners.held.socks);
      once = λ one other sock at also. owners.held.once one other sock (sym (sock_now one) ∙ at) (sym (sock_now other) ∙ also);
    }
      where
        there_for : (key : ℕ) (desc : Desc) → Which key desc → IsThereFor new desc.access desc.target
        there_for key desc (is_reading same it) = subst (λ (d : Desc). IsThereFor new d.access d.target) (sym it) (it_is_there mode.Read (λ e. cc))
        there_for key desc (is_writing same it) = subst (λ (d : Desc). IsThereFor new d.access d.target) (sym it) (it_is_there mode.Write (λ e. cc))
        there_for key desc (is_other away apart was) = target_now desc.access desc.target (owners.held.targets key desc was)

        ends : (other : ℕ) (held : HeldPipe) → object new.pipes other ≡ Some held → (other ≡ pipe) ⊎ (other ≢ pipe) → HasItsEnds new.descs other held
        ends other held at (inl same) =
            let it : held ≡ opens.stands.held = some_same (object new.pipes pipe) held opens.stands.held (ap (object new.pipes) (sym same) ∙ at) opens.stands.there in
            subst (λ k. HasItsEnds new.descs k held) (sym same) (subst (HasItsEnds new.descs pipe) (sym it) ends_of_it)
        ends other held at (inr apart) = ends_of_others other held apart (owners.held.pipes other held (sym (opens.pipes other apart) ∙ at))

        stands : (other : ℕ) → InUse new.pipes other → (other ≡ pipe) ⊎ (other ≢ pipe) → IsPipeAt new other
        stands other used (inl same) = subst (IsPipeAt new) (sym same) (new_pipe, 0, opens.stands)
        stands other used (inr apart) =
            let before = owners.held.stand other (subst IsSome (opens.pipes other apart) used) in
            (before.0, before.1, pipe_stands_same old new other before.0 before.1 (opens.pipes other apart) same_chunks before.2)

    pub owners_made : HasItsOwners new (reading ∷ writing ∷ hand)
    owners_made = record { objects = opens.objects; named = named_now; held = held_now }

    -- ---- what it stands for

    module _ (numbers : Numbers) (list : CountedList) (files : Files) (are : AreOpen numbers old list files) where
      abbrev pub now : Numbers
      now = with_ends numbers files pipe reading writing

      abbrev read_end : Description
      read_end = new_description (OnPipe (length files.pipes)) ReadOnly

      abbrev write_end : Description
      write_end = new_description (OnPipe (length files.pipes)) WriteOnly

      -- the machine with the pipe and the descriptions of its ends
      abbrev pub files_made : Files
      files_made = with_descriptions (with_pipes files (files.pipes ++ Some new_pipe ∷ [])) ((files.descriptions ++ Some read_end ∷ []) ++ Some write_end ∷ [])

      -- the places of the two descriptions
      pub at_reading : now.descs reading ≡ length files.descriptions
      at_reading =
          kept_by (numbered numbers.descs reading (length files.descriptions)) writing (length files.descriptions + 1) reading
          (used_apart mid writing second opens.also_free mid_within reading (ap is_some (made_here old.descs reading first opens.free opens.within)))
          ∙ given numbers.descs reading (length files.descriptions)

      pub at_writing : now.descs writing ≡ length files.descriptions + 1
      at_writing = given (numbered numbers.descs reading (length files.descriptions)) writing (length files.descriptions + 1)

      pub keeps : KeepsNumbers old numbers now
      keeps = record {
        descs = λ key used.
            kept_by (numbered numbers.descs reading (length files.descriptions)) writing (length files.descriptions + 1) key
            (λ same. used_apart mid writing second opens.also_free mid_within key (still key used) same)
            ∙ kept_by numbers.descs reading (length files.descriptions) key (used_apart old.descs reading first opens.free opens.within key used);
        pipes = λ key used. kept_by numbers.pipes pipe (length files.pipes) key (pipe_apart key used);
        socks = λ key used. refl;
        frames = refl;
      }
        where
          still : (key : ℕ) → InUse old.descs key → InUse mid key
          still key used = subst IsSome (sym (made_others old.descs reading first opens.free opens.within key (used_apart old.descs reading first opens.free opens.within key used))) used

      -- the numbers once the pipe has one
      abbrev piped : Numbers
      piped = record numbers { pipes = numbered numbers.pipes pipe (length files.pipes) }

      abbrev reads : Counted
      reads = counted_in piped first

      abbrev writes : Counted
      writes = counted_in piped second

      abbrev pub list_made : CountedList
      list_made = (list ++ Some reads ∷ []) ++ Some writes ∷ []

      -- no description is open on the new pipe yet
      described_first : AreDescribed piped old.descs list
      described_first =
          placed_unchanged (λ k d c. c ≡ counted_in numbers d) (λ k d c. c ≡ counted_in piped d) numbers.descs numbers.descs old.descs old.descs (object list) (object list)
          (λ k. refl) (λ place. refl) (λ k used. refl) (λ k d c at said it. it ∙ ap (counted_on d) (same_target d.access d.target (owners.held.targets k d at))) are.described
        where
          same_target : (access : Access) (what : Target) → IsThereFor old access what → target_in numbers what ≡ target_in piped what
          same_target access (target.Inode number) there = refl
          same_target access (target.Pipe other) there = ap OnPipe (sym (kept_by numbers.pipes pipe (length files.pipes) other (pipe_apart other there.0)))
          same_target access (target.Sock sock) there = refl

      described_both : AreDescribed (record piped { descs = numbered (numbered numbers.descs reading (length list)) writing (length (list ++ Some reads ∷ [])) }) (put mid writing second) list_made
      described_both =
          made_described mid writing second opens.also_free mid_within (record piped { descs = numbered numbers.descs reading (length list) }) (list ++ Some reads ∷ [])
          (made_described old.descs reading first opens.free opens.within piped list described_first)

      same_place : length list ≡ length files.descriptions
      same_place = sym (ap length are.descriptions ∙ length_uncounted list)

      next_place : length (list ++ Some reads ∷ []) ≡ length files.descriptions + 1
      next_place = let more = length-append list (Some reads ∷ []) in let same = same_place in let one : length (Some reads ∷ []) ≡ 1 = refl in omega (arith, more, same, one)

      described_made : AreDescribed now new.descs list_made
      described_made =
          subst (λ (d : List (Option Desc)). AreDescribed now d list_made) (sym opens.descs)
          (subst (λ q. AreDescribed (record piped { descs = numbered (numbered numbers.descs reading (length files.descriptions)) writing q }) (put mid writing second) list_made) next_place
          (subst (λ p. AreDescribed (record piped { descs = numbered (numbered numbers.descs reading p) writing (length (list ++ Some reads ∷ [])) }) (put mid writing second) list_made) same_place
          described_both))

      descriptions_made : files_made.descriptions ≡ uncounted list_made
      descriptions_made =
          ap (λ (d : Descriptions). (d ++ Some read_end ∷ []) ++ Some write_end ∷ []) are.descriptions
          ∙ ap (λ p. (uncounted list ++ Some (new_description (OnPipe p) ReadOnly) ∷ []) ++ Some (new_description (OnPipe p) WriteOnly) ∷ []) (sym (given numbers.pipes pipe (length files.pipes)))
          ∙ sym (uncounted_more (list ++ Some reads ∷ []) writes ∙ ap (λ (d : Descriptions). d ++ Some writes.is ∷ []) (uncounted_more list reads))

      pipes_made : ArePiped now new (files.pipes ++ Some new_pipe ∷ [])
      pipes_made =
          placed_made (λ key held p. (at : ℕ) × StandsFor old key p at) (λ key held p. (at : ℕ) × StandsFor new key p at) numbers.pipes old.pipes new.pipes
          (object files.pipes) (object (files.pipes ++ Some new_pipe ∷ [])) pipe (length files.pipes) opens.stands.held new_pipe opens.vacant opens.stands.there
          (get_or_past files.pipes (length files.pipes) None (omega arith)) (get_or_at files.pipes (Some new_pipe) [] None (length files.pipes) refl) (0, opens.stands)
          (record { objects = opens.pipes; things = longer files.pipes (Some new_pipe) })
          (λ other x y apart at said means. (means.0, pipe_stands_same old new other y means.0 (opens.pipes other apart) same_chunks means.1)) are.piped

      sockets_made : AreSocketed now new files.sockets
      sockets_made =
          let still = socketed_on numbers old new files.sockets same_socks (λ key sock bytes is has. HasBytes-same old new sock.queue bytes same_chunks has) are.socketed in
          record { keyed = still.keyed; stands = still.stands; renamed = still.renamed }

      pub open_made : AreOpen now new list_made files_made
      open_made = record { described = described_made; descriptions = descriptions_made; piped = pipes_made; socketed = sockets_made }

    -- ---- and what processes have open

    module _ (kept : TableView) (listed : AreListed old kept) (numbers : Numbers) (files : Files) (have : HaveOpen numbers old kept files) where
      abbrev then : Numbers
      then = with_ends numbers files pipe reading writing

      same_by : (places : List (Option HeldDescriptor)) → ((fd : ℕ) (held : HeldDescriptor) → slice_index_or places fd None ≡ Some held → then.descs held.desc ≡ numbers.descs held.desc)
          → descriptors_by numbers.descs places ≡ descriptors_by then.descs places
      same_by [] each = refl
      same_by (None ∷ places) each = ap (λ (rest : Descriptors). None ∷ rest) (same_by places (λ fd held is. each (suc fd) held is))
      same_by (Some held ∷ places) each =
          ap (λ place. Some (record { description = place; cloexec = held.close_on_exec }) ∷ descriptors_by numbers.descs places) (sym (each zero held refl))
          ∙ ap (λ (rest : Descriptors). Some (descriptor_by then.descs held) ∷ rest) (same_by places (λ fd one is. each (suc fd) one is))

      pub have_made : HaveOpen then new kept (files_made numbers have.list files have.opened)
      have_made = record {
        list = list_made numbers have.list files have.opened;
        opened = open_made numbers have.list files have.opened;
        descriptors = record {
          each = λ pid.
              have.descriptors.each pid
              ∙ same_by (places_of old kept pid)
              (λ fd held is. let desc = desc_named old kept hand listed owners pid fd held is in (keeps numbers have.list files have.opened).descs held.desc (ap is_some desc.1))
              ∙ ap (λ (h : Heap). descriptors_by then.descs (places_in (numbers_in h) (proc_of (procs_at h.procs kept.listed) pid))) (sym opens.beside);
          made = have.descriptors.made;
          openings = openings_on old new kept files.openings (ap (λ (h : Heap). h.procs) opens.beside) have.descriptors.openings;
        };
      }
