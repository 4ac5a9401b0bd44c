-- What the machine answers to a call on sockets, and what heap and table have open once one has changed.
use Rattle.std.proofs.Common.{◌≡◌, ◌≢◌, ℕ, ℤ, pos, ◌+◌, ◌<◌, ◌++◌, Bool, true, false, List, [], ◌∷◌, length, Option, None, Some, IsSome, is_some, refl, sym, ap, subst, ◌∙◌, arith, inl, inr, length-append, Contains}
use Rattle.std.proofs.lemmas.Bool.{cases_eq}
use Rattle.std.proofs.lemmas.List.{get_or-set_other}
use Rattle.std.specs.Prelude.{MatchResult, Result, Ok, Err, IsOk, is_ok}
use Rattle.kabi_types.specs.declared.errnos.Errno.{Errno}
use Rattle.kabi_types.specs.declared.errnos.Errno.TheVariants.{EBADF, EMFILE, ENOTSOCK}
use Rattle.kabi_types.specs.declared.replies.Reply.TheVariants.{Pair, Val}
use Rattle.kabi_types.specs.declared.scripts.Script.{Script}
use Rattle.kheap_slabs.specs.Objects.{InUse, object, put}
use Rattle.kheap_slabs.specs.declared.objects.Desc.{Desc}
use Rattle.kheap_slabs.specs.declared.objects.Descriptor.{Descriptor as HeldDescriptor}
use Rattle.kheap_slabs.specs.declared.objects.Target.{Target}
use Rattle.kheap_slabs.specs.declared.objects.Target.TheVariants as target
use Rattle.kheap_slabs.proofs.ObjectLemmas.{InUse-within, object_of}
use Rattle.kheap_slabs.specs.Heap.{Heap}
use Rattle.open_laws.specs.Described.{counted_in, target_in}
use Rattle.open_laws.specs.Owned.{HasItsOwners, sock_in, socks_named}
use Rattle.open_laws.specs.Socketed.{AreRenamed}
use Rattle.open_laws.proofs.OwnerLemmas.{named_by as sock_named_by}
use Rattle.open_laws.specs.Placed.{Numbers, numbered}
use Rattle.posix_defs.specs.Answer.{Answer, Blocked, failed, replied}
use Rattle.posix_defs.specs.Calls.OnSockets.{accept as call_accept, accept_at, accepted_under, description_of, listen as call_listen, listen_at, on_socket, paired, paired_under, resocketed, shutdown as call_shutdown, shutdown_at, socket, socket_target, socketed, socketed_under, socketpair, unless_fault}
use Rattle.posix_defs.specs.Calls.Opened.{Opened}
use Rattle.posix_defs.specs.Files.Descriptors.{lowest_free_from, two_lowest_free}
use Rattle.posix_defs.specs.Files.State.{Files, descriptors_of, with_open, with_sockets}
use Rattle.posix_defs.specs.Machine.{blocks}
use Rattle.posix_defs.specs.Plain.{Plain, with_files}
use Rattle.posix_defs.specs.Socket.{Accepting, Takes, Waits, Refuses, Connected, Idle, Listening, Stage, accept as accept_in, listen_fault, shutdown_fault, waiting_of}
use Rattle.posix_defs.specs.Sockets.{Sockets, sock_at, socket_at, stage_at, after_listen, after_shut, with_new, with_pair}
use Rattle.usock_core.specs.Answers.{Answers as IsFault, accept_would_wait}
use Rattle.usock_core.specs.Standing.{IsSocketIn, LeavesOthers, QueuesStay, StandsFor as SocketsStandFor}
use Rattle.usock_core.proofs.HeldLemmas.{socket_held}
use Rattle.usock_core.proofs.StandingLemmas.{found, free_from}
use Rattle.proc_table.specs.Table.{TableView}
use Rattle.proc_numbers.specs.Having.{HaveOpen}
use Rattle.proc_numbers.specs.Naming.{named_by}
use Rattle.proc_numbers.specs.Queues.{QueuesStand}
use Rattle.proc_numbers.specs.Answering.{Answers, zero_of}
use Rattle.proc_numbers.proofs.Answered.{on_it, on_nothing, refused}
use Rattle.proc_numbers.specs.Finding.{FindsSocket}
use Rattle.proc_numbers.specs.PipeOpening.{KeepsNumbers}
use Rattle.proc_numbers.specs.SocketOpening.{with_both, with_desc, with_sock, with_socks}
use Rattle.proc_numbers.specs.Owning.{SocketsChange}
use Rattle.proc_numbers.specs.declared.finding.OpenSocket.{OpenSocket}
use Rattle.proc_numbers.proofs.Opens.{have_changed}
use Rattle.proc_numbers.proofs.Renaming.{accept_told, accepting_by, listen_renamed, listen_told, new_renamed, new_within, pair_renamed, pair_within, shut_renamed, shut_told, stays}

-- ---- the socket that a number is open on

module _ (numbers : Numbers) (h : Heap) (kept : TableView) (script : Script) (plain : Plain) (pid : ℕ) (have : HaveOpen numbers h kept plain.files) (fd : ℤ) (answer : Opened → ℕ → Answer) where
  pub finds_nothing : named_by h kept pid fd ≡ None → on_socket script plain pid fd answer ≡ failed script plain pid EBADF
  finds_nothing none = on_nothing numbers h kept script plain pid have fd (λ opened. socket_target script plain pid (answer opened) opened.is.target) none

  module _ (held : HeldDescriptor) (desc : Desc) (is : named_by h kept pid fd ≡ Some held) (there : object h.descs held.desc ≡ Some desc) where
    abbrev it : Opened
    it = record { place = numbers.descs held.desc; is = (counted_in numbers desc).is }

    finds : on_socket script plain pid fd answer ≡ socket_target script plain pid (answer it) (target_in numbers desc.target)
    finds = on_it numbers h kept script plain pid have fd held desc is there (λ opened. socket_target script plain pid (answer opened) opened.is.target)

    pub finds_socket : (key : ℕ) (nonblock : Bool) → desc.target ≡ target.Sock key → nonblock ≡ desc.flags.nonblock
        → FindsSocket numbers script plain pid fd answer (Ok (record { key = key; nonblock = nonblock }))
    finds_socket key nonblock on waits = (it, finds ∙ ap (λ what. socket_target script plain pid (answer it) (target_in numbers what)) on, sym waits)

    pub finds_other : ((key : ℕ) → desc.target ≡ target.Sock key → ⊥) → on_socket script plain pid fd answer ≡ failed script plain pid ENOTSOCK
    finds_other never = finds ∙ by_target desc.target never
      where
        by_target : (what : Target) → ((key : ℕ) → what ≡ target.Sock key → ⊥) → socket_target script plain pid (answer it) (target_in numbers what) ≡ failed script plain pid ENOTSOCK
        by_target (target.Inode number) other = refl
        by_target (target.Pipe pipe) other = refl
        by_target (target.Sock key) other = absurd (other key refl)

some_same : {X : Type 0} (o : Option X) (a b : X) → o ≡ Some a → o ≡ Some b → a ≡ b
some_same o a b e f = cc

-- a Desc that is open on a socket names it
pub on_named : (h : Heap) (at key : ℕ) (desc : Desc) → object h.descs at ≡ Some desc → desc.target ≡ target.Sock key → Contains (socks_named h.descs) key
on_named h at key desc is on = sock_named_by h.descs at key (ap sock_in is ∙ ap (λ what. sock_in (Some (record desc { target = what }))) on)

module _ (h : Heap) (hand : List ℕ) (key : ℕ) (owners : HasItsOwners h hand) (named : Contains (socks_named h.descs) key) where
  pub socket_there : IsSocketIn h key
  socket_there = socket_held h (socks_named h.descs) key named owners.held.socks

  pub keyed_there : (keyed : Sockets) → SocketsStandFor h keyed → IsSome (sock_at keyed key)
  keyed_there keyed stands = let o = object_of h.socks key socket_there.used in (found h keyed key o.0 stands.table o.1).there

-- ---- the calls, by the socket that they name

abbrev pub listen_as : Script → Plain → ℕ → Opened → ℕ → Answer
listen_as script plain pid opened = listen_at script plain pid

abbrev pub shutdown_as : Script → Plain → ℕ → ℤ → Opened → ℕ → Answer
shutdown_as script plain pid how opened = shutdown_at script plain pid how

abbrev pub accept_as : Script → Plain → ℕ → Opened → ℕ → Answer
accept_as script plain pid = accept_at script plain pid (lowest_free_from (descriptors_of plain.files pid) 0)

module _ (script : Script) (plain : Plain) (pid : ℕ) (fd : ℤ) where
  pub listen_asks : call_listen script plain pid fd ≡ on_socket script plain pid fd (listen_as script plain pid)
  unfolding call_listen
  listen_asks = refl

  pub shutdown_asks : (how : ℤ) → call_shutdown script plain pid fd how ≡ on_socket script plain pid fd (shutdown_as script plain pid how)
  unfolding call_shutdown
  shutdown_asks how = refl

  pub accept_asks : call_accept script plain pid fd ≡ on_socket script plain pid fd (accept_as script plain pid)
  unfolding call_accept
  accept_asks = refl

-- ---- what an answer leaves

wrong_ok : (X : Type 0) (errno : Errno) → IsOk {T = X} (Err errno) → ⊥
wrong_ok X errno told = cc

wrong_fault : {X : Type 0} (done : X) (errno : Errno) → ◌≡◌ {A = Result X Errno} (Ok done) (Err errno) → ⊥
wrong_fault done errno told = cc

same_errno : (X : Type 0) (a b : Errno) → ◌≡◌ {A = Result X Errno} (Err a) (Err b) → a ≡ b
same_errno X a b e = cc

-- by whether there is a fault
by_fault : {X : Type 0} (Goal : Type 0) (result : Result X Errno) (fault : Option Errno) → IsFault result fault → ((done : X) → result ≡ Ok done → fault ≡ None → Goal)
    → ((errno : Errno) → result ≡ Err errno → fault ≡ Some errno → Goal) → Goal
by_fault Goal (Ok done) None told good bad = good done refl refl
by_fault {X} Goal (Err errno) None told good bad = absurd (wrong_ok X errno told)
by_fault Goal (Ok done) (Some errno) told good bad = absurd (wrong_fault done errno told)
by_fault {X} Goal (Err other) (Some errno) told good bad = bad other refl (ap Some (sym (same_errno X other errno told)))

-- by what it is
good : {X : Type 0} (Y Z : Type 0) (r : Result X Errno) → IsOk r → MatchResult r (λ _. Y) (λ _. Z) → Y
good Y Z (Ok done) ok match = match
good {X} Y Z (Err errno) ok match = absurd (wrong_ok X errno ok)

bad : {X : Type 0} (Y Z : Type 0) (r : Result X Errno) (errno : Errno) → r ≡ Err errno → MatchResult r (λ _. Y) (λ _. Z) → Z
bad Y Z (Ok done) errno is match = absurd (wrong_fault done errno is)
bad Y Z (Err other) errno is match = match

-- ---- a socket changes, and no number does

module _ (numbers : Numbers) (old new : Heap) (kept : TableView) (loose : List ℕ) (change : SocketsChange old new loose) (owners : HasItsOwners old []) (files : Files) (have : HaveOpen numbers old kept files) where
  -- by another table at each place
  pub have_after : (keyed sockets : Sockets) → SocketsStandFor new keyed → AreRenamed numbers.socks keyed sockets → HaveOpen numbers new kept (with_sockets files sockets)
  have_after keyed sockets stands renamed =
      have_changed old new change.others numbers numbers.socks (λ k used. refl) owners.held.targets sockets (record { keyed = keyed; stands = stands; renamed = renamed }) kept files have

module _ (numbers : Numbers) (old new : Heap) (kept : TableView) (script : Script) (plain : Plain) (pid : ℕ) (fd : ℤ) (on : OpenSocket) (owners : HasItsOwners old [])
    (named : Contains (socks_named old.descs) on.key) (change : SocketsChange old new []) (have : HaveOpen numbers old kept plain.files) where
  abbrev keyed : Sockets
  keyed = have.opened.socketed.keyed

  abbrev place : ℕ
  place = numbers.socks on.key

  there : IsSome (sock_at keyed on.key)
  there = keyed_there old [] on.key owners named keyed have.opened.socketed.stands

  -- a call that has one fault of its own, or leaves the socket another one
  settled : {X : Type 0} (call : Answer) (fault keyed_fault : Option Errno) (next : Sockets) (result : Result X Errno) → call ≡ unless_fault script plain pid fault (resocketed script plain pid next)
      → fault ≡ keyed_fault → IsFault result keyed_fault → (IsOk result → HaveOpen numbers new kept (with_sockets plain.files next)) → ((errno : Errno) → result ≡ Err errno → new ≡ old)
      → Answers numbers new kept script plain pid call (zero_of result)
  settled {X} call fault keyed_fault next result is same told stands unchanged =
      by_fault (Answers numbers new kept script plain pid call (zero_of result)) result keyed_fault told
      (λ (done : X) ok none. record {
        files = with_sockets plain.files next;
        replies = is ∙ ap (λ f. unless_fault script plain pid f (resocketed script plain pid next)) (same ∙ none)
            ∙ ap (λ (r : Result X Errno). replied script (with_files plain (with_sockets plain.files next)) pid (zero_of r)) (sym ok);
        stands = stands (ap is_ok ok);
      })
      (λ errno err some. subst (λ (r : Result X Errno). Answers numbers new kept script plain pid call (zero_of r)) (sym err)
      (refused numbers new kept script plain pid call errno
      (is ∙ ap (λ f. unless_fault script plain pid f (resocketed script plain pid next)) (same ∙ some))
      (subst (λ (h : Heap). HaveOpen numbers h kept plain.files) (sym (unchanged errno err)) have)))

  pub listens : {X : Type 0} (result : Result X Errno) → ((answer : Opened → ℕ → Answer) → FindsSocket numbers script plain pid fd answer (Ok on)) → IsFault result (listen_fault (socket_at keyed on.key))
      → MatchResult result (λ _. SocketsStandFor new (after_listen keyed on.key)) (λ _. new ≡ old)
      → Answers numbers new kept script plain pid (call_listen script plain pid fd) (zero_of result)
  unfolding call_listen
  listens result finds_it told stands =
      let it = finds_it (λ opened. listen_at script plain pid) in
      settled (call_listen script plain pid fd) (listen_fault (socket_at plain.files.sockets place)) (listen_fault (socket_at keyed on.key)) (after_listen plain.files.sockets place) result it.1
      (listen_told numbers.socks keyed plain.files.sockets on.key there have.opened.socketed.renamed) told
      (λ ok. have_after numbers old new kept [] change owners plain.files have (after_listen keyed on.key) (after_listen plain.files.sockets place) (good (SocketsStandFor new (after_listen keyed on.key)) (new ≡ old) result ok stands)
      (listen_renamed numbers.socks keyed plain.files.sockets on.key there have.opened.socketed.renamed))
      (λ errno is. bad (SocketsStandFor new (after_listen keyed on.key)) (new ≡ old) result errno is stands)

  pub shuts : {X : Type 0} (how : ℤ) (result : Result X Errno) → ((answer : Opened → ℕ → Answer) → FindsSocket numbers script plain pid fd answer (Ok on)) → IsFault result (shutdown_fault (stage_at keyed on.key))
      → MatchResult result (λ _. SocketsStandFor new (after_shut keyed on.key how)) (λ _. new ≡ old)
      → Answers numbers new kept script plain pid (call_shutdown script plain pid fd how) (zero_of result)
  unfolding call_shutdown
  shuts how result finds_it told stands =
      let it = finds_it (λ opened. shutdown_at script plain pid how) in
      settled (call_shutdown script plain pid fd how) (shutdown_fault (stage_at plain.files.sockets place)) (shutdown_fault (stage_at keyed on.key)) (after_shut plain.files.sockets place how) result it.1
      (shut_told numbers.socks keyed plain.files.sockets on.key there have.opened.socketed.renamed) told
      (λ ok. have_after numbers old new kept [] change owners plain.files have (after_shut keyed on.key how) (after_shut plain.files.sockets place how) (good (SocketsStandFor new (after_shut keyed on.key how)) (new ≡ old) result ok stands)
      (shut_renamed numbers.socks keyed plain.files.sockets on.key there have.opened.socketed.renamed how))
      (λ errno is. bad (SocketsStandFor new (after_shut keyed on.key how)) (new ≡ old) result errno is stands)

-- ---- sockets are made

module _ (script : Script) (plain : Plain) (pid : ℕ) where
  pub socket_fails : lowest_free_from (descriptors_of plain.files pid) 0 ≡ None → socket script plain pid ≡ failed script plain pid EMFILE
  unfolding socket
  socket_fails none = ap (socketed_under script plain pid) none

  pub socket_makes : (fd : ℕ) → lowest_free_from (descriptors_of plain.files pid) 0 ≡ Some fd → socket script plain pid ≡ replied script (with_files plain (socketed plain.files pid fd)) pid (Val (pos fd))
  unfolding socket
  socket_makes fd some = ap (socketed_under script plain pid) some

  pub pair_fails : two_lowest_free (descriptors_of plain.files pid) ≡ None → socketpair script plain pid ≡ failed script plain pid EMFILE
  unfolding socketpair
  pair_fails none = ap (paired_under script plain pid) none

  pub pair_makes : (first second : ℕ) → two_lowest_free (descriptors_of plain.files pid) ≡ Some (record { first = first; second = second })
      → socketpair script plain pid ≡ replied script (with_files plain (paired plain.files pid (record { first = first; second = second }))) pid (Pair first second)
  unfolding socketpair
  pair_makes first second some = ap (paired_under script plain pid) some

-- ---- numbers

pub keeps_same : (old : Heap) (numbers : Numbers) → KeepsNumbers old numbers numbers
keeps_same old numbers = record { descs = λ key used. refl; pipes = λ key used. refl; socks = λ key used. refl; frames = refl }

unused : {X : Type 0} (objects : List (Option X)) (key other : ℕ) → object objects key ≡ None → InUse objects other → other ≢ key
unused objects key other vacant used same = none (object objects other) (ap (object objects) same ∙ vacant) used
  where
    none : {X : Type 0} (o : Option X) → o ≡ None → IsSome o → ⊥
    none None is some = cc
    none (Some x) is some = cc

pub keeps_desc : (old : Heap) (before after : Numbers) (files : Files) (key : ℕ) → object old.descs key ≡ None → KeepsNumbers old before after → KeepsNumbers old before (with_desc after files key)
keeps_desc old before after files key vacant keeps = record {
  descs = λ other used. stays after.descs key (length files.descriptions) other (unused old.descs key other vacant used) ∙ keeps.descs other used;
  pipes = keeps.pipes;
  socks = keeps.socks;
  frames = keeps.frames;
}

pub keeps_sock : (old : Heap) (numbers : Numbers) (files : Files) (key : ℕ) → object old.socks key ≡ None → KeepsNumbers old numbers (with_sock numbers files key)
keeps_sock old numbers files key vacant = record {
  descs = λ other used. refl;
  pipes = λ other used. refl;
  socks = λ other used. stays numbers.socks key (length files.sockets) other (unused old.socks key other vacant used);
  frames = refl;
}

pub keeps_socks : (old : Heap) (numbers : Numbers) (files : Files) (one other : ℕ) → object old.socks one ≡ None → object old.socks other ≡ None → KeepsNumbers old numbers (with_socks numbers files one other)
keeps_socks old numbers files one other vacant also_vacant = record {
  descs = λ key used. refl;
  pipes = λ key used. refl;
  socks = λ key used.
      stays (numbered numbers.socks one (length files.sockets)) other (length files.sockets + 1) key (unused old.socks other key also_vacant used)
      ∙ stays numbers.socks one (length files.sockets) key (unused old.socks one key vacant used);
  frames = refl;
}

-- a key that is free once another was used was free before
pub free_before : (old new : Heap) (one other : ℕ) (desc : Desc) → object old.descs one ≡ None → new.descs ≡ put old.descs one desc → object new.descs other ≡ None → object old.descs other ≡ None
free_before old new one other desc free is vacant = elim (cases_eq other one) [
  | inl same ↦ ap (object old.descs) same ∙ free
  | inr apart ↦ sym (get_or-set_other old.descs one other (Some desc) None apart) ∙ ap (λ d. object d other) (sym is) ∙ vacant
]

-- ---- what a change of sockets leaves

pub vacant_changed : (old new : Heap) → LeavesOthers old new → (key : ℕ) → object new.descs key ≡ None → object old.descs key ≡ None
vacant_changed old new others key vacant = ap (λ (h : Heap). object h.descs key) (sym others.kept) ∙ vacant

pub beside_changed : (old new : Heap) → LeavesOthers old new
    → new ≡ record old { procs = new.procs; leaves = new.leaves; descs = new.descs; pipes = new.pipes; chunks = new.chunks; socks = new.socks; high = new.high }
beside_changed old new others =
    subst (λ (h : Heap). h ≡ record old { procs = h.procs; leaves = h.leaves; descs = h.descs; pipes = h.pipes; chunks = h.chunks; socks = h.socks; high = h.high }) (sym others.kept) refl

pub queues_changed : (old new : Heap) → LeavesOthers old new → QueuesStay old new → QueuesStand old new
queues_changed old new others stay = record {
  pipes = λ key pipe at some. (pipe, ap (λ (h : Heap). object h.pipes key) (sym others.kept) ∙ at, refl);
  socks = stay;
}

-- ---- what heap and table have open, once sockets are made

module _ (numbers : Numbers) (old new : Heap) (kept : TableView) (others : LeavesOthers old new) (owners : HasItsOwners old []) (files : Files) (have : HaveOpen numbers old kept files) where
  abbrev by_key : Sockets
  by_key = have.opened.socketed.keyed

  -- a key that was free is no socket's
  free_keyed : (key : ℕ) → object old.socks key ≡ None → sock_at by_key key ≡ None
  free_keyed key vacant = free_from old by_key key have.opened.socketed.stands.table vacant

  -- and one that is in use has its place in the table
  within_table : (key : ℕ) (sockets : Sockets) → InUse new.socks key → SocketsStandFor new sockets → key < length sockets
  within_table key sockets used stands = let long = stands.table.places in let within = InUse-within new.socks key used in omega (arith, within, long)

  pub have_socket : (key : ℕ) → object old.socks key ≡ None → InUse new.socks key → ((sockets : Sockets) → SocketsStandFor old sockets → SocketsStandFor new (with_new sockets key))
      → HaveOpen (with_sock numbers files key) new kept (with_sockets files (with_new files.sockets (length files.sockets)))
  have_socket key vacant used stands =
      have_changed old new others numbers (with_sock numbers files key).socks (keeps_sock old numbers files key vacant).socks owners.held.targets (with_new files.sockets (length files.sockets))
      (record {
        keyed = with_new by_key key;
        stands = stands by_key have.opened.socketed.stands;
        renamed = new_renamed numbers.socks by_key files.sockets have.opened.socketed.stands.linked have.opened.socketed.renamed key (free_keyed key vacant)
            (new_within by_key key (within_table key (with_new by_key key) used (stands by_key have.opened.socketed.stands)));
      })
      kept files have

  pub have_pair : (one other : ℕ) → object old.socks one ≡ None → InUse new.socks one → object old.socks other ≡ None → InUse new.socks other → one ≢ other
      → ((sockets : Sockets) → SocketsStandFor old sockets → SocketsStandFor new (with_pair sockets one other))
      → HaveOpen (with_socks numbers files one other) new kept (with_sockets files (with_pair files.sockets (length files.sockets) (length files.sockets + 1)))
  have_pair one other vacant used also_vacant also_used apart stands =
      let then = stands by_key have.opened.socketed.stands in
      let within = pair_within by_key one other (within_table one (with_pair by_key one other) used then) (within_table other (with_pair by_key one other) also_used then) apart in
      have_changed old new others numbers (with_socks numbers files one other).socks (keeps_socks old numbers files one other vacant also_vacant).socks owners.held.targets
      (with_pair files.sockets (length files.sockets) (length files.sockets + 1))
      (record {
        keyed = with_pair by_key one other;
        stands = then;
        renamed = pair_renamed numbers.socks by_key files.sockets have.opened.socketed.stands.linked have.opened.socketed.renamed one other (free_keyed one vacant) within.0 (free_keyed other also_vacant) within.1 apart;
      })
      kept files have

-- both descriptions, and then both numbers
pub paired_so : (files : Files) (pid first second here there : ℕ) → here ≡ length files.descriptions → there ≡ length files.descriptions + 1
    → paired files pid (record { first = first; second = second })
    ≡ with_open (with_open (with_both files) pid first (Some (record { description = here; cloexec = false }))) pid second (Some (record { description = there; cloexec = false }))
paired_so files pid first second here there here_is there_is =
    ap (λ n. with_open (with_open (with_both files) pid first (Some (record { description = length files.descriptions; cloexec = false }))) pid second (Some (record { description = n; cloexec = false })))
    (let more = length-append files.descriptions (Some (description_of (length files.sockets)) ∷ []) in
    let single : length (Some (description_of (length files.sockets)) ∷ []) ≡ 1 = refl in
    let same : length (files.descriptions ++ Some (description_of (length files.sockets)) ∷ []) ≡ there = omega (arith, more, single, there_is) in same)
    ∙ ap (λ n. with_open (with_open (with_both files) pid first (Some (record { description = n; cloexec = false }))) pid second (Some (record { description = there; cloexec = false }))) (sym here_is)

-- ---- one that waits is taken

module _ (numbers : Numbers) (old : Heap) (kept : TableView) (script : Script) (plain : Plain) (pid : ℕ) (fd : ℤ) (on : OpenSocket) (owners : HasItsOwners old [])
    (named : Contains (socks_named old.descs) on.key) (have : HaveOpen numbers old kept plain.files)
    (finds_it : (answer : Opened → ℕ → Answer) → FindsSocket numbers script plain pid fd answer (Ok on))
    (lowest : Option ℕ) (is_lowest : lowest_free_from (descriptors_of plain.files pid) 0 ≡ lowest) (accepting : Accepting)
    (told : (sockets : Sockets) → SocketsStandFor old sockets → accepting ≡ accept_in (stage_at sockets on.key) (is_some lowest) on.nonblock) where
  -- the machine's answer, by what the heap's is
  pub accept_answer : call_accept script plain pid fd ≡ accepted_under script plain pid (numbers.socks on.key) lowest (accepting_by numbers.socks accepting)
  unfolding call_accept
  accept_answer =
      let it = finds_it (accept_at script plain pid (lowest_free_from (descriptors_of plain.files pid) 0)) in
      let keyed = have.opened.socketed in
      it.1
      ∙ ap (λ o. accepted_under script plain pid (numbers.socks on.key) o (accept_in (stage_at plain.files.sockets (numbers.socks on.key)) (is_some o) it.0.is.nonblock)) is_lowest
      ∙ ap (λ b. accepted_under script plain pid (numbers.socks on.key) lowest (accept_in (stage_at plain.files.sockets (numbers.socks on.key)) (is_some lowest) b)) it.2
      ∙ ap (accepted_under script plain pid (numbers.socks on.key) lowest)
      (accept_told numbers.socks keyed.keyed plain.files.sockets on.key (keyed_there old [] on.key owners named keyed.keyed keyed.stands) keyed.renamed (is_some lowest) on.nonblock
      ∙ ap (accepting_by numbers.socks) (sym (told keyed.keyed keyed.stands)))

-- who is taken waits
takes_waiting : (stage : Stage) (room nonblock : Bool) (taken : ℕ) → Takes taken ≡ accept_in stage room nonblock → Contains (waiting_of stage) taken
takes_waiting Idle room nonblock taken is = cc
takes_waiting (Listening waiting) false nonblock taken is = cc
takes_waiting (Listening []) true true taken is = cc
takes_waiting (Listening []) true false taken is = cc
takes_waiting (Listening (first ∷ rest)) true nonblock taken is = (0, omega arith, let same : first ≡ taken = cc in same)
takes_waiting (Connected peer shut_read shut_write) room nonblock taken is = cc

-- so no Desc is open on it
pub taken_apart : (h : Heap) (key taken : ℕ) (room nonblock : Bool) → HasItsOwners h [] → ((sockets : Sockets) → SocketsStandFor h sockets → Takes taken ≡ accept_in (stage_at sockets key) room nonblock)
    → (at : ℕ) → sock_in (object h.descs at) ≢ Some taken
taken_apart h key taken room nonblock owners told at is =
    let held = owners.held.socks in
    held.held.apart taken (sock_named_by h.descs at taken is) key (takes_waiting (stage_at held.sockets key) room nonblock taken (told held.sockets held.stands))

-- ---- whether an accept would have to wait

pub wont_wait : (numbers : Numbers) (script : Script) (plain : Plain) (pid : ℕ) (fd : ℤ) (result : Result OpenSocket Errno) → ((on : OpenSocket) → result ≡ Ok on → ⊥)
    → FindsSocket numbers script plain pid fd (accept_as script plain pid) result → false ≡ blocks (call_accept script plain pid fd)
wont_wait numbers script plain pid fd (Ok on) never finds_it = absurd (never on refl)
wont_wait numbers script plain pid fd (Err errno) never finds_it = sym (ap blocks (accept_asks script plain pid fd ∙ finds_it))

blocks_by : (script : Script) (plain : Plain) (pid listener : ℕ) (lowest : Option ℕ) (number : ℕ → ℕ) (accepting : Accepting) → blocks (accepted_under script plain pid listener lowest (accepting_by number accepting)) ≡ accept_would_wait accepting
blocks_by script plain pid listener (Some fd) number (Takes taken) = refl
blocks_by script plain pid listener None number (Takes taken) = refl
blocks_by script plain pid listener (Some fd) number Waits = refl
blocks_by script plain pid listener None number Waits = refl
blocks_by script plain pid listener (Some fd) number (Refuses errno) = refl
blocks_by script plain pid listener None number (Refuses errno) = refl

pub accept_sleeps : (numbers : Numbers) (old : Heap) (kept : TableView) (script : Script) (plain : Plain) (pid : ℕ) (fd : ℤ) (on : OpenSocket) (owners : HasItsOwners old []) (named : Contains (socks_named old.descs) on.key)
    (have : HaveOpen numbers old kept plain.files) (finds_it : (answer : Opened → ℕ → Answer) → FindsSocket numbers script plain pid fd answer (Ok on))
    (lowest : Option ℕ) (is_lowest : lowest_free_from (descriptors_of plain.files pid) 0 ≡ lowest) (waits : Bool)
    (told : (sockets : Sockets) → SocketsStandFor old sockets → waits ≡ accept_would_wait (accept_in (stage_at sockets on.key) (is_some lowest) on.nonblock))
    → waits ≡ blocks (call_accept script plain pid fd)
accept_sleeps numbers old kept script plain pid fd on owners named have finds_it lowest is_lowest waits told =
    let keyed = have.opened.socketed in
    let it = finds_it (accept_as script plain pid) in
    let accepting = accept_in (stage_at keyed.keyed on.key) (is_some lowest) on.nonblock in
    told keyed.keyed keyed.stands
    ∙ sym (ap blocks (accept_asks script plain pid fd ∙ it.1
    ∙ ap (λ o. accepted_under script plain pid (numbers.socks on.key) o (accept_in (stage_at plain.files.sockets (numbers.socks on.key)) (is_some o) it.0.is.nonblock)) is_lowest
    ∙ ap (λ b. accepted_under script plain pid (numbers.socks on.key) lowest (accept_in (stage_at plain.files.sockets (numbers.socks on.key)) (is_some lowest) b)) it.2
    ∙ ap (accepted_under script plain pid (numbers.socks on.key) lowest)
    (accept_told numbers.socks keyed.keyed plain.files.sockets on.key (keyed_there old [] on.key owners named keyed.keyed keyed.stands) keyed.renamed (is_some lowest) on.nonblock))
    ∙ blocks_by script plain pid (numbers.socks on.key) lowest numbers.socks accepting)

pub waits_so : (script : Script) (plain : Plain) (pid listener : ℕ) (lowest : Option ℕ) → accepted_under script plain pid listener lowest Waits ≡ Blocked
waits_so script plain pid listener (Some fd) = refl
waits_so script plain pid listener None = refl

pub refuses_so : (script : Script) (plain : Plain) (pid listener : ℕ) (lowest : Option ℕ) (errno : Errno) → accepted_under script plain pid listener lowest (Refuses errno) ≡ failed script plain pid errno
refuses_so script plain pid listener (Some fd) errno = refl
refuses_so script plain pid listener None errno = refl
