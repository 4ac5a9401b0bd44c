-- What a call that moves bytes changes: the one queue that its number is open on, and of descriptions nothing but an offset.
use Rattle.std.proofs.Common.{◌≡◌, ◌≢◌, ℕ, ◌+◌, ◌-◌, ◌≤◌, ◌==◌, ℤ, pos, Bool, true, false, cond, if◌then◌else◌, length, Option, None, Some, Result, Ok, Err, refl, ap, sym, ◌∙◌, subst, inl, inr, unwrap_or, slice_set}
use Rattle.std.specs.Prelude.{slice_index_or}
use Rattle.std.specs.Option.{option_map}
use Rattle.std.proofs.lemmas.Bool.Decides.{eqb_tells}
use Rattle.std.proofs.lemmas.List.{get_or-set_other, get_or-set_same, get_or_past, length-set}
use Rattle.kern_laws.proofs.TablePlaces.{below_or_not}
use Rattle.kabi_types.specs.Arguments.{argument_fault, count_of}
use Rattle.kabi_types.specs.declared.calls.Call.{Call}
use Rattle.kabi_types.specs.declared.calls.Call.TheVariants as call
use Rattle.kabi_types.specs.declared.errnos.Errno.{Errno}
use Rattle.kabi_types.specs.declared.scripts.Script.{Script}
use Rattle.machine_laws.specs.FileSteps.{LeadsTo}
use Rattle.machine_laws.proofs.Places.{naming}
use Rattle.kabi_types.specs.declared.replies.Reply.TheVariants.{Val}
use Rattle.posix_defs.proofs.SignalLemmas.{of_write}
use Rattle.posix_defs.specs.Answer.{Answer, Blocked, Done, Ended, Part, replied}
use Rattle.posix_defs.specs.Calls.Opened.{Opened, answer_on, on_open, opened_at}
use Rattle.posix_defs.specs.Calls.Reading.{is_directory_target, of_bytes, read, read_from_pipe, read_from_socket, read_target}
use Rattle.posix_defs.specs.Calls.Writing.{bytes_left, did_part, place_of_write, put_in_pipe, put_in_queue, put_in_socket, write, write_ignoring, write_queue, write_target, wrote}
use Rattle.posix_defs.specs.Files.Descriptions.{Target, OnNode, OnPipe, OnSocket, at_offset, may_read, may_write}
use Rattle.posix_defs.specs.Files.State.{Files, descriptors_of, pipe_at, with_pipe, with_sockets, with_tree}
use Rattle.posix_defs.specs.Machine.{machine, unless_wrong}
use Rattle.posix_defs.specs.Memory.{Memory, is_mapped_range, stored}
use Rattle.posix_defs.specs.PathCalls.{read_node}
use Rattle.posix_defs.specs.Pipe.{Moving, Moves, Blocks, Fails, Pipe, after_read, after_write, new_pipe, opens_of, pipe_read, pipe_write}
use Rattle.posix_defs.specs.Plain.{Plain, with_files}
use Rattle.posix_defs.specs.Process.{Table, memory_of, process_at, remembering, with_memory}
use Rattle.posix_defs.specs.Socket.{is_connected}
use Rattle.posix_defs.specs.Sockets.{Sockets, sock_read, sock_write, stage_at}
use Rattle.posix_defs.specs.Tree.{Tree}
use Rattle.posix_defs.specs.TreeChanges.{write as tree_write}
use Rattle.waking_laws.specs.Waking.{meet, moves_through, target_at}
use Rattle.waking_laws.proofs.Kin.{SameKin, same_after, same_table}
use Rattle.waking_laws.proofs.QuietCalls.{remembers_alike, with_another_tree}
use Rattle.waking_laws.proofs.QuietFiles.{KeepsDescribed, KeepsQueues, keeps_on, redescribes, same_sockets}
use Rattle.waking_laws.proofs.Seeing.{SameSockets}

-- What a process waits for is as it was, but for the queue of this target, or where it is a socket for all sockets.
pub record IsMoved (target : Option Target) (pid who : ℕ) (old new : Plain) : Type 0 where
  pub numbers : descriptors_of new.files pid ≡ descriptors_of old.files pid
  pub described : KeepsDescribed old.files new.files
  pub pipes : (place : ℕ) → meet target (Some (OnPipe place)) ≡ false → pipe_at new.files place ≡ pipe_at old.files place
  pub sockets : (place : ℕ) → meet target (Some (OnSocket place)) ≡ false → SameSockets old.files.sockets new.files.sockets
  pub kin : SameKin who old.table new.table
  pub opens : (place : ℕ) (writing : Bool) → opens_of (pipe_at new.files place) writing ≡ opens_of (pipe_at old.files place) writing
  pub locks : new.files.locks ≡ old.files.locks

-- an answer that doesn't end its caller leads to what has this
abbrev pub LastsTo : (Plain → Type 0) → Answer → Type 0
LastsTo P Blocked = Unit {0}
LastsTo P (Done said next) = P next
LastsTo P (Part moved next) = P next
LastsTo P (Ended status next) = Unit {0}

lasting : (P : Plain → Type 0) (given : Answer) → LeadsTo P given → LastsTo P given
lasting P Blocked led = tt
lasting P (Done said next) led = led
lasting P (Part moved next) led = led
lasting P (Ended status next) led = tt

-- the description of each place is there still
all_there : (files : Files) → KeepsDescribed files files
all_there files = λ place was is. (was, is, (refl, refl, refl))

-- a pipe of another place is as it was
other_pipe : (files : Files) (at place : ℕ) (pipe : Option Pipe) → (at == place) ≡ false → pipe_at (with_pipe files at pipe) place ≡ pipe_at files place
other_pipe files at place pipe apart = elim (eqb_tells at place) [
  | inl same ↦ absurd (both same.0 apart)
  | inr other ↦ ap (λ there. unwrap_or there new_pipe) (get_or-set_other files.pipes at place pipe None (λ same. other.1 (sym same)))
]
  where
    both : {b : Bool} → b ≡ true → b ≡ false → ⊥
    both e f = cc

-- each side of a pipe was opened as often where one is moved of
same_opens : (files : Files) (at place : ℕ) (pipe : Pipe) (writing : Bool) → opens_of pipe writing ≡ opens_of (pipe_at files at) writing
    → opens_of (pipe_at (with_pipe files at (Some pipe)) place) writing ≡ opens_of (pipe_at files place) writing
same_opens files at place pipe writing same = elim (eqb_tells place at) [
  | inr apart ↦ ap (λ there. opens_of (unwrap_or there new_pipe) writing) (get_or-set_other files.pipes at place (Some pipe) None apart.1)
  | inl alike ↦ ap (λ n. opens_of (pipe_at (with_pipe files at (Some pipe)) n) writing) alike.1 ∙ elim (below_or_not at (length files.pipes)) [
    | inl within ↦ ap (λ there. opens_of (unwrap_or there new_pipe) writing) (get_or-set_same files.pipes at (Some pipe) None within) ∙ same
    | inr beyond ↦ ap (λ there. opens_of (unwrap_or there new_pipe) writing)
        (get_or_past (slice_set files.pipes at (Some pipe)) at None (subst (λ n. n ≤ at) (sym (length-set files.pipes at (Some pipe))) beyond) ∙ sym (get_or_past files.pipes at None beyond))
  ] ∙ sym (ap (λ n. opens_of (pipe_at files n) writing) alike.1)
]

module _ (script : Script) (plain : Plain) (pid who : ℕ) (apart : who ≢ pid) where
  -- what is asked of an answer of what such a target is open on
  abbrev Moved : Option Target → Answer → Type 0
  Moved target given = LeadsTo (IsMoved target pid who plain) given

  family : SameKin who plain.table plain.table
  family = same_table who plain.table

  remembers : (memory : Memory) → SameKin who plain.table (with_memory plain.table pid memory)
  remembers memory = same_after who pid plain.table (remembering memory (process_at plain.table pid)) apart (remembers_alike memory (process_at plain.table pid))

  -- nothing but the caller's control has changed
  nothing : (target : Option Target) (new : Plain) → new.files ≡ plain.files → new.table ≡ plain.table → IsMoved target pid who plain new
  nothing target new files table = record {
    numbers = ap (λ (it : Files). descriptors_of it pid) files;
    described = subst (λ (it : Files). KeepsDescribed plain.files it) (sym files) (all_there plain.files);
    pipes = λ place e. ap (λ (it : Files). pipe_at it place) files;
    sockets = λ place e. subst (λ (it : Files). SameSockets plain.files.sockets it.sockets) (sym files) (same_sockets plain.files.sockets);
    kin = subst (λ (it : Table). SameKin who plain.table it) (sym table) family;
    opens = λ place writing. ap (λ (it : Files). opens_of (pipe_at it place) writing) files;
    locks = ap (λ (it : Files). it.locks) files;
  }

  -- queues are kept, whatever the target is
  keeping : (target : Option Target) (new : Plain) → descriptors_of new.files pid ≡ descriptors_of plain.files pid → KeepsQueues plain.files new.files
      → SameKin who plain.table new.table → IsMoved target pid who plain new
  keeping target new numbers kept kin = record {
    numbers = numbers;
    described = kept.described;
    pipes = λ place e. kept.pipes place;
    sockets = λ place e. kept.sockets;
    kin = kin;
    opens = λ place writing. ap (λ pipe. opens_of pipe writing) (kept.pipes place);
    locks = kept.locks;
  }

  either : (target : Option Target) (b : Bool) (one two : Answer) → Moved target one → Moved target two → Moved target (cond b one two)
  either target true one two this that = this
  either target false one two this that = that

  opened_moves : (fd : ℤ) (given : Opened → Answer) → ((opened : Opened) → opened_at plain.files pid fd ≡ Some opened → Moved (Some opened.is.target) (given opened))
      → Moved (target_at plain.files pid fd) (on_open script plain pid fd given)
  opened_moves fd given each = go (opened_at plain.files pid fd) refl
    where
      go : (o : Option Opened) → opened_at plain.files pid fd ≡ o → Moved (option_map (λ (it : Opened). it.is.target) o) (answer_on script plain pid given o)
      go None is = nothing None _ refl refl
      go (Some opened) is = each opened is

  of_some_bytes : (target : Option Target) (addr n : ℤ) (given : Answer) → Moved target given → Moved target (of_bytes script plain pid addr n given)
  of_some_bytes target addr n given rest =
      either target (is_mapped_range (memory_of plain.table pid) (count_of addr) (count_of n)) _ _ (either target (count_of n == 0) _ given (nothing target _ refl refl) rest) (nothing target _ refl refl)

  -- ---- queues

  -- the pipe of one place has changed, and what the caller has in memory
  one_pipe : (at : ℕ) (pipe : Pipe) (new : Plain) → new.files ≡ with_pipe plain.files at (Some pipe) → ((writing : Bool) → opens_of pipe writing ≡ opens_of (pipe_at plain.files at) writing)
      → SameKin who plain.table new.table → IsMoved (Some (OnPipe at)) pid who plain new
  one_pipe at pipe new files same kin = record {
    numbers = ap (λ (it : Files). descriptors_of it pid) files;
    described = λ place was is. (was, ap (λ (it : Files). slice_index_or it.descriptions place None) files ∙ is, (refl, refl, refl));
    pipes = λ place e. ap (λ (it : Files). pipe_at it place) files ∙ other_pipe plain.files at place (Some pipe) e;
    sockets = λ place e. subst (λ (it : Files). SameSockets plain.files.sockets it.sockets) (sym files) (same_sockets plain.files.sockets);
    kin = kin;
    opens = λ place writing. ap (λ (it : Files). opens_of (pipe_at it place) writing) files ∙ same_opens plain.files at place pipe writing (same writing);
    locks = ap (λ (it : Files). it.locks) files;
  }

  -- sockets have changed
  some_sockets : (at : ℕ) (sockets : Sockets) (new : Plain) → new.files ≡ with_sockets plain.files sockets → SameKin who plain.table new.table → IsMoved (Some (OnSocket at)) pid who plain new
  some_sockets at sockets new files kin = record {
    numbers = ap (λ (it : Files). descriptors_of it pid) files;
    described = λ place was is. (was, ap (λ (it : Files). slice_index_or it.descriptions place None) files ∙ is, (refl, refl, refl));
    pipes = λ place e. ap (λ (it : Files). pipe_at it place) files;
    sockets = λ place e. absurd (never e);
    kin = kin;
    opens = λ place writing. ap (λ (it : Files). opens_of (pipe_at it place) writing) files;
    locks = ap (λ (it : Files). it.locks) files;
  }
    where
      never : true ≡ false → ⊥
      never e = cc

  -- ---- read

  read_moves : (fd addr n : ℤ) → Moved (target_at plain.files pid fd) (read script plain pid fd addr n)
  unfolding read
  read_moves fd addr n = opened_moves fd _ (λ opened is.
      either (Some opened.is.target) (may_read opened.is.access) _ _
      (either (Some opened.is.target) (is_directory_target plain.files.tree opened.is.target) _ _ (nothing (Some opened.is.target) _ refl refl)
      (of_some_bytes (Some opened.is.target) addr n _ (go opened is opened.is.target)))
      (nothing (Some opened.is.target) _ refl refl))
    where
      from_pipe : (place : ℕ) (moving : Moving) → Moved (Some (OnPipe place)) (read_from_pipe script plain pid place addr moving)
      from_pipe place (Moves k) = one_pipe place (after_read (pipe_at plain.files place) k) _ refl (λ writing. refl) (remembers _)
      from_pipe place Blocks = tt
      from_pipe place (Fails errno) = nothing (Some (OnPipe place)) _ refl refl

      from_socket : (place : ℕ) (moving : Moving) → Moved (Some (OnSocket place)) (read_from_socket script plain pid place addr moving)
      from_socket place (Moves k) = some_sockets place _ _ refl (remembers _)
      from_socket place Blocks = tt
      from_socket place (Fails errno) = nothing (Some (OnSocket place)) _ refl refl

      go : (opened : Opened) → opened_at plain.files pid fd ≡ Some opened → (target : Target) → Moved (Some target) (read_target script plain pid opened addr (count_of n) target)
      go opened is (OnNode number) =
          let offset : ℕ = opened.is.offset + length (read_node plain.files.tree number opened.is.offset (count_of n)) in
          keeping (Some (OnNode number)) _ refl
          (redescribes plain.files opened.place opened.is (at_offset opened.is offset) (let it = naming plain.files pid fd opened is in it.there) (refl, refl, refl))
          (remembers (stored (memory_of plain.table pid) (count_of addr) (read_node plain.files.tree number opened.is.offset (count_of n))))
      go opened is (OnPipe place) = from_pipe place (pipe_read (pipe_at plain.files place) opened.is.nonblock (count_of n))
      go opened is (OnSocket place) = from_socket place (sock_read plain.files.sockets place opened.is.nonblock (count_of n))

  -- ---- write

  -- so many bytes were moved: all, or all that one who doesn't wait gets, or a part
  put_moves : (target : Option Target) (between : Plain) (nonblock : Bool) (n done k : ℕ) → IsMoved target pid who plain between
      → Moved target (put_in_queue script between pid nonblock n done k)
  put_moves target between nonblock n done k moved = go (k == n - done) nonblock
    where
      behind : (new : Plain) → new.files ≡ between.files → new.table ≡ between.table → IsMoved target pid who plain new
      behind new files table = record {
        numbers = ap (λ (it : Files). descriptors_of it pid) files ∙ moved.numbers;
        described = subst (λ (it : Files). KeepsDescribed plain.files it) (sym files) moved.described;
        pipes = λ place e. ap (λ (it : Files). pipe_at it place) files ∙ moved.pipes place e;
        sockets = λ place e. subst (λ (it : Files). SameSockets plain.files.sockets it.sockets) (sym files) (moved.sockets place e);
        kin = subst (λ (it : Table). SameKin who plain.table it) (sym table) moved.kin;
        opens = λ place writing. ap (λ (it : Files). opens_of (pipe_at it place) writing) files ∙ moved.opens place writing;
        locks = ap (λ (it : Files). it.locks) files ∙ moved.locks;
      }

      go : (all early : Bool)
          → Moved target (if all then replied script between pid (Val (pos n)) else (if early then replied script between pid (Val (pos (done + k))) else did_part between pid k))
      go true early = behind _ refl refl
      go false true = behind _ refl refl
      go false false = behind _ refl refl

  queue_moves : (target : Option Target) (nonblock : Bool) (n done : ℕ) (next : ℕ → Files) (moving : Moving)
      → ((k : ℕ) → IsMoved target pid who plain (with_files plain (next k))) → Moved target (write_queue script plain pid nonblock n done next moving)
  queue_moves target nonblock n done next (Moves k) each = put_moves target (with_files plain (next k)) nonblock n done k (each k)
  queue_moves target nonblock n done next Blocks each = tt
  queue_moves target nonblock n done next (Fails errno) each = either target (done == 0) _ _ (nothing target _ refl refl) (nothing target _ refl refl)

  write_moves : (fd addr n : ℤ) (done : ℕ) → Moved (target_at plain.files pid fd) (write_ignoring script plain pid fd addr n done)
  unfolding write_ignoring
  write_moves fd addr n done = opened_moves fd _ (λ opened is.
      either (Some opened.is.target) (may_write opened.is.access) _ _ (of_some_bytes (Some opened.is.target) addr n _ (go opened is opened.is.target))
      (nothing (Some opened.is.target) _ refl refl))
    where
      there : (opened : Opened) → opened_at plain.files pid fd ≡ Some opened → (number at : ℕ) (r : Result (ℕ × Tree) Errno)
          → Moved (Some (OnNode number)) (wrote script plain pid opened at r)
      there opened is number at (Ok written) =
          keeping (Some (OnNode number)) _ refl
          (keeps_on plain.files (with_tree plain.files written.1) _ (with_another_tree plain.files written.1)
          (redescribes (with_tree plain.files written.1) opened.place opened.is (at_offset opened.is (at + written.0))
          (let it = naming plain.files pid fd opened is in it.there) (refl, refl, refl)))
          family
      there opened is number at (Err errno) = nothing (Some (OnNode number)) _ refl refl

      go : (opened : Opened) → opened_at plain.files pid fd ≡ Some opened → (target : Target) → Moved (Some target) (write_target script plain pid opened addr (count_of n) done target)
      go opened is (OnNode number) =
          there opened is number (place_of_write plain.files.tree opened number)
          (tree_write plain.files.tree number (place_of_write plain.files.tree opened number) (bytes_left plain pid addr (count_of n) done))
      go opened is (OnPipe place) =
          queue_moves (Some (OnPipe place)) opened.is.nonblock (count_of n) done (put_in_pipe plain.files place (bytes_left plain pid addr (count_of n) done))
          (pipe_write (pipe_at plain.files place) opened.is.nonblock (count_of n) (count_of n - done)) (λ k.
          one_pipe place (after_write (pipe_at plain.files place) (bytes_left plain pid addr (count_of n) done) k) _ refl (λ writing. refl) family)
      go opened is (OnSocket place) =
          either (Some (OnSocket place)) (is_connected (stage_at plain.files.sockets place)) _ _
          (queue_moves (Some (OnSocket place)) opened.is.nonblock (count_of n) done (put_in_socket plain.files place (bytes_left plain pid addr (count_of n) done))
          (sock_write plain.files.sockets place opened.is.nonblock (count_of n - done)) (λ k. some_sockets place _ _ refl family))
          (nothing (Some (OnSocket place)) _ refl refl)

  -- ---- both

  -- what is asked of one that may end its caller
  abbrev Lasts : Option Target → Answer → Type 0
  Lasts target given = LastsTo (IsMoved target pid who plain) given

  read_lasts : (fd addr n : ℤ) → Lasts (target_at plain.files pid fd) (read script plain pid fd addr n)
  read_lasts fd addr n = lasting (IsMoved (target_at plain.files pid fd) pid who plain) _ (read_moves fd addr n)

  write_lasts : (fd addr n : ℤ) (done : ℕ) → Lasts (target_at plain.files pid fd) (write script plain pid fd addr n done)
  write_lasts fd addr n done = of_write script plain pid fd addr n done (Lasts (target_at plain.files pid fd)) (λ ends. tt)
      (λ goes. lasting (IsMoved (target_at plain.files pid fd) pid who plain) _ (write_moves fd addr n done))

  -- a call whose operands are wrong moves nothing
  right_or_wrong : (target : Option Target) (fault : Option Errno) (given : Answer) → Lasts target given → Lasts target (unless_wrong script plain pid fault given)
  right_or_wrong target None given moved = moved
  right_or_wrong target (Some errno) given moved = nothing target _ refl refl

  number_of : {fd other : ℤ} → Some fd ≡ Some other → fd ≡ other
  number_of e = cc

  pub moves_answer : (which : Call) (fd : ℤ) → moves_through which ≡ Some fd → Lasts (target_at plain.files pid fd) (machine script plain pid which)
  moves_answer (call.Read number addr n) fd e =
      subst (λ it. Lasts (target_at plain.files pid it) (machine script plain pid (call.Read number addr n))) (number_of e)
      (right_or_wrong (target_at plain.files pid number) (argument_fault (call.Read number addr n)) _ (read_lasts number addr n))
  moves_answer (call.Write number addr n done) fd e =
      subst (λ it. Lasts (target_at plain.files pid it) (machine script plain pid (call.Write number addr n done))) (number_of e)
      (right_or_wrong (target_at plain.files pid number) (argument_fault (call.Write number addr n done)) _ (write_lasts number addr n done))
  moves_answer _ fd e = cc
