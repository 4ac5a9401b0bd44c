-- The calls that change nothing which another process's call may wait for.
use Rattle.std.proofs.Common.{◌≡◌, ◌≢◌, ℕ, ◌+◌, ◌/◌, ◌≤◌, ◌==◌, ◌&&◌, ◌++◌, [], ◌∷◌, nat_lt, ℤ, pos, negsuc, ◌+ℤ◌, Bool, true, false, cond, List, length, Option, None, Some, Result, Ok, Err, refl, ap, sym, subst, ◌∙◌, ◌<◌, ◌||◌, not, inl, inr, unwrap_or, slice_set}
use Rattle.std.specs.List.{list_any}
use Rattle.std.proofs.lemmas.Bool.Decides.{eqb_tells}
use Rattle.std.proofs.lemmas.List.{get_or-set_same, length-set}
use Rattle.std.proofs.lemmas.List.Folds.{list_any_at}
use Rattle.kabi_types.specs.Arguments.{argument_fault, count_of, is_minus_one, page_size}
use Rattle.kabi_types.specs.declared.calls.Call.{Call}
use Rattle.kabi_types.specs.declared.calls.Call.TheVariants as call
use Rattle.kabi_types.specs.declared.errnos.Errno.{Errno}
use Rattle.kabi_types.specs.declared.replies.StatInfo.{StatInfo}
use Rattle.kabi_types.specs.declared.short_lists.PollEntry.{PollEntry}
use Rattle.kabi_types.specs.declared.scripts.Script.{Script}
use Rattle.machine_laws.specs.FileSteps.{LeadsTo}
use Rattle.machine_laws.proofs.FifoPlaces.{fifo_at_is, not_zero}
use Rattle.machine_laws.proofs.Leading.{leads_on}
use Rattle.machine_laws.proofs.Places.{naming, there_within}
use Rattle.machine_laws.proofs.Stepping.{end_at}
use Rattle.posix_defs.specs.Answer.{Answer, Blocked, Done, Ended, Part}
use Rattle.posix_defs.specs.Calls.OnDescriptors.{dup, duplicated, shared_at}
use Rattle.posix_defs.specs.Calls.OnFiles.{description_for, end_opened, fifo_at, fifo_fault, fifo_pipe, fifo_waits, fstat, ftruncate, greatest_offset, is_between_entries, is_met, lseek, open_at, open_by, open_end, open_file, opened_node_as, opening_of, origin, resized_to, seek_target, seek_to, truncate_target}
use Rattle.posix_defs.specs.Calls.OnLocks.{file_of, getlk, request_of}
use Rattle.posix_defs.specs.Calls.OnLocks as on_locks
use Rattle.posix_defs.specs.Calls.OnNames.{chdir, freed_in, is_busy, link, made_node, mkdir, mkfifo, rename, renamed, retreed, rmdir, stat, told_of, unlink, works_from}
use Rattle.posix_defs.specs.Calls.OnPipes.{pipe, piped, piped_under}
use Rattle.posix_defs.specs.Calls.OnSockets.{bind, bind_at, description_of, bound_to, socket, socket_target, socketed, socketed_under, unless_fault}
use Rattle.posix_defs.specs.Calls.Opened.{Opened, answer_on, on_open, opened_at}
use Rattle.posix_defs.specs.Calls.Polling.{hits_of, poll, revents_of}
use Rattle.posix_defs.specs.Calls.Reading.{list_target, of_bytes, pread, pread_target, readdir}
use Rattle.posix_defs.specs.Calls.Writing.{bytes_left, pwrite, pwrite_target, wrote_at}
use Rattle.posix_defs.specs.Files.Descriptors.{Two, lowest_free, two_lowest_free}
use Rattle.posix_defs.specs.Files.Descriptions.{Description, Target, OnNode, OnPipe, OnSocket, ReadOnly, WriteOnly, access_of, at_offset, has_flag, may_read, may_write, new_description, o_cloexec}
use Rattle.posix_defs.specs.Files.State.{Files, HalfOpen, described_as, descriptors_of, opened_as, opening_at, opens, pipe_at, with_heir, with_opening, with_pipes, with_sockets, with_tree}
use Rattle.posix_defs.specs.Files.Whole.{is_open}
use Rattle.posix_defs.specs.Forking.{fork, is_full}
use Rattle.posix_defs.specs.Machine.{answer_to, machine, unless_wrong}
use Rattle.posix_defs.specs.Memory.{Memory, is_mapped_range, lowest_run, stored, with_pages, without_pages}
use Rattle.posix_defs.specs.MemoryCalls.{in_range, mapped_from, mmap}
use Rattle.posix_defs.specs.Needs.{pages_in, pages_touched}
use Rattle.posix_defs.specs.PathCalls.{bind_path, enter_path, is_fifo, link_path, list_node, read_node, mkdir_path, mkfifo_path, open_path, rename_path, rmdir_path, stat_path, unlink_path}
use Rattle.posix_defs.specs.Pipe.{Pipe, new_pipe, unopened, with_end}
use Rattle.posix_defs.specs.Plain.{Plain}
use Rattle.posix_defs.specs.Process.{Ignores, Process, directory_of, ignores_of, ignoring, memory_of, process_at, remembering, with_memory, working_in}
use Rattle.posix_defs.specs.Signals.{sig_ign, signal, with_disposition}
use Rattle.posix_defs.specs.Socket.{bind_fault}
use Rattle.posix_defs.specs.Sockets.{socket_at, with_name, with_new}
use Rattle.posix_defs.specs.Tree.{Tree, is_directory}
use Rattle.posix_defs.specs.TreeChanges.{resize, write as tree_write}
use Rattle.waking_laws.specs.Waking.{is_fifos, no_fifo, wakes_nobody}
use Rattle.waking_laws.proofs.Kin.{AlikeThere, SameKin, same_after, same_beside_child, same_table}
use Rattle.waking_laws.proofs.QuietFiles.{KeepsQueues, frees_names, keeps, keeps_on, makes_socket, names_socket, opens_one, pipes_one, redescribes, same_sockets}

-- What a process's call may wait for of queues, descriptions and children is as it was.
pub record IsQuiet (who : ℕ) (old new : Plain) : Type 0 where
  pub files : KeepsQueues old.files new.files
  pub kin : SameKin who old.table new.table

pub remembers_alike : (memory : Memory) (there : Option Process) → AlikeThere there (remembering memory there)
remembers_alike memory None = tt
remembers_alike memory (Some process) = (refl, refl)

works_alike : (directory : ℕ) (there : Option Process) → AlikeThere there (working_in directory there)
works_alike directory None = tt
works_alike directory (Some process) = (refl, refl)

ignores_alike : (ignores : Ignores) (there : Option Process) → AlikeThere there (ignoring ignores there)
ignores_alike ignores None = tt
ignores_alike ignores (Some process) = (refl, refl)

-- where that call wakes nobody, whatever is open behind it
abbrev pub QuietIf : ℕ → Plain → Call → Plain → Type 0
QuietIf who old which new = wakes_nobody (no_fifo new.files) which ≡ true → IsQuiet who old new

pub same_files : (files : Files) → KeepsQueues files files
same_files files = keeps files files refl refl refl (same_sockets files.sockets)

pub with_another_tree : (files : Files) (tree : Tree) → KeepsQueues files (with_tree files tree)
with_another_tree files tree = keeps files (with_tree files tree) refl refl refl (same_sockets files.sockets)

-- what holds of all machines holds of what an answer leads to
any_leads : (P : Plain → Type 0) → ((next : Plain) → P next) → (given : Answer) → LeadsTo P given
any_leads P each Blocked = tt
any_leads P each (Done said next) = each next
any_leads P each (Part moved next) = each next
any_leads P each (Ended status next) = each next

-- where an end of a FIFO was opened, one is open
fifo_is_open : (files : Files) (pid : ℕ) (flags : ℤ) (fd number : ℕ) → number ≢ 0 → (at : Option ℕ) → fifo_at files number ≡ at → no_fifo (end_opened files pid flags fd number) ≡ true → ⊥
fifo_is_open files pid flags fd number some at is none = by at is (ap (λ at. no_fifo (end_at files pid flags fd number at)) (sym is) ∙ none)
  where
    no : not true ≡ true → ⊥
    no e = cc

    -- a pipe with the node of the FIFO is that of one
    with_node : (pipe : Pipe) → pipe.node ≡ number → (writing : Bool) → is_fifos (Some (with_end pipe writing)) ≡ true
    with_node pipe of true = ap not (go (pipe.node == 0) refl)
      where
        go : (b : Bool) → (pipe.node == 0) ≡ b → b ≡ false
        go true e = elim (eqb_tells pipe.node 0) [ inl alike ↦ absurd (some (sym of ∙ alike.1)) | inr apart ↦ sym e ∙ apart.0 ]
        go false e = refl
    with_node pipe of false = ap not (go (pipe.node == 0) refl)
      where
        go : (b : Bool) → (pipe.node == 0) ≡ b → b ≡ false
        go true e = elim (eqb_tells pipe.node 0) [ inl alike ↦ absurd (some (sym of ∙ alike.1)) | inr apart ↦ sym e ∙ apart.0 ]
        go false e = refl

    set_there : (place : ℕ) (pipe : Pipe) → place < length files.pipes → is_fifos (Some pipe) ≡ true → list_any is_fifos (slice_set files.pipes place (Some pipe)) ≡ true
    set_there place pipe within is = list_any_at is_fifos (slice_set files.pipes place (Some pipe)) place None
        (subst (λ n. place < n) (sym (length-set files.pipes place (Some pipe))) within)
        (ap is_fifos (get_or-set_same files.pipes place (Some pipe) None within) ∙ is)

    last_there : (pipes : List (Option Pipe)) (pipe : Pipe) → is_fifos (Some pipe) ≡ true → list_any is_fifos (pipes ++ Some pipe ∷ []) ≡ true
    last_there [] pipe is = ap (λ b. b || false) is
    last_there (first ∷ rest) pipe is = ap (λ b. is_fifos first || b) (last_there rest pipe is) ∙ or_true (is_fifos first)
      where
        or_true : (b : Bool) → (b || true) ≡ true
        or_true true = refl
        or_true false = refl

    by : (at : Option ℕ) → fifo_at files number ≡ at → no_fifo (end_at files pid flags fd number at) ≡ true → ⊥
    by (Some place) found e = let fifo = fifo_at_is files number place found in
        no (sym (ap not (set_there place (with_end (pipe_at files place) (may_write (access_of flags))) (there_within files.pipes place fifo.pipe fifo.is)
        (with_node (pipe_at files place) (ap (λ o. (unwrap_or o new_pipe).node) fifo.is ∙ fifo.of) (may_write (access_of flags))))) ∙ e)
    by None found e = no (sym (ap not (last_there files.pipes (with_end (unopened number) (may_write (access_of flags))) (with_node (unopened number) refl (may_write (access_of flags))))) ∙ e)

module _ (script : Script) (plain : Plain) (pid who : ℕ) (apart : who ≢ pid) (made : who ≤ length plain.table) where
  -- what is asked of an answer
  abbrev Quiet : Answer → Type 0
  Quiet given = LeadsTo (IsQuiet who plain) given

  still : KeepsQueues plain.files plain.files
  still = same_files plain.files

  family : SameKin who plain.table plain.table
  family = same_table who plain.table

  remembers : (memory : Memory) → SameKin who plain.table (with_memory plain.table pid memory)
  remembers memory = same_after who pid plain.table (remembering memory (process_at plain.table pid)) apart (remembers_alike memory (process_at plain.table pid))

  either : (b : Bool) (one two : Answer) → Quiet one → Quiet two → Quiet (cond b one two)
  either true one two this that = this
  either false one two this that = that

  opened_quiet : (fd : ℤ) (given : Opened → Answer) → ((opened : Opened) → opened_at plain.files pid fd ≡ Some opened → Quiet (given opened)) → Quiet (on_open script plain pid fd given)
  opened_quiet fd given each = go (opened_at plain.files pid fd) refl
    where
      go : (o : Option Opened) → opened_at plain.files pid fd ≡ o → Quiet (answer_on script plain pid given o)
      go None is = record { files = still; kin = family }
      go (Some opened) is = each opened is

  ranged : (addr : ℤ) (n : ℕ) (given : Answer) → Quiet given → Quiet (in_range script plain pid addr n given)
  ranged addr n given rest = either (is_mapped_range (memory_of plain.table pid) (count_of addr) n) given _ rest (record { files = still; kin = family })

  of_some_bytes : (addr n : ℤ) (given : Answer) → Quiet given → Quiet (of_bytes script plain pid addr n given)
  of_some_bytes addr n given rest = ranged addr (count_of n) _ (either (count_of n == 0) _ given (record { files = still; kin = family }) rest)

  -- ---- processes and memory

  forks : Quiet (fork script plain pid)
  forks = either (is_full plain) _ _ (record { files = still; kin = family }) (record {
    files = keeps plain.files (with_heir plain.files pid) refl refl refl (same_sockets plain.files.sockets);
    kin = same_beside_child who pid plain.table (process_at plain.table pid) apart made;
  })

  maps : (size : ℤ) → Quiet (mmap script plain pid size)
  maps size = go (lowest_run (memory_of plain.table pid) (pages_in (count_of size)))
    where
      go : (o : Option ℕ) → Quiet (mapped_from script plain pid (pages_in (count_of size)) o)
      go None = record { files = still; kin = family }
      go (Some first) = record { files = still; kin = remembers (with_pages (memory_of plain.table pid) first (pages_in (count_of size))) }

  enters : (path : List ℕ) → Quiet (chdir script plain pid path)
  unfolding chdir
  enters path = go (enter_path plain.files.tree (directory_of plain.table pid) path)
    where
      go : (r : Result ℕ Errno) → Quiet (works_from script plain pid r)
      go (Ok number) = record {
        files = same_files plain.files;
        kin = same_after who pid plain.table (working_in number (process_at plain.table pid)) apart (works_alike number (process_at plain.table pid));
      }
      go (Err e) = record { files = still; kin = family }

  disposes : (which disposition : ℤ) → Quiet (signal script plain pid which disposition)
  disposes which disposition =
      let ignores = with_disposition (ignores_of plain.table pid) (count_of which) (sig_ign disposition) in
      record {
        files = same_files plain.files;
        kin = same_after who pid plain.table (ignoring ignores (process_at plain.table pid)) apart (ignores_alike ignores (process_at plain.table pid));
      }

  -- ---- descriptors and descriptions

  dups : (fd : ℤ) → Quiet (dup script plain pid fd)
  unfolding dup
  dups fd = opened_quiet fd _ (λ opened is. go opened (lowest_free (descriptors_of plain.files pid)))
    where
      go : (opened : Opened) (o : Option ℕ) → Quiet (duplicated script plain pid opened o)
      go opened None = record { files = still; kin = family }
      go opened (Some fd) = record { files = keeps plain.files (shared_at plain.files pid opened fd) refl refl refl (same_sockets plain.files.sockets); kin = family }

  moves_offset : (fd : ℤ) (opened : Opened) (offset : ℕ) → opened_at plain.files pid fd ≡ Some opened
      → KeepsQueues plain.files (described_as plain.files opened.place (at_offset opened.is offset))
  moves_offset fd opened offset is =
      redescribes plain.files opened.place opened.is (at_offset opened.is offset) (let it = naming plain.files pid fd opened is in it.there) (refl, refl, refl)

  seeks : (fd offset whence : ℤ) → Quiet (lseek script plain pid fd offset whence)
  unfolding lseek
  seeks fd offset whence = opened_quiet fd _ (λ opened is. go opened is opened.is.target)
    where
      at : (opened : Opened) (number : ℕ) (place : ℤ) → opened_at plain.files pid fd ≡ Some opened → Quiet (seek_to script plain pid opened number place)
      at opened number (negsuc n) is = record { files = still; kin = family }
      at opened number (pos place) is =
          either (nat_lt greatest_offset place) _ _ (record { files = still; kin = family }) (either (is_between_entries plain.files.tree number place) _ _ (record { files = still; kin = family }) (record { files = moves_offset fd opened place is; kin = family }))

      go : (opened : Opened) → opened_at plain.files pid fd ≡ Some opened → (target : Target) → Quiet (seek_target script plain pid opened offset (count_of whence) target)
      go opened is (OnNode number) = at opened number (pos (origin plain.files.tree opened number (count_of whence)) +ℤ offset) is
      go opened is (OnPipe place) = record { files = still; kin = family }
      go opened is (OnSocket place) = record { files = still; kin = family }

  lists : (fd addr n : ℤ) → Quiet (readdir script plain pid fd addr n)
  unfolding readdir
  lists fd addr n = opened_quiet fd _ (λ opened is. go opened is opened.is.target)
    where
      go : (opened : Opened) → opened_at plain.files pid fd ≡ Some opened → (target : Target) → Quiet (list_target script plain pid opened addr n target)
      go opened is (OnNode number) =
          either (is_directory plain.files.tree number) _ _ (ranged addr (count_of n) _ (record {
            files = moves_offset fd opened (opened.is.offset + length (list_node plain.files.tree number opened.is.offset (count_of n))) is;
            kin = remembers (stored (memory_of plain.table pid) (count_of addr) (list_node plain.files.tree number opened.is.offset (count_of n)));
          })) (record { files = still; kin = family })
      go opened is (OnPipe place) = record { files = still; kin = family }
      go opened is (OnSocket place) = record { files = still; kin = family }

  fstats : (fd : ℤ) → Quiet (fstat script plain pid fd)
  unfolding fstat
  fstats fd = opened_quiet fd _ (λ opened is. record { files = still; kin = family })

  preads : (fd addr n at : ℤ) → Quiet (pread script plain pid fd addr n at)
  unfolding pread
  preads fd addr n at = opened_quiet fd _ (λ opened is. either (may_read opened.is.access) _ _ (go opened.is.target) (record { files = still; kin = family }))
    where
      go : (target : Target) → Quiet (pread_target script plain pid addr n (count_of at) target)
      go (OnNode number) = either (is_directory plain.files.tree number) _ _ (record { files = still; kin = family }) (of_some_bytes addr n _ (record { files = still; kin = remembers (stored (memory_of plain.table pid) (count_of addr) (read_node plain.files.tree number (count_of at) (count_of n))) }))
      go (OnPipe place) = record { files = still; kin = family }
      go (OnSocket place) = record { files = still; kin = family }

  pwrites : (fd addr n at : ℤ) → Quiet (pwrite script plain pid fd addr n at)
  unfolding pwrite
  pwrites fd addr n at = opened_quiet fd _ (λ opened is. either (may_write opened.is.access) _ _ (go opened.is.target) (record { files = still; kin = family }))
    where
      there : (r : Result (ℕ × Tree) Errno) → Quiet (wrote_at script plain pid r)
      there (Ok written) = record { files = with_another_tree plain.files written.1; kin = family }
      there (Err e) = record { files = still; kin = family }

      go : (target : Target) → Quiet (pwrite_target script plain pid addr n (count_of at) target)
      go (OnNode number) = either (is_directory plain.files.tree number) _ _ (record { files = still; kin = family })
          (of_some_bytes addr n _ (there (tree_write plain.files.tree number (count_of at) (bytes_left plain pid addr (count_of n) 0))))
      go (OnPipe place) = record { files = still; kin = family }
      go (OnSocket place) = record { files = still; kin = family }

  truncates : (fd size : ℤ) → Quiet (ftruncate script plain pid fd size)
  unfolding ftruncate
  truncates fd size = opened_quiet fd _ (λ opened is. go opened opened.is.target)
    where
      sized : (r : Result Tree Errno) → Quiet (resized_to script plain pid r)
      sized (Ok tree) = record { files = with_another_tree plain.files tree; kin = family }
      sized (Err e) = record { files = still; kin = family }

      go : (opened : Opened) (target : Target) → Quiet (truncate_target script plain pid opened (count_of size) target)
      go opened (OnNode number) = either (is_directory plain.files.tree number) _ _ (record { files = still; kin = family })
          (either (may_write opened.is.access) _ _ (sized (resize plain.files.tree number (count_of size))) (record { files = still; kin = family }))
      go opened (OnPipe place) = record { files = still; kin = family }
      go opened (OnSocket place) = record { files = still; kin = family }

  -- ---- names

  stats : (path : List ℕ) → Quiet (stat script plain pid path)
  unfolding stat
  stats path = go (stat_path plain.files.tree (directory_of plain.table pid) path)
    where
      go : (r : Result StatInfo Errno) → Quiet (told_of script plain pid r)
      go (Ok info) = record { files = still; kin = family }
      go (Err e) = record { files = still; kin = family }

  another_tree : (r : Result Tree Errno) → Quiet (retreed script plain pid r)
  another_tree (Ok tree) = record { files = with_another_tree plain.files tree; kin = family }
  another_tree (Err e) = record { files = still; kin = family }

  makes : (path : List ℕ) → Quiet (mkdir script plain pid path)
  unfolding mkdir
  makes path = go (mkdir_path plain.files.tree (directory_of plain.table pid) path)
    where
      go : (r : Result (ℕ × Tree) Errno) → Quiet (made_node script plain pid r)
      go (Ok there) = another_tree (Ok there.1)
      go (Err e) = record { files = still; kin = family }

  makes_fifo : (path : List ℕ) → Quiet (mkfifo script plain pid path)
  unfolding mkfifo
  makes_fifo path = go (mkfifo_path plain.files.tree (directory_of plain.table pid) path)
    where
      go : (r : Result (ℕ × Tree) Errno) → Quiet (made_node script plain pid r)
      go (Ok there) = another_tree (Ok there.1)
      go (Err e) = record { files = still; kin = family }

  removes : (path : List ℕ) → Quiet (rmdir script plain pid path)
  unfolding rmdir
  removes path = another_tree (rmdir_path plain.files.tree (directory_of plain.table pid) path (is_busy plain))

  links : (old new : List ℕ) → Quiet (link script plain pid old new)
  unfolding link
  links old new = another_tree (link_path plain.files.tree (directory_of plain.table pid) old new)

  frees : (r : Result (Option ℕ × Tree) Errno) → Quiet (freed_in script plain pid r)
  frees (Ok left) = record { files = keeps plain.files (renamed plain.files left.0 left.1) refl refl refl (frees_names plain.files.sockets left.0); kin = family }
  frees (Err e) = record { files = still; kin = family }

  unlinks : (path : List ℕ) → Quiet (unlink script plain pid path)
  unfolding unlink
  unlinks path = frees (unlink_path plain.files.tree (directory_of plain.table pid) path (opens plain.files))

  renames : (old new : List ℕ) → Quiet (rename script plain pid old new)
  unfolding rename
  renames old new = frees (rename_path plain.files.tree (directory_of plain.table pid) old new (opens plain.files) (is_busy plain))

  -- ---- queues that are made

  pipes : Quiet (pipe script plain pid)
  unfolding pipe
  pipes = go (two_lowest_free (descriptors_of plain.files pid))
    where
      go : (o : Option Two) → Quiet (piped_under script plain pid o)
      go None = record { files = still; kin = family }
      go (Some two) =
          let more : Files = with_pipes plain.files (plain.files.pipes ++ Some new_pipe ∷ []) in
          let end : Description = new_description (OnPipe (length plain.files.pipes)) ReadOnly in
          let one : KeepsQueues plain.files (opened_as more pid two.first false end) =
          keeps_on plain.files more (opened_as more pid two.first false end) (pipes_one plain.files) (opens_one pid two.first more false end) in
          record { files = keeps_on plain.files (opened_as more pid two.first false end) (piped plain.files pid two) one (opens_one pid two.second (opened_as more pid two.first false end) false (new_description (OnPipe (length plain.files.pipes)) WriteOnly)); kin = family }

  sockets : Quiet (socket script plain pid)
  unfolding socket
  sockets = go (lowest_free (descriptors_of plain.files pid))
    where
      go : (o : Option ℕ) → Quiet (socketed_under script plain pid o)
      go None = record { files = still; kin = family }
      go (Some fd) =
          let more : Files = with_sockets plain.files (with_new plain.files.sockets (length plain.files.sockets)) in
          record {
            files = keeps_on plain.files more (socketed plain.files pid fd) (keeps plain.files more refl refl refl (makes_socket plain.files.sockets))
                (opens_one pid fd more false (description_of (length plain.files.sockets)));
            kin = family;
          }

  binds : (fd : ℤ) (path : List ℕ) → Quiet (bind script plain pid fd path)
  unfolding bind
  binds fd path = opened_quiet fd _ (λ opened is. on opened opened.is.target)
    where
      there : (place : ℕ) (r : Result (ℕ × Tree) Errno) → Quiet (bound_to script plain pid place r)
      there place (Ok found) = record { files = keeps plain.files (with_sockets (with_tree plain.files found.1) (with_name plain.files.sockets place (Some found.0))) refl refl refl (names_socket plain.files.sockets place (Some found.0)); kin = family }
      there place (Err e) = record { files = still; kin = family }

      free : (place : ℕ) (fault : Option Errno) → Quiet (unless_fault script plain pid fault (bound_to script plain pid place (bind_path plain.files.tree (directory_of plain.table pid) path)))
      free place None = there place (bind_path plain.files.tree (directory_of plain.table pid) path)
      free place (Some e) = record { files = still; kin = family }

      on : (opened : Opened) (target : Target) → Quiet (socket_target script plain pid (bind_at script plain pid path) target)
      on opened (OnNode number) = record { files = still; kin = family }
      on opened (OnPipe place) = record { files = still; kin = family }
      on opened (OnSocket place) = free place (bind_fault (socket_at plain.files.sockets place))

  tells_lock : (fd kind start size : ℤ) → Quiet (getlk script plain pid fd kind start size)
  unfolding getlk
  tells_lock fd kind start size = opened_quiet fd _ (λ opened is. go (file_of plain.files.tree opened.is.target))
    where
      go : (o : Option ℕ) → Quiet (on_locks.told_of script plain pid (request_of kind start size) o)
      go None = record { files = still; kin = family }
      go (Some number) = record { files = still; kin = family }

  polls : (timeout : ℤ) (entries : List PollEntry) → Quiet (poll script plain pid timeout entries)
  unfolding poll
  polls timeout entries = either ((hits_of (revents_of plain.files pid entries) == 0) && is_minus_one timeout) _ _ tt (record { files = still; kin = family })

  -- ---- each of them

  right : (which : Call) → is_open which ≡ false → wakes_nobody true which ≡ true → Quiet (answer_to script plain pid which)
  right call.Getpid o e = record { files = still; kin = family }
  right call.Getppid o e = record { files = still; kin = family }
  right call.SchedYield o e = record { files = still; kin = family }
  right call.Fork o e = forks
  right (call.Mmap size) o e = maps size
  right (call.Munmap addr size) o e = record { files = still; kin = remembers (without_pages (memory_of plain.table pid) (count_of addr / page_size) (pages_touched (count_of addr) (count_of size))) }
  right (call.Store addr bytes) o e = ranged addr (length bytes) _ (record { files = still; kin = remembers (stored (memory_of plain.table pid) (count_of addr) bytes) })
  right (call.Load addr n) o e = ranged addr (count_of n) _ (record { files = still; kin = family })
  right (call.Dup fd) o e = dups fd
  right (call.Pread fd addr n at) o e = preads fd addr n at
  right (call.Pwrite fd addr n at) o e = pwrites fd addr n at
  right (call.Lseek fd offset whence) o e = seeks fd offset whence
  right (call.Readdir fd addr n) o e = lists fd addr n
  right (call.Ftruncate fd size) o e = truncates fd size
  right (call.Fstat fd) o e = fstats fd
  right (call.Stat path) o e = stats path
  right (call.Chdir path) o e = enters path
  right (call.Mkdir path) o e = makes path
  right (call.Rmdir path) o e = removes path
  right (call.Unlink path) o e = unlinks path
  right (call.Link old new) o e = links old new
  right (call.Rename old new) o e = renames old new
  right call.Pipe o e = pipes
  right call.Socket o e = sockets
  right (call.Bind fd path) o e = binds fd path
  right (call.Poll timeout entries) o e = polls timeout entries
  right (call.Mkfifo path) o e = makes_fifo path
  right (call.Getlk fd kind start size) o e = tells_lock fd kind start size
  right (call.Signal which disposition) o e = disposes which disposition
  right _ o e = cc

  quiet_answered : (which : Call) → is_open which ≡ false → wakes_nobody true which ≡ true → Quiet (machine script plain pid which)
  quiet_answered which o e = go (argument_fault which)
    where
      go : (fault : Option Errno) → Quiet (unless_wrong script plain pid fault (answer_to script plain pid which))
      go None = right which o e
      go (Some errno) = record { files = still; kin = family }

  -- ---- open, which may open a FIFO

  abbrev QuietOpen : List ℕ → ℤ → Answer → Type 0
  QuietOpen path flags given = LeadsTo (QuietIf who plain (call.OpenFile path flags)) given

  opens_file : (path : List ℕ) (flags : ℤ) → QuietOpen path flags (open_file script plain pid path flags)
  unfolding open_file
  opens_file path flags = begins (opening_at plain.files pid)
    where
      choose : (b : Bool) (one two : Answer) → (b ≡ true → QuietOpen path flags one) → (b ≡ false → QuietOpen path flags two) → QuietOpen path flags (cond b one two)
      choose true one two this that = this refl
      choose false one two this that = that refl

      -- a FIFO is open then
      end : (fd number : ℕ) → number ≢ 0 → (fault : Option Errno) → QuietOpen path flags (open_end script plain pid flags fd number fault)
      end fd number some (Some e) = λ none. record { files = still; kin = family }
      end fd number some None = choose (fifo_waits (fifo_pipe plain.files number) flags) _ _
          (λ waits none. absurd (fifo_is_open plain.files pid flags fd number some (fifo_at plain.files number) refl none))
          (λ goes none. absurd (fifo_is_open plain.files pid flags fd number some (fifo_at plain.files number) refl none))

      there : (fd : ℕ) (r : Result (ℕ × Tree) Errno) → QuietOpen path flags (opened_node_as script plain pid flags fd r)
      there fd (Ok found) = choose (is_fifo found.1 found.0) _ _ (λ fifo. end fd found.0 (not_zero found.1 found.0 fifo) (fifo_fault (fifo_pipe plain.files found.0) flags)) (λ other none. record {
        files = keeps_on plain.files (with_tree plain.files found.1) _ (with_another_tree plain.files found.1)
            (opens_one pid fd (with_tree plain.files found.1) (has_flag flags o_cloexec) (description_for found.0 flags));
        kin = family;
      })
      there fd (Err e) = λ none. record { files = still; kin = family }

      go : (o : Option ℕ) → QuietOpen path flags (open_at script plain pid path flags o)
      go None = λ none. record { files = still; kin = family }
      go (Some fd) = there fd (open_path plain.files.tree (directory_of plain.table pid) path (opening_of flags))

      begins : (o : Option HalfOpen) → QuietOpen path flags (open_by script plain pid path flags o)
      begins None = go (lowest_free (descriptors_of plain.files pid))
      begins (Some opening) = choose (is_met plain.files pid opening) _ _
          (λ met none. record { files = keeps plain.files (with_opening plain.files pid None) refl refl refl (same_sockets plain.files.sockets); kin = family }) (λ not_yet. tt)

  open_answer : (path : List ℕ) (flags : ℤ) → QuietOpen path flags (machine script plain pid (call.OpenFile path flags))
  open_answer path flags = go (argument_fault (call.OpenFile path flags))
    where
      go : (fault : Option Errno) → QuietOpen path flags (unless_wrong script plain pid fault (open_file script plain pid path flags))
      go None = opens_file path flags
      go (Some errno) = λ none. record { files = still; kin = family }

  -- of all but an open it doesn't matter whether a FIFO is open
  same_unless_open : (none_open : Bool) (which : Call) → is_open which ≡ false → wakes_nobody none_open which ≡ wakes_nobody true which
  same_unless_open none_open (call.OpenFile path flags) o = cc
  same_unless_open none_open _ o = refl

  open_is : (which : Call) → is_open which ≡ true → (path : List ℕ) × (flags : ℤ) × (which ≡ call.OpenFile path flags)
  open_is (call.OpenFile path flags) o = (path, flags, refl)
  open_is _ o = cc

  pub quiet_answer : (which : Call) → LeadsTo (QuietIf who plain which) (machine script plain pid which)
  quiet_answer which = go (is_open which) refl (wakes_nobody true which) refl
    where
      go : (opens : Bool) → is_open which ≡ opens → (quiet : Bool) → wakes_nobody true which ≡ quiet → LeadsTo (QuietIf who plain which) (machine script plain pid which)
      go true o quiet e = let open_it = open_is which o in
          subst (λ w. LeadsTo (QuietIf who plain w) (machine script plain pid w)) (sym open_it.2) (open_answer open_it.0 open_it.1)
      go false o true e = leads_on (IsQuiet who plain) (QuietIf who plain which) (λ next quiet wakes. quiet) (machine script plain pid which) (quiet_answered which o e)
      go false o false e = any_leads (QuietIf who plain which) (λ next wakes. absurd (both (sym (same_unless_open (no_fifo next.files) which o) ∙ wakes) e)) (machine script plain pid which)
        where
          both : {b : Bool} → b ≡ true → b ≡ false → ⊥
          both one two = cc
