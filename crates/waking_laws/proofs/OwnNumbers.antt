-- The calls that wake nobody and give their caller no number leave the numbers that it has.
use Rattle.std.proofs.Common.{◌≡◌, ℕ, ◌≤◌, ◌==◌, ◌&&◌, nat_lt, ℤ, pos, negsuc, ◌+ℤ◌, Bool, true, false, cond, List, length, Option, None, Some, Result, Ok, Err, refl}
use Rattle.kabi_types.specs.Arguments.{argument_fault, count_of, is_minus_one}
use Rattle.kabi_types.specs.declared.calls.Call.{Call}
use Rattle.kabi_types.specs.declared.calls.Call.TheVariants as call
use Rattle.kabi_types.specs.declared.errnos.Errno.{Errno}
use Rattle.kabi_types.specs.declared.replies.StatInfo.{StatInfo}
use Rattle.kabi_types.specs.declared.short_lists.PollEntry.{PollEntry}
use Rattle.kabi_types.specs.declared.scripts.Script.{Script}
use Rattle.machine_laws.proofs.SharedOffsets.{stay_open}
use Rattle.machine_laws.specs.FileSteps.{LeadsTo}
use Rattle.posix_defs.specs.Answer.{Answer}
use Rattle.posix_defs.specs.Calls.OnFiles.{fstat, ftruncate, greatest_offset, is_between_entries, lseek, origin, resized_to, seek_target, seek_to, truncate_target}
use Rattle.posix_defs.specs.Calls.OnLocks.{file_of, getlk, request_of}
use Rattle.posix_defs.specs.Calls.OnLocks as on_locks
use Rattle.posix_defs.specs.Calls.OnNames.{chdir, freed_in, is_busy, link, made_node, mkdir, mkfifo, rename, retreed, rmdir, stat, told_of, unlink, works_from}
use Rattle.posix_defs.specs.Calls.OnSockets.{bind, bind_at, bound_to, socket_target, unless_fault}
use Rattle.posix_defs.specs.Calls.Opened.{Opened, answer_on, on_open, opened_at}
use Rattle.posix_defs.specs.Calls.Polling.{hits_of, poll, revents_of}
use Rattle.posix_defs.specs.Calls.Reading.{list_target, of_bytes, pread, pread_target, readdir}
use Rattle.posix_defs.specs.Calls.Writing.{bytes_left, pwrite, pwrite_target, wrote_at}
use Rattle.posix_defs.specs.Files.Descriptions.{Target, OnNode, OnPipe, OnSocket, may_read, may_write}
use Rattle.posix_defs.specs.Files.State.{descriptors_of, opens}
use Rattle.posix_defs.specs.Forking.{fork, is_full}
use Rattle.posix_defs.specs.Machine.{answer_to, machine, unless_wrong}
use Rattle.posix_defs.specs.Memory.{is_mapped_range, lowest_run}
use Rattle.posix_defs.specs.MemoryCalls.{in_range, mapped_from, mmap}
use Rattle.posix_defs.specs.Needs.{pages_in}
use Rattle.posix_defs.specs.PathCalls.{bind_path, enter_path, link_path, mkdir_path, mkfifo_path, rename_path, rmdir_path, stat_path, unlink_path}
use Rattle.posix_defs.specs.Plain.{Plain}
use Rattle.posix_defs.specs.Process.{directory_of, memory_of}
use Rattle.posix_defs.specs.Socket.{bind_fault}
use Rattle.posix_defs.specs.Sockets.{socket_at}
use Rattle.posix_defs.specs.Tree.{Tree, is_directory}
use Rattle.posix_defs.specs.TreeChanges.{resize, write as tree_write}
use Rattle.waking_laws.specs.Waking.{gives_number, wakes_nobody}

module _ (script : Script) (plain : Plain) (pid : ℕ) (made : pid ≤ length plain.files.descriptors) where
  -- what is asked of an answer
  abbrev Leaves : Answer → Type 0
  Leaves given = LeadsTo (λ next. descriptors_of next.files pid ≡ descriptors_of plain.files pid) given

  either : (b : Bool) (one two : Answer) → Leaves one → Leaves two → Leaves (cond b one two)
  either true one two this that = this
  either false one two this that = that

  opened_leaves : (fd : ℤ) (given : Opened → Answer) → ((opened : Opened) → Leaves (given opened)) → Leaves (on_open script plain pid fd given)
  opened_leaves fd given each = go (opened_at plain.files pid fd)
    where
      go : (o : Option Opened) → Leaves (answer_on script plain pid given o)
      go None = refl
      go (Some opened) = each opened

  ranged : (addr : ℤ) (n : ℕ) (given : Answer) → Leaves given → Leaves (in_range script plain pid addr n given)
  ranged addr n given rest = either (is_mapped_range (memory_of plain.table pid) (count_of addr) n) given _ rest refl

  of_some_bytes : (addr n : ℤ) (given : Answer) → Leaves given → Leaves (of_bytes script plain pid addr n given)
  of_some_bytes addr n given rest = ranged addr (count_of n) _ (either (count_of n == 0) _ given refl rest)

  forks : Leaves (fork script plain pid)
  forks = either (is_full plain) _ _ refl (stay_open plain.files pid pid made)

  maps : (size : ℤ) → Leaves (mmap script plain pid size)
  maps size = go (lowest_run (memory_of plain.table pid) (pages_in (count_of size)))
    where
      go : (o : Option ℕ) → Leaves (mapped_from script plain pid (pages_in (count_of size)) o)
      go None = refl
      go (Some first) = refl

  enters : (path : List ℕ) → Leaves (chdir script plain pid path)
  unfolding chdir
  enters path = go (enter_path plain.files.tree (directory_of plain.table pid) path)
    where
      go : (r : Result ℕ Errno) → Leaves (works_from script plain pid r)
      go (Ok number) = refl
      go (Err e) = refl

  seeks : (fd offset whence : ℤ) → Leaves (lseek script plain pid fd offset whence)
  unfolding lseek
  seeks fd offset whence = opened_leaves fd _ (λ opened. go opened opened.is.target)
    where
      at : (opened : Opened) (number : ℕ) (place : ℤ) → Leaves (seek_to script plain pid opened number place)
      at opened number (negsuc n) = refl
      at opened number (pos place) = either (nat_lt greatest_offset place) _ _ refl (either (is_between_entries plain.files.tree number place) _ _ refl refl)

      go : (opened : Opened) (target : Target) → Leaves (seek_target script plain pid opened offset (count_of whence) target)
      go opened (OnNode number) = at opened number (pos (origin plain.files.tree opened number (count_of whence)) +ℤ offset)
      go opened (OnPipe place) = refl
      go opened (OnSocket place) = refl

  lists : (fd addr n : ℤ) → Leaves (readdir script plain pid fd addr n)
  unfolding readdir
  lists fd addr n = opened_leaves fd _ (λ opened. go opened opened.is.target)
    where
      go : (opened : Opened) (target : Target) → Leaves (list_target script plain pid opened addr n target)
      go opened (OnNode number) = either (is_directory plain.files.tree number) _ _ (ranged addr (count_of n) _ refl) refl
      go opened (OnPipe place) = refl
      go opened (OnSocket place) = refl

  fstats : (fd : ℤ) → Leaves (fstat script plain pid fd)
  unfolding fstat
  fstats fd = opened_leaves fd _ (λ opened. refl)

  preads : (fd addr n at : ℤ) → Leaves (pread script plain pid fd addr n at)
  unfolding pread
  preads fd addr n at = opened_leaves fd _ (λ opened. either (may_read opened.is.access) _ _ (go opened.is.target) refl)
    where
      go : (target : Target) → Leaves (pread_target script plain pid addr n (count_of at) target)
      go (OnNode number) = either (is_directory plain.files.tree number) _ _ refl (of_some_bytes addr n _ refl)
      go (OnPipe place) = refl
      go (OnSocket place) = refl

  pwrites : (fd addr n at : ℤ) → Leaves (pwrite script plain pid fd addr n at)
  unfolding pwrite
  pwrites fd addr n at = opened_leaves fd _ (λ opened. either (may_write opened.is.access) _ _ (go opened.is.target) refl)
    where
      there : (r : Result (ℕ × Tree) Errno) → Leaves (wrote_at script plain pid r)
      there (Ok written) = refl
      there (Err e) = refl

      go : (target : Target) → Leaves (pwrite_target script plain pid addr n (count_of at) target)
      go (OnNode number) = either (is_directory plain.files.tree number) _ _ refl
          (of_some_bytes addr n _ (there (tree_write plain.files.tree number (count_of at) (bytes_left plain pid addr (count_of n) 0))))
      go (OnPipe place) = refl
      go (OnSocket place) = refl

  truncates : (fd size : ℤ) → Leaves (ftruncate script plain pid fd size)
  unfolding ftruncate
  truncates fd size = opened_leaves fd _ (λ opened. go opened opened.is.target)
    where
      sized : (r : Result Tree Errno) → Leaves (resized_to script plain pid r)
      sized (Ok tree) = refl
      sized (Err e) = refl

      go : (opened : Opened) (target : Target) → Leaves (truncate_target script plain pid opened (count_of size) target)
      go opened (OnNode number) = either (is_directory plain.files.tree number) _ _ refl
          (either (may_write opened.is.access) _ _ (sized (resize plain.files.tree number (count_of size))) refl)
      go opened (OnPipe place) = refl
      go opened (OnSocket place) = refl

  stats : (path : List ℕ) → Leaves (stat script plain pid path)
  unfolding stat
  stats path = go (stat_path plain.files.tree (directory_of plain.table pid) path)
    where
      go : (r : Result StatInfo Errno) → Leaves (told_of script plain pid r)
      go (Ok info) = refl
      go (Err e) = refl

  another_tree : (r : Result Tree Errno) → Leaves (retreed script plain pid r)
  another_tree (Ok tree) = refl
  another_tree (Err e) = refl

  makes : (path : List ℕ) → Leaves (mkdir script plain pid path)
  unfolding mkdir
  makes path = go (mkdir_path plain.files.tree (directory_of plain.table pid) path)
    where
      go : (r : Result (ℕ × Tree) Errno) → Leaves (made_node script plain pid r)
      go (Ok there) = another_tree (Ok there.1)
      go (Err e) = refl

  makes_fifo : (path : List ℕ) → Leaves (mkfifo script plain pid path)
  unfolding mkfifo
  makes_fifo path = go (mkfifo_path plain.files.tree (directory_of plain.table pid) path)
    where
      go : (r : Result (ℕ × Tree) Errno) → Leaves (made_node script plain pid r)
      go (Ok there) = another_tree (Ok there.1)
      go (Err e) = refl

  removes : (path : List ℕ) → Leaves (rmdir script plain pid path)
  unfolding rmdir
  removes path = another_tree (rmdir_path plain.files.tree (directory_of plain.table pid) path (is_busy plain))

  links : (old new : List ℕ) → Leaves (link script plain pid old new)
  unfolding link
  links old new = another_tree (link_path plain.files.tree (directory_of plain.table pid) old new)

  frees : (r : Result (Option ℕ × Tree) Errno) → Leaves (freed_in script plain pid r)
  frees (Ok left) = refl
  frees (Err e) = refl

  unlinks : (path : List ℕ) → Leaves (unlink script plain pid path)
  unfolding unlink
  unlinks path = frees (unlink_path plain.files.tree (directory_of plain.table pid) path (opens plain.files))

  renames : (old new : List ℕ) → Leaves (rename script plain pid old new)
  unfolding rename
  renames old new = frees (rename_path plain.files.tree (directory_of plain.table pid) old new (opens plain.files) (is_busy plain))

  binds : (fd : ℤ) (path : List ℕ) → Leaves (bind script plain pid fd path)
  unfolding bind
  binds fd path = opened_leaves fd _ (λ opened. on opened.is.target)
    where
      there : (place : ℕ) (r : Result (ℕ × Tree) Errno) → Leaves (bound_to script plain pid place r)
      there place (Ok found) = refl
      there place (Err e) = refl

      free : (place : ℕ) (fault : Option Errno) → Leaves (unless_fault script plain pid fault (bound_to script plain pid place (bind_path plain.files.tree (directory_of plain.table pid) path)))
      free place None = there place (bind_path plain.files.tree (directory_of plain.table pid) path)
      free place (Some e) = refl

      on : (target : Target) → Leaves (socket_target script plain pid (bind_at script plain pid path) target)
      on (OnNode number) = refl
      on (OnPipe place) = refl
      on (OnSocket place) = free place (bind_fault (socket_at plain.files.sockets place))

  tells_lock : (fd kind start size : ℤ) → Leaves (getlk script plain pid fd kind start size)
  unfolding getlk
  tells_lock fd kind start size = opened_leaves fd _ (λ opened. go (file_of plain.files.tree opened.is.target))
    where
      go : (o : Option ℕ) → Leaves (on_locks.told_of script plain pid (request_of kind start size) o)
      go None = refl
      go (Some number) = refl

  polls : (timeout : ℤ) (entries : List PollEntry) → Leaves (poll script plain pid timeout entries)
  unfolding poll
  polls timeout entries = either ((hits_of (revents_of plain.files pid entries) == 0) && is_minus_one timeout) _ _ tt refl

  right : (none_open : Bool) (which : Call) → wakes_nobody none_open which ≡ true → gives_number which ≡ false → Leaves (answer_to script plain pid which)
  right none_open call.Getpid e f = refl
  right none_open call.Getppid e f = refl
  right none_open call.SchedYield e f = refl
  right none_open call.Fork e f = forks
  right none_open (call.Mmap size) e f = maps size
  right none_open (call.Munmap addr size) e f = refl
  right none_open (call.Store addr bytes) e f = ranged addr (length bytes) _ refl
  right none_open (call.Load addr n) e f = ranged addr (count_of n) _ refl
  right none_open (call.Pread fd addr n at) e f = preads fd addr n at
  right none_open (call.Pwrite fd addr n at) e f = pwrites fd addr n at
  right none_open (call.Lseek fd offset whence) e f = seeks fd offset whence
  right none_open (call.Readdir fd addr n) e f = lists fd addr n
  right none_open (call.Ftruncate fd size) e f = truncates fd size
  right none_open (call.Fstat fd) e f = fstats fd
  right none_open (call.Stat path) e f = stats path
  right none_open (call.Chdir path) e f = enters path
  right none_open (call.Mkdir path) e f = makes path
  right none_open (call.Rmdir path) e f = removes path
  right none_open (call.Unlink path) e f = unlinks path
  right none_open (call.Link old new) e f = links old new
  right none_open (call.Rename old new) e f = renames old new
  right none_open (call.Mkfifo path) e f = makes_fifo path
  right none_open (call.Getlk fd kind start size) e f = tells_lock fd kind start size
  right none_open (call.Bind fd path) e f = binds fd path
  right none_open (call.Poll timeout entries) e f = polls timeout entries
  right none_open (call.Signal which disposition) e f = refl
  right none_open _ e f = cc

  pub leaves_numbers : (none_open : Bool) (which : Call) → wakes_nobody none_open which ≡ true → gives_number which ≡ false → Leaves (machine script plain pid which)
  leaves_numbers none_open which e f = go (argument_fault which)
    where
      go : (fault : Option Errno) → Leaves (unless_wrong script plain pid fault (answer_to script plain pid which))
      go None = right none_open which e f
      go (Some errno) = refl
