-- Whatever a call is answered, the tree keeps what a tree has to, and what descriptions, sockets and processes name of it is there.
use Rattle.std.proofs.Common.{◌≡◌, ℕ, zero, suc, ◌+◌, ◌-◌, ℤ, pos, true, false, List, [], ◌∷◌, Option, None, Some, is_some, refl, ap, sym, subst, arith, Contains}
use Rattle.std.proofs.lemmas.List.Elements.{All-take}
use Rattle.kabi_types.specs.Arguments.{argument_fault, count_of}
use Rattle.kabi_types.specs.declared.calls.Call.{Call}
use Rattle.kabi_types.specs.declared.calls.Call.TheVariants as calls
use Rattle.kabi_types.specs.declared.errnos.Errno.{Errno}
use Rattle.kabi_types.specs.declared.replies.Reply.{Reply}
use Rattle.kabi_types.specs.declared.replies.Reply.TheVariants.{Fail, Val, Waited}
use Rattle.kabi_types.specs.declared.scripts.Script.{Script}
use Rattle.posix_defs.specs.Answer.{Answer}
use Rattle.posix_defs.specs.DiskFormat.{table_nodes}
use Rattle.posix_defs.specs.Ending.{closed_by, die, die_in}
use Rattle.posix_defs.specs.Forking.{with_child}
use Rattle.posix_defs.specs.Machine.{answer_to, machine, unless_wrong}
use Rattle.posix_defs.specs.Memory.{Memory, no_memory}
use Rattle.posix_defs.specs.MemoryCalls.{remembered}
use Rattle.posix_defs.specs.PathCalls.{node_led}
use Rattle.posix_defs.specs.Paths.{resolve}
use Rattle.posix_defs.specs.Pipe.{Pipe}
use Rattle.posix_defs.specs.Plain.{Plain, answered, boot_plain, call_of, control_of, first_process, last_pid, with_files, with_table}
use Rattle.posix_defs.specs.Process.{Table, directory_of, is_alive, memory_of, with_directory, with_ignores, with_memory}
use Rattle.posix_defs.specs.Sockets.{socket_at}
use Rattle.posix_defs.specs.Tree.{is_directory, is_in_use, links_at, new_tree}
use Rattle.posix_defs.specs.Waiting.{reaped}
use Rattle.posix_defs.specs.Files.State.{Files, pipe_at}
use Rattle.posix_defs.specs.Reaching.{paths_of}
use Rattle.posix_defs.specs.Files.Closing.{after_exec_of}
use Rattle.posix_defs.proofs.TreeNodes.{none_in}
use Rattle.tree_laws.proofs.NewTree.{new_is_tree}
use Rattle.machine_laws.specs.FileSteps.{LeadsTo}
use Rattle.machine_laws.specs.Reached.{IsReached}
use Rattle.answer_laws.specs.Shapes as shape
use Rattle.answer_laws.specs.Shapes.{AreRead, HasShape, IsPut}
use Rattle.machine_laws.proofs.Leading.{steps_lead}
use Rattle.machine_laws.proofs.Places.{not_some, some_same}
use Rattle.answer_laws.proofs.Shapes.{machine_shape}
use Rattle.machine_laws.proofs.Stepping.{step_of}
use Rattle.machine_laws.specs.Bytes.{AreBytes, HasMemoryBytes}
use Rattle.machine_laws.specs.Piped.{ArePiped, pipe_in}
use Rattle.machine_laws.proofs.Piping.{reached_piped}
use Rattle.machine_laws.specs.Texts.{ArePathBytes, HasTexts}
use Rattle.machine_laws.proofs.Inductions.{by_induction}
use Rattle.machine_laws.proofs.Items.{true_false}
use Rattle.machine_laws.proofs.Joining.{Joined, joined_holds}
use Rattle.machine_laws.proofs.MovedBytes.{listed_bytes, mapped_bytes, no_memory_bytes, read_bytes, stored_bytes, unmapped_bytes}
use Rattle.machine_laws.proofs.Openers.{Opener}
use Rattle.machine_laws.proofs.Rooting.{Rooted, new_well}
use Rattle.machine_laws.proofs.PipeBytes.{HasPipeBytes, IsByte, pipe_bytes}
use Rattle.machine_laws.proofs.CallFacts.{entered_is}
use Rattle.machine_laws.proofs.StepsKeep.{After, closed_after, exec_after, step_after}
use Rattle.machine_laws.proofs.ProcessesKept.{AreKept, KeepsProcess, child_kept, die_kept, disposed_kept, held_directory, held_memory, memory_kept, moved_kept, reaped_kept, table_on}

-- what is kept of the tree, of bytes and of directories
pub record Whole (plain : Plain) : Type 0 where
  pub rooted : Rooted plain.files.descriptions plain.files.tree plain.files.sockets plain.files.pipes
  pub pipes : (place : ℕ) (pipe : Pipe) → pipe_in plain.files.pipes place ≡ Some pipe → AreBytes pipe.bytes
  pub memory : (pid : ℕ) → HasMemoryBytes (memory_of plain.table pid)
  pub directories : (pid : ℕ) → is_alive plain.table pid ≡ true → is_directory plain.files.tree (directory_of plain.table pid) ≡ true

-- the same, of each process that is there
record Holds (plain : Plain) : Type 0 where
  rooted : Rooted plain.files.descriptions plain.files.tree plain.files.sockets plain.files.pipes
  pipes : HasPipeBytes plain.files.pipes
  table : AreKept plain.files.tree plain.table

-- what a call leaves in memory are bytes
put_memory : (plain : Plain) (pid : ℕ) (call : Call) (memory : Memory) → Holds plain → ((addr : ℤ) (bytes : List ℕ) → call ≡ calls.Store addr bytes → AreBytes bytes) → IsPut plain pid call memory → HasMemoryBytes memory
put_memory plain pid call memory holds stores_bytes put = go put
  where
    before : HasMemoryBytes (memory_of plain.table pid)
    before = held_memory plain.files.tree plain.table holds.table pid

    read_are : (bytes : List ℕ) → AreRead plain.files bytes → AreBytes bytes
    read_are bytes (shape.of_pipe place k is) = subst AreBytes (sym is) (All-take IsByte k (pipe_at plain.files place).bytes (pipe_bytes plain.files.pipes place holds.pipes))
    read_are bytes (shape.of_socket place k is) = let rooted = holds.rooted in let well = rooted.wells place in subst AreBytes (sym is) (All-take IsByte k (socket_at plain.files.sockets place).bytes well.bytes)
    read_are bytes (shape.of_file number at n is) = let rooted = holds.rooted in subst AreBytes (sym is) (read_bytes plain.files.tree number at n rooted.tree_is)
    read_are bytes (shape.of_directory number at n is) = let rooted = holds.rooted in subst AreBytes (sym is) (listed_bytes plain.files.tree number at n rooted.tree_is)

    go : IsPut plain pid call memory → HasMemoryBytes memory
    go (shape.maps first count is) = subst HasMemoryBytes (sym is) (mapped_bytes (memory_of plain.table pid) first count before)
    go (shape.unmaps first count is) = subst HasMemoryBytes (sym is) (unmapped_bytes (memory_of plain.table pid) first count before)
    go (shape.stores addr bytes which is) = subst HasMemoryBytes (sym is) (stored_bytes (memory_of plain.table pid) (count_of addr) bytes (stores_bytes addr bytes which) before)
    go (shape.reads addr bytes are is) = subst HasMemoryBytes (sym is) (stored_bytes (memory_of plain.table pid) (count_of addr) bytes (read_are bytes are) before)

module _ (script : Script) (plain : Plain) (pid : ℕ) (holds : Holds plain) (joined : Joined plain.files.descriptions plain.files.sockets)
    (piped : ArePiped plain.files.descriptions plain.files.pipes) where
  answered_holds : (base : Plain) (said : Reply) → Holds base → Holds (answered script base pid said)
  answered_holds base said held = record { rooted = held.rooted; pipes = held.pipes; table = held.table }

  -- files have changed, and the table in a way that keeps it
  after_holds : (files : Files) (table : Table) → After plain files → (AreKept files.tree plain.table → AreKept files.tree table) → Holds (with_files (with_table plain table) files)
  after_holds files table after change = record { rooted = after.rooted; pipes = after.pipes; table = change (table_on plain.files.tree files.tree plain.table after.directories holds.table) }

  die_holds : (who status : ℕ) → Holds (die plain who status)
  die_holds who status = after_holds (closed_by plain.files who) (die_in plain.table who status) (closed_after plain holds.rooted holds.pipes joined piped who) (die_kept (closed_by plain.files who).tree plain.table who status)

  by_shape : (call : Call) → ((addr : ℤ) (bytes : List ℕ) → call ≡ calls.Store addr bytes → AreBytes bytes) → (given : Answer) → LeadsTo (λ next. After plain next.files) given → HasShape script plain pid call given → LeadsTo Holds given
  by_shape call stores_bytes given stepped (shape.blocks may is) = subst (LeadsTo Holds) (sym is) tt
  by_shape call stores_bytes given stepped (shape.fails errno other is) = subst (LeadsTo Holds) (sym is) (answered_holds plain (Fail errno) holds)
  by_shape call stores_bytes given stepped (shape.tells files said is_said is) = subst (LeadsTo Holds) (sym is)
      (answered_holds (with_files plain files) said (after_holds files plain.table (subst (LeadsTo (λ next. After plain next.files)) is stepped) (λ kept. kept)))
  by_shape call stores_bytes given stepped (shape.puts files memory said is_said what is) = subst (LeadsTo Holds) (sym is)
      (answered_holds (remembered (with_files plain files) pid memory) said
      (after_holds files (with_memory plain.table pid memory) (subst (LeadsTo (λ next. After plain next.files)) is stepped)
      (memory_kept files.tree plain.table pid memory (put_memory plain pid call memory holds stores_bytes what))))
  by_shape call stores_bytes given stepped (shape.moves path directory called led is) = subst (LeadsTo Holds) (sym is)
      (answered_holds (with_table plain (with_directory plain.table pid directory)) (Val (pos 0)) (record {
        rooted = holds.rooted;
        pipes = holds.pipes;
        table = moved_kept plain.files.tree plain.table pid directory (entered_is plain.files.tree (node_led (resolve plain.files.tree (directory_of plain.table pid) path)) directory led) holds.table;
      }))
  by_shape call stores_bytes given stepped (shape.disposes signal disposition ignores before called is) = subst (LeadsTo Holds) (sym is)
      (answered_holds (with_table plain (with_ignores plain.table pid ignores)) (Val (pos before)) (record {
        rooted = holds.rooted;
        pipes = holds.pipes;
        table = disposed_kept plain.files.tree plain.table pid ignores holds.table;
      }))
  by_shape call stores_bytes given stepped (shape.parts files moved part is) = subst (LeadsTo Holds) (sym is)
      (let it = after_holds files plain.table (subst (LeadsTo (λ next. After plain next.files)) is stepped) (λ kept. kept) in record { rooted = it.rooted; pipes = it.pipes; table = it.table })
  by_shape call stores_bytes given stepped (shape.awaits files begun is) = subst (LeadsTo Holds) (sym is)
      (let it = after_holds files plain.table (subst (LeadsTo (λ next. After plain next.files)) is stepped) (λ kept. kept) in record { rooted = it.rooted; pipes = it.pipes; table = it.table })
  by_shape call stores_bytes given stepped (shape.starts place is) = subst (LeadsTo Holds) (sym is)
      (let it = after_holds (after_exec_of plain.files pid) (with_memory plain.table pid no_memory) (exec_after plain holds.rooted holds.pipes joined piped pid)
      (memory_kept (after_exec_of plain.files pid).tree plain.table pid no_memory no_memory_bytes) in record { rooted = it.rooted; pipes = it.pipes; table = it.table })
  by_shape call stores_bytes given stepped (shape.forks is) = subst (LeadsTo Holds) (sym is)
      (answered_holds (with_child script plain pid) (Val (pos (last_pid plain + 1))) (record { rooted = holds.rooted; pipes = holds.pipes; table = child_kept plain.files.tree plain.table pid holds.table }))
  by_shape call stores_bytes given stepped (shape.reaps child status ended is) = subst (LeadsTo Holds) (sym is)
      (answered_holds (reaped plain child) (Waited child status) (record { rooted = holds.rooted; pipes = holds.pipes; table = reaped_kept plain.files.tree plain.table child holds.table }))
  by_shape call stores_bytes given stepped (shape.ends status is) = subst (LeadsTo Holds) (sym is) (die_holds pid status)
  by_shape call stores_bytes given stepped (shape.ends_another target signal called first own lives is) = subst (LeadsTo Holds) (sym is) (answered_holds (die plain target (count_of signal)) (Val (pos 0)) (die_holds target (count_of signal)))

  answers_hold : (call : Call) → is_alive plain.table pid ≡ true → ((path : List ℕ) → Contains (paths_of call) path → ArePathBytes path) → ((addr : ℤ) (bytes : List ℕ) → call ≡ calls.Store addr bytes → AreBytes bytes)
      → LeadsTo Holds (machine script plain pid call)
  answers_hold call alive paths stores_bytes = go (argument_fault call) refl
    where
      go : (fault : Option Errno) → argument_fault call ≡ fault → LeadsTo Holds (machine script plain pid call)
      go (Some errno) is = subst (LeadsTo Holds) (sym (ap (λ f. unless_wrong script plain pid f (answer_to script plain pid call)) is)) (answered_holds plain (Fail errno) holds)
      go None is = by_shape call stores_bytes (machine script plain pid call)
          (steps_lead plain pid call (λ next. After plain next.files)
          (λ goes_on next stepped. step_after plain pid call next.files holds.rooted holds.pipes joined piped (held_memory plain.files.tree plain.table holds.table pid)
          (held_directory plain.files.tree plain.table holds.table pid alive) is paths stepped) (machine script plain pid call) (step_of script plain pid call))
          (machine_shape script plain pid call)

-- ---- every machine

boot_holds : (script : Script) → HasTexts script → Holds (boot_plain script)
boot_holds script texts = record {
  rooted = record {
    tree_is = new_is_tree script.disk texts.least_disk texts.most_disk;
    nodes = λ place number description is on. absurd (not_some refl is);
    unlinked = unlinked;
    wells = λ place. new_well (new_tree script.disk);
    alone = record { one_socket = λ one other number here there. absurd (not_some refl here) };
    fifos = λ place number of. absurd (not_some refl of);
    sole = λ place other number one two. absurd (not_some refl one);
  };
  pipes = λ place pipe is. absurd (not_some refl is);
  table = first;
}
  where
    unlinked : (n : ℕ) → is_in_use (new_tree script.disk) n ≡ true → links_at (new_tree script.disk) n ≡ 0 → Opener [] [] n
    unlinked zero used none = absurd (true_false false used refl)
    unlinked (suc zero) used none = absurd (let e : 1 ≡ 0 = none in omega arith)
    unlinked (suc (suc k)) used none = absurd (true_false (is_in_use (new_tree script.disk) (suc (suc k))) used (ap is_some (none_in (table_nodes script.disk - 1) k)))

    root_kept : KeepsProcess (new_tree script.disk) first_process
    root_kept = record { memory = no_memory_bytes; directory = λ alive. refl }

    first : AreKept (new_tree script.disk) (Some first_process ∷ [])
    first zero process is = absurd (not_some refl is)
    first (suc zero) process is = subst (KeepsProcess (new_tree script.disk)) (some_same (Some first_process) first_process process refl is) root_kept
    first (suc (suc n)) process is = absurd (not_some refl is)

holds_everywhere : (script : Script) → HasTexts script → (plain : Plain) → IsReached script plain → Holds plain
holds_everywhere script texts plain reached = by_induction script Holds (record {
  boot = boot_holds script texts;
  answer = λ before pid reached_it holds alive. answers_hold script before pid holds (joined_holds script before reached_it) (reached_piped script before reached_it) (call_of script before pid) alive
      (λ path here. texts.paths (control_of before pid) path here) (λ addr bytes which. texts.stored (control_of before pid) addr bytes which);
  refuse = λ before pid reached_it holds. record { rooted = holds.rooted; pipes = holds.pipes; table = holds.table };
  kill = λ before pid status reached_it holds. die_holds script before pid holds (joined_holds script before reached_it) (reached_piped script before reached_it) pid status;
}) reached

pub reached_whole : (script : Script) → HasTexts script → (plain : Plain) → IsReached script plain → Whole plain
reached_whole script texts plain reached = let holds = holds_everywhere script texts plain reached in record {
  rooted = holds.rooted;
  pipes = holds.pipes;
  memory = held_memory plain.files.tree plain.table holds.table;
  directories = held_directory plain.files.tree plain.table holds.table;
}
