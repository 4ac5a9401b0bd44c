-- A process's space is in hand, and what was done to it is back.
use Rattle.std.proofs.Common.{◌≡◌, ℕ, List, Option, Some, length, refl, ap, sym, ◌∙◌, subst}
use Rattle.std.specs.Prelude.{None, slice_set}
use Rattle.std.proofs.lemmas.List.{set-get_or}
use Rattle.kabi_types.specs.declared.scripts.Control.{Control}
use Rattle.kabi_types.specs.declared.scripts.Script.{Script}
use Rattle.kheap_slabs.specs.Objects.{object, put}
use Rattle.kheap_slabs.specs.declared.objects.Proc.{Proc}
use Rattle.kheap_slabs.specs.Heap.{Heap}
use Rattle.page_space.specs.Accounts.{AccountMoves, IsAccounted}
use Rattle.page_space.specs.Contents.{SpaceMoves, StandsFor as IsMemory}
use Rattle.posix_defs.specs.Memory.{Frames, Memory}
use Rattle.posix_defs.specs.Plain.{Plain}
use Rattle.posix_defs.specs.Process.{memory_of}
use Rattle.posix_defs.specs.World.{World}
use Rattle.proc_table.specs.Moves.{SpaceTurns}
use Rattle.proc_table.specs.Procs.{memory_at}
use Rattle.proc_table.proofs.AccountLemmas.{accounted_of}
use Rattle.proc_table.proofs.MemoryLemmas.{memory_at-stands}
use Rattle.store_objects.specs.declared.objects.Objects.{Objects}
use Rattle.store_objects.specs.Objects.{AreKept, Runs}
use Rattle.process_calls.specs.Spaces.{HasSpace}
use Rattle.store_objects.specs.Standing.{AreProcesses, StandsFor, remembered_in}
use Rattle.process_calls.proofs.SpacesBack.{kept_back, memory_here, runs_back, stand_back}

-- what the machine has in the process's memory is what its space has
pub memory_is : (script : Script) (objects : Objects) (plain : Plain) (pid key : ℕ) (space : List (Option ℕ)) → HasSpace objects pid key space
    → AreProcesses script objects plain → memory_of plain.table pid ≡ memory_at objects.heap space
memory_is script objects plain pid key space has are =
    memory_here script objects plain pid has.proc are has.found ∙ ap (memory_at objects.heap) has.nodes

-- what is put back as it was changes nothing
pub back_as_was : (objects : Objects) (mid : Heap) (pid key : ℕ) (space : List (Option ℕ)) → (has : HasSpace objects pid key space) → mid.procs ≡ objects.heap.procs
    → mid ≡ record mid { procs = put mid.procs key (record has.proc { nodes = space }) }
back_as_was objects mid pid key space has same =
    let there : object mid.procs key ≡ Some has.proc = ap (λ procs. object procs key) same ∙ has.there in
    ap (λ procs. record mid { procs = procs })
    (sym (ap (λ nodes. put mid.procs key (record has.proc { nodes = nodes })) (sym has.nodes) ∙ ap (slice_set mid.procs key) (sym there) ∙ set-get_or mid.procs key None))

-- the process's Proc names the nodes of its space
pub nodes_back : (objects : Objects) (mid new : Heap) (pid key : ℕ) (space now nodes : List (Option ℕ)) → (has : HasSpace objects pid key space) → SpaceMoves objects.heap mid space now
    → ((proc : Proc) → object mid.procs key ≡ Some proc → new ≡ record mid { procs = put mid.procs key (record proc { nodes = nodes }) }) → nodes ≡ now
    → new ≡ record mid { procs = put mid.procs key (record has.proc { nodes = now }) }
nodes_back objects mid new pid key space now nodes has moves set same =
    set has.proc (ap (λ (h : Heap). object h.procs key) moves.kept ∙ has.there)
    ∙ ap (λ ns. record mid { procs = put mid.procs key (record has.proc { nodes = ns }) }) same

-- The space `now` is back in the heap `new`, which is `mid` but for the process's nodes.
module _ (objects : Objects) (mid new : Heap) (pid key : ℕ) (space now : List (Option ℕ)) (has : HasSpace objects pid key space)
    (moves : SpaceMoves objects.heap mid space now) (after : new ≡ record mid { procs = put mid.procs key (record has.proc { nodes = now }) }) where
  turns : SpaceTurns objects.heap mid new objects.procs pid key has.proc now
  turns = record {
    found = has.named;
    there = has.there;
    runs = has.runs;
    moves = subst (λ nodes. SpaceMoves objects.heap mid nodes now) (sym has.nodes) moves;
    after = after;
  }

  abbrev back : Objects
  back = record { heap = new; procs = objects.procs; tree = objects.tree; names = objects.names; fifos = objects.fifos; locks = objects.locks }

  pub kept_then : (script : Script) → AreKept script objects → length now ≡ 4 → AreKept script back
  kept_then script kept four = kept_back script objects back mid pid key has.proc now kept turns refl refl refl refl refl four

  pub runs_then : (script : Script) → AreKept script objects → (control : Control) → Runs objects pid control → Runs back pid control
  runs_then script kept control runs = runs_back script objects back mid pid key has.proc now kept turns refl control runs

  -- the machine has in memory what was made of it
  pub stand_then : (script : Script) (world : World) (next : Frames) (change : Memory → Memory) → StandsFor script objects world → length now ≡ 4
      → (IsMemory objects.heap space (memory_at objects.heap space) → IsMemory mid now (change (memory_at objects.heap space)))
      → length (change (memory_at objects.heap space)) ≡ 256
      → ((number : ℕ → ℕ) → IsAccounted objects.heap number world.account.frames pid space → AccountMoves objects.heap mid space now number world.account.frames next pid)
      → StandsFor script back (remembered_in world pid (change (memory_of world.plain.table pid)) next)
  stand_then script world next change stands four is whole moved =
      subst (λ memory. StandsFor script back (remembered_in world pid (change memory) next))
      (sym (memory_is script objects world.plain pid key space has stands.processes))
      (stand_back script objects back mid pid key has.proc now world next (change (memory_at objects.heap space)) stands turns refl refl refl refl refl four
      (is (memory_at-stands objects.heap space)) whole
      (subst (λ nodes. AccountMoves objects.heap mid nodes now stands.memory.number world.account.frames next pid) (sym has.nodes)
      (moved stands.memory.number
      (subst (IsAccounted objects.heap stands.memory.number world.account.frames pid) has.nodes
      (accounted_of objects.heap objects.procs world.account.frames pid has.proc stands.kept.holds stands.memory has.found)))))
