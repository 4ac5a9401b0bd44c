-- The address space of a process.
use Rattle.std.specs.Prelude.{ℕ, ◌≡◌, List, Option, None, Some}
use Rattle.kheap_slabs.specs.Objects.{object}
use Rattle.kheap_slabs.specs.declared.objects.Proc.{Proc}
use Rattle.page_space.specs.Contents.{IsOwnedWith}
use Rattle.proc_table.specs.Procs.{proc_of}
use Rattle.proc_table.specs.Table.{key_of}
use Rattle.store_objects.specs.declared.objects.Objects.{Objects}
use Rattle.store_objects.specs.Objects.{procs_of}

-- A process runs; this is the key of its Proc, and these are the nodes of its address space, which are its own.
pub record HasSpace (objects : Objects) (pid key : ℕ) (space : List (Option ℕ)) : Type 0 where
  pub proc : Proc
  pub found : proc_of (procs_of objects) pid ≡ Some proc
  pub runs : proc.status ≡ None
  pub named : key_of objects.procs.listed pid ≡ Some key
  pub there : object objects.heap.procs key ≡ Some proc
  pub nodes : proc.nodes ≡ space
  pub owned : IsOwnedWith objects.heap space
