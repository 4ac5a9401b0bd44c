-- The address space of a process that runs.
use Rattle.std.specs.Prelude.{ℕ, ◌≡◌, List, Option, None, Some}
use Rattle.kheap_slabs.specs.Objects.{object}
use Rattle.kheap_slabs.specs.declared.objects.Proc.{Proc}
use Rattle.kheap_slabs.specs.Heap.{Heap}
use Rattle.page_space.specs.Contents.{IsOwnedWith}
use Rattle.proc_table.specs.Procs.{proc_of}
use Rattle.proc_table.specs.Table.{TableView, key_of, processes}

-- A process runs, and these are the nodes of its address space, which are its own.
pub record HasSpace (h : Heap) (kept : TableView) (pid : ℕ) (space : List (Option ℕ)) : Type 0 where
  pub key : ℕ
  pub proc : Proc
  pub found : proc_of (processes h kept) pid ≡ Some proc
  pub runs : proc.status ≡ None
  pub named : key_of kept.listed pid ≡ Some key
  pub there : object h.procs key ≡ Some proc
  pub nodes : proc.nodes ≡ space
  pub owned : IsOwnedWith h space
