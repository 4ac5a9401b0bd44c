-- What processes weigh, by their nodes in the heap and the descriptors that they have open.
use Rattle.std.specs.Prelude.{ℕ, Bool, true, false, if◌then◌else◌, List, [], ◌∷◌, length, count_by, sum_by, Option, None, Some, is_some}
use Rattle.kabi_types.specs.declared.classes.Weight.{Weight}
use Rattle.kheap_slabs.specs.Objects.{object}
use Rattle.kheap_slabs.specs.declared.objects.Node.{Node}
use Rattle.kheap_slabs.specs.declared.objects.PageEntry.{PageEntry}
use Rattle.kheap_slabs.specs.declared.objects.PageEntry.TheVariants as entry
use Rattle.kheap_slabs.specs.declared.objects.Proc.{Proc}
use Rattle.kheap_slabs.specs.Heap.{Heap}
use Rattle.kheap_slabs.specs.Spaces.{keys_in}
use Rattle.desc_table.specs.Numbered.{descriptors_in}
use Rattle.posix_defs.specs.Files.Descriptors.{open_count}
use Rattle.proc_table.specs.Procs.{numbers_in}

-- the page has a frame
abbrev pub has_frame : PageEntry → Bool
has_frame (entry.Frame key) = true
has_frame entry.Unmapped = false
has_frame entry.Zero = false

-- how many pages of a node have one
abbrev pub frames_under : Option Node → ℕ
frames_under None = 0
frames_under (Some node) = count_by has_frame node.entries

-- what a process weighs: beside itself its memory, and the descriptors that it has open
abbrev pub weight_in : Heap → Proc → Weight
weight_in h proc = record {
  pid = proc.pid;
  frames = sum_by (λ key. frames_under (object h.nodes key)) (keys_in proc.nodes);
  nodes = length (keys_in proc.nodes);
  descs = open_count (descriptors_in (numbers_in h proc));
}

-- the weights of the processes that run
abbrev pub weights_in : Heap → List Proc → List Weight
weights_in h [] = []
weights_in h (proc ∷ procs) = if is_some proc.status then weights_in h procs else weight_in h proc ∷ weights_in h procs
