-- What the heap's counters say of its objects.
use Rattle.std.specs.Prelude.{◌≡◌, ℕ, ◌/◌, length}
use Rattle.kabi_types.specs.Class.{size}
use Rattle.kabi_types.specs.declared.classes.Class.TheVariants as class
use Rattle.kabi_types.specs.declared.classes.Need.{Need}
use Rattle.kheap_slabs.specs.Heap.{Heap, live_bytes, IsWellFormed}
use Rattle.kheap_slabs.specs.declared.kheap.KHeap.TheInside.{Inside}

-- the heap as its shelves and its meter have it
abbrev pub heap_of : Inside → Heap
heap_of k = record {
  procs = k.memory.procs;
  nodes = k.memory.nodes;
  pages = k.memory.pages;
  descs = k.files.descs;
  vnodes = k.files.vnodes;
  names = k.files.names;
  blocks = k.files.blocks;
  pipes = k.queues.pipes;
  chunks = k.queues.chunks;
  socks = k.queues.socks;
  leaves = k.memory.leaves;
  locks = k.locks;
  heap = k.meter.heap;
  high = k.meter.high;
  marks = k.meter.marks;
  last_high = k.meter.last_high;
}

-- how many keys each class has
abbrev pub keys_of : Heap → Need
keys_of h = record {
  proc = length h.procs;
  node = length h.nodes;
  page = length h.pages;
  desc = length h.descs;
  vnode = length h.vnodes;
  name = length h.names;
  block = length h.blocks;
  pipe = length h.pipes;
  chunk = length h.chunks;
  sock = length h.socks;
  leaf = length h.leaves;
  lock = length h.locks;
}

-- as many of each class as would fill the heap
abbrev pub fitting : ℕ → Need
fitting heap = record {
  proc = heap / size class.Proc;
  node = heap / size class.Node;
  page = heap / size class.Page;
  desc = heap / size class.Desc;
  vnode = heap / size class.Vnode;
  name = heap / size class.Name;
  block = heap / size class.Block;
  pipe = heap / size class.Pipe;
  chunk = heap / size class.Chunk;
  sock = heap / size class.Sock;
  leaf = heap / size class.Leaf;
  lock = heap / size class.Lock;
}

-- the counter has the bytes that all objects take, and each class has keys for as many objects as would fill the heap
pub record IsMetered (h : Heap) (live : ℕ) : Type 0 where
  pub live_is : live ≡ live_bytes h
  pub well_formed : IsWellFormed h
  pub keys : keys_of h ≡ fitting h.heap
