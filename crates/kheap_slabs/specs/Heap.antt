-- The heap: twelve finite maps from key to object, and the bytes that the objects take.
use Rattle.std.specs.Prelude.{◌≡◌, ℕ, ◌+◌, ◌/◌, ◌≤◌, List, Option, None, Some, length, max, replicate}
use Rattle.kabi_types.specs.Class.{size}
use Rattle.kabi_types.specs.declared.classes.Class.{Class}
use Rattle.kabi_types.specs.declared.classes.Class.TheVariants as class
use Rattle.kabi_types.specs.declared.classes.Need.{Need}
use Rattle.kabi_types.specs.Counts.{counted, with_count, need_bytes}
use Rattle.kheap_slabs.specs.Objects.{object, count}
use Rattle.kheap_slabs.specs.declared.objects.Proc.{Proc}
use Rattle.kheap_slabs.specs.declared.objects.Node.{Node}
use Rattle.kheap_slabs.specs.declared.objects.Page.{Page}
use Rattle.kheap_slabs.specs.declared.objects.Desc.{Desc}
use Rattle.kheap_slabs.specs.declared.objects.Vnode.{Vnode}
use Rattle.kheap_slabs.specs.declared.objects.Name.{Name}
use Rattle.kheap_slabs.specs.declared.objects.Block.{Block}
use Rattle.kheap_slabs.specs.declared.objects.Pipe.{Pipe}
use Rattle.kheap_slabs.specs.declared.objects.Chunk.{Chunk}
use Rattle.kheap_slabs.specs.declared.objects.Sock.{Sock}
use Rattle.kheap_slabs.specs.declared.objects.Leaf.{Leaf}
use Rattle.kheap_slabs.specs.declared.objects.Lock.{Lock}

-- the object of each key of each class, how many bytes there are, the most that were taken since the last mark, how many
-- marks there were, modulo 2 ^ 64, and what the most since the mark before was when the last one was made
pub record Heap : Type 0 where
  pub procs : List (Option Proc)
  pub nodes : List (Option Node)
  pub pages : List (Option Page)
  pub descs : List (Option Desc)
  pub vnodes : List (Option Vnode)
  pub names : List (Option Name)
  pub blocks : List (Option Block)
  pub pipes : List (Option Pipe)
  pub chunks : List (Option Chunk)
  pub socks : List (Option Sock)
  pub leaves : List (Option Leaf)
  pub locks : List (Option Lock)
  pub heap : ℕ
  pub high : ℕ
  pub marks : ℕ
  pub last_high : ℕ

-- how many objects of each class there are
abbrev pub counts_of : Heap → Need
counts_of h = record {
  proc = count h.procs;
  node = count h.nodes;
  page = count h.pages;
  desc = count h.descs;
  vnode = count h.vnodes;
  name = count h.names;
  block = count h.blocks;
  pipe = count h.pipes;
  chunk = count h.chunks;
  sock = count h.socks;
  leaf = count h.leaves;
  lock = count h.locks;
}

-- the bytes that all objects take
abbrev pub live_bytes : Heap → ℕ
live_bytes h = need_bytes (counts_of h)

-- an object of a class is made: of that class one more is there, and high rises to the bytes that are taken now
pub record Makes (of : Class) (old new : Heap) : Type 0 where
  pub counts : counts_of new ≡ with_count (counts_of old) of (counted (counts_of old) of + 1)
  pub high : new.high ≡ max old.high (live_bytes new)
  pub heap : new.heap ≡ old.heap
  pub marks : new.marks ≡ old.marks

-- an object of a class is freed: of that class one less is there
pub record Frees (of : Class) (old new : Heap) : Type 0 where
  pub counts : counts_of old ≡ with_count (counts_of new) of (counted (counts_of new) of + 1)
  pub high : new.high ≡ old.high
  pub heap : new.heap ≡ old.heap
  pub marks : new.marks ≡ old.marks

-- a heap of this size without objects: each class has keys for as many as would fill it
abbrev pub empty_heap : ℕ → Heap
empty_heap heap = record {
  procs = replicate (heap / size class.Proc) None;
  nodes = replicate (heap / size class.Node) None;
  pages = replicate (heap / size class.Page) None;
  descs = replicate (heap / size class.Desc) None;
  vnodes = replicate (heap / size class.Vnode) None;
  names = replicate (heap / size class.Name) None;
  blocks = replicate (heap / size class.Block) None;
  pipes = replicate (heap / size class.Pipe) None;
  chunks = replicate (heap / size class.Chunk) None;
  socks = replicate (heap / size class.Sock) None;
  leaves = replicate (heap / size class.Leaf) None;
  locks = replicate (heap / size class.Lock) None;
  heap = heap;
  high = 0;
  marks = 0;
  last_high = 0;
}

-- what every heap keeps: no more bytes are taken than it has, which are at most 8388608, and what its objects have in
-- rows is as long as their types say
pub record IsWellFormed (h : Heap) : Type 0 where
  pub live_within : live_bytes h ≤ h.high
  pub high_within : h.high ≤ h.heap
  pub limit : h.heap ≤ 8388608
  pub descriptors : (key : ℕ) (process : Proc) → object h.procs key ≡ Some process → length process.descriptors ≡ 32
  pub spaces : (key : ℕ) (process : Proc) → object h.procs key ≡ Some process → length process.nodes ≡ 4
  pub leaves : (key : ℕ) (process : Proc) → object h.procs key ≡ Some process → length process.leaves ≡ 3
  pub leaf_rows : (key : ℕ) (leaf : Leaf) → object h.leaves key ≡ Some leaf → length leaf.descriptors ≡ 32
  pub entries : (key : ℕ) (node : Node) → object h.nodes key ≡ Some node → length node.entries ≡ 64
  pub page_bytes : (key : ℕ) (page : Page) → object h.pages key ≡ Some page → length page.bytes ≡ 4096
  pub chunk_bytes : (key : ℕ) (chunk : Chunk) → object h.chunks key ≡ Some chunk → length chunk.bytes ≡ 512
  pub waiting : (key : ℕ) (sock : Sock) → object h.socks key ≡ Some sock → length sock.waiting ≡ 8
