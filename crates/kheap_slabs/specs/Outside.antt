-- Heaps that are the same but for some keys.
use Rattle.std.specs.Prelude.{◌≡◌, ℕ, List, [], ◌++◌, Option}
use Rattle.std.specs.List.{Contains}
use Rattle.kheap_slabs.specs.Objects.{object}
use Rattle.kheap_slabs.specs.Heap.{Heap}

-- every key but these names the object that it named
abbrev pub KeepsOutside : {X : Type 0} → List ℕ → List (Option X) → List (Option X) → Type 0
KeepsOutside keys old new = (key : ℕ) → (Contains keys key → ⊥) → object new key ≡ object old key

-- keys of each class
pub record Keys : Type 0 where
  pub procs : List ℕ
  pub nodes : List ℕ
  pub pages : List ℕ
  pub descs : List ℕ
  pub vnodes : List ℕ
  pub names : List ℕ
  pub blocks : List ℕ
  pub pipes : List ℕ
  pub chunks : List ℕ
  pub socks : List ℕ
  pub leaves : List ℕ
  pub locks : List ℕ

-- no keys
abbrev pub no_keys : Keys
no_keys = record {
  procs = [];
  nodes = [];
  pages = [];
  descs = [];
  vnodes = [];
  names = [];
  blocks = [];
  pipes = [];
  chunks = [];
  socks = [];
  leaves = [];
  locks = [];
}

-- the keys of both
abbrev pub both_keys : Keys → Keys → Keys
both_keys a b = record {
  procs = a.procs ++ b.procs;
  nodes = a.nodes ++ b.nodes;
  pages = a.pages ++ b.pages;
  descs = a.descs ++ b.descs;
  vnodes = a.vnodes ++ b.vnodes;
  names = a.names ++ b.names;
  blocks = a.blocks ++ b.blocks;
  pipes = a.pipes ++ b.pipes;
  chunks = a.chunks ++ b.chunks;
  socks = a.socks ++ b.socks;
  leaves = a.leaves ++ b.leaves;
  locks = a.locks ++ b.locks;
}

-- every key of every class but these names the object that it named
pub record SameOutside (keys : Keys) (old new : Heap) : Type 0 where
  pub procs : KeepsOutside keys.procs old.procs new.procs
  pub nodes : KeepsOutside keys.nodes old.nodes new.nodes
  pub pages : KeepsOutside keys.pages old.pages new.pages
  pub descs : KeepsOutside keys.descs old.descs new.descs
  pub vnodes : KeepsOutside keys.vnodes old.vnodes new.vnodes
  pub names : KeepsOutside keys.names old.names new.names
  pub blocks : KeepsOutside keys.blocks old.blocks new.blocks
  pub pipes : KeepsOutside keys.pipes old.pipes new.pipes
  pub chunks : KeepsOutside keys.chunks old.chunks new.chunks
  pub socks : KeepsOutside keys.socks old.socks new.socks
  pub leaves : KeepsOutside keys.leaves old.leaves new.leaves
  pub locks : KeepsOutside keys.locks old.locks new.locks
