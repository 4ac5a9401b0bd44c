-- Changes of a heap outside which it is the same, one after the other.
use Rattle.std.proofs.Common.{◌≡◌, ℕ, List, [], ◌∷◌, ◌++◌, Option, refl, ◌∙◌, arith, Contains}
use Rattle.std.proofs.lemmas.List.Elements.{Contains-append_left, Contains-append_right}
use Rattle.kheap_slabs.specs.Objects.{put, without}
use Rattle.kheap_slabs.specs.Heap.{Heap}
use Rattle.kheap_slabs.specs.Outside.{KeepsOutside, Keys, both_keys, SameOutside}
use Rattle.kheap_slabs.proofs.ObjectLemmas.{object-put_other, object-without_other}

module _ {X : Type 0} where
  pub KeepsOutside-refl : (keys : List ℕ) (objects : List (Option X)) → KeepsOutside keys objects objects
  KeepsOutside-refl keys objects key outside = refl

  pub KeepsOutside-trans : (first second : List ℕ) (a b c : List (Option X)) → KeepsOutside first a b → KeepsOutside second b c → KeepsOutside (first ++ second) a c
  KeepsOutside-trans first second a b c one two key outside =
      two key (λ there. outside (Contains-append_right first second key there)) ∙ one key (λ there. outside (Contains-append_left first second key there))

  -- more keys may be named than have changed
  pub KeepsOutside-more : (few many : List ℕ) (a b : List (Option X)) → ((key : ℕ) → Contains few key → Contains many key) → KeepsOutside few a b → KeepsOutside many a b
  KeepsOutside-more few many a b within kept key outside = kept key (λ there. outside (within key there))

  -- a put and a removal change one key
  pub KeepsOutside-put : (objects : List (Option X)) (at : ℕ) (value : X) → KeepsOutside (at ∷ []) objects (put objects at value)
  KeepsOutside-put objects at value key outside = object-put_other objects at key value (λ same. outside (only at key same))
    where
      only : (at key : ℕ) → key ≡ at → Contains (at ∷ []) key
      only at key same = (0, omega arith, rw same refl)

  pub KeepsOutside-without : (objects : List (Option X)) (at : ℕ) → KeepsOutside (at ∷ []) objects (without objects at)
  KeepsOutside-without objects at key outside = object-without_other objects at key (λ same. outside (only at key same))
    where
      only : (at key : ℕ) → key ≡ at → Contains (at ∷ []) key
      only at key same = (0, omega arith, rw same refl)

pub SameOutside-refl : (keys : Keys) (h : Heap) → SameOutside keys h h
SameOutside-refl keys h = record {
  procs = λ _ _. refl;
  nodes = λ _ _. refl;
  pages = λ _ _. refl;
  descs = λ _ _. refl;
  vnodes = λ _ _. refl;
  names = λ _ _. refl;
  blocks = λ _ _. refl;
  pipes = λ _ _. refl;
  chunks = λ _ _. refl;
  socks = λ _ _. refl;
  leaves = λ _ _. refl;
  locks = λ _ _. refl;
}

pub SameOutside-trans : (first second : Keys) (a b c : Heap) → SameOutside first a b → SameOutside second b c → SameOutside (both_keys first second) a c
SameOutside-trans first second a b c one two = record {
  procs = KeepsOutside-trans first.procs second.procs a.procs b.procs c.procs one.procs two.procs;
  nodes = KeepsOutside-trans first.nodes second.nodes a.nodes b.nodes c.nodes one.nodes two.nodes;
  pages = KeepsOutside-trans first.pages second.pages a.pages b.pages c.pages one.pages two.pages;
  descs = KeepsOutside-trans first.descs second.descs a.descs b.descs c.descs one.descs two.descs;
  vnodes = KeepsOutside-trans first.vnodes second.vnodes a.vnodes b.vnodes c.vnodes one.vnodes two.vnodes;
  names = KeepsOutside-trans first.names second.names a.names b.names c.names one.names two.names;
  blocks = KeepsOutside-trans first.blocks second.blocks a.blocks b.blocks c.blocks one.blocks two.blocks;
  pipes = KeepsOutside-trans first.pipes second.pipes a.pipes b.pipes c.pipes one.pipes two.pipes;
  chunks = KeepsOutside-trans first.chunks second.chunks a.chunks b.chunks c.chunks one.chunks two.chunks;
  socks = KeepsOutside-trans first.socks second.socks a.socks b.socks c.socks one.socks two.socks;
  leaves = KeepsOutside-trans first.leaves second.leaves a.leaves b.leaves c.leaves one.leaves two.leaves;
  locks = KeepsOutside-trans first.locks second.locks a.locks b.locks c.locks one.locks two.locks;
}
