-- The links of FIFOs' pipes while pipes change.
use Rattle.std.proofs.Common.{◌≡◌, ◌≢◌, ◌==◌, ℕ, List, cond, eqb, Option, None, Some, refl, sym, ap, subst, ◌∙◌, inl, inr, Contains}
use Rattle.std.proofs.lemmas.Bool.{cases_eq}
use Rattle.kheap_laws.proofs.OnceLemmas.{Contains-single}
use Rattle.kheap_slabs.specs.Objects.{object, put}
use Rattle.kheap_slabs.specs.declared.objects.Pipe.{Pipe as HeldPipe}
use Rattle.kheap_slabs.specs.Heap.{Heap}
use Rattle.posix_defs.specs.QueuePlace.{QueuePlace}
use Rattle.pipe_ends.specs.Links.{Link, link_in, link_of, link_at, KeepsLinks}
use Rattle.pipe_ends.specs.Standing.{LeavesOthers, Turned}

-- a pipe without a node is no FIFO's
pub no_link : (pipe : HeldPipe) → pipe.node ≡ 0 → link_of (Some pipe) ≡ None
no_link pipe none = subst (λ (n : ℕ). cond (eqb n 0) None (Some (link_in pipe)) ≡ None) (sym none) refl

-- pipes that are the same in this have the same link
pub same_link : (one other : HeldPipe) → link_in one ≡ link_in other → link_of (Some one) ≡ link_of (Some other)
same_link one other same = ap (λ (link : Link). cond (eqb link.node 0) None (Some link)) same

pub other_links : (old new : Heap) (key other : ℕ) → other ≢ key → LeavesOthers old new key → link_at new other ≡ link_at old other
other_links old new key other apart others = ap link_of (others.objects other (λ among. apart (sym (Contains-single key other among))))

-- where every other pipe is the same, and this one's link is
pub links_kept : (old new : Heap) (key : ℕ) → link_at new key ≡ link_at old key → ((other : ℕ) → other ≢ key → link_at new other ≡ link_at old other) → KeepsLinks old new
links_kept old new key here others other = elim (cases_eq other key) [
  | inl same ↦ subst (λ k. link_at new k ≡ link_at old k) (sym same) here
  | inr apart ↦ others other apart
]

-- no pipe is other than before
pub links_same : (old new : Heap) → new.pipes ≡ old.pipes → KeepsLinks old new
links_same old new same key = ap (λ (pipes : List (Option HeldPipe)). link_of (object pipes key)) same

-- one change after another
pub links_then : (old mid new : Heap) → KeepsLinks old mid → KeepsLinks mid new → KeepsLinks old new
links_then old mid new first second key = second key ∙ first key

-- the link of a pipe whose queue turned, with other counts of its ends
turned_in : (old new : Heap) (key : ℕ) (held : HeldPipe) (next : List ℕ → List ℕ) (place : QueuePlace) (readers writers : ℕ) → Turned old new key held next place readers writers
    → (now : HeldPipe) × (object new.pipes key ≡ Some now) × (link_in now ≡ record (link_in held) { readers = readers; writers = writers })
turned_in old new key held next place readers writers turned = (
  turned.now,
  turned.stored,
  ap link_in turned.fifo
      ∙ (ap (λ n. record (link_in held) { readers = n; writers = turned.now.writers }) turned.readers_are
      ∙ ap (λ n. record (link_in held) { readers = readers; writers = n }) turned.writers_are),
)

turned_others : (old new : Heap) (key : ℕ) (held : HeldPipe) (next : List ℕ → List ℕ) (place : QueuePlace) (readers writers : ℕ) → Turned old new key held next place readers writers
    → (other : ℕ) → other ≢ key → link_at new other ≡ link_at old other
turned_others old new key held next place readers writers turned other apart = ap link_of (turned.objects other (λ among. apart (sym (Contains-single key other among))))

-- bytes come and go
pub links_turned : (old new : Heap) (key : ℕ) (held : HeldPipe) (next : List ℕ → List ℕ) (place : QueuePlace) → object old.pipes key ≡ Some held
    → Turned old new key held next place held.readers held.writers → KeepsLinks old new
links_turned old new key held next place there turned =
    let now = turned_in old new key held next place held.readers held.writers turned in
    links_kept old new key (ap link_of now.1 ∙ (same_link now.0 held now.2 ∙ sym (ap link_of there)))
    (turned_others old new key held next place held.readers held.writers turned)

-- a pipe is made that is no FIFO's
pub links_made : (old new : Heap) (key : ℕ) (pipe : HeldPipe) → object old.pipes key ≡ None → object new.pipes key ≡ Some pipe → pipe.node ≡ 0 → LeavesOthers old new key → KeepsLinks old new
links_made old new key pipe vacant stored none others =
    links_kept old new key (ap link_of stored ∙ (no_link pipe none ∙ sym (ap link_of vacant))) (λ other apart. other_links old new key other apart others)
