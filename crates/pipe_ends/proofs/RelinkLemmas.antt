-- A pipe that stands before another one from now on is the same pipe in all else.
use Rattle.std.proofs.Common.{◌≡◌, ◌≢◌, ◌⊎◌, ℕ, List, length, Option, None, Some, refl, sym, ap, subst, ◌∙◌, inl, inr}
use Rattle.std.proofs.lemmas.Bool.{cases_eq}
use Rattle.kheap_slabs.specs.Objects.{object, put}
use Rattle.kheap_slabs.proofs.ObjectLemmas.{object-put, object-put_other, InUse-within}
use Rattle.kheap_slabs.specs.declared.objects.Pipe.{Pipe as HeldPipe}
use Rattle.kheap_slabs.specs.Heap.{Heap}
use Rattle.kheap_slabs.specs.Owners.{OwnsItsObjects}
use Rattle.posix_defs.specs.Pipe.{Pipe}
use Rattle.chunk_queue.specs.Chained.{Turns}
use Rattle.chunk_queue.specs.Held.{HasBytes}
use Rattle.chunk_queue.proofs.HeldLemmas.{HasBytes-same, pipe_turns}
use Rattle.pipe_ends.specs.Links.{AreRelinked, Relinks}
use Rattle.pipe_ends.specs.Standing.{StandsFor}
use Rattle.pipe_ends.proofs.StandingLemmas.{Turns-same}

-- the same pipe before another one
abbrev pub before_next : HeldPipe → Option ℕ → HeldPipe
before_next pipe next = record pipe { next = next }

relinked_here : (old : Heap) (key : ℕ) (pipe : HeldPipe) (next : Option ℕ) → object old.pipes key ≡ Some pipe → object (put old.pipes key (before_next pipe next)) key ≡ Some (before_next pipe next)
relinked_here old key pipe next there = object-put old.pipes key (before_next pipe next) (InUse-within old.pipes key (rw there refl))

-- every pipe is the same but for the one that it stands before
pub relinked_pipe : (old new : Heap) (key : ℕ) (held : HeldPipe) → AreRelinked old new → object old.pipes key ≡ Some held
    → (next : Option ℕ) × (object new.pipes key ≡ Some (before_next held next))
relinked_pipe old new key held (inl same) there = (held.next, ap (λ (h : Heap). object h.pipes key) same ∙ there)
relinked_pipe old new key held (inr relinks) there = elim (cases_eq key relinks.key) [
  | inl here ↦ (
    relinks.next,
    let is : relinks.pipe ≡ held = (let one = relinks.there in let two = there in let at = here in cc) in
        ap (λ (h : Heap). object h.pipes key) relinks.now
        ∙ (ap (object (put old.pipes relinks.key (before_next relinks.pipe relinks.next))) here
        ∙ (relinked_here old relinks.key relinks.pipe relinks.next relinks.there ∙ ap (λ p. Some (before_next p relinks.next)) is)),
  )
  | inr apart ↦ (held.next, ap (λ (h : Heap). object h.pipes key) relinks.now ∙ (object-put_other old.pipes relinks.key key (before_next relinks.pipe relinks.next) apart ∙ there))
]

-- and none is there that wasn't
pub relinked_back : (old new : Heap) (key : ℕ) (held : HeldPipe) → AreRelinked old new → object new.pipes key ≡ Some held
    → (was : HeldPipe) × (object old.pipes key ≡ Some was) × (next : Option ℕ) × (held ≡ before_next was next)
relinked_back old new key held (inl same) there = (held, sym (ap (λ (h : Heap). object h.pipes key) same) ∙ there, held.next, refl)
relinked_back old new key held (inr relinks) there = elim (cases_eq key relinks.key) [
  | inl here ↦ (
    relinks.pipe,
    ap (object old.pipes) here ∙ relinks.there,
    relinks.next,
    let at : object new.pipes key ≡ Some (before_next relinks.pipe relinks.next) =
        ap (λ (h : Heap). object h.pipes key) relinks.now ∙ (ap (object (put old.pipes relinks.key (before_next relinks.pipe relinks.next))) here ∙ relinked_here old relinks.key relinks.pipe relinks.next relinks.there) in
        cc,
  )
  | inr apart ↦ (
    held,
    sym (object-put_other old.pipes relinks.key key (before_next relinks.pipe relinks.next) apart) ∙ (sym (ap (λ (h : Heap). object h.pipes key) relinks.now) ∙ there),
    held.next,
    refl,
  )
]

pub relinked_chunks : (old new : Heap) → AreRelinked old new → new.chunks ≡ old.chunks
relinked_chunks old new (inl same) = ap (λ (h : Heap). h.chunks) same
relinked_chunks old new (inr relinks) = ap (λ (h : Heap). h.chunks) relinks.now

-- nothing but pipes is other than before
pub relinked_kept : (old new : Heap) → AreRelinked old new → new ≡ record old { pipes = new.pipes }
relinked_kept old new (inl same) = subst (λ (h : Heap). h ≡ record old { pipes = h.pipes }) (sym same) refl
relinked_kept old new (inr relinks) = subst (λ (h : Heap). h ≡ record old { pipes = h.pipes }) (sym relinks.now) refl

pub relinked_stands : (old new : Heap) (key : ℕ) (pipe : Pipe) (at : ℕ) → AreRelinked old new → StandsFor old key pipe at → StandsFor new key pipe at
relinked_stands old new key pipe at relinked stands =
    let now = relinked_pipe old new key stands.held relinked stands.there in record {
      held = before_next stands.held now.0;
      there = now.1;
      bytes = HasBytes-same old new stands.held.queue pipe.bytes (relinked_chunks old new relinked) stands.bytes;
      len = stands.len;
      place = stands.place;
      readers = stands.readers;
      writers = stands.writers;
      node = stands.node;
      read_opens = stands.read_opens;
      write_opens = stands.write_opens;
      within = stands.within;
    }

-- and stood for that before
pub relinked_stood : (old new : Heap) (key : ℕ) (pipe : Pipe) (at : ℕ) → AreRelinked old new → StandsFor new key pipe at → StandsFor old key pipe at
relinked_stood old new key pipe at relinked stands =
    let was = relinked_back old new key stands.held relinked stands.there in
    let same : stands.held ≡ before_next was.0 was.2 = was.3 in record {
      held = was.0;
      there = was.1;
      bytes = HasBytes-same new old was.0.queue pipe.bytes (sym (relinked_chunks old new relinked)) (subst (λ (p : HeldPipe). HasBytes new p.queue pipe.bytes) same stands.bytes);
      len = subst (λ (p : HeldPipe). p.queue.len ≡ length pipe.bytes) same stands.len;
      place = subst (λ (p : HeldPipe). p.queue.place ≡ at) same stands.place;
      readers = subst (λ (p : HeldPipe). p.readers ≡ pipe.readers) same stands.readers;
      writers = subst (λ (p : HeldPipe). p.writers ≡ pipe.writers) same stands.writers;
      node = subst (λ (p : HeldPipe). p.node ≡ pipe.node) same stands.node;
      read_opens = subst (λ (p : HeldPipe). p.read_opens ≡ pipe.read_opens) same stands.read_opens;
      write_opens = subst (λ (p : HeldPipe). p.write_opens ≡ pipe.write_opens) same stands.write_opens;
      within = stands.within;
    }

-- a pipe with the same queue owns the chunks that it owned
pub owns_with : (old new : Heap) (key : ℕ) (pipe now : HeldPipe) → OwnsItsObjects old → object old.pipes key ≡ Some pipe → now.queue ≡ pipe.queue → object new.pipes key ≡ Some now
    → new ≡ record old { pipes = put old.pipes key now } → OwnsItsObjects new
owns_with old new key pipe now owned there queue stored put_in =
    (pipe_turns old old new key pipe now (λ bytes. bytes) owned there refl (subst (λ q. Turns old old pipe.queue q (λ bytes. bytes)) (sym queue) (Turns-same old pipe.queue)) stored put_in).owns

pub relinked_owns : (old new : Heap) → AreRelinked old new → OwnsItsObjects old → OwnsItsObjects new
relinked_owns old new (inl same) owned = subst (λ (h : Heap). OwnsItsObjects h) (sym same) owned
relinked_owns old new (inr relinks) owned =
    owns_with old new relinks.key relinks.pipe (before_next relinks.pipe relinks.next) owned relinks.there refl
    (ap (λ (h : Heap). object h.pipes relinks.key) relinks.now ∙ relinked_here old relinks.key relinks.pipe relinks.next relinks.there) relinks.now
