-- What calls on descriptors change, one after another.
use Rattle.std.proofs.Common.{◌≡◌, ◌≢◌, ◌⊎◌, ℕ, ℤ, pos, negsuc, zero, suc, ◌<◌, ◌==◌, true, false, List, [], ◌∷◌, length, set, Option, None, Some, IsSome, is_some, refl, ap, sym, ◌∙◌, inl, inr}
use Rattle.std.specs.Prelude.{slice_index_or, slice_set}
use Rattle.std.proofs.lemmas.Bool.Decides.{eqb_tells}
use Rattle.std.proofs.lemmas.List.{get_or-set_same, get_or-set_other, set-get_or}
use Rattle.kabi_types.specs.Arguments.{count_of}
use Rattle.kheap_slabs.specs.Objects.{object, put}
use Rattle.kheap_slabs.specs.declared.objects.Desc.{Desc}
use Rattle.kheap_slabs.specs.declared.objects.Descriptor.{Descriptor as HeldDescriptor}
use Rattle.kheap_slabs.specs.declared.objects.Proc.{Proc}
use Rattle.kheap_slabs.proofs.ObjectLemmas.{InUse-within}
use Rattle.kheap_slabs.specs.Heap.{Heap}
use Rattle.open_laws.specs.Described.{inode_in}
use Rattle.pipe_ends.specs.Links.{KeepsLinks}
use Rattle.pipe_ends.proofs.LinkLemmas.{links_then}
use Rattle.proc_table.specs.Moves.{NumbersTurn}
use Rattle.proc_table.specs.Procs.{numbers_in, proc_of, with_numbers}
use Rattle.proc_table.specs.Table.{TableView, key_of, processes}
use Rattle.proc_table.proofs.PlaceLemmas.{key_of-proc, some_same}
use Rattle.proc_numbers.specs.Having.{AreListed, ClosesNumber, OpensNoNode, node_closed, places_in}
use Rattle.proc_numbers.specs.Naming.{ChangesNumbers, NamesNumber, named_at, named_by}
use Rattle.proc_numbers.proofs.Listing.{found_before, put_same}
use Rattle.proc_numbers.proofs.NumberTurns.{numbers_before, numbers_then}

set_again : {X : Type 0} (xs : List X) (i : ℕ) (a b : X) → set (set xs i a) i b ≡ set xs i b
set_again [] i a b = refl
set_again (x ∷ xs) zero a b = refl
set_again (x ∷ xs) (suc i) a b = ap (λ rest. x ∷ rest) (set_again xs i a b)

-- the heap with other Procs, Leaves, Descs, Pipes, Chunks and Socks than another
abbrev pub opening : Heap → Heap → Heap
opening old new = record old { procs = new.procs; leaves = new.leaves; descs = new.descs; pipes = new.pipes; chunks = new.chunks; socks = new.socks; high = new.high }

-- nothing is changed
pub changes_nothing : (h : Heap) (kept : TableView) (pid : ℕ) → AreListed h kept → IsSome (key_of kept.listed pid) → ChangesNumbers h h kept pid
changes_nothing h kept pid listed there = by_key (key_of kept.listed pid) refl there
  where
    by_key : (o : Option ℕ) → key_of kept.listed pid ≡ o → IsSome o → ChangesNumbers h h kept pid
    by_key None named some = cc
    by_key (Some key) named some =
        let it = key_of-proc h.procs kept.listed pid key listed.stored named in
        record {
          key = key;
          proc = it.0;
          now = it.0;
          named = named;
          there = it.1;
          same = refl;
          procs = sym (ap (slice_set h.procs key) (sym it.1) ∙ set-get_or h.procs key None);
          beside = refl;
          links = λ other. refl;
        }

-- first other objects than Procs and Leaves change
pub changes_after : (old mid new : Heap) (kept : TableView) (pid : ℕ) → mid.procs ≡ old.procs → mid ≡ opening old mid → KeepsLinks old mid → ChangesNumbers mid new kept pid → ChangesNumbers old new kept pid
changes_after old mid new kept pid same e keeps it = record {
  key = it.key;
  proc = it.proc;
  now = it.now;
  named = it.named;
  there = ap (λ (p : List (Option Proc)). object p it.key) (sym same) ∙ it.there;
  same = it.same;
  procs = it.procs ∙ ap (λ (p : List (Option Proc)). put p it.key it.now) same;
  beside = it.beside ∙ ap (λ (h : Heap). opening h new) e;
  links = links_then old mid new keeps it.links;
}

pub changes_then : (old mid new : Heap) (kept : TableView) (pid : ℕ) → ChangesNumbers old mid kept pid → ChangesNumbers mid new kept pid → ChangesNumbers old new kept pid
changes_then old mid new kept pid first second =
    let same_key : second.key ≡ first.key = some_same (key_of kept.listed pid) second.key first.key second.named first.named in
    let at : object mid.procs first.key ≡ Some first.now = ap (λ objects. object objects first.key) first.procs ∙ put_same old.procs first.key first.proc first.now first.there (ap (λ (p : Proc). p.pid) first.same) in
    let same_proc : second.proc ≡ first.now = some_same (object mid.procs first.key) second.proc first.now (ap (object mid.procs) (sym same_key) ∙ second.there) at in
    record {
      key = first.key;
      proc = first.proc;
      now = second.now;
      named = first.named;
      there = first.there;
      same = second.same ∙ ap (λ (p : Proc). with_numbers p second.now) (same_proc ∙ first.same);
      procs =
          second.procs
          ∙ ap (λ key. put mid.procs key second.now) same_key
          ∙ ap (λ objects. put objects first.key second.now) first.procs
          ∙ set_again old.procs first.key (Some first.now) (Some second.now);
      beside = second.beside ∙ ap (λ (h : Heap). opening h new) first.beside;
      links = links_then old mid new first.links second.links;
    }

-- what a number names once the numbers have turned, and what it named
turned_at : (old new : Heap) (kept : TableView) (pid fd key other : ℕ) (proc now : Proc) (x : Option HeldDescriptor) → AreListed old kept → NumbersTurn old new kept pid key proc now
    → numbers_in new now ≡ slice_set (numbers_in old proc) fd x → named_at new kept pid other ≡ slice_index_or (slice_set (numbers_in old proc) fd x) other None
turned_at old new kept pid fd key other proc now x listed turns are =
    ap (λ places. slice_index_or places other None) (numbers_then old new kept pid fd key proc now x listed turns are)

was_at : (old new : Heap) (kept : TableView) (pid fd key other : ℕ) (proc now : Proc) (x : Option HeldDescriptor) → AreListed old kept → NumbersTurn old new kept pid key proc now
    → numbers_in new now ≡ slice_set (numbers_in old proc) fd x → named_at old kept pid other ≡ slice_index_or (numbers_in old proc) other None
was_at old new kept pid fd key other proc now x listed turns are =
    ap (λ places. slice_index_or places other None) (numbers_before old new kept pid fd key proc now x listed turns are)

-- another number than the one that is closed names what it named
pub others_stay : (old new : Heap) (kept : TableView) (pid fd other : ℕ) → AreListed old kept → ClosesNumber old new kept pid fd → other ≢ fd
    → named_at new kept pid other ≡ named_at old kept pid other
others_stay old new kept pid fd other listed closes apart =
    turned_at old new kept pid fd closes.key other closes.proc closes.now None listed closes.turns closes.numbers
    ∙ get_or-set_other (numbers_in old closes.proc) fd other None None apart
    ∙ sym (was_at old new kept pid fd closes.key other closes.proc closes.now None listed closes.turns closes.numbers)

-- and the one that is closed names nothing
pub closed_names_nothing : (old new : Heap) (kept : TableView) (pid fd : ℕ) → AreListed old kept → (closes : ClosesNumber old new kept pid fd) → fd < length (numbers_in old closes.proc)
    → named_at new kept pid fd ≡ None
closed_names_nothing old new kept pid fd listed closes within =
    turned_at old new kept pid fd closes.key fd closes.proc closes.now None listed closes.turns closes.numbers
    ∙ get_or-set_same (numbers_in old closes.proc) fd None None within

-- another number than the one that is opened names what it named
pub others_named : (old new : Heap) (kept : TableView) (pid fd other : ℕ) (held : HeldDescriptor) → AreListed old kept → NamesNumber old new kept pid fd held → other ≢ fd
    → named_at new kept pid other ≡ named_at old kept pid other
others_named old new kept pid fd other held listed names apart =
    turned_at old new kept pid fd names.key other names.proc names.now (Some held) listed names.turns names.numbers
    ∙ get_or-set_other (numbers_in old names.proc) fd other (Some held) None apart
    ∙ sym (was_at old new kept pid fd names.key other names.proc names.now (Some held) listed names.turns names.numbers)

-- what a number that is open names is what it names as a count
pub named_count : (h : Heap) (kept : TableView) (pid : ℕ) (fd : ℤ) (held : HeldDescriptor) → named_by h kept pid fd ≡ Some held → named_by h kept pid fd ≡ named_at h kept pid (count_of fd)
named_count h kept pid (pos fd) held is = refl
named_count h kept pid (negsuc _) held is = cc

-- of the heap Procs, Leaves and Descs alone are others where first Descs change and then a number
pub beside_shared : (old mid new : Heap) (descs : List (Option Desc)) → mid ≡ record old { descs = descs } → new ≡ record mid { procs = new.procs; leaves = new.leaves; high = new.high }
    → new ≡ record old { procs = new.procs; leaves = new.leaves; descs = new.descs; high = new.high }
beside_shared old mid new descs e b =
    let whole : new ≡ record old { procs = new.procs; leaves = new.leaves; descs = descs; high = new.high } =
    b ∙ ap (λ (h : Heap). record h { procs = new.procs; leaves = new.leaves; high = new.high }) e in
    whole ∙ ap (λ (d : List (Option Desc)). record old { procs = new.procs; leaves = new.leaves; descs = d; high = new.high }) (sym (ap (λ (h : Heap). h.descs) whole))

-- ---- nodes

-- the node of a close, by what the number named
pub node_of_number : (h new : Heap) (kept : TableView) (pid fd : ℕ) (told : Option ℕ) → AreListed h kept → ClosesNumber h new kept pid fd
    → ((proc : Proc) → proc_of (processes h kept) pid ≡ Some proc → told ≡ node_closed h (slice_index_or (numbers_in h proc) fd None))
    → told ≡ node_closed h (named_at h kept pid fd)
node_of_number h new kept pid fd told listed closes each =
    let found = found_before h.procs closes.key closes.proc closes.proc closes.turns.there refl kept.listed pid listed.stored closes.turns.found in
    each closes.proc found ∙ sym (ap (λ o. node_closed h (slice_index_or (places_in (numbers_in h) o) fd None)) found)

-- no description opens a node where a Desc becomes another that is open on the same
pub put_opens : (descs : List (Option Desc)) (key : ℕ) (was now : Desc) → object descs key ≡ Some was → now.target ≡ was.target → OpensNoNode descs → OpensNoNode (put descs key now)
put_opens descs key was now is same none other found at = by_key (eqb_tells other key)
  where
    by_key : (((other == key) ≡ true) × (other ≡ key)) ⊎ (((other == key) ≡ false) × (other ≢ key)) → inode_in found.target ≡ None
    by_key (inl here) =
        let it : found ≡ now = some_same (object (put descs key now) key) found now (ap (object (put descs key now)) (sym here.1) ∙ at) (get_or-set_same descs key (Some now) None (InUse-within descs key (ap is_some is))) in
        ap (λ (d : Desc). inode_in d.target) it ∙ ap inode_in same ∙ none key was is
    by_key (inr apart) = none other found (sym (get_or-set_other descs key other (Some now) None apart.1) ∙ at)
