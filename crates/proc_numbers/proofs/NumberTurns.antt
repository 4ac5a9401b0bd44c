-- One number of a process has another descriptor, or none, in the heap as in the machine.
use Rattle.std.proofs.Common.{◌≡◌, ◌≢◌, ◌⊎◌, ℕ, zero, suc, ◌<◌, ◌≤◌, ◌==◌, true, false, List, length, Option, None, Some, unwrap_or, refl, ap, sym, ◌∙◌, subst, arith, inl, inr}
use Rattle.std.specs.Prelude.{slice_set}
use Rattle.std.specs.Option.{option_map}
use Rattle.std.proofs.lemmas.Bool.Decides.{eqb_tells}
use Rattle.std.proofs.lemmas.List.{length-set, map-set}
use Rattle.kern_laws.proofs.TablePlaces.{get_set_same, get_set_other}
use Rattle.chunk_queue.proofs.HeldLemmas.{HasBytes-same}
use Rattle.kheap_slabs.specs.declared.objects.Access.{Access}
use Rattle.kheap_slabs.specs.declared.objects.Descriptor.{Descriptor as HeldDescriptor}
use Rattle.kheap_slabs.specs.declared.objects.Leaf.{Leaf}
use Rattle.kheap_slabs.specs.declared.objects.Proc.{Proc}
use Rattle.kheap_slabs.specs.declared.objects.Target.{Target}
use Rattle.kheap_slabs.specs.declared.objects.Target.TheVariants as target
use Rattle.kheap_slabs.specs.Heap.{Heap}
use Rattle.kheap_slabs.specs.Keys.{AreKeysOf}
use Rattle.open_laws.specs.Described.{CountedList}
use Rattle.open_laws.specs.Open.{AreOpen, descriptor_by, descriptors_by}
use Rattle.open_laws.specs.Owned.{IsHeldOpen, IsThereFor}
use Rattle.open_laws.specs.Placed.{Numbers}
use Rattle.open_laws.proofs.DropLemmas.{piped_on, socketed_on}
use Rattle.pipe_ends.proofs.StandingLemmas.{stands_same as pipe_stands_same}
use Rattle.posix_defs.specs.ByPid.{with_pid}
use Rattle.posix_defs.specs.Files.Descriptors.{Descriptor, Descriptors, none_open, with_descriptor}
use Rattle.posix_defs.specs.Files.State.{Files, descriptors_of, with_open}
use Rattle.proc_table.specs.Moves.{NumbersTurn}
use Rattle.proc_table.specs.Opening.{HaveOpenings, opening_in, opening_of}
use Rattle.proc_table.specs.Procs.{numbers_in, proc_of}
use Rattle.proc_table.specs.Table.{AreStored, TableView, keys_of, processes, procs_at}
use Rattle.proc_table.proofs.LeafTurns.{turned_hold, turned_others}
use Rattle.usock_core.proofs.StandingLemmas.{held_on}
use Rattle.proc_numbers.specs.Having.{AreListed, HaveDescriptors, places_in}
use Rattle.proc_numbers.proofs.Listing.{found_before, found_now, found_others, pid_between, stored_still, used_still}

-- the heap with other Procs and other Leaves
abbrev pub beside_numbers : Heap → List (Option Proc) → List (Option Leaf) → ℕ → Heap
beside_numbers h procs leaves high = record h { procs = procs; leaves = leaves; high = high }

-- what is open doesn't depend on these, nor on the machine's descriptors
pub open_beside : (numbers : Numbers) (h : Heap) (procs : List (Option Proc)) (leaves : List (Option Leaf)) (high : ℕ) (list : CountedList) (files : Files) (descriptors : List Descriptors)
    → AreOpen numbers h list files → AreOpen numbers (beside_numbers h procs leaves high) list (record files { descriptors = descriptors })
open_beside numbers h procs leaves high list files descriptors are = record {
  described = are.described;
  descriptions = are.descriptions;
  piped = piped_on numbers h (beside_numbers h procs leaves high) files.pipes refl (λ key held bytes is has. HasBytes-same h (beside_numbers h procs leaves high) held.queue bytes refl has) are.piped;
  socketed = socketed_on numbers h (beside_numbers h procs leaves high) files.sockets refl (λ key held bytes is has. HasBytes-same h (beside_numbers h procs leaves high) held.queue bytes refl has) are.socketed;
}

pub held_beside : (h : Heap) (procs : List (Option Proc)) (leaves : List (Option Leaf)) (high : ℕ) → IsHeldOpen h → IsHeldOpen (beside_numbers h procs leaves high)
held_beside h procs leaves high held = record {
  targets = λ key desc is. same_target desc.access desc.target (held.targets key desc is);
  pipes = λ key pipe is. let ends = held.pipes key pipe is in record { readers = ends.readers; writers = ends.writers; some_end = ends.some_end };
  stand = λ key used. let stands = held.stand key used in (stands.0, stands.1, pipe_stands_same h (beside_numbers h procs leaves high) key stands.0 stands.1 refl refl stands.2);
  socks = held_on h (beside_numbers h procs leaves high) _ refl (λ key sock bytes is has. HasBytes-same h (beside_numbers h procs leaves high) sock.queue bytes refl has) held.socks;
  once = held.once;
}
  where
    same_target : (access : Access) (what : Target) → IsThereFor h access what → IsThereFor (beside_numbers h procs leaves high) access what
    same_target access (target.Inode number) there = there
    same_target access (target.Pipe key) there = there
    same_target access (target.Sock key) there = there

module _ (old mid : Heap) (kept : TableView) (pid fd key : ℕ) (proc now : Proc) (x : Option HeldDescriptor) (listed : AreListed old kept)
    (turns : NumbersTurn old mid kept pid key proc now) (numbers_are : numbers_in mid now ≡ slice_set (numbers_in old proc) fd x) where
  own : now.pid ≡ proc.pid
  own = ap (λ (p : Proc). p.pid) turns.same

  -- the process of a pid, once the numbers have turned
  found_mid : proc_of (processes mid kept) pid ≡ Some now
  found_mid =
      ap (λ (objects : List (Option Proc)). proc_of (procs_at objects kept.listed) pid) turns.procs
      ∙ found_now old.procs key proc now turns.there own kept.listed pid listed.stored turns.found

  found_old : proc_of (processes old kept) pid ≡ Some proc
  found_old = found_before old.procs key proc now turns.there own kept.listed pid listed.stored turns.found

  same_mid : (q : ℕ) → q ≢ pid → proc_of (processes mid kept) q ≡ proc_of (processes old kept) q
  same_mid q apart =
      ap (λ (objects : List (Option Proc)). proc_of (procs_at objects kept.listed) q) turns.procs
      ∙ found_others old.procs key proc now turns.there own kept.listed pid listed.stored turns.found q apart

  pub listed_turned : AreListed mid kept
  listed_turned = record {
    stored = subst (λ (objects : List (Option Proc)). AreStored objects kept.listed) (sym turns.procs) (stored_still old.procs key proc now turns.there own kept.listed listed.stored);
    rising = listed.rising;
    all = subst (λ (objects : List (Option Proc)). AreKeysOf objects (keys_of kept.listed)) (sym turns.procs) (used_still old.procs key proc now turns.there own _ listed.all);
    leaves = turned_hold old mid kept pid key proc now listed.stored listed.rising listed.leaves turns;
  }

  pub proc_before : proc_of (processes old kept) pid ≡ Some proc
  proc_before = found_old

  pub proc_then : proc_of (processes mid kept) pid ≡ Some now
  proc_then = found_mid

  -- what it has open before and then, and what every other has
  pub numbers_before : places_in (numbers_in old) (proc_of (processes old kept) pid) ≡ numbers_in old proc
  numbers_before = ap (places_in (numbers_in old)) found_old

  pub numbers_then : places_in (numbers_in mid) (proc_of (processes mid kept) pid) ≡ slice_set (numbers_in old proc) fd x
  numbers_then = ap (places_in (numbers_in mid)) found_mid ∙ numbers_are

  pub numbers_others : (q : ℕ) → q ≢ pid → places_in (numbers_in mid) (proc_of (processes mid kept) q) ≡ places_in (numbers_in old) (proc_of (processes old kept) q)
  numbers_others q apart = ap (places_in (numbers_in mid)) (same_mid q apart) ∙ by_found (proc_of (processes old kept) q) refl
    where
      by_found : (o : Option Proc) → proc_of (processes old kept) q ≡ o → places_in (numbers_in mid) o ≡ places_in (numbers_in old) o
      by_found None is = refl
      by_found (Some other) is = turned_others old mid kept pid key proc now listed.stored listed.rising listed.leaves turns q other apart is

  module _ (numbers : Numbers) (files : Files) (have : HaveDescriptors (numbers_in old) numbers.descs (processes old kept) kept.last files) where
    abbrev plain : Option Descriptor
    plain = option_map (descriptor_by numbers.descs) x

    abbrev files_then : Files
    files_then = with_open files pid fd plain

    pub descriptors_here : descriptors_of files pid ≡ descriptors_by numbers.descs (numbers_in old proc)
    descriptors_here = have.each pid ∙ ap (descriptors_by numbers.descs) numbers_before

    made_then : length files_then.descriptors ≡ kept.last
    made_then = by_pid pid ∙ have.made
      where
        by_pid : (p : ℕ) → length (with_pid files.descriptors p (with_descriptor (descriptors_of files pid) fd plain)) ≡ length files.descriptors
        by_pid zero = refl
        by_pid (suc i) = length-set files.descriptors i _

    at_itself : (p : ℕ) (descriptors : Descriptors) → 0 < p → p ≤ length files.descriptors → descriptors_of (record files { descriptors = with_pid files.descriptors p descriptors }) p ≡ descriptors
    at_itself zero descriptors above below = absurd (omega (arith, above))
    at_itself (suc i) descriptors above below = ap (λ found. unwrap_or found none_open) (get_set_same files.descriptors i descriptors (omega (arith, below)))

    at_another : (p q : ℕ) (descriptors : Descriptors) → q ≢ p → descriptors_of (record files { descriptors = with_pid files.descriptors p descriptors }) q ≡ descriptors_of files q
    at_another zero q descriptors apart = refl
    at_another (suc i) zero descriptors apart = refl
    at_another (suc i) (suc j) descriptors apart = ap (λ found. unwrap_or found none_open) (get_set_other files.descriptors i j descriptors (λ same. apart (ap (λ k. suc k) same)))

    -- who sleeps in an open sleeps in it still
    openings_turned : HaveOpenings (processes mid kept) kept.last files.openings
    openings_turned = record { each = λ q. have.openings.each q ∙ sym (by_pid q (eqb_tells q pid)); made = have.openings.made }
      where
        by_pid : (q : ℕ) → (((q == pid) ≡ true) × (q ≡ pid)) ⊎ (((q == pid) ≡ false) × (q ≢ pid))
            → opening_of (proc_of (processes mid kept) q) ≡ opening_of (proc_of (processes old kept) q)
        by_pid q (inl same) =
            ap (λ p. opening_of (proc_of (processes mid kept) p)) same.1
            ∙ (ap opening_of found_mid
            ∙ (ap opening_in turns.same
            ∙ (sym (ap opening_of found_old) ∙ sym (ap (λ p. opening_of (proc_of (processes old kept) p)) same.1))))
        by_pid q (inr apart) = ap opening_of (same_mid q apart.1)

    pub descriptors_turned : HaveDescriptors (numbers_in mid) numbers.descs (processes mid kept) kept.last files_then
    descriptors_turned = record { each = λ q. by_pid q (eqb_tells q pid); made = made_then; openings = openings_turned }
      where
        within : (0 < pid) × (pid ≤ kept.last)
        within = pid_between kept.listed 0 kept.last pid key listed.rising turns.found

        by_pid : (q : ℕ) → (((q == pid) ≡ true) × (q ≡ pid)) ⊎ (((q == pid) ≡ false) × (q ≢ pid))
            → descriptors_of files_then q ≡ descriptors_by numbers.descs (places_in (numbers_in mid) (proc_of (processes mid kept) q))
        by_pid q (inl same) =
            ap (descriptors_of files_then) same.1
            ∙ at_itself pid (with_descriptor (descriptors_of files pid) fd plain) within.0 (let below = within.1 in let made = have.made in omega (arith, below, made))
            ∙ ap (λ descriptors. with_descriptor descriptors fd plain) descriptors_here
            ∙ sym (map-set (option_map (descriptor_by numbers.descs)) (numbers_in old proc) fd x)
            ∙ sym (ap (λ p. descriptors_by numbers.descs (places_in (numbers_in mid) (proc_of (processes mid kept) p))) same.1 ∙ ap (descriptors_by numbers.descs) numbers_then)
        by_pid q (inr apart) =
            at_another pid q (with_descriptor (descriptors_of files pid) fd plain) apart.1
            ∙ have.each q
            ∙ ap (descriptors_by numbers.descs) (sym (numbers_others q apart.1))
