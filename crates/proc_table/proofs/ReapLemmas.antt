-- A process that has ended goes.
use Rattle.std.proofs.Common.{◌≡◌, ◌≢◌, ℕ, ◌==◌, Bool, true, false, cond, not, List, [], ◌∷◌, filter, Option, None, Some, is_some, refl, sym, ap, ◌∙◌, subst, slice_set}
use Rattle.std.specs.List.{AllByRecursion}
use Rattle.std.specs.Option.{option_and_then}
use Rattle.kheap_slabs.specs.Objects.{object, without}
use Rattle.kheap_slabs.specs.declared.objects.Proc.{Proc}
use Rattle.kheap_slabs.specs.Heap.{Heap}
use Rattle.kheap_slabs.specs.Spaces.{keys_in}
use Rattle.posix_defs.specs.Memory.{Frames}
use Rattle.proc_table.specs.Accounting.{HasAccount}
use Rattle.proc_table.specs.Changes.{is_other}
use Rattle.proc_table.specs.Moves.{TableMoves}
use Rattle.proc_table.specs.Procs.{HasEnded, IsLight, proc_of}
use Rattle.proc_table.specs.Table.{Holds, TableView, key_of, places_kept, processes, AreStored}
use Rattle.proc_table.specs.declared.places.Place.{Place}
use Rattle.proc_table.proofs.AccountLemmas.{becomes_account}
use Rattle.proc_table.proofs.FamilyLemmas.{filter_is, reaped, reaped_pid}
use Rattle.proc_table.proofs.HoldLemmas.{Becomes, becomes-moves, becomes-procs}
use Rattle.proc_table.proofs.OwnLemmas.{keys_left, rising_procs}
use Rattle.proc_table.proofs.PlaceLemmas.{Follows, eqb_is, IsAt, Misses, eqb_other, eqb_same, follows_one, key_of-misses, key_of-proc, object_missed, some_same, stored_is}
use Rattle.proc_table.proofs.TurnLemmas.{GoesLight, goes_light}

-- the places that stay are those of the others
others_kept : (objects : List (Option Proc)) (places : List Place) (pid : ℕ) → AreStored objects places
    → places_kept (reaped pid) objects places ≡ filter (λ place. not (place.pid == pid)) places
others_kept objects [] pid stored = refl
others_kept objects (place ∷ places) pid stored = by_case (stored_is objects place stored.0) (others_kept objects places pid stored.1)
  where
    same_test : (b : Bool) (proc : Proc) → is_some (cond b (Some proc) None) ≡ b
    same_test true proc = refl
    same_test false proc = refl

    by_case : IsAt objects place → places_kept (reaped pid) objects places ≡ filter (λ place. not (place.pid == pid)) places
        → places_kept (reaped pid) objects (place ∷ places) ≡ filter (λ place. not (place.pid == pid)) (place ∷ places)
    by_case at rest =
        ap (λ o. cond (is_some (option_and_then (reaped pid) o)) (place ∷ places_kept (reaped pid) objects places) (places_kept (reaped pid) objects places)) at.is
        ∙ ap (λ b. cond b (place ∷ places_kept (reaped pid) objects places) (places_kept (reaped pid) objects places)) (same_test (is_other pid at.proc) at.proc ∙ ap (λ n. not (n == pid)) at.pid)
        ∙ ap (λ kept. cond (not (place.pid == pid)) (place ∷ kept) kept) rest

reaped_other : (pid : ℕ) (proc : Proc) → proc.pid ≢ pid → reaped pid proc ≡ Some proc
reaped_other pid proc apart = ap (λ b. cond (not b) (Some proc) None) (eqb_other proc.pid pid apart)

reaped_sound : (pid : ℕ) → Becomes (GoesLight pid) (reaped pid)
reaped_sound pid = record {
  pid = λ proc now is. ap (λ p. p.pid) (reaped_pid pid proc now is);
  light = λ proc now goes is. subst IsLight (sym (reaped_pid pid proc now is)) goes.light;
  keys = λ proc goes. by_case proc goes (proc.pid == pid) refl;
}
  where
    by_case : (proc : Proc) → GoesLight pid proc → (b : Bool) → (proc.pid == pid) ≡ b → keys_left (cond (not b) (Some proc) None) ≡ keys_in proc.nodes
    by_case proc goes true is = sym (goes.empty (eqb_is proc.pid pid is))
    by_case proc goes false is = refl

module _ (old new : Heap) (was now : TableView) (pid key : ℕ) (proc : Proc) (holds : Holds old was) (over : HasEnded (processes old was) pid)
    (found : key_of was.listed pid ≡ Some key) (there : object old.procs key ≡ Some proc)
    (changed : new ≡ record old { procs = without old.procs key })
    (listed : now ≡ record was { listed = filter (λ place. not (place.pid == pid)) was.listed }) where
  named : (p : Proc) × (object old.procs key ≡ Some p) × (p.pid ≡ pid) × (proc_of (processes old was) pid ≡ Some p)
  named = key_of-proc old.procs was.listed pid key holds.stored found

  has_pid : proc.pid ≡ pid
  has_pid = ap (λ p. p.pid) (some_same (object old.procs key) proc named.0 there named.1) ∙ named.2

  procs_are : new.procs ≡ slice_set old.procs key None
  procs_are = ap (λ (h : Heap). h.procs) changed

  follows : Follows (reaped pid) old.procs new.procs was.listed
  follows = subst (λ procs. Follows (reaped pid) old.procs procs was.listed) (sym procs_are)
      (follows_one (reaped pid) old.procs key pid proc None was.listed 0 was.last (reaped_other pid) there
      (ap (λ b. cond (not b) (Some proc) None) (eqb_same proc.pid pid has_pid)) holds.stored holds.rising found)

  missed : (other : ℕ) → Misses other was.listed → object new.procs other ≡ object old.procs other
  missed other misses =
      ap (λ procs. object procs other) procs_are
      ∙ object_missed old.procs key other None (λ same. key_of-misses was.listed pid key found (subst (λ k. Misses k was.listed) same misses))

  all : AllByRecursion (GoesLight pid) (processes old was)
  all = goes_light (processes old was) 0 pid over.proc over.status (rising_procs old.procs was.listed 0 was.last holds.stored holds.rising) over.there over.over holds.light

  kept : new ≡ record old { procs = new.procs }
  kept = changed ∙ ap (λ (procs : List (Option Proc)). record old { procs = procs }) (sym procs_are)

  now_is : now ≡ record was { listed = places_kept (reaped pid) old.procs was.listed }
  now_is = listed ∙ ap (λ (places : List Place). record was { listed = places }) (sym (others_kept old.procs was.listed pid holds.stored))

  pub reaped-procs : processes new now ≡ filter (is_other pid) (processes old was)
  reaped-procs =
      ap (processes new) now_is
      ∙ becomes-procs (GoesLight pid) (reaped pid) (reaped_sound pid) old new was holds all follows missed kept
      ∙ filter_is (is_other pid) (processes old was)

  pub reaped-account : (frames : Frames) → HasAccount old was frames → HasAccount new now frames
  reaped-account frames has =
      becomes_account (GoesLight pid) (reaped pid) old new was now frames (λ p q is. ap (λ r. r.pid) (reaped_pid pid p q is)) (λ p q goes is. ap (λ r. r.nodes) (reaped_pid pid p q is)) empty all
      (reaped-procs ∙ sym (filter_is (is_other pid) (processes old was)))
      (ap (λ (t : TableView). t.last) listed) (ap (λ (h : Heap). h.nodes) changed) (ap (λ (h : Heap). h.pages) changed) has
    where
      empty : (p : Proc) → GoesLight pid p → reaped pid p ≡ None → keys_in p.nodes ≡ []
      empty p goes gone = sym (Becomes.keys (reaped_sound pid) p goes) ∙ ap keys_left gone

  pub reaped-moves : TableMoves old was new now
  reaped-moves =
      subst (TableMoves old was new) (sym now_is)
      (becomes-moves (GoesLight pid) (reaped pid) (reaped_sound pid) old new was holds all follows missed kept)
