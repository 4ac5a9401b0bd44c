-- The account after each call on the table.
use Rattle.std.proofs.Common.{◌≡◌, ℕ, zero, suc, ◌==◌, Bool, true, false, cond, List, [], ◌∷◌, length, map, Option, None, Some, is_some, refl, sym, ap, ◌∙◌, subst, arith}
use Rattle.std.specs.List.{AllByRecursion}
use Rattle.kheap_slabs.specs.Objects.{object, InUse}
use Rattle.kheap_slabs.specs.declared.objects.Page.{Page}
use Rattle.kheap_slabs.specs.declared.objects.Proc.{Proc}
use Rattle.kheap_slabs.specs.Heap.{Heap}
use Rattle.page_space.specs.Accounts.{AreFrames, HasPlaces, IsAccounted, OthersAccounted}
use Rattle.page_space.specs.Contents.{SpaceLeaves}
use Rattle.page_space.proofs.PlaceLemmas.{namings-last, places_of-with}
use Rattle.posix_defs.specs.Memory.{Frames, after_clear, boot_frames, namings, no_places, places_of}
use Rattle.proc_table.specs.Accounting.{HasAccount, IsPlaced}
use Rattle.proc_table.specs.Changes.{cleared, left_behind, left_child}
use Rattle.proc_table.specs.Procs.{first_proc, no_nodes, proc_of}
use Rattle.proc_table.specs.Table.{Holds, TableView, processes}
use Rattle.proc_table.proofs.AccountLemmas.{accounted_of, empty_places, turned_account, whole_none}

-- a process has lost its memory
pub cleared_account : (old mid new : Heap) (kept : TableView) (frames : Frames) (pid : ℕ) (proc : Proc) (space : List (Option ℕ)) → Holds old kept
    → proc_of (processes old kept) pid ≡ Some proc → space ≡ proc.nodes → SpaceLeaves old mid space
    → processes new kept ≡ map (cleared pid) (processes old kept) → new.nodes ≡ mid.nodes → new.pages ≡ mid.pages
    → HasAccount old kept frames → HasAccount new kept (after_clear frames pid)
cleared_account old mid new kept frames pid proc space holds there space_is leaves procs nodes pages has =
    let accounted : IsAccounted old has.number frames pid proc.nodes = accounted_of old kept frames pid proc holds has there in
    let left = leaves.account has.number frames pid (subst (IsAccounted old has.number frames pid) (sym space_is) accounted) in
    let none : places_of (after_clear frames pid) pid ≡ no_places = places_of-with frames.places frames.made pid no_places accounted.made.0 accounted.made.1 in
    turned_account old mid new kept frames (after_clear frames pid) pid proc no_nodes left.renumbered holds has there
    (subst (λ s. OthersAccounted old mid s has.number left.renumbered) space_is left.others) left.kept left.numbers
    (subst (HasPlaces left.renumbered mid.nodes no_nodes) (sym none) (empty_places left.renumbered mid.nodes no_nodes refl))
    (ap length none ∙ whole_none) left.pids procs nodes pages

-- who is left behind has the nodes that it had
pub left_nodes : (pid status : ℕ) (proc now : Proc) → left_behind pid status proc ≡ Some now → now.nodes ≡ proc.nodes
left_nodes pid status proc now is = by_pid (proc.pid == pid) is
  where
    child : (told : Option ℕ) → left_child told proc ≡ Some now → now.nodes ≡ proc.nodes
    child None e = cc
    child (Some over) e = cc

    by_parent : (b : Bool) → cond b (left_child proc.status proc) (Some proc) ≡ Some now → now.nodes ≡ proc.nodes
    by_parent true e = child proc.status e
    by_parent false e = cc

    by_pid : (b : Bool) → cond b (Some (record proc { status = Some status })) (cond (proc.parent == pid) (left_child proc.status proc) (Some proc)) ≡ Some now → now.nodes ≡ proc.nodes
    by_pid true e = cc
    by_pid false e = by_parent (proc.parent == pid) e

-- in a heap without pages the first process has nothing
none_used : (pages : List (Option Page)) → ((key : ℕ) → object pages key ≡ None) → (key : ℕ) → InUse pages key → ⊥
none_used pages none key used = let no = none key in absurd (by_use (object pages key) no used)
  where
    by_use : (o : Option Page) → o ≡ None → is_some o ≡ true → ⊥
    by_use None is some = cc
    by_use (Some page) is some = cc

pub booted_account : (old new : Heap) (now : TableView) → processes new now ≡ first_proc ∷ [] → now.last ≡ 1 → new.pages ≡ old.pages
    → ((key : ℕ) → object old.pages key ≡ None) → HasAccount new now boot_frames
booted_account old new now procs last pages none = record {
  number = λ key. 0;
  numbers = subst (λ p. AreFrames (λ key. 0) p boot_frames) (sym pages) (record {
    counts = λ key used. absurd (none_used old.pages none key used);
    made = λ key used. absurd (none_used old.pages none key used);
    once = λ one other used also same. absurd (none_used old.pages none one used);
    found = λ frame named. absurd (let nothing : namings boot_frames.places frame ≡ 0 = namings-last [] frame in omega arith);
  });
  placed = subst (AllByRecursion (IsPlaced (λ key. 0) new.nodes boot_frames)) (sym procs)
      (record { places = empty_places (λ key. 0) new.nodes no_nodes refl; whole = whole_none }, tt);
  gone = λ q gone. nothing q (ap (λ procs. proc_of procs q) (sym procs) ∙ gone);
  made = sym last;
}
  where
    nothing : (q : ℕ) → proc_of (first_proc ∷ []) q ≡ None → places_of boot_frames q ≡ no_places
    nothing zero gone = refl
    nothing (suc zero) gone = cc
    nothing (suc (suc i)) gone = refl
