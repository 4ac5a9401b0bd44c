-- Who holds which Leaves, where the numbers of one process turn, and where a child is made.
use Rattle.std.proofs.Common.{◌≡◌, ◌≢◌, ◌⊎◌, ℕ, ◌+◌, ◌<◌, ◌≤◌, ◌==◌, true, false, cond, List, [], ◌∷◌, ◌++◌, Option, None, Some, refl, sym, ap, ◌∙◌, subst, inl, inr, arith, Contains}
use Rattle.std.specs.List.{AllByRecursion, cons_option}
use Rattle.std.proofs.lemmas.Bool.Decides.{eqb_tells}
use Rattle.std.proofs.lemmas.List.{append-nil, get_or-set_other, get_or-set_same}
use Rattle.proc_table.proofs.AmongLemmas.{Contains-cons}
use Rattle.kheap_slabs.specs.Objects.{object, put}
use Rattle.kheap_slabs.specs.declared.objects.Proc.{Proc}
use Rattle.kheap_slabs.specs.Heap.{Heap}
use Rattle.kheap_slabs.specs.Keys.{Splits}
use Rattle.kheap_slabs.specs.Leaves.{HoldLeaves}
use Rattle.kheap_slabs.proofs.ObjectLemmas.{InUse-within}
use Rattle.kheap_laws.proofs.LeafOwners.{HoldLeaves-same, LeavesChange-hold, LeavesChange-others}
use Rattle.desc_table.specs.Copying.{no_leaves}
use Rattle.proc_table.specs.Changes.{child_proc}
use Rattle.proc_table.specs.Moves.{HasCopies, IsForked, NumbersTurn}
use Rattle.proc_table.specs.Procs.{numbers_in, proc_of}
use Rattle.proc_table.specs.Table.{AreBetween, AreStored, TableView, key_of, processes, procs_at}
use Rattle.proc_table.specs.declared.places.Place.{Place}
use Rattle.proc_table.proofs.PlaceLemmas.{IsAt, eqb_other, key_of-proc, some_same, stored_is}

-- ---- one process among all, whose Proc becomes another

pub record TurnsAmong (objects : List (Option Proc)) (places : List Place) (pid key : ℕ) (proc now : Proc) : Type 0 where
  pub rest : List Proc
  pub out : Splits (procs_at objects places) proc rest
  pub back : Splits (procs_at (put objects key now) places) now rest
  pub others : (q : ℕ) (other : Proc) → q ≢ pid → proc_of (procs_at objects places) q ≡ Some other → Contains rest other

pub proc_inside : (procs : List Proc) (q : ℕ) (other : Proc) → proc_of procs q ≡ Some other → Contains procs other
proc_inside [] q other is = absurd (let none : None ≡ Some other = is in cc)
proc_inside (first ∷ procs) q other is = by_case (proc_inside procs q other) (eqb_tells first.pid q)
  where
    by_case : (proc_of procs q ≡ Some other → Contains procs other) → (((first.pid == q) ≡ true) × (first.pid ≡ q)) ⊎ (((first.pid == q) ≡ false) × (first.pid ≢ q)) → Contains (first ∷ procs) other
    by_case behind (inl same) = (0, omega arith, some_same (proc_of (first ∷ procs) q) first other (ap (λ b. cond b (Some first) (proc_of procs q)) same.0) is)
    by_case behind (inr apart) = Contains-cons first other procs (behind (sym (ap (λ b. cond b (Some first) (proc_of procs q)) apart.0) ∙ is))

module _ (objects : List (Option Proc)) (pid key : ℕ) (proc now : Proc) (there : object objects key ≡ Some proc) (own : proc.pid ≡ pid) where
  -- the place of another pid has another key
  keys_apart : (place : Place) (at : IsAt objects place) → place.pid ≢ pid → place.key ≢ key
  keys_apart place at apart same =
      apart (sym at.pid ∙ (ap (λ (p : Proc). p.pid) (some_same (object objects key) at.proc proc (ap (object objects) (sym same) ∙ at.is) there) ∙ own))

  put_other : (place : Place) (at : IsAt objects place) → place.pid ≢ pid → object (put objects key now) place.key ≡ object objects place.key
  put_other place at apart = get_or-set_other objects key place.key (Some now) None (keys_apart place at apart)

  put_here : object (put objects key now) key ≡ Some now
  put_here = get_or-set_same objects key (Some now) None (InUse-within objects key (rw there refl))

  same_above : (places : List Place) (before last : ℕ) → AreStored objects places → AreBetween before places last → pid ≤ before → procs_at (put objects key now) places ≡ procs_at objects places
  same_above [] before last stored rising low = refl
  same_above (place ∷ places) before last stored rising low =
      let at : IsAt objects place = stored_is objects place stored.0 in
      let above : before < place.pid = rising.0 in
      ap (λ o. cons_option o (procs_at (put objects key now) places)) (put_other place at (λ same. omega (arith, same, above, low)))
      ∙ ap (cons_option (object objects place.key)) (same_above places place.pid last stored.1 rising.1 (omega (arith, above, low)))

  pub turns_among : (places : List Place) (before last : ℕ) → AreStored objects places → AreBetween before places last → key_of places pid ≡ Some key → TurnsAmong objects places pid key proc now
  turns_among [] before last stored rising named = absurd (let none : None ≡ Some key = named in cc)
  turns_among (place ∷ places) before last stored rising named =
      by_case (λ its_key. turns_among places place.pid last stored.1 rising.1 its_key) (eqb_tells place.pid pid)
    where
      at : IsAt objects place
      at = stored_is objects place stored.0

      first_is : procs_at objects (place ∷ places) ≡ at.proc ∷ procs_at objects places
      first_is = ap (λ o. cons_option o (procs_at objects places)) at.is

      by_case : (key_of places pid ≡ Some key → TurnsAmong objects places pid key proc now)
          → (((place.pid == pid) ≡ true) × (place.pid ≡ pid)) ⊎ (((place.pid == pid) ≡ false) × (place.pid ≢ pid)) → TurnsAmong objects (place ∷ places) pid key proc now
      by_case later (inl same) =
          let its_key : place.key ≡ key = some_same (Some place.key) place.key key refl (sym (ap (λ b. cond b (Some place.key) (key_of places pid)) same.0) ∙ named) in
          let it : at.proc ≡ proc = some_same (object objects key) at.proc proc (ap (object objects) (sym its_key) ∙ at.is) there in
          record {
            rest = procs_at objects places;
            out = record { before = []; after = procs_at objects places; whole_is = first_is ∙ ap (λ p. p ∷ procs_at objects places) it; rest_is = refl };
            back = record {
              before = [];
              after = procs_at objects places;
              whole_is = ap (λ o. cons_option o (procs_at (put objects key now) places)) (ap (object (put objects key now)) its_key ∙ put_here)
                  ∙ ap (λ ps. now ∷ ps) (same_above places place.pid last stored.1 rising.1 (omega (arith, same.1)));
              rest_is = refl;
            };
            others = λ q other apart is.
                proc_inside (procs_at objects places) q other
                (sym (ap (λ ps. proc_of ps q) first_is ∙ ap (λ b. cond b (Some at.proc) (proc_of (procs_at objects places) q)) (eqb_other at.proc.pid q (λ e. apart (sym e ∙ (at.pid ∙ same.1))))) ∙ is);
          }
      by_case later (inr apart) =
          let behind = later (sym (ap (λ b. cond b (Some place.key) (key_of places pid)) apart.0) ∙ named) in
          record {
            rest = at.proc ∷ behind.rest;
            out = record {
              before = at.proc ∷ behind.out.before;
              after = behind.out.after;
              whole_is = first_is ∙ ap (λ ps. at.proc ∷ ps) behind.out.whole_is;
              rest_is = ap (λ ps. at.proc ∷ ps) behind.out.rest_is;
            };
            back = record {
              before = at.proc ∷ behind.back.before;
              after = behind.back.after;
              whole_is = ap (λ o. cons_option o (procs_at (put objects key now) places)) (put_other place at apart.1 ∙ at.is) ∙ ap (λ ps. at.proc ∷ ps) behind.back.whole_is;
              rest_is = ap (λ ps. at.proc ∷ ps) behind.back.rest_is;
            };
            others = λ q other differs is. inside behind q other differs (ap (λ ps. proc_of ps q) (sym first_is) ∙ is) (eqb_tells at.proc.pid q);
          }
        where
          inside : (behind : TurnsAmong objects places pid key proc now) (q : ℕ) (other : Proc) → q ≢ pid → proc_of (at.proc ∷ procs_at objects places) q ≡ Some other
              → (((at.proc.pid == q) ≡ true) × (at.proc.pid ≡ q)) ⊎ (((at.proc.pid == q) ≡ false) × (at.proc.pid ≢ q)) → Contains (at.proc ∷ behind.rest) other
          inside behind q other differs is (inl same) =
              (0, omega arith, some_same (proc_of (at.proc ∷ procs_at objects places) q) at.proc other (ap (λ b. cond b (Some at.proc) (proc_of (procs_at objects places) q)) same.0) is)
          inside behind q other differs is (inr not_it) =
              Contains-cons at.proc other behind.rest (behind.others q other differs (sym (ap (λ b. cond b (Some at.proc) (proc_of (procs_at objects places) q)) not_it.0) ∙ is))

-- ---- the numbers of one turn

module _ (old new : Heap) (kept : TableView) (pid key : ℕ) (proc now : Proc) (stored : AreStored old.procs kept.listed) (rising : AreBetween 0 kept.listed kept.last)
    (hold : HoldLeaves old.leaves (processes old kept)) (turns : NumbersTurn old new kept pid key proc now) where
  its_pid : proc.pid ≡ pid
  its_pid =
      let it = key_of-proc old.procs kept.listed pid key stored turns.found in
      ap (λ (p : Proc). p.pid) (some_same (object old.procs key) proc it.0 turns.there it.1) ∙ it.2

  among : TurnsAmong old.procs kept.listed pid key proc now
  among = turns_among old.procs pid key proc now turns.there its_pid kept.listed 0 kept.last stored rising turns.found

  pub turned_hold : HoldLeaves new.leaves (processes new kept)
  turned_hold =
      LeavesChange-hold old.leaves new.leaves proc now (processes old kept) among.rest among.out hold turns.leaves (processes new kept)
      (subst (λ (objects : List (Option Proc)). Splits (procs_at objects kept.listed) now among.rest) (sym turns.procs) among.back)

  pub turned_others : (q : ℕ) (other : Proc) → q ≢ pid → proc_of (processes old kept) q ≡ Some other → numbers_in new other ≡ numbers_in old other
  turned_others q other apart is =
      LeavesChange-others old.leaves new.leaves proc now (processes old kept) among.rest among.out hold turns.leaves other (among.others q other apart is) other.descriptors

-- ---- a child

all_inside : {X : Type 0} (P : X → Type 0) (xs : List X) → ((x : X) → Contains xs x → P x) → AllByRecursion P xs
all_inside P [] each = tt
all_inside P (x ∷ xs) each = (each x (0, omega arith, refl), all_inside P xs (λ y there. each y (Contains-cons x y xs there)))

-- A child's Leaves are new ones: it is as if one who had none got these.
module _ (old new : Heap) (procs : List Proc) (parent child : Proc) (hold : HoldLeaves old.leaves procs) (copies : HasCopies old new parent child) where
  abbrev bare : Proc
  bare = record child { leaves = no_leaves }

  hold_more : HoldLeaves old.leaves (bare ∷ procs)
  hold_more = HoldLeaves-same old.leaves procs (bare ∷ procs) refl hold

  first_out : Splits (bare ∷ procs) bare procs
  first_out = record { before = []; after = procs; whole_is = refl; rest_is = refl }

  pub forked_others : AllByRecursion (λ p. numbers_in new p ≡ numbers_in old p) procs
  forked_others =
      all_inside (λ p. numbers_in new p ≡ numbers_in old p) procs
      (λ p inside. LeavesChange-others old.leaves new.leaves bare child (bare ∷ procs) procs first_out hold_more copies.own p inside p.descriptors)

  pub forked_hold : HoldLeaves new.leaves (procs ++ child ∷ [])
  forked_hold =
      LeavesChange-hold old.leaves new.leaves bare child (bare ∷ procs) procs first_out hold_more copies.own (procs ++ child ∷ [])
      (record { before = procs; after = []; whole_is = refl; rest_is = sym (append-nil procs) })

pub forked_all : (old new : Heap) (was now : TableView) (pid child : ℕ) → HoldLeaves old.leaves (processes old was) → (forked : IsForked old was new now pid child)
    → HasCopies old new forked.parent (child_proc forked.parent child forked.nodes forked.leaves) → HoldLeaves new.leaves (processes new now)
forked_all old new was now pid child hold forked copies =
    subst (HoldLeaves new.leaves) (sym forked.processes_are)
    (forked_hold old new (processes old was) forked.parent (child_proc forked.parent child forked.nodes forked.leaves) hold copies)
