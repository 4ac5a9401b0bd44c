-- Who holds which Leaves, where processes end, are waited for, or go on.
use Rattle.std.proofs.Common.{◌≡◌, ◌≢◌, ◌⊎◌, ℕ, ◌==◌, ◌/◌, Bool, true, false, cond, not, List, [], ◌∷◌, ◌++◌, filter, map, Option, None, Some, refl, sym, ap, ◌∙◌, subst, inl, inr, arith}
use Rattle.std.specs.List.{AllByRecursion, cons_option, filter_map}
use Rattle.std.proofs.lemmas.Bool.Decides.{eqb_tells}
use Rattle.kabi_types.specs.Class.{size}
use Rattle.kabi_types.specs.declared.classes.Class.TheVariants as class
use Rattle.kheap_slabs.specs.Objects.{object}
use Rattle.kheap_slabs.specs.declared.objects.Leaf.{Leaf}
use Rattle.kheap_slabs.specs.declared.objects.Proc.{Proc}
use Rattle.kheap_slabs.specs.Heap.{Heap, empty_heap}
use Rattle.kheap_slabs.specs.Leaves.{HoldLeaves, leaf_keys}
use Rattle.kheap_slabs.specs.Spaces.{keys_in}
use Rattle.kheap_slabs.proofs.ObjectLemmas.{object-none, object_of}
use Rattle.kheap_laws.proofs.LeafOwners.{HoldLeaves-same}
use Rattle.proc_table.specs.Changes.{after_wait, cleared, ended, is_alone, is_other, left_behind, left_by, left_child, reaped_of, replaced, with_nodes}
use Rattle.proc_table.specs.Moves.{ProcTurns}
use Rattle.proc_table.specs.Procs.{HasClosed, HasNoneOpenOnce, first_proc, no_nodes, proc_of}
use Rattle.proc_table.specs.Table.{Holds, TableView, processes}
use Rattle.proc_table.specs.declared.reaped.Reaped.{Reaped}
use Rattle.proc_table.specs.declared.reaped.Reaped.TheVariants.{NoChild, Nobody, Took}
use Rattle.proc_table.proofs.LawLemmas.{on-procs, only_one}
use Rattle.proc_table.proofs.OpenLemmas.{Closed, Over, closed_left, nodes_numbers, over_cleared}
use Rattle.proc_table.proofs.OwnLemmas.{all_weaker, rising_procs}
use Rattle.proc_table.proofs.PlaceLemmas.{eqb_is, key_of-proc, some_same}
use Rattle.proc_table.proofs.TurnLemmas.{GoesLight, all_changed, goes_light}
use Rattle.proc_table.proofs.WaitLemmas.{took_ended}

-- the Leaves of a process that became another, or went
abbrev leaves_left : Option Proc → List ℕ
leaves_left None = []
leaves_left (Some proc) = keys_in proc.leaves

-- where each has the Leaves that it had, or went without one, all have what they had
leaves_through : (P : Proc → Type 0) (becomes : Proc → Option Proc) (procs : List Proc) → ((proc : Proc) → P proc → leaves_left (becomes proc) ≡ keys_in proc.leaves) → AllByRecursion P procs
    → leaf_keys (filter_map becomes procs) ≡ leaf_keys procs
leaves_through P becomes [] keeps all = refl
leaves_through P becomes (proc ∷ procs) keeps all = by_case (becomes proc) (keeps proc all.0) (leaves_through P becomes procs keeps all.1)
  where
    by_case : (o : Option Proc) → leaves_left o ≡ keys_in proc.leaves → leaf_keys (filter_map becomes procs) ≡ leaf_keys procs
        → leaf_keys (cons_option o (filter_map becomes procs)) ≡ leaf_keys (proc ∷ procs)
    by_case None same others = others ∙ ap (λ keys. keys ++ leaf_keys procs) same
    by_case (Some now) same others = ap (λ keys. keys_in now.leaves ++ keys) others ∙ ap (λ keys. keys ++ leaf_keys procs) same

leaves_changed : (P : Proc → Type 0) (change : Proc → Proc) (procs : List Proc) → ((proc : Proc) → P proc → (change proc).leaves ≡ proc.leaves) → AllByRecursion P procs
    → leaf_keys (map change procs) ≡ leaf_keys procs
leaves_changed P change procs keeps all =
    ap leaf_keys (sym (all_changed change procs)) ∙ leaves_through P (λ proc. Some (change proc)) procs (λ proc its. ap keys_in (keeps proc its)) all

any : (procs : List Proc) → AllByRecursion (λ (p : Proc). Unit {0}) procs
any [] = tt
any (proc ∷ procs) = (tt, any procs)

pub hold_nodes : (h : Heap) (pid : ℕ) (nodes : List (Option ℕ)) (procs : List Proc) → HoldLeaves h.leaves procs → HoldLeaves h.leaves (map (with_nodes pid nodes) procs)
hold_nodes h pid nodes procs =
    HoldLeaves-same h.leaves procs (map (with_nodes pid nodes) procs)
    (leaves_changed (λ p. Unit {0}) (with_nodes pid nodes) procs (λ proc its. (nodes_numbers pid nodes proc).leaves) (any procs))

-- ---- one ends

left_leaves : (pid status : ℕ) (proc : Proc) → Over proc → leaves_left (left_behind pid status proc) ≡ keys_in proc.leaves
left_leaves pid status proc over = by_pid (proc.pid == pid)
  where
    child : (told : Option ℕ) → HasNoneOpenOnce told proc.descriptors proc.leaves → leaves_left (left_child told proc) ≡ keys_in proc.leaves
    child None its = refl
    child (Some ended_so) its = sym (ap keys_in its.1)

    by_parent : (b : Bool) → leaves_left (cond b (left_child proc.status proc) (Some proc)) ≡ keys_in proc.leaves
    by_parent true = child proc.status over.0
    by_parent false = refl

    by_pid : (b : Bool) → leaves_left (cond b (Some (record proc { status = Some status })) (cond (proc.parent == pid) (left_child proc.status proc) (Some proc))) ≡ keys_in proc.leaves
    by_pid true = refl
    by_pid false = by_parent (proc.parent == pid)

-- the process of a pid goes
leaves_gone : (pid : ℕ) (procs : List Proc) → HasClosed procs pid → leaf_keys (filter (is_other pid) procs) ≡ leaf_keys procs
leaves_gone pid [] closed = refl
leaves_gone pid (proc ∷ procs) closed = by_case (leaves_gone pid procs closed.1) (eqb_tells proc.pid pid)
  where
    by_case : leaf_keys (filter (is_other pid) procs) ≡ leaf_keys procs → (((proc.pid == pid) ≡ true) × (proc.pid ≡ pid)) ⊎ (((proc.pid == pid) ≡ false) × (proc.pid ≢ pid)) → leaf_keys (filter (is_other pid) (proc ∷ procs)) ≡ leaf_keys (proc ∷ procs)
    by_case behind (inl same) =
        ap (λ b. leaf_keys (cond (not b) (proc ∷ filter (is_other pid) procs) (filter (is_other pid) procs))) same.0
        ∙ (behind ∙ ap (λ keys. keys ++ leaf_keys procs) (sym (ap keys_in (closed.0 same.1).opens.1)))
    by_case behind (inr apart) =
        ap (λ b. leaf_keys (cond (not b) (proc ∷ filter (is_other pid) procs) (filter (is_other pid) procs))) apart.0
        ∙ ap (λ keys. keys_in proc.leaves ++ keys) behind

pub hold_ended : (h : Heap) (kept : TableView) (pid status : ℕ) → Holds h kept → HasClosed (processes h kept) pid → HoldLeaves h.leaves (processes h kept)
    → HoldLeaves h.leaves (ended pid status (processes h kept))
hold_ended h kept pid status holds closed = HoldLeaves-same h.leaves (processes h kept) (ended pid status (processes h kept)) (by_case (is_alone pid (processes h kept)))
  where
    left : leaf_keys (left_by pid status (processes h kept)) ≡ leaf_keys (processes h kept)
    left =
        leaves_through Over (left_behind pid status) (map (cleared pid) (processes h kept)) (left_leaves pid status) (over_cleared pid (processes h kept) holds.light)
        ∙ leaves_changed (λ p. Unit {0}) (cleared pid) (processes h kept) (λ proc its. (nodes_numbers pid no_nodes proc).leaves) (any (processes h kept))

    by_case : (b : Bool) → leaf_keys (cond b (filter (is_other pid) (left_by pid status (processes h kept))) (left_by pid status (processes h kept))) ≡ leaf_keys (processes h kept)
    by_case true = leaves_gone pid (left_by pid status (processes h kept)) (closed_left pid status (processes h kept) closed) ∙ left
    by_case false = left

-- ---- one is waited for

pub hold_waited : (h : Heap) (kept : TableView) (parent : ℕ) (which : _) (answer : Reaped) → Holds h kept → answer ≡ reaped_of parent which (processes h kept)
    → HoldLeaves h.leaves (processes h kept) → HoldLeaves h.leaves (after_wait answer (processes h kept))
hold_waited h kept parent which (Took pid status) holds is hold =
    let over = took_ended h kept parent which pid status holds is in
    HoldLeaves-same h.leaves (processes h kept) (filter (is_other pid) (processes h kept))
    (leaves_gone pid (processes h kept)
    (all_weaker (GoesLight pid) (Closed pid) (processes h kept) (λ proc goes. goes.closed)
    (goes_light (processes h kept) 0 pid over.proc over.status (rising_procs h.procs kept.listed 0 kept.last holds.stored holds.rising) over.there over.over holds.light))) hold
hold_waited h kept parent which Nobody holds is hold = hold
hold_waited h kept parent which NoChild holds is hold = hold

-- ---- one goes on

pub hold_turned : (old new : Heap) (kept : TableView) (pid key : ℕ) (proc now : Proc) → Holds old kept → ProcTurns old new kept pid key proc now
    → HoldLeaves old.leaves (processes old kept) → HoldLeaves new.leaves (processes new kept)
hold_turned old new kept pid key proc now holds turns hold =
    subst (λ (leaves : List (Option Leaf)). HoldLeaves leaves (processes new kept)) (sym (ap (λ (h : Heap). h.leaves) turns.after))
    (HoldLeaves-same old.leaves (processes old kept) (processes new kept)
    (ap leaf_keys (on-procs old new kept pid key proc now holds turns)
    ∙ leaves_changed (λ p. p.pid ≡ pid → p ≡ proc) (replaced pid now) (processes old kept) (λ p only. by_case p only (p.pid == pid) refl)
    (only_one (processes old kept) 0 pid proc (rising_procs old.procs kept.listed 0 kept.last holds.stored holds.rising)
    (named.3 ∙ ap Some (some_same (object old.procs key) named.0 proc named.1 turns.there)))) hold)
  where
    named : (p : Proc) × (object old.procs key ≡ Some p) × (p.pid ≡ pid) × (proc_of (processes old kept) pid ≡ Some p)
    named = key_of-proc old.procs kept.listed pid key holds.stored turns.found

    by_case : (p : Proc) → (p.pid ≡ pid → p ≡ proc) → (b : Bool) → (p.pid == pid) ≡ b → (cond b now p).leaves ≡ p.leaves
    by_case p only true own = ap (λ q. q.leaves) turns.same ∙ ap (λ q. q.leaves) (sym (only (eqb_is p.pid pid own)))
    by_case p only false own = refl

-- ---- at boot

pub hold_booted : (heap : ℕ) → HoldLeaves (empty_heap heap).leaves (first_proc ∷ [])
hold_booted heap = record {
  keys = record {
    used = λ key there. absurd (omega (arith, there.1));
    listed = λ key used. absurd (let it = object_of (empty_heap heap).leaves key used in object-none (heap / size class.Leaf) key it.0 it.1);
    once = λ i j before within. absurd (omega (arith, within));
  };
  filled = λ key leaf is. absurd (object-none (heap / size class.Leaf) key leaf is);
}
