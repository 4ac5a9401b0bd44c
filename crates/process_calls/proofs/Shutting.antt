-- A process that has closed all that it had open, and sleeps in no open, among the others.
use Rattle.std.proofs.Common.{◌≡◌, ◌≢◌, ℕ, ◌==◌, Bool, true, false, cond, List, [], ◌∷◌, map, Option, None, Some, refl, ap, sym, ◌∙◌}
use Rattle.std.specs.List.{AllByRecursion}
use Rattle.std.specs.Option.{option_map}
use Rattle.kheap_slabs.specs.Leaves.{no_row}
use Rattle.kheap_slabs.specs.declared.objects.Proc.{Proc}
use Rattle.desc_table.specs.Copying.{no_leaves}
use Rattle.proc_table.specs.Procs.{HasClosed, HasNoneOpenOnce, IsClosed, IsLight, closed_all, proc_of}
use Rattle.proc_table.proofs.FamilyLemmas.{proc_has_pid}
use Rattle.proc_table.proofs.PlaceLemmas.{eqb_other, eqb_same}
use Rattle.process_calls.specs.Endings.{shut, silent}

-- ---- one becomes another that has its pid and its nodes

module _ (change : Proc → Proc) (same_pid : (proc : Proc) → (change proc).pid ≡ proc.pid) (same_nodes : (proc : Proc) → (change proc).nodes ≡ proc.nodes) where
  -- the process of the pid does
  abbrev pub changing : ℕ → Proc → Proc
  changing pid proc = cond (proc.pid == pid) (change proc) proc

  -- what a process has, it has then
  pub all_changing : (P : Proc → Type 0) (pid : ℕ) (procs : List Proc) → ((proc : Proc) → P proc → P (change proc)) → AllByRecursion P procs
      → AllByRecursion P (map (changing pid) procs)
  all_changing P pid [] lasts all = tt
  all_changing P pid (proc ∷ procs) lasts all = (by_pid (proc.pid == pid), all_changing P pid procs lasts all.1)
    where
      by_pid : (b : Bool) → P (cond b (change proc) proc)
      by_pid true = lasts proc all.0
      by_pid false = all.0

  pub changing_other : (pid : ℕ) (proc : Proc) → proc.pid ≢ pid → changing pid proc ≡ proc
  changing_other pid proc apart = ap (λ b. cond b (change proc) proc) (eqb_other proc.pid pid apart)

  pub changing_pid : (pid : ℕ) (proc : Proc) → (changing pid proc).pid ≡ proc.pid
  changing_pid pid proc = by_pid (proc.pid == pid)
    where
      by_pid : (b : Bool) → (cond b (change proc) proc).pid ≡ proc.pid
      by_pid true = same_pid proc
      by_pid false = refl

  pub changing_nodes : (pid : ℕ) (proc : Proc) → (changing pid proc).nodes ≡ proc.nodes
  changing_nodes pid proc = by_pid (proc.pid == pid)
    where
      by_pid : (b : Bool) → (cond b (change proc) proc).nodes ≡ proc.nodes
      by_pid true = same_nodes proc
      by_pid false = refl

  -- who is found is who was found
  pub found_changing : (pid : ℕ) (procs : List Proc) (q : ℕ) → proc_of (map (changing pid) procs) q ≡ option_map (changing pid) (proc_of procs q)
  found_changing pid [] q = refl
  found_changing pid (proc ∷ procs) q =
      ap (λ n. cond (n == q) (Some (changing pid proc)) (proc_of (map (changing pid) procs) q)) (changing_pid pid proc) ∙ by_q (proc.pid == q) (found_changing pid procs q)
    where
      by_q : (b : Bool) → proc_of (map (changing pid) procs) q ≡ option_map (changing pid) (proc_of procs q)
          → cond b (Some (changing pid proc)) (proc_of (map (changing pid) procs) q) ≡ option_map (changing pid) (cond b (Some proc) (proc_of procs q))
      by_q true rest = refl
      by_q false rest = rest

-- ---- it has closed all, and sleeps in no open

pub all_shut : (P : Proc → Type 0) (pid : ℕ) (procs : List Proc) → ((proc : Proc) → P proc → P (silent proc)) → AllByRecursion P procs → AllByRecursion P (map (shut pid) procs)
all_shut P pid procs lasts all = all_changing silent (λ proc. refl) (λ proc. refl) P pid procs lasts all

pub shut_pid : (pid : ℕ) (proc : Proc) → (shut pid proc).pid ≡ proc.pid
shut_pid pid proc = changing_pid silent (λ proc. refl) (λ proc. refl) pid proc

pub found_shut : (pid : ℕ) (procs : List Proc) (q : ℕ) → proc_of (map (shut pid) procs) q ≡ option_map (shut pid) (proc_of procs q)
found_shut pid procs q = found_changing silent (λ proc. refl) (λ proc. refl) pid procs q

pub light_closed : (proc : Proc) → IsLight proc → IsLight (closed_all proc)
light_closed proc light = record { memory = light.memory; descriptors = by_status proc.status; awake = light.awake }
  where
    by_status : (status : Option ℕ) → HasNoneOpenOnce status no_row no_leaves
    by_status None = tt
    by_status (Some over) = (refl, refl)

-- the process of the pid has nothing open, and sleeps in no open
pub has_shut : (pid : ℕ) (procs : List Proc) → HasClosed (map (shut pid) procs) pid
has_shut pid [] = tt
has_shut pid (proc ∷ procs) = ((λ own. by_pid (proc.pid == pid) refl (sym (shut_pid pid proc) ∙ own)), has_shut pid procs)
  where
    isnt : {X : Type 0} → true ≡ false → X
    isnt e = cc

    by_pid : (b : Bool) → (proc.pid == pid) ≡ b → proc.pid ≡ pid → IsClosed (cond b (silent proc) proc)
    by_pid true test own = record { opens = (refl, refl); awake = refl }
    by_pid false test own = isnt (sym (eqb_same proc.pid pid own) ∙ test)

-- another is found as it was
pub still_shut : (gone : ℕ) (procs : List Proc) (pid : ℕ) (proc : Proc) → pid ≢ gone → proc_of procs pid ≡ Some proc → proc_of (map (shut gone) procs) pid ≡ Some proc
still_shut gone procs pid proc apart is =
    found_shut gone procs pid ∙ ap (option_map (shut gone)) is
    ∙ ap Some (changing_other silent (λ p. refl) (λ p. refl) gone proc (λ same. apart (sym (proc_has_pid procs pid proc is) ∙ same)))
