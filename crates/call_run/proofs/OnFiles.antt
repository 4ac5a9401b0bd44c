-- Which calls move bytes of a file or a directory that is open.
use Rattle.std.proofs.Common.{◌≡◌, ℕ, zero, suc, ℤ, true, false, Option, None, Some, ap, refl, sym, ◌∙◌, subst, arith}
use Rattle.kabi_types.specs.declared.calls.Call.{Call}
use Rattle.kabi_types.specs.declared.calls.Call.TheVariants as call
use Rattle.kheap_slabs.specs.Heap.{Heap}
use Rattle.posix_defs.specs.Calls.Opened.{Opened, opened_at}
use Rattle.posix_defs.specs.Files.Descriptions.{Target, OnNode, OnPipe, OnSocket}
use Rattle.posix_defs.specs.Files.State.{Files}
use Rattle.posix_defs.specs.Files.Whole.{is_queue, is_queue_in}
use Rattle.std.specs.Prelude.{is_some}
use Rattle.proc_numbers.specs.Found.{IsOffNodes, IsOnNode, is_in_tree, number_in}
use Rattle.proc_table.specs.Table.{TableView}
use Rattle.call_run.specs.Families.{HasHalf, IsFresh, IsOffFiles, IsOnFile, is_moving, number_of}

never : {X : Type 0} → false ≡ true → X
never e = cc

-- what is a node of the tree by its number is no queue
no_queue : (o : Option Opened) → is_in_tree o ≡ true → is_queue_in o ≡ true → ⊥
no_queue None on queue = never on
no_queue (Some opened) on queue = by_target opened.is.target on queue
  where
    by_target : (target : Target) → is_some (number_in target) ≡ true → is_queue target ≡ true → ⊥
    by_target (OnNode number) on queue = never queue
    by_target (OnPipe place) on queue = never on
    by_target (OnSocket place) on queue = never on

-- of a file nobody has written a part
fresh_of : (files : Files) (pid : ℕ) (fd addr n : ℤ) (done moved : ℕ) → is_in_tree (opened_at files pid fd) ≡ true → HasHalf files pid (call.Write fd addr n done) moved → done ≡ 0
fresh_of files pid fd addr n zero moved on half = refl
fresh_of files pid fd addr n (suc done) moved on half = absurd (no_queue (opened_at files pid fd) on (half (omega arith)))

pub fresh_on : (files : Files) (pid : ℕ) (which : Call) (fd : ℤ) (moved : ℕ) → number_of which ≡ Some fd → is_in_tree (opened_at files pid fd) ≡ true → HasHalf files pid which moved → IsFresh which
fresh_on files pid (call.Write at addr n done) fd moved is on half = let same : fd ≡ at = cc in
    fresh_of files pid at addr n done moved (subst (λ z. is_in_tree (opened_at files pid z) ≡ true) same on) half
fresh_on files pid _ fd moved is on half = tt

pub written_anew : {which : Call} {fd addr n : ℤ} {done : ℕ} → which ≡ call.Write fd addr n done → IsFresh which → which ≡ call.Write fd addr n 0
written_anew {fd} {addr} {n} is fresh = is ∙ ap (call.Write fd addr n) (subst IsFresh is fresh)

-- ---- what a call moves bytes of is what its number names

pub on_file : (h : Heap) (kept : TableView) (pid : ℕ) (which : Call) (fd : ℤ) → number_of which ≡ Some fd → IsOnNode h kept pid fd → IsOnFile h kept pid which
on_file h kept pid (call.Read at addr n) fd is on = let same : fd ≡ at = cc in subst (IsOnNode h kept pid) same on
on_file h kept pid (call.Write at addr n done) fd is on = let same : fd ≡ at = cc in subst (IsOnNode h kept pid) same on
on_file h kept pid _ fd is on = tt

pub off_files : (h : Heap) (kept : TableView) (pid : ℕ) (which : Call) (fd : ℤ) → number_of which ≡ Some fd → IsOffNodes h kept pid fd → IsOffFiles h kept pid which
off_files h kept pid (call.Read at addr n) fd is off = let same : fd ≡ at = cc in subst (IsOffNodes h kept pid) same off
off_files h kept pid (call.Write at addr n done) fd is off = let same : fd ≡ at = cc in subst (IsOffNodes h kept pid) same off
off_files h kept pid _ fd is off = tt

-- ---- a call that moves no bytes

pub other_on : (h : Heap) (kept : TableView) (pid : ℕ) (which : Call) → is_moving which ≡ false → IsOnFile h kept pid which
other_on h kept pid (call.Read a b c) still = never (sym still)
other_on h kept pid (call.Write a b c done) still = never (sym still)
other_on h kept pid _ still = tt

pub other_fresh : (which : Call) → is_moving which ≡ false → IsFresh which
other_fresh (call.Write a b c done) still = never (sym still)
other_fresh _ still = tt
