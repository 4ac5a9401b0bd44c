-- A parent is told of a child that has ended.
use Rattle.std.proofs.Common.{◌≡◌, ℕ, ◌<◌, ℤ, Bool, true, false, cond, List, [], ◌∷◌, filter, Option, None, Some, refl, sym, ap, ◌∙◌, subst, arith}
use Rattle.std.specs.List.{list_any}
use Rattle.std.specs.Option.{option_map, option_or}
use Rattle.kheap_slabs.specs.declared.objects.Proc.{Proc}
use Rattle.kheap_slabs.specs.Heap.{Heap}
use Rattle.posix_defs.specs.ByPid.{with_pid}
use Rattle.posix_defs.specs.Process.{Table}
use Rattle.posix_defs.specs.Waiting.{Exited}
use Rattle.proc_table.specs.Changes.{after_wait, exited, is_other, is_wanted, reaped_as, reaped_of, told_of}
use Rattle.proc_table.specs.Procs.{HasEnded, proc_of}
use Rattle.proc_table.specs.Standing.{AreFrom, IsTable, found_in, waited_in}
use Rattle.proc_table.specs.Table.{Holds, TableView, processes}
use Rattle.proc_table.specs.declared.reaped.Reaped.{Reaped}
use Rattle.proc_table.specs.declared.reaped.Reaped.TheVariants.{NoChild, Nobody, Took}
use Rattle.proc_table.proofs.FamilyLemmas.{found_is, length-with_pid, reaped_is, same_table}
use Rattle.proc_table.proofs.HoldLemmas.{memory_kept}
use Rattle.proc_table.proofs.MemoryLemmas.{processes_same}
use Rattle.proc_table.proofs.OwnLemmas.{AreRising, rising_procs}
use Rattle.proc_table.proofs.PlaceLemmas.{eqb_other, eqb_same, some_same}

abbrev exit_as : ℕ → ℕ → Exited
exit_as pid status = record { pid = pid; status = status }

-- who is told of is none of a lower pid
told_above : (procs : List Proc) (before parent : ℕ) (which : ℤ) (exit : Exited) → AreRising before procs → told_of parent which procs ≡ Some exit → HasEnded procs exit.pid × (before < exit.pid)
told_above [] before parent which exit rising told = cc
told_above (proc ∷ procs) before parent which exit rising told =
    by_wanted (is_wanted parent which proc) told (told_above procs proc.pid parent which exit rising.1)
  where
    behind : HasEnded procs exit.pid × (proc.pid < exit.pid) → HasEnded (proc ∷ procs) exit.pid × (before < exit.pid)
    behind found = (
      record {
        proc = found.0.proc;
        status = found.0.status;
        there = ap (λ b. cond b (Some proc) (proc_of procs exit.pid)) (eqb_other proc.pid exit.pid (λ same. omega (arith, found.1))) ∙ found.0.there;
        over = found.0.over;
      },
      omega (arith, found.1, rising.0),
    )

    by_status : (status : Option ℕ) → proc.status ≡ status → option_or (option_map (exit_as proc.pid) status) (told_of parent which procs) ≡ Some exit
        → (told_of parent which procs ≡ Some exit → HasEnded procs exit.pid × (proc.pid < exit.pid)) → HasEnded (proc ∷ procs) exit.pid × (before < exit.pid)
    by_status None is found rest = behind (rest found)
    by_status (Some status) is found rest =
        let same : exit_as proc.pid status ≡ exit = some_same (Some exit) (exit_as proc.pid status) exit (sym found) refl in
        let own : proc.pid ≡ exit.pid = ap (λ (e : Exited). e.pid) same in (
          record {
            proc = proc;
            status = status;
            there = ap (λ b. cond b (Some proc) (proc_of procs exit.pid)) (eqb_same proc.pid exit.pid own);
            over = is;
          },
          omega (arith, rising.0),
        )

    by_wanted : (b : Bool) → option_or (cond b (exited proc) None) (told_of parent which procs) ≡ Some exit
        → (told_of parent which procs ≡ Some exit → HasEnded procs exit.pid × (proc.pid < exit.pid)) → HasEnded (proc ∷ procs) exit.pid × (before < exit.pid)
    by_wanted true found rest = by_status proc.status refl found rest
    by_wanted false found rest = behind (rest found)

pub told_ended : (h : Heap) (kept : TableView) (parent : ℕ) (which : ℤ) (exit : Exited) → Holds h kept → told_of parent which (processes h kept) ≡ Some exit → HasEnded (processes h kept) exit.pid
told_ended h kept parent which exit holds told =
    let found = told_above (processes h kept) 0 parent which exit (rising_procs h.procs kept.listed 0 kept.last holds.stored holds.rising) told in found.0

-- what is answered is what the plain machine's table has
pub answer_found : (h : Heap) (kept : TableView) (parent : ℕ) (which : ℤ) (table : Table) → IsTable h kept table
    → reaped_of parent which (processes h kept) ≡ found_in table parent which
answer_found h kept parent which table is = found_is h table (processes h kept) parent which is.present

-- who is taken has ended
pub took_ended : (h : Heap) (kept : TableView) (parent : ℕ) (which : ℤ) (pid status : ℕ) → Holds h kept → Took pid status ≡ reaped_of parent which (processes h kept) → HasEnded (processes h kept) pid
took_ended h kept parent which pid status holds took = by_told (told_of parent which (processes h kept)) refl (list_any (is_wanted parent which) (processes h kept)) took
  where
    by_told : (o : Option Exited) → told_of parent which (processes h kept) ≡ o → (b : Bool) → Took pid status ≡ reaped_as o b → HasEnded (processes h kept) pid
    by_told None told true same = cc
    by_told None told false same = cc
    by_told (Some exit) told b same = subst (HasEnded (processes h kept)) (sym (took_same same)) (told_ended h kept parent which exit holds told)
      where
        took_same : Took pid status ≡ Took exit.pid exit.status → pid ≡ exit.pid
        took_same e = cc

pub reaped_table : (old new : Heap) (was now : TableView) (pid : ℕ) → processes new now ≡ filter (is_other pid) (processes old was) → new ≡ record old { procs = new.procs } → now.last ≡ was.last
    → (table : Table) → IsTable old was table → IsTable new now (with_pid table pid None)
reaped_table old new was now pid gone kept last table is = record {
  present = subst (AreFrom new 1 (with_pid table pid None)) (sym gone)
      (reaped_is new table (processes old was) pid
      (same_table is.present new (processes_same old new (processes old was) (memory_kept old new (processes old was) (ap (λ (h : Heap). h.nodes) kept) (ap (λ (h : Heap). h.pages) kept)))));
  made = length-with_pid table pid None ∙ is.made ∙ sym last;
}

-- where nobody is taken all stays
pub untaken_procs : (answer : Reaped) → ((pid status : ℕ) → answer ≡ Took pid status → ⊥) → (procs : List Proc) → procs ≡ after_wait answer procs
untaken_procs (Took pid status) untaken procs = absurd (untaken pid status refl)
untaken_procs Nobody untaken procs = refl
untaken_procs NoChild untaken procs = refl

pub untaken_table : (answer : Reaped) → ((pid status : ℕ) → answer ≡ Took pid status → ⊥) → (h : Heap) (kept : TableView) (table : Table) → IsTable h kept table
    → IsTable h kept (waited_in table answer)
untaken_table (Took pid status) untaken h kept table is = absurd (untaken pid status refl)
untaken_table Nobody untaken h kept table is = is
untaken_table NoChild untaken h kept table is = is
