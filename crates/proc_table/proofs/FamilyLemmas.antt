-- Tables of the plain machine that the processes in the heap are, before and after a change.
use Rattle.std.proofs.Common.{◌≡◌, ◌≢◌, ◌⊎◌, ℕ, zero, suc, ◌+◌, ◌<◌, ◌==◌, ◌&&◌, ◌||◌, ℤ, Bool, true, false, cond, not, List, [], ◌∷◌, ◌++◌, length, filter, map, Option, None, Some, is_some, refl, sym, ap, ◌∙◌, subst, inl, inr, arith, slice_get, slice_set, unwrap_or}
use Rattle.std.specs.List.{AllByRecursion, filter_map, cons_option, list_any}
use Rattle.std.specs.Option.{option_map, option_or}
use Rattle.std.proofs.lemmas.Bool.Decides.{eqb_tells}
use Rattle.std.proofs.lemmas.List.{length-set}
use Rattle.std.proofs.lemmas.List.Sums.{sum_by-cons}
use Rattle.kheap_slabs.specs.declared.objects.Proc.{Proc}
use Rattle.kheap_slabs.specs.Heap.{Heap}
use Rattle.posix_defs.specs.ByPid.{with_pid}
use Rattle.posix_defs.specs.Ending as ending
use Rattle.posix_defs.specs.Memory.{Memory, no_memory}
use Rattle.posix_defs.specs.Process.{Ignores, Table, Process, how_many, ignoring, is_there, process_at, remembering, with_ignores, with_memory}
use Rattle.posix_defs.specs.Waiting.{Exited, any_from, exited_from, has_ended, is_asked_for, wait_status}
use Rattle.proc_table.specs.Changes.{is_other, replaced, with_nodes, left_behind, left_child, is_wanted, exited, told_of, reaped_of, is_alone}
use Rattle.proc_table.specs.Procs.{memory_at, process_of, proc_of, status_of}
use Rattle.proc_table.specs.Standing.{AreFrom, nobody, gone, there, found_in, ends_alone}
use Rattle.proc_table.proofs.OwnLemmas.{all_by, all_weaker}
use Rattle.proc_table.proofs.PlaceLemmas.{eqb_is, eqb_other, eqb_same, some_same}
use Rattle.proc_table.proofs.TurnLemmas.{all_changed, with_nodes_pid}

-- the first process, where it has that pid, and one behind it
proc_here : (proc : Proc) (procs : List Proc) (pid : ℕ) → proc.pid ≡ pid → proc_of (proc ∷ procs) pid ≡ Some proc
proc_here proc procs pid e = ap (λ b. cond b (Some proc) (proc_of procs pid)) (eqb_same proc.pid pid e)

proc_behind : (proc : Proc) (procs : List Proc) (pid : ℕ) → proc.pid ≢ pid → proc_of (proc ∷ procs) pid ≡ proc_of procs pid
proc_behind proc procs pid e = ap (λ b. cond b (Some proc) (proc_of procs pid)) (eqb_other proc.pid pid e)

-- the process of a pid has that pid
pub proc_has_pid : (procs : List Proc) (pid : ℕ) (proc : Proc) → proc_of procs pid ≡ Some proc → proc.pid ≡ pid
proc_has_pid [] pid proc is = cc
proc_has_pid (first ∷ procs) pid proc is = elim (eqb_tells first.pid pid) [
  | inl same ↦ ap (λ p. p.pid) (sym (some_same (proc_of (first ∷ procs) pid) first proc (ap (λ b. cond b (Some first) (proc_of procs pid)) same.0) is)) ∙ same.1
  | inr other ↦ proc_has_pid procs pid proc (sym (ap (λ b. cond b (Some first) (proc_of procs pid)) other.0) ∙ is)
]

-- none has a lower pid
none_below : {h : Heap} {first : ℕ} {table : Table} {procs : List Proc} → AreFrom h first table procs → (pid : ℕ) → pid < first → proc_of procs pid ≡ None
none_below (nobody h first) pid low = refl
none_below (gone h first table procs rest) pid low = none_below rest pid (omega arith)
none_below (there h first proc table procs e rest) pid low =
    proc_behind proc procs pid (apart proc.pid first pid e low) ∙ none_below rest pid (omega arith)
  where
    apart : (a first pid : ℕ) → a ≡ first → pid < first → a ≢ pid
    apart a first pid e low same = omega arith

-- who is at a place of the table is the process of that pid
found : {h : Heap} {first : ℕ} {table : Table} {procs : List Proc} → AreFrom h first table procs → (i : ℕ)
    → unwrap_or (slice_get table i) None ≡ option_map (process_of h) (proc_of procs (first + i))
found (nobody h first) i = refl
found (gone h first table procs rest) zero = sym (ap (option_map (process_of h)) (none_below rest (first + 0) (omega arith)))
found (gone h first table procs rest) (suc i) = found rest i ∙ ap (λ pid. option_map (process_of h) (proc_of procs pid)) (let e : suc first + i ≡ first + suc i = omega arith in e)
found (there h first proc table procs e rest) zero = sym (ap (option_map (process_of h)) (proc_here proc procs (first + 0) (omega arith)))
found (there h first proc table procs e rest) (suc i) =
    found rest i ∙ ap (λ pid. option_map (process_of h) (proc_of procs pid)) (let k : suc first + i ≡ first + suc i = omega arith in k)
    ∙ sym (ap (option_map (process_of h)) (proc_behind proc procs (first + suc i) (apart proc.pid first i e)))
  where
    apart : (a first i : ℕ) → a ≡ first → a ≢ first + suc i
    apart a first i e same = omega arith

-- the process of a pid is that one in the heap
pub process_is : (h : Heap) (table : Table) (procs : List Proc) (pid : ℕ) → AreFrom h 1 table procs → process_at table pid ≡ option_map (process_of h) (proc_of procs pid)
process_is h table procs zero are = sym (ap (option_map (process_of h)) (none_below are 0 (omega arith)))
process_is h table procs (suc i) are = found are i ∙ ap (λ pid. option_map (process_of h) (proc_of procs pid)) (let e : 1 + i ≡ suc i = omega arith in e)

-- there are as many
pub as_many : {h : Heap} {first : ℕ} {table : Table} {procs : List Proc} → AreFrom h first table procs → length procs ≡ how_many table
as_many (nobody h first) = refl
as_many (gone h first table procs rest) = as_many rest ∙ sym (sum_by-cons (λ there. cond (is_there there) 1 0) None table ∙ (let e : 0 + how_many table ≡ how_many table = omega arith in e))
as_many (there h first proc table procs e rest) = ap suc (as_many rest) ∙ sym (sum_by-cons (λ there. cond (is_there there) 1 0) (Some (process_of h proc)) table ∙ (let e : 1 + how_many table ≡ suc (how_many table) = omega arith in e))

-- a process that is added at the end
pub one_more : {h : Heap} {first : ℕ} {table : Table} {procs : List Proc} → AreFrom h first table procs → (proc : Proc) → proc.pid ≡ first + length table
    → AreFrom h first (table ++ Some (process_of h proc) ∷ []) (procs ++ proc ∷ [])
one_more (nobody h first) proc e = there h first proc [] [] (let k : proc.pid ≡ first + 0 = e in omega arith) (nobody h (suc first))
one_more (gone h first table procs rest) proc e = gone h first (table ++ Some (process_of h proc) ∷ []) (procs ++ proc ∷ []) (one_more rest proc (further proc.pid first (length table) e))
  where
    further : (a first n : ℕ) → a ≡ first + suc n → a ≡ suc first + n
    further a first n e = omega arith
one_more (there h first other table procs p rest) proc e = there h first other (table ++ Some (process_of h proc) ∷ []) (procs ++ proc ∷ []) p (one_more rest proc (further proc.pid first (length table) e))
  where
    further : (a first n : ℕ) → a ≡ first + suc n → a ≡ suc first + n
    further a first n e = omega arith

-- each place of a table becomes what it becomes, by its pid
each_from : (ℕ → Option Process → Option Process) → ℕ → Table → Table
each_from becomes first [] = []
each_from becomes first (o ∷ table) = becomes first o ∷ each_from becomes (suc first) table

-- what a process in the heap becomes is what the table's becomes
abbrev pub Agrees : Heap → Heap → (ℕ → Option Process → Option Process) → (Proc → Option Proc) → Proc → Type 0
Agrees old new plain heaped proc = plain proc.pid (Some (process_of old proc)) ≡ option_map (process_of new) (heaped proc)

from_each : {old : Heap} {first : ℕ} {table : Table} {procs : List Proc} → AreFrom old first table procs → (new : Heap) (plain : ℕ → Option Process → Option Process) (heaped : Proc → Option Proc)
    → ((pid : ℕ) → plain pid None ≡ None) → AllByRecursion (Agrees old new plain heaped) procs
    → ((proc now : Proc) → heaped proc ≡ Some now → now.pid ≡ proc.pid)
    → AreFrom new first (each_from plain first table) (filter_map heaped procs)
unfolding each_from
from_each (nobody old first) new plain heaped none some same = nobody new first
from_each (gone old first table procs rest) new plain heaped none some same =
    subst (λ o. AreFrom new first (o ∷ each_from plain (suc first) table) (filter_map heaped procs)) (sym (none first))
    (gone new first (each_from plain (suc first) table) (filter_map heaped procs) (from_each rest new plain heaped none some same))
from_each (there old first proc table procs e rest) new plain heaped none some same =
    by_case (heaped proc) refl (from_each rest new plain heaped none some.1 same)
  where
    by_case : (o : Option Proc) → heaped proc ≡ o → AreFrom new (suc first) (each_from plain (suc first) table) (filter_map heaped procs)
        → AreFrom new first (plain first (Some (process_of old proc)) ∷ each_from plain (suc first) table) (cons_option o (filter_map heaped procs))
    by_case None is behind =
        subst (λ o. AreFrom new first (o ∷ each_from plain (suc first) table) (filter_map heaped procs))
        (sym (ap (λ pid. plain pid (Some (process_of old proc))) (sym e) ∙ some.0 ∙ ap (option_map (process_of new)) is))
        (gone new first (each_from plain (suc first) table) (filter_map heaped procs) behind)
    by_case (Some now) is behind =
        subst (λ o. AreFrom new first (o ∷ each_from plain (suc first) table) (now ∷ filter_map heaped procs))
        (sym (ap (λ pid. plain pid (Some (process_of old proc))) (sym e) ∙ some.0 ∙ ap (option_map (process_of new)) is))
        (there new first now (each_from plain (suc first) table) (filter_map heaped procs) (same proc now is ∙ e) behind)

-- one pid becomes something of its own
abbrev pub one_of : ℕ → (Option Process → Option Process) → (Option Process → Option Process) → ℕ → Option Process → Option Process
one_of pid itself others q o = cond (q == pid) (itself o) (others o)

each_above : (pid : ℕ) (itself others : Option Process → Option Process) (first : ℕ) (table : Table) → pid < first
    → each_from (one_of pid itself others) first table ≡ map others table
unfolding each_from
each_above pid itself others first [] low = refl
each_above pid itself others first (o ∷ table) low =
    ap (λ b. cond b (itself o) (others o) ∷ each_from (one_of pid itself others) (suc first) table) (eqb_other first pid (λ same. omega arith))
    ∙ ap (λ rest. others o ∷ rest) (each_above pid itself others (suc first) table (omega arith))

each_at : (pid : ℕ) (itself others : Option Process → Option Process) (first : ℕ) (table : Table) (i : ℕ) → pid ≡ first + i
    → each_from (one_of pid itself others) first table ≡ slice_set (map others table) i (itself (unwrap_or (slice_get table i) None))
unfolding each_from
each_at pid itself others first [] i e = refl
each_at pid itself others first (o ∷ table) zero e =
    ap (λ b. cond b (itself o) (others o) ∷ each_from (one_of pid itself others) (suc first) table) (eqb_same first pid (omega arith))
    ∙ ap (λ rest. itself o ∷ rest) (each_above pid itself others (suc first) table (omega arith))
each_at pid itself others first (o ∷ table) (suc i) e =
    ap (λ b. cond b (itself o) (others o) ∷ each_from (one_of pid itself others) (suc first) table) (eqb_other first pid (λ same. omega arith))
    ∙ ap (λ rest. others o ∷ rest) (each_at pid itself others (suc first) table i (omega arith))

each_is : (pid : ℕ) (itself others : Option Process → Option Process) (table : Table)
    → each_from (one_of pid itself others) 1 table ≡ with_pid (map others table) pid (itself (process_at table pid))
each_is zero itself others table = each_above 0 itself others 1 table (omega arith)
each_is (suc i) itself others table = each_at (suc i) itself others 1 table i (omega arith)

map_same : (table : Table) → map (λ o. o) table ≡ table
map_same [] = refl
map_same (o ∷ table) = ap (λ rest. o ∷ rest) (map_same table)

-- all have what they had, in another heap
pub same_table : {old : Heap} {first : ℕ} {table : Table} {procs : List Proc} → AreFrom old first table procs → (new : Heap)
    → AllByRecursion (λ proc. process_of new proc ≡ process_of old proc) procs → AreFrom new first table procs
same_table (nobody old first) new same = nobody new first
same_table (gone old first table procs rest) new same = gone new first table procs (same_table rest new same)
same_table (there old first proc table procs e rest) new same =
    subst (λ process. AreFrom new first (Some process ∷ table) (proc ∷ procs)) same.0 (there new first proc table procs e (same_table rest new same.1))

-- all become what the table has still
pub changed_table : {old : Heap} {first : ℕ} {table : Table} {procs : List Proc} → AreFrom old first table procs → (new : Heap) (change : Proc → Proc)
    → AllByRecursion (λ proc. (process_of new (change proc) ≡ process_of old proc) × ((change proc).pid ≡ proc.pid)) procs → AreFrom new first table (map change procs)
changed_table (nobody old first) new change same = nobody new first
changed_table (gone old first table procs rest) new change same = gone new first table (map change procs) (changed_table rest new change same)
changed_table (there old first proc table procs e rest) new change same =
    subst (λ process. AreFrom new first (Some process ∷ table) (change proc ∷ map change procs)) (let own = same.0 in own.0)
    (there new first (change proc) table (map change procs) ((let own = same.0 in own.1) ∙ e) (changed_table rest new change same.1))

-- as many were made
pub length-with_pid : (table : Table) (pid : ℕ) (o : Option Process) → length (with_pid table pid o) ≡ length table
length-with_pid table zero o = refl
length-with_pid table (suc i) o = length-set table i o

pub length-with_memory : (table : Table) (pid : ℕ) (memory : Memory) → length (with_memory table pid memory) ≡ length table
length-with_memory table pid memory = length-with_pid table pid (remembering memory (process_at table pid))

-- one process has another memory now
pub remembers_is : (old new : Heap) (table : Table) (procs : List Proc) (pid : ℕ) (nodes : List (Option ℕ)) (memory : Memory) → AreFrom old 1 table procs
    → memory_at new nodes ≡ memory → AllByRecursion (λ proc. proc.pid ≢ pid → process_of new proc ≡ process_of old proc) procs
    → AreFrom new 1 (with_memory table pid memory) (map (with_nodes pid nodes) procs)
remembers_is old new table procs pid nodes memory are has others =
    subst (AreFrom new 1 (with_memory table pid memory)) (all_changed (with_nodes pid nodes) procs)
    (subst (λ t. AreFrom new 1 t (filter_map (λ proc. Some (with_nodes pid nodes proc)) procs))
    (each_is pid (remembering memory) (λ o. o) table ∙ ap (λ t. with_pid t pid (remembering memory (process_at table pid))) (map_same table))
    (from_each are new (one_of pid (remembering memory) (λ o. o)) (λ proc. Some (with_nodes pid nodes proc)) (λ q. none (q == pid))
    (all_weaker (λ proc. proc.pid ≢ pid → process_of new proc ≡ process_of old proc) (Agrees old new (one_of pid (remembering memory) (λ o. o)) (λ proc. Some (with_nodes pid nodes proc))) procs one others)
    (λ proc now is. ap (λ p. p.pid) (sym (some_same (Some now) (with_nodes pid nodes proc) now (sym is) refl)) ∙ with_nodes_pid pid nodes proc)))
  where
    none : (b : Bool) → cond {A = Option Process} b (remembering memory None) None ≡ None
    none true = refl
    none false = refl

    one : (proc : Proc) → (proc.pid ≢ pid → process_of new proc ≡ process_of old proc) → Agrees old new (one_of pid (remembering memory) (λ o. o)) (λ proc. Some (with_nodes pid nodes proc)) proc
    one proc same = by_pid (eqb_tells proc.pid pid)
      where
        by_pid : (((proc.pid == pid) ≡ true) × (proc.pid ≡ pid)) ⊎ (((proc.pid == pid) ≡ false) × (proc.pid ≢ pid))
            → cond (proc.pid == pid) (Some (record (process_of old proc) { memory = memory })) (Some (process_of old proc))
            ≡ Some (process_of new (cond (proc.pid == pid) (record proc { nodes = nodes }) proc))
        by_pid (inl own) = rw own.0 (ap (λ m. Some (record (process_of old proc) { memory = m })) (sym has))
        by_pid (inr other) = rw other.0 (ap Some (sym (same other.1)))

-- a process leaves its children and is ended
left_one : (h : Heap) (pid status : ℕ) (proc : Proc) → (proc.pid ≡ pid → memory_at h proc.nodes ≡ no_memory)
    → one_of pid (ending.ended_as status) (ending.left_behind pid) proc.pid (Some (process_of h proc)) ≡ option_map (process_of h) (left_behind pid status proc)
left_one h pid status proc empty = by_pid (proc.pid == pid) refl
  where
    child : (told : Option ℕ) → ending.left_child (status_of told) (process_of h proc) ≡ option_map (process_of h) (left_child told proc)
    child None = refl
    child (Some over) = refl

    by_parent : (b : Bool) → cond b (ending.left_child (status_of proc.status) (process_of h proc)) (Some (process_of h proc)) ≡ option_map (process_of h) (cond b (left_child proc.status proc) (Some proc))
    by_parent true = child proc.status
    by_parent false = refl

    by_pid : (b : Bool) → (proc.pid == pid) ≡ b → cond b (ending.ended_as status (Some (process_of h proc))) (ending.left_behind pid (Some (process_of h proc)))
        ≡ option_map (process_of h) (cond b (Some (record proc { status = Some status })) (cond (proc.parent == pid) (left_child proc.status proc) (Some proc)))
    by_pid true own = ap (λ m. Some (record (process_of h (record proc { status = Some status })) { memory = m })) (sym (empty (eqb_is proc.pid pid own)))
    by_pid false own = by_parent (proc.parent == pid)

-- one process ignores others now
pub disposes_is : (old new : Heap) (table : Table) (procs : List Proc) (pid : ℕ) (was now : Proc) (ignores : Ignores) → AreFrom old 1 table procs → now.pid ≡ pid
    → ((proc : Proc) → process_of new proc ≡ process_of old proc) → process_of new now ≡ record (process_of old was) { ignores = ignores }
    → AllByRecursion (λ proc. proc.pid ≡ pid → proc ≡ was) procs → AreFrom new 1 (with_ignores table pid ignores) (map (replaced pid now) procs)
disposes_is old new table procs pid was now ignores are own same becomes only =
    subst (AreFrom new 1 (with_ignores table pid ignores)) (all_changed (replaced pid now) procs)
    (subst (λ t. AreFrom new 1 t (filter_map (λ proc. Some (replaced pid now proc)) procs))
    (each_is pid (ignoring ignores) (λ o. o) table ∙ ap (λ t. with_pid t pid (ignoring ignores (process_at table pid))) (map_same table))
    (from_each are new (one_of pid (ignoring ignores) (λ o. o)) (λ proc. Some (replaced pid now proc)) (λ q. none (q == pid))
    (all_weaker (λ proc. proc.pid ≡ pid → proc ≡ was) (Agrees old new (one_of pid (ignoring ignores) (λ o. o)) (λ proc. Some (replaced pid now proc))) procs
    (λ proc it. one proc it (proc.pid == pid) refl) only)
    (λ proc next is. ap (λ p. p.pid) (sym (some_same (Some next) (replaced pid now proc) next (sym is) refl)) ∙ pid_by proc (proc.pid == pid) refl)))
  where
    none : (b : Bool) → cond {A = Option Process} b (ignoring ignores None) None ≡ None
    none true = refl
    none false = refl

    pid_by : (proc : Proc) (b : Bool) → (proc.pid == pid) ≡ b → (cond b now proc).pid ≡ proc.pid
    pid_by proc true e = own ∙ sym (eqb_is proc.pid pid e)
    pid_by proc false e = refl

    one : (proc : Proc) → (proc.pid ≡ pid → proc ≡ was) → (b : Bool) → (proc.pid == pid) ≡ b
        → cond b (Some (record (process_of old proc) { ignores = ignores })) (Some (process_of old proc)) ≡ Some (process_of new (cond b now proc))
    one proc it true e = ap (λ p. Some (record (process_of old p) { ignores = ignores })) (it (eqb_is proc.pid pid e)) ∙ sym (ap Some becomes)
    one proc it false e = sym (ap Some (same proc))

pub left_pid : (pid status : ℕ) (proc now : Proc) → left_behind pid status proc ≡ Some now → now.pid ≡ proc.pid
left_pid pid status proc now is = by_pid (proc.pid == pid) is
  where
    child : (told : Option ℕ) → left_child told proc ≡ Some now → now.pid ≡ proc.pid
    child None e = cc
    child (Some over) e = cc

    by_parent : (b : Bool) → cond b (left_child proc.status proc) (Some proc) ≡ Some now → now.pid ≡ proc.pid
    by_parent true e = child proc.status e
    by_parent false e = cc

    by_pid : (b : Bool) → cond b (Some (record proc { status = Some status })) (cond (proc.parent == pid) (left_child proc.status proc) (Some proc)) ≡ Some now → now.pid ≡ proc.pid
    by_pid true e = cc
    by_pid false e = by_parent (proc.parent == pid) e

pub leaves_is : (h : Heap) (table : Table) (procs : List Proc) (pid status : ℕ) → AllByRecursion (λ proc. proc.pid ≡ pid → memory_at h proc.nodes ≡ no_memory) procs
    → AreFrom h 1 table procs → AreFrom h 1 (ending.leaves table pid status) (filter_map (left_behind pid status) procs)
leaves_is h table procs pid status empty are =
    subst (λ t. AreFrom h 1 t (filter_map (left_behind pid status) procs)) (each_is pid (ending.ended_as status) (ending.left_behind pid) table)
    (from_each are h (one_of pid (ending.ended_as status) (ending.left_behind pid)) (left_behind pid status) (λ q. none (q == pid))
    (all_weaker (λ proc. proc.pid ≡ pid → memory_at h proc.nodes ≡ no_memory) (Agrees h h (one_of pid (ending.ended_as status) (ending.left_behind pid)) (left_behind pid status)) procs
    (λ proc none. left_one h pid status proc none) empty) (left_pid pid status))
  where
    none : (b : Bool) → cond b (ending.ended_as status None) (ending.left_behind pid None) ≡ None
    none true = refl
    none false = refl

-- a process that was cleared before leaves what it would leave else
leaves_at : (table : Table) (i : ℕ) (others : Option Process → Option Process) (x y : Option Process) → slice_set (map others (slice_set table i x)) i y ≡ slice_set (map others table) i y
leaves_at [] i others x y = refl
leaves_at (o ∷ table) zero others x y = refl
leaves_at (o ∷ table) (suc i) others x y = ap (λ rest. others o ∷ rest) (leaves_at table i others x y)

ended_at : (table : Table) (i status : ℕ) → ending.ended_as status (unwrap_or (slice_get (slice_set table i (remembering no_memory (unwrap_or (slice_get table i) None))) i) None)
    ≡ ending.ended_as status (unwrap_or (slice_get table i) None)
ended_at [] i status = refl
ended_at (None ∷ table) zero status = refl
ended_at (Some process ∷ table) zero status = refl
ended_at (o ∷ table) (suc i) status = ended_at table i status

pub leaves_cleared : (table : Table) (pid status : ℕ) → ending.leaves (with_memory table pid no_memory) pid status ≡ ending.leaves table pid status
leaves_cleared table zero status = refl
leaves_cleared table (suc i) status =
    leaves_at table i (ending.left_behind (suc i)) (remembering no_memory (unwrap_or (slice_get table i) None)) _
    ∙ ap (slice_set (map (ending.left_behind (suc i)) table) i) (ended_at table i status)

-- a process goes
abbrev pub reaped : ℕ → Proc → Option Proc
reaped pid proc = cond (is_other pid proc) (Some proc) None

pub filter_is : (test : Proc → Bool) (procs : List Proc) → filter_map (λ proc. cond (test proc) (Some proc) None) procs ≡ filter test procs
filter_is test [] = refl
filter_is test (proc ∷ procs) = by_case (test proc) (filter_is test procs)
  where
    by_case : (b : Bool) → filter_map (λ proc. cond (test proc) (Some proc) None) procs ≡ filter test procs
        → cons_option (cond b (Some proc) None) (filter_map (λ proc. cond (test proc) (Some proc) None) procs) ≡ cond b (proc ∷ filter test procs) (filter test procs)
    by_case true rest = ap (λ others. proc ∷ others) rest
    by_case false rest = rest

pub reaped_pid : (pid : ℕ) (proc now : Proc) → reaped pid proc ≡ Some now → now ≡ proc
reaped_pid pid proc now is = by_case (is_other pid proc) is
  where
    by_case : (b : Bool) → cond b (Some proc) None ≡ Some now → now ≡ proc
    by_case true e = cc
    by_case false e = cc

pub reaped_is : (h : Heap) (table : Table) (procs : List Proc) (pid : ℕ) → AreFrom h 1 table procs → AreFrom h 1 (with_pid table pid None) (filter (is_other pid) procs)
reaped_is h table procs pid are =
    subst (AreFrom h 1 (with_pid table pid None)) (filter_is (is_other pid) procs)
    (subst (λ t. AreFrom h 1 t (filter_map (reaped pid) procs)) (each_is pid (λ o. None) (λ o. o) table ∙ ap (λ t. with_pid t pid None) (map_same table))
    (from_each are h (one_of pid (λ o. None) (λ o. o)) (reaped pid) (λ q. none (q == pid))
    (all_by (Agrees h h (one_of pid (λ o. None) (λ o. o)) (reaped pid)) procs (λ proc. one proc (proc.pid == pid)))
    (λ proc now is. ap (λ p. p.pid) (reaped_pid pid proc now is))))
  where
    none : (b : Bool) → cond {A = Option Process} b None None ≡ None
    none true = refl
    none false = refl

    one : (proc : Proc) (b : Bool) → cond b None (Some (process_of h proc)) ≡ option_map (process_of h) (cond (not b) (Some proc) None)
    one proc true = refl
    one proc false = refl

-- some child is asked for
pub any_is : {h : Heap} {first : ℕ} {table : Table} {procs : List Proc} → AreFrom h first table procs → (parent : ℕ) (which : ℤ)
    → any_from parent which first table ≡ list_any (is_wanted parent which) procs
any_is (nobody h first) parent which = refl
any_is (gone h first table procs rest) parent which = ap (λ n. any_from parent which n table) (let e : first + 1 ≡ suc first = omega arith in e) ∙ any_is rest parent which
any_is (there h first proc table procs e rest) parent which =
    ap (λ n. ((proc.parent == parent) && is_asked_for which n) || any_from parent which (first + 1) table) (sym e)
    ∙ ap (λ b. is_wanted parent which proc || b) (ap (λ n. any_from parent which n table) (let k : first + 1 ≡ suc first = omega arith in k) ∙ any_is rest parent which)

-- the ended child that is told
abbrev exit_as : ℕ → ℕ → Exited
exit_as pid status = record { pid = pid; status = status }

told_here : (number : ℕ) (told : Option ℕ) → cond (has_ended (status_of told)) (Some (exit_as number (wait_status (status_of told)))) None ≡ option_map (exit_as number) told
told_here number None = refl
told_here number (Some status) = refl

pub told_is : {h : Heap} {first : ℕ} {table : Table} {procs : List Proc} → AreFrom h first table procs → (parent : ℕ) (which : ℤ)
    → exited_from parent which first table ≡ told_of parent which procs
told_is (nobody h first) parent which = refl
told_is (gone h first table procs rest) parent which = ap (λ n. exited_from parent which n table) (let e : first + 1 ≡ suc first = omega arith in e) ∙ told_is rest parent which
told_is (there h first proc table procs e rest) parent which =
    ap (λ n. option_or (here n) (exited_from parent which (first + 1) table)) (sym e)
    ∙ ap (λ o. option_or (cond (is_wanted parent which proc) o None) (exited_from parent which (first + 1) table)) (told_here proc.pid proc.status)
    ∙ ap (option_or (cond (is_wanted parent which proc) (exited proc) None)) (ap (λ n. exited_from parent which n table) (let k : first + 1 ≡ suc first = omega arith in k) ∙ told_is rest parent which)
  where
    here : ℕ → Option Exited
    here n = cond ((proc.parent == parent) && is_asked_for which n) (cond (has_ended (status_of proc.status)) (Some (exit_as n (wait_status (status_of proc.status)))) None) None

-- what a parent is answered
pub found_is : (h : Heap) (table : Table) (procs : List Proc) (parent : ℕ) (which : ℤ) → AreFrom h 1 table procs → reaped_of parent which procs ≡ found_in table parent which
found_is h table procs parent which are = rw (told_is are parent which, any_is are parent which) refl

-- who ends alone
pub alone_is : (h : Heap) (table : Table) (procs : List Proc) (pid : ℕ) → AreFrom h 1 table procs → is_alone pid procs ≡ ends_alone table pid
alone_is h table procs pid are = ap (λ b. (pid == 1) || not b) (by_case (proc_of procs 1) ∙ sym (ap is_there (process_is h table procs 1 are)))
  where
    by_case : (o : Option Proc) → is_some o ≡ is_there (option_map (process_of h) o)
    by_case None = refl
    by_case (Some proc) = refl
