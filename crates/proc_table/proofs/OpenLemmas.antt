-- What the processes have open, through all that becomes of them.
use Rattle.std.proofs.Common.{◌≡◌, ◌≢◌, ◌⊎◌, ℕ, zero, suc, ◌+◌, ◌<◌, ◌≤◌, ◌==◌, Bool, true, false, not, cond, List, [], ◌∷◌, ◌++◌, length, filter, get_or, map, Option, None, Some, refl, sym, ap, ◌∙◌, subst, inl, inr, arith, length-append}
use Rattle.std.specs.List.{AllByRecursion, filter_map}
use Rattle.std.specs.Option.{option_map}
use Rattle.std.specs.Prelude.{slice_set, unwrap_or}
use Rattle.std.proofs.lemmas.Bool.{cases_eq, cases_lt}
use Rattle.std.proofs.lemmas.Bool.Decides.{eqb_tells}
use Rattle.std.proofs.lemmas.List.{get_or-set_other, get_or-set_same, get_or_append_left, get_or_at, get_or_past, length-set}
use Rattle.std.proofs.lemmas.Option.{unwrap_or-slice_get}
use Rattle.kheap_slabs.specs.Objects.{object}
use Rattle.kheap_slabs.specs.declared.objects.Desc.{Desc}
use Rattle.kheap_slabs.specs.declared.objects.Descriptor.{Descriptor}
use Rattle.kheap_slabs.specs.declared.objects.Proc.{Proc}
use Rattle.kheap_slabs.specs.declared.objects.Leaf.{Leaf}
use Rattle.kheap_slabs.specs.Heap.{Heap}
use Rattle.kheap_slabs.specs.Leaves.{HoldLeaves, numbers_by}
use Rattle.posix_defs.specs.Files.Descriptors.{none_open}
use Rattle.posix_defs.specs.ByPid.{at_pid, with_pid}
use Rattle.posix_defs.specs.Files.State.{Files, HalfOpen, boot_files, descriptors_of, opening_at, with_heir, with_opening}
use Rattle.open_laws.specs.Open.{descriptors_by}
use Rattle.open_laws.specs.Sharing.{CanShare, share_all}
use Rattle.proc_table.specs.Changes.{after_wait, child_proc, cleared, ended, is_alone, is_other, left_behind, left_by, left_child, reaped_of, replaced, with_nodes}
use Rattle.proc_table.specs.Moves.{HasCopies, IsForked, ProcTurns, TableMoves, sharing}
use Rattle.proc_table.specs.Opening.{HaveOpen, half_in, opening_in}
use Rattle.proc_table.specs.Procs.{HasClosed, HasNoneOpenOnce, IsAwakeOnce, IsClosed, IsLight, NoneOpen, first_proc, no_descriptors, no_nodes, numbers_in, proc_of}
use Rattle.proc_table.specs.Table.{Holds, TableView, processes}
use Rattle.proc_table.specs.declared.reaped.Reaped.{Reaped}
use Rattle.proc_table.specs.declared.reaped.Reaped.TheVariants.{NoChild, Nobody, Took}
use Rattle.proc_table.proofs.AccountLemmas.{all_both, none_kept as gone_kept, none_more, pids_within}
use Rattle.proc_table.proofs.FamilyLemmas.{filter_is, left_pid, proc_has_pid, reaped, reaped_pid}
use Rattle.proc_table.proofs.OwnLemmas.{all_append, all_filter_map, all_weaker, has_it, rising_procs}
use Rattle.proc_table.proofs.LawLemmas.{on-procs, only_one}
use Rattle.proc_table.proofs.LeafTurns.{forked_others}
use Rattle.proc_table.proofs.NumberLemmas.{KeepsNumbers, closed_kept, none_numbers, numbers_kept}
use Rattle.proc_table.proofs.PlaceLemmas.{eqb_is, key_of-proc, some_same}
use Rattle.proc_table.proofs.TurnLemmas.{GoesLight, all_changed, goes_light, with_nodes_pid}
use Rattle.proc_table.proofs.WaitLemmas.{took_ended}

-- nothing open is the same to the machine
none_by : (number : ℕ → ℕ) → descriptors_by number no_descriptors ≡ none_open
unfolding none_open
none_by number = refl

abbrev Placed : Heap → (ℕ → ℕ) → Files → Proc → Type 0
Placed h number files proc = descriptors_of files proc.pid ≡ descriptors_by number (numbers_in h proc)

abbrev Sleeps : Files → Proc → Type 0
Sleeps files proc = opening_at files proc.pid ≡ opening_in proc

-- by number the same is open, and the process sleeps in the same open
abbrev KeepsOpen : Heap → Proc → Proc → Type 0
KeepsOpen h now proc = (numbers_in h now ≡ numbers_in h proc) × (now.opening ≡ proc.opening)

open_kept : (h : Heap) (now proc : Proc) → KeepsNumbers now proc → KeepsOpen h now proc
open_kept h now proc keeps = (numbers_kept h now proc keeps, keeps.opening)

-- ---- the opens in which processes sleep, by pid

sleeps_here : (openings : List (Option HalfOpen)) (pid : ℕ) (o : Option HalfOpen) → 0 < pid → pid ≤ length openings → unwrap_or (at_pid (with_pid openings pid o) pid) None ≡ o
sleeps_here openings zero o above below = absurd (omega (arith, above))
sleeps_here openings (suc i) o above below = unwrap_or-slice_get (slice_set openings i o) i None ∙ get_or-set_same openings i o None (omega (arith, below))

sleeps_there : (openings : List (Option HalfOpen)) (pid q : ℕ) (o : Option HalfOpen) → q ≢ pid → unwrap_or (at_pid (with_pid openings pid o) q) None ≡ unwrap_or (at_pid openings q) None
sleeps_there openings zero q o apart = refl
sleeps_there openings (suc i) zero o apart = refl
sleeps_there openings (suc i) (suc j) o apart =
    unwrap_or-slice_get (slice_set openings i o) j None ∙ (get_or-set_other openings i j o None (λ same. apart (ap (λ k. suc k) same)) ∙ sym (unwrap_or-slice_get openings j None))

length_with : (openings : List (Option HalfOpen)) (pid : ℕ) (o : Option HalfOpen) → length (with_pid openings pid o) ≡ length openings
length_with openings zero o = refl
length_with openings (suc i) o = length-set openings i o

-- ---- each process goes, or keeps its pid and its descriptors

pub have_through : (h : Heap) (P : Proc → Type 0) (becomes : Proc → Option Proc) (procs : List Proc) (last : ℕ) (number : ℕ → ℕ) (files : Files)
    → ((proc now : Proc) → becomes proc ≡ Some now → now.pid ≡ proc.pid) → ((proc now : Proc) → P proc → becomes proc ≡ Some now → KeepsOpen h now proc)
    → ((proc : Proc) → P proc → becomes proc ≡ None → IsClosed proc) → AllByRecursion P procs
    → HaveOpen (numbers_in h) procs last number files → HaveOpen (numbers_in h) (filter_map becomes procs) last number files
have_through h P becomes procs last number files pids keeps nothing all have = record {
  placed = all_filter_map (λ proc. P proc × Placed h number files proc) (Placed h number files) becomes procs still (all_both P (Placed h number files) procs all have.placed);
  sleeping = all_filter_map (λ proc. P proc × Sleeps files proc) (Sleeps files) becomes procs asleep (all_both P (Sleeps files) procs all have.sleeping);
  gone = λ q none. gone q (gone_kept becomes procs q pids none);
  awake = λ q none. awake q (gone_kept becomes procs q pids none);
  made = have.made;
  counted = have.counted;
}
  where
    still : (proc now : Proc) → P proc × Placed h number files proc → becomes proc ≡ Some now → Placed h number files now
    still proc now both is = ap (descriptors_of files) (pids proc now is) ∙ (both.1 ∙ ap (descriptors_by number) (sym (keeps proc now both.0 is).0))

    asleep : (proc now : Proc) → P proc × Sleeps files proc → becomes proc ≡ Some now → Sleeps files now
    asleep proc now both is = ap (opening_at files) (pids proc now is) ∙ (both.1 ∙ ap (option_map half_in) (sym (keeps proc now both.0 is).1))

    gone : (q : ℕ) → (proc_of procs q ≡ None) ⊎ ((proc : Proc) × (proc_of procs q ≡ Some proc) × (becomes proc ≡ None)) → descriptors_of files q ≡ none_open
    gone q (inl none) = have.gone q none
    gone q (inr (proc, there, goes)) =
        let placed : Placed h number files proc = has_it (Placed h number files) procs q proc have.placed there in
        ap (descriptors_of files) (sym (proc_has_pid procs q proc there))
        ∙ (placed ∙ (ap (descriptors_by number) (none_numbers h proc (nothing proc (has_it P procs q proc all there) goes).opens) ∙ none_by number))

    awake : (q : ℕ) → (proc_of procs q ≡ None) ⊎ ((proc : Proc) × (proc_of procs q ≡ Some proc) × (becomes proc ≡ None)) → opening_at files q ≡ None
    awake q (inl none) = have.awake q none
    awake q (inr (proc, there, goes)) =
        ap (opening_at files) (sym (proc_has_pid procs q proc there))
        ∙ (has_it (Sleeps files) procs q proc have.sleeping there ∙ ap (option_map half_in) (nothing proc (has_it P procs q proc all there) goes).awake)

-- all of them stay
pub have_changed : (h : Heap) (P : Proc → Type 0) (change : Proc → Proc) (procs : List Proc) (last : ℕ) (number : ℕ → ℕ) (files : Files)
    → ((proc : Proc) → (change proc).pid ≡ proc.pid) → ((proc : Proc) → P proc → KeepsOpen h (change proc) proc) → AllByRecursion P procs
    → HaveOpen (numbers_in h) procs last number files → HaveOpen (numbers_in h) (map change procs) last number files
have_changed h P change procs last number files pids keeps all have =
    subst (λ (list : List Proc). HaveOpen (numbers_in h) list last number files) (all_changed change procs)
    (have_through h P (λ proc. Some (change proc)) procs last number files
    (λ proc now is. ap (λ (p : Proc). p.pid) (sym (some_same (Some now) (change proc) now (sym is) refl)) ∙ pids proc)
    (λ proc now its is. subst (λ (p : Proc). KeepsOpen h p proc) (some_same (Some now) (change proc) now (sym is) refl) (keeps proc its))
    (λ proc its is. absurd (cc)) all have)

-- ---- other nodes

pub nodes_numbers : (pid : ℕ) (nodes : List (Option ℕ)) (proc : Proc) → KeepsNumbers (with_nodes pid nodes proc) proc
nodes_numbers pid nodes proc = by_case (proc.pid == pid)
  where
    by_case : (b : Bool) → KeepsNumbers (cond b (record proc { nodes = nodes }) proc) proc
    by_case true = record { descriptors = refl; leaves = refl; opening = refl }
    by_case false = record { descriptors = refl; leaves = refl; opening = refl }

any : (procs : List Proc) → AllByRecursion (λ (p : Proc). Unit {0}) procs
any [] = tt
any (proc ∷ procs) = (tt, any procs)

pub have_nodes : (h : Heap) (pid : ℕ) (nodes : List (Option ℕ)) (procs : List Proc) (last : ℕ) (number : ℕ → ℕ) (files : Files)
    → HaveOpen (numbers_in h) procs last number files → HaveOpen (numbers_in h) (map (with_nodes pid nodes) procs) last number files
have_nodes h pid nodes procs last number files =
    have_changed h (λ p. Unit {0}) (with_nodes pid nodes) procs last number files (with_nodes_pid pid nodes) (λ proc its. open_kept h (with_nodes pid nodes proc) proc (nodes_numbers pid nodes proc)) (any procs)

-- ---- one ends

left_numbers : (pid status : ℕ) (proc now : Proc) → left_behind pid status proc ≡ Some now → KeepsNumbers now proc
left_numbers pid status proc now is = by_pid (proc.pid == pid) is
  where
    from : (was : Proc) → KeepsNumbers was proc → Some was ≡ Some now → KeepsNumbers now proc
    from was keeps e = subst (λ (p : Proc). KeepsNumbers p proc) (some_same (Some was) was now refl e) keeps

    child : (told : Option ℕ) → left_child told proc ≡ Some now → KeepsNumbers now proc
    child None e = from (record proc { parent = 1 }) (record { descriptors = refl; leaves = refl; opening = refl }) e
    child (Some over) e = absurd (cc)

    by_parent : (b : Bool) → cond b (left_child proc.status proc) (Some proc) ≡ Some now → KeepsNumbers now proc
    by_parent true e = child proc.status e
    by_parent false e = from proc (record { descriptors = refl; leaves = refl; opening = refl }) e

    by_pid : (b : Bool) → cond b (Some (record proc { status = Some status })) (cond (proc.parent == pid) (left_child proc.status proc) (Some proc)) ≡ Some now → KeepsNumbers now proc
    by_pid true e = from (record proc { status = Some status }) (record { descriptors = refl; leaves = refl; opening = refl }) e
    by_pid false e = by_parent (proc.parent == pid) e

-- who has ended has nothing open, and sleeps in no open
abbrev pub Over : Proc → Type 0
Over proc = HasNoneOpenOnce proc.status proc.descriptors proc.leaves × IsAwakeOnce proc.status proc.opening

left_nothing : (pid status : ℕ) (proc : Proc) → Over proc → left_behind pid status proc ≡ None → IsClosed proc
left_nothing pid status proc over is = by_pid (proc.pid == pid) is
  where
    child : (told : Option ℕ) → HasNoneOpenOnce told proc.descriptors proc.leaves → IsAwakeOnce told proc.opening → left_child told proc ≡ None → IsClosed proc
    child None its awake e = absurd (cc)
    child (Some status) its awake e = record { opens = its; awake = awake }

    by_parent : (b : Bool) → cond b (left_child proc.status proc) (Some proc) ≡ None → IsClosed proc
    by_parent true e = child proc.status over.0 over.1 e
    by_parent false e = absurd (cc)

    by_pid : (b : Bool) → cond b (Some (record proc { status = Some status })) (cond (proc.parent == pid) (left_child proc.status proc) (Some proc)) ≡ None → IsClosed proc
    by_pid true e = absurd (cc)
    by_pid false e = by_parent (proc.parent == pid) e

-- the same once memory is cleared
pub over_cleared : (pid : ℕ) (procs : List Proc) → AllByRecursion IsLight procs → AllByRecursion Over (map (cleared pid) procs)
over_cleared pid [] light = tt
over_cleared pid (proc ∷ procs) light = (
  by_case (proc.pid == pid),
  over_cleared pid procs light.1,
)
  where
    by_case : (b : Bool) → Over (cond b (record proc { nodes = no_nodes }) proc)
    by_case true = let its = light.0 in (its.descriptors, its.awake)
    by_case false = let its = light.0 in (its.descriptors, its.awake)

have_left : (h : Heap) (pid status : ℕ) (procs : List Proc) (last : ℕ) (number : ℕ → ℕ) (files : Files) → AllByRecursion IsLight procs
    → HaveOpen (numbers_in h) procs last number files → HaveOpen (numbers_in h) (left_by pid status procs) last number files
have_left h pid status procs last number files light have =
    have_through h Over (left_behind pid status) (map (cleared pid) procs) last number files (left_pid pid status) (λ proc now over is. open_kept h now proc (left_numbers pid status proc now is))
    (left_nothing pid status) (over_cleared pid procs light) (have_nodes h pid no_nodes procs last number files have)

abbrev pub Closed : ℕ → Proc → Type 0
Closed pid proc = proc.pid ≡ pid → IsClosed proc

closed_cleared : (pid : ℕ) (procs : List Proc) → HasClosed procs pid → HasClosed (map (cleared pid) procs) pid
closed_cleared pid [] closed = tt
closed_cleared pid (proc ∷ procs) closed =
    ((λ own. closed_kept (cleared pid proc) proc (nodes_numbers pid no_nodes proc) (closed.0 (sym (with_nodes_pid pid no_nodes proc) ∙ own))), closed_cleared pid procs closed.1)

pub closed_left : (pid status : ℕ) (procs : List Proc) → HasClosed procs pid → HasClosed (left_by pid status procs) pid
closed_left pid status procs closed =
    all_filter_map (Closed pid) (Closed pid) (left_behind pid status) (map (cleared pid) procs)
    (λ proc now its is own. closed_kept now proc (left_numbers pid status proc now is) (its (sym (left_pid pid status proc now is) ∙ own))) (closed_cleared pid procs closed)

-- the process of a pid goes
have_gone : (h : Heap) (pid : ℕ) (procs : List Proc) (last : ℕ) (number : ℕ → ℕ) (files : Files) → HasClosed procs pid
    → HaveOpen (numbers_in h) procs last number files → HaveOpen (numbers_in h) (filter (is_other pid) procs) last number files
have_gone h pid procs last number files closed have =
    subst (λ (list : List Proc). HaveOpen (numbers_in h) list last number files) (filter_is (is_other pid) procs)
    (have_through h (Closed pid) (reaped pid) procs last number files (λ proc now is. ap (λ (p : Proc). p.pid) (reaped_pid pid proc now is))
    (λ proc now its is. let same = reaped_pid pid proc now is in (ap (numbers_in h) same, ap (λ (p : Proc). p.opening) same))
    (λ proc its is. its (own proc (proc.pid == pid) refl is)) closed have)
  where
    own : (proc : Proc) (b : Bool) → (proc.pid == pid) ≡ b → cond (not b) (Some proc) None ≡ None → proc.pid ≡ pid
    own proc true same is = eqb_is proc.pid pid same
    own proc false same is = absurd (cc)

pub have_ended : (h : Heap) (kept : TableView) (pid status : ℕ) (number : ℕ → ℕ) (files : Files) → Holds h kept → HasClosed (processes h kept) pid
    → HaveOpen (numbers_in h) (processes h kept) kept.last number files → HaveOpen (numbers_in h) (ended pid status (processes h kept)) kept.last number files
have_ended h kept pid status number files holds closed have = by_case (is_alone pid (processes h kept))
  where
    left : HaveOpen (numbers_in h) (left_by pid status (processes h kept)) kept.last number files
    left = have_left h pid status (processes h kept) kept.last number files holds.light have

    by_case : (b : Bool) → HaveOpen (numbers_in h) (cond b (filter (is_other pid) (left_by pid status (processes h kept))) (left_by pid status (processes h kept))) kept.last number files
    by_case true = have_gone h pid (left_by pid status (processes h kept)) kept.last number files (closed_left pid status (processes h kept) closed) left
    by_case false = left

-- ---- one is waited for

pub have_waited : (h : Heap) (kept : TableView) (parent : ℕ) (which : _) (answer : Reaped) (number : ℕ → ℕ) (files : Files) → Holds h kept
    → answer ≡ reaped_of parent which (processes h kept) → HaveOpen (numbers_in h) (processes h kept) kept.last number files → HaveOpen (numbers_in h) (after_wait answer (processes h kept)) kept.last number files
have_waited h kept parent which (Took pid status) number files holds is have =
    let over = took_ended h kept parent which pid status holds is in
    have_gone h pid (processes h kept) kept.last number files
    (all_weaker (GoesLight pid) (Closed pid) (processes h kept) (λ proc goes. goes.closed)
    (goes_light (processes h kept) 0 pid over.proc over.status (rising_procs h.procs kept.listed 0 kept.last holds.stored holds.rising) over.there over.over holds.light)) have
have_waited h kept parent which Nobody number files holds is have = have
have_waited h kept parent which NoChild number files holds is have = have

-- ---- one goes on

replaced_pid : (pid : ℕ) (now proc : Proc) → now.pid ≡ pid → (replaced pid now proc).pid ≡ proc.pid
replaced_pid pid now proc same = by_case (proc.pid == pid) refl
  where
    by_case : (b : Bool) → (proc.pid == pid) ≡ b → (cond b now proc).pid ≡ proc.pid
    by_case true own = same ∙ sym (eqb_is proc.pid pid own)
    by_case false own = refl

pub have_replaced : (h : Heap) (pid : ℕ) (was now : Proc) (procs : List Proc) (last : ℕ) (number : ℕ → ℕ) (files : Files) → now.pid ≡ pid → KeepsOpen h now was
    → AllByRecursion (λ p. p.pid ≡ pid → p ≡ was) procs → HaveOpen (numbers_in h) procs last number files → HaveOpen (numbers_in h) (map (replaced pid now) procs) last number files
have_replaced h pid was now procs last number files own same only =
    have_changed h (λ p. p.pid ≡ pid → p ≡ was) (replaced pid now) procs last number files (λ proc. replaced_pid pid now proc own)
    (λ proc its. by_case proc its (proc.pid == pid) refl) only
  where
    by_case : (proc : Proc) → (proc.pid ≡ pid → proc ≡ was) → (b : Bool) → (proc.pid == pid) ≡ b → KeepsOpen h (cond b now proc) proc
    by_case proc its true is = subst (KeepsOpen h now) (sym (its (eqb_is proc.pid pid is))) same
    by_case proc its false is = (refl, refl)

-- ---- one sleeps in another open

module _ (h : Heap) (pid : ℕ) (was now : Proc) (procs : List Proc) (last : ℕ) (number : ℕ → ℕ) (files : Files) (own : now.pid ≡ pid) (same : numbers_in h now ≡ numbers_in h was)
    (only : AllByRecursion (λ p. p.pid ≡ pid → p ≡ was) procs) (there : proc_of procs pid ≡ Some was) (within : (0 < pid) × (pid ≤ last)) (have : HaveOpen (numbers_in h) procs last number files) where
  abbrev slept : Files
  slept = with_opening files pid (opening_in now)

  abbrev becomes : Proc → Option Proc
  becomes proc = Some (replaced pid now proc)

  becomes_is : (proc p : Proc) → becomes proc ≡ Some p → replaced pid now proc ≡ p
  becomes_is proc p is = some_same (Some p) (replaced pid now proc) p (sym is) refl

  pids : (proc p : Proc) → becomes proc ≡ Some p → p.pid ≡ proc.pid
  pids proc p is = ap (λ (q : Proc). q.pid) (sym (becomes_is proc p is)) ∙ replaced_pid pid now proc own

  numbers_by_pid : (proc : Proc) → (proc.pid ≡ pid → proc ≡ was) → (b : Bool) → (proc.pid == pid) ≡ b → numbers_in h (cond b now proc) ≡ numbers_in h proc
  numbers_by_pid proc its true is = same ∙ ap (numbers_in h) (sym (its (eqb_is proc.pid pid is)))
  numbers_by_pid proc its false is = refl

  still : (proc p : Proc) → (proc.pid ≡ pid → proc ≡ was) × Placed h number files proc → becomes proc ≡ Some p → Placed h number slept p
  still proc p both is =
      ap (descriptors_of slept) (pids proc p is)
      ∙ (both.1
      ∙ ap (descriptors_by number) (sym (numbers_by_pid proc both.0 (proc.pid == pid) refl) ∙ ap (numbers_in h) (becomes_is proc p is)))

  asleep : (proc p : Proc) → Sleeps files proc → becomes proc ≡ Some p → Sleeps slept p
  asleep proc p its is = subst (Sleeps slept) (becomes_is proc p is) (by_pid (eqb_tells proc.pid pid))
    where
      by_pid : (((proc.pid == pid) ≡ true) × (proc.pid ≡ pid)) ⊎ (((proc.pid == pid) ≡ false) × (proc.pid ≢ pid)) → Sleeps slept (replaced pid now proc)
      by_pid (inl it) =
          subst (Sleeps slept) (sym (ap (λ b. cond b now proc) it.0))
          (ap (opening_at slept) own ∙ sleeps_here files.openings pid (opening_in now) within.0 (let made = have.counted in let below = within.1 in omega (arith, made, below)))
      by_pid (inr apart) = subst (Sleeps slept) (sym (ap (λ b. cond b now proc) apart.0)) (sleeps_there files.openings pid proc.pid (opening_in now) apart.1 ∙ its)

  gone : (q : ℕ) → (proc_of procs q ≡ None) ⊎ ((proc : Proc) × (proc_of procs q ≡ Some proc) × (becomes proc ≡ None)) → proc_of procs q ≡ None
  gone q (inl none) = none
  gone q (inr it) = absurd (let no = it.2 in cc)

  pub have_slept : HaveOpen (numbers_in h) (map (replaced pid now) procs) last number slept
  have_slept = subst (λ (list : List Proc). HaveOpen (numbers_in h) list last number slept) (all_changed (replaced pid now) procs) (record {
    placed = all_filter_map (λ proc. (proc.pid ≡ pid → proc ≡ was) × Placed h number files proc) (Placed h number slept) becomes procs still
        (all_both (λ proc. proc.pid ≡ pid → proc ≡ was) (Placed h number files) procs only have.placed);
    sleeping = all_filter_map (Sleeps files) (Sleeps slept) becomes procs asleep have.sleeping;
    gone = λ q none. have.gone q (gone q (gone_kept becomes procs q pids none));
    awake = λ q none.
        let before = gone q (gone_kept becomes procs q pids none) in
        sleeps_there files.openings pid q (opening_in now) (λ is. absurd (let no = before in let yes = there in let one = is in cc)) ∙ have.awake q before;
    made = have.made;
    counted = length_with files.openings pid (opening_in now) ∙ have.counted;
  })

-- ---- a child

open_at : (files : Files) (before : ℕ) → descriptors_of files (suc before) ≡ get_or files.descriptors before none_open
open_at files before = unwrap_or-slice_get files.descriptors before none_open

heir_other : (files : Files) (pid q : ℕ) → q ≢ length files.descriptors + 1 → descriptors_of (with_heir files pid) q ≡ descriptors_of files q
heir_other files pid zero apart = refl
heir_other files pid (suc n) apart = open_at (with_heir files pid) n ∙ (more (cases_lt n (length files.descriptors)) ∙ sym (open_at files n))
  where
    more : (n < length files.descriptors) ⊎ (length files.descriptors ≤ n) → get_or (files.descriptors ++ descriptors_of files pid ∷ []) n none_open ≡ get_or files.descriptors n none_open
    more (inl below) = get_or_append_left files.descriptors (descriptors_of files pid ∷ []) none_open n below
    more (inr above) =
        get_or_past (files.descriptors ++ descriptors_of files pid ∷ []) n none_open (rw length-append (omega (arith, above, apart)))
        ∙ sym (get_or_past files.descriptors n none_open above)

heir_new : (files : Files) (pid : ℕ) → descriptors_of (with_heir files pid) (suc (length files.descriptors)) ≡ descriptors_of files pid
heir_new files pid = open_at (with_heir files pid) (length files.descriptors) ∙ get_or_at files.descriptors (descriptors_of files pid) [] none_open (length files.descriptors) refl

-- a child sleeps in no open, and all others sleep where they did
heir_sleeps : (openings : List (Option HalfOpen)) (q : ℕ) → unwrap_or (at_pid (openings ++ None ∷ []) q) None ≡ unwrap_or (at_pid openings q) None
heir_sleeps openings zero = refl
heir_sleeps openings (suc n) = unwrap_or-slice_get (openings ++ None ∷ []) n None ∙ (more (cases_lt n (length openings)) ∙ sym (unwrap_or-slice_get openings n None))
  where
    more : (n < length openings) ⊎ (length openings ≤ n) → get_or (openings ++ None ∷ []) n None ≡ get_or openings n None
    more (inl below) = get_or_append_left openings (None ∷ []) None n below
    more (inr above) = past (cases_eq n (length openings)) ∙ sym (get_or_past openings n None above)
      where
        past : (n ≡ length openings) ⊎ (n ≢ length openings) → get_or (openings ++ None ∷ []) n None ≡ None
        past (inl at) = get_or_at openings None [] None n (sym at)
        past (inr apart) = get_or_past (openings ++ None ∷ []) n None (rw length-append (omega (arith, above, apart)))

pub have_forked : (old new : Heap) (was now : TableView) (pid child : ℕ) (number : ℕ → ℕ) (files : Files) → Holds old was → HoldLeaves old.leaves (processes old was) → child ≡ was.last + 1
    → (forked : IsForked old was new now pid child) → HasCopies old new forked.parent (child_proc forked.parent child forked.nodes forked.leaves)
    → HaveOpen (numbers_in old) (processes old was) was.last number files → HaveOpen (numbers_in new) (processes new now) now.last number (with_heir files pid)
have_forked old new was now pid child number files holds hold next forked copies have = record {
  placed = subst (AllByRecursion (Placed new number (with_heir files pid))) (sym forked.processes_are)
      (all_append (Placed new number (with_heir files pid)) (processes old was) (its ∷ [])
      (all_weaker (λ p. (Placed old number files p × (numbers_in new p ≡ numbers_in old p)) × ((0 < p.pid) × (p.pid ≤ was.last))) (Placed new number (with_heir files pid)) (processes old was)
      (λ p both. heir_other files pid p.pid (λ same. let low = both.1.1 in omega (arith, same, low, made)) ∙ (both.0.0 ∙ ap (descriptors_by number) (sym both.0.1)))
      (all_both (λ p. Placed old number files p × (numbers_in new p ≡ numbers_in old p)) (λ p. (0 < p.pid) × (p.pid ≤ was.last)) (processes old was)
      (all_both (Placed old number files) (λ p. numbers_in new p ≡ numbers_in old p) (processes old was) have.placed (forked_others old new (processes old was) forked.parent its hold copies))
      (pids_within old.procs was.listed 0 was.last holds.stored holds.rising)))
      (child_placed, tt));
  gone = λ q none.
      let before = none_more (processes old was) its q (ap (λ (procs : List Proc). proc_of procs q) (sym forked.processes_are) ∙ none) in
      heir_other files pid q (λ same. before.1 (omega (arith, next, made, same))) ∙ have.gone q before.0;
  made = length-append files.descriptors (descriptors_of files pid ∷ []) ∙ (let last = forked.last in omega (arith, made, next, last));
  sleeping = subst (AllByRecursion (Sleeps (with_heir files pid))) (sym forked.processes_are)
      (all_append (Sleeps (with_heir files pid)) (processes old was) (its ∷ [])
      (all_weaker (Sleeps files) (Sleeps (with_heir files pid)) (processes old was) (λ p asleep. heir_sleeps files.openings p.pid ∙ asleep) have.sleeping)
      (heir_sleeps files.openings child ∙ none_yet, tt));
  awake = λ q none.
      let before = none_more (processes old was) its q (ap (λ (procs : List Proc). proc_of procs q) (sym forked.processes_are) ∙ none) in
      heir_sleeps files.openings q ∙ have.awake q before.0;
  counted = length-append files.openings (None ∷ []) ∙ (let last = forked.last in let counted = have.counted in omega (arith, counted, next, last));
}
  where
    its : Proc
    its = child_proc forked.parent child forked.nodes forked.leaves

    made : length files.descriptors ≡ was.last
    made = have.made

    -- who isn't made yet sleeps in none
    none_yet : opening_at files child ≡ None
    none_yet =
        let is : child ≡ suc (length files.openings) = (let counted = have.counted in omega (arith, next, counted)) in
        ap (opening_at files) is
        ∙ (unwrap_or-slice_get files.openings (length files.openings) None ∙ get_or_past files.openings (length files.openings) None (omega arith))

    parent_placed : descriptors_of files pid ≡ descriptors_by number (numbers_in old forked.parent)
    parent_placed =
        ap (descriptors_of files) (sym (proc_has_pid (processes old was) pid forked.parent forked.parent_is))
        ∙ has_it (Placed old number files) (processes old was) pid forked.parent have.placed forked.parent_is

    child_placed : descriptors_of (with_heir files pid) child ≡ descriptors_by number (numbers_in new its)
    child_placed =
        let is : child ≡ suc (length files.descriptors) = omega (arith, next, made) in
        ap (descriptors_of (with_heir files pid)) is ∙ (heir_new files pid ∙ (parent_placed ∙ ap (descriptors_by number) (sym copies.numbers)))

-- ---- at boot

pub have_booted : (h : Heap) (number : ℕ → ℕ) (blocks : ℕ) → HaveOpen (numbers_in h) (first_proc ∷ []) 1 number (boot_files blocks)
have_booted h number blocks = record {
  placed = (sym (ap (descriptors_by number) (none_numbers h first_proc (refl, refl)) ∙ none_by number), tt);
  sleeping = (refl, tt);
  gone = nothing;
  awake = none_asleep;
  made = refl;
  counted = refl;
}
  where
    nothing : (q : ℕ) → proc_of (first_proc ∷ []) q ≡ None → descriptors_of (boot_files blocks) q ≡ none_open
    nothing zero gone = refl
    nothing (suc zero) gone = absurd (cc)
    nothing (suc (suc n)) gone = refl

    none_asleep : (q : ℕ) → proc_of (first_proc ∷ []) q ≡ None → opening_at (boot_files blocks) q ≡ None
    none_asleep zero gone = refl
    none_asleep (suc zero) gone = refl
    none_asleep (suc (suc n)) gone = refl

-- ---- nothing is open

pub bare_nodes : (pid : ℕ) (nodes : List (Option ℕ)) (procs : List Proc) → NoneOpen procs → NoneOpen (map (with_nodes pid nodes) procs)
bare_nodes pid nodes [] bare = tt
bare_nodes pid nodes (proc ∷ procs) bare = (closed_kept (with_nodes pid nodes proc) proc (nodes_numbers pid nodes proc) bare.0, bare_nodes pid nodes procs bare.1)

bare_gone : (pid : ℕ) (procs : List Proc) → NoneOpen procs → NoneOpen (filter (is_other pid) procs)
bare_gone pid procs bare =
    subst NoneOpen (filter_is (is_other pid) procs)
    (all_filter_map IsClosed IsClosed (reaped pid) procs (λ proc now its is. subst IsClosed (sym (reaped_pid pid proc now is)) its) bare)

pub bare_ended : (pid status : ℕ) (procs : List Proc) → NoneOpen procs → NoneOpen (ended pid status procs)
bare_ended pid status procs bare = by_case (is_alone pid procs)
  where
    left : NoneOpen (left_by pid status procs)
    left = all_filter_map IsClosed IsClosed (left_behind pid status) (map (cleared pid) procs) (λ proc now its is. closed_kept now proc (left_numbers pid status proc now is) its) (bare_nodes pid no_nodes procs bare)

    by_case : (b : Bool) → NoneOpen (cond b (filter (is_other pid) (left_by pid status procs)) (left_by pid status procs))
    by_case true = bare_gone pid (left_by pid status procs) left
    by_case false = left

pub bare_waited : (answer : Reaped) (procs : List Proc) → NoneOpen procs → NoneOpen (after_wait answer procs)
bare_waited (Took pid status) procs bare = bare_gone pid procs bare
bare_waited Nobody procs bare = bare
bare_waited NoChild procs bare = bare

pub bare_replaced : (pid : ℕ) (now : Proc) (procs : List Proc) → IsClosed now → NoneOpen procs → NoneOpen (map (replaced pid now) procs)
bare_replaced pid now [] its bare = tt
bare_replaced pid now (proc ∷ procs) its bare = (by_case (proc.pid == pid), bare_replaced pid now procs its bare.1)
  where
    by_case : (b : Bool) → IsClosed (cond b now proc)
    by_case true = its
    by_case false = bare.0

pub bare_forked : (pid child : ℕ) (nodes : List (Option ℕ)) (parent : Proc) (procs : List Proc) → proc_of procs pid ≡ Some parent → NoneOpen procs → NoneOpen (procs ++ child_proc parent child nodes parent.leaves ∷ [])
bare_forked pid child nodes parent procs there bare = all_append IsClosed procs (child_proc parent child nodes parent.leaves ∷ []) bare (let its = has_it IsClosed procs pid parent bare there in record { opens = its.opens; awake = refl }, tt)

pub bare_closed : (pid : ℕ) (procs : List Proc) → NoneOpen procs → HasClosed procs pid
bare_closed pid procs bare = all_weaker IsClosed (Closed pid) procs (λ proc its own. its) bare

-- who has nothing open shares nothing
pub bare_shares : (h : Heap) (pid : ℕ) (parent : Proc) (procs : List Proc) (descs : List (Option Desc)) → proc_of procs pid ≡ Some parent → NoneOpen procs
    → CanShare descs (numbers_in h parent) × (share_all descs (numbers_in h parent) ≡ descs)
bare_shares h pid parent procs descs there bare =
    subst (λ (places : List (Option Descriptor)). CanShare descs places × (share_all descs places ≡ descs)) (sym (none_numbers h parent (has_it IsClosed procs pid parent bare there).opens))
    (record { there = λ key some. absurd (omega (arith, some)); small = λ key some. absurd (omega (arith, some)) }, refl)

pub bare_moves : (old new : Heap) (was now : TableView) (pid : ℕ) (parent : Proc) → proc_of (processes old was) pid ≡ Some parent → NoneOpen (processes old was)
    → new.descs ≡ share_all old.descs (numbers_in old parent) → new.leaves ≡ old.leaves → TableMoves (sharing old new) was new now → TableMoves old was new now
bare_moves old new was now pid parent there bare shared leaves moves =
    subst (λ (d : List (Option Desc)). TableMoves (record old { descs = d }) was new now) (shared ∙ (bare_shares old pid parent (processes old was) old.descs there bare).1)
    (subst (λ (l : List (Option Leaf)). TableMoves (record old { descs = new.descs; leaves = l }) was new now) leaves moves)

-- ---- a process goes on

pub have_turned : (old new : Heap) (kept : TableView) (pid key : ℕ) (proc now : Proc) (number : ℕ → ℕ) (files : Files) → Holds old kept → ProcTurns old new kept pid key proc now → now.opening ≡ proc.opening
    → HaveOpen (numbers_in old) (processes old kept) kept.last number files → HaveOpen (numbers_in new) (processes new kept) kept.last number files
have_turned old new kept pid key proc now number files holds turns opening have =
    let named = key_of-proc old.procs kept.listed pid key holds.stored turns.found in
    let same : named.0 ≡ proc = some_same (object old.procs key) named.0 proc named.1 turns.there in
    let own : proc.pid ≡ pid = ap (λ (p : Proc). p.pid) (sym same) ∙ named.2 in
    subst (λ (leaves : List (Option Leaf)). HaveOpen (λ p. numbers_by leaves p.descriptors p.leaves) (processes new kept) kept.last number files) (sym (ap (λ (h : Heap). h.leaves) turns.after))
    (subst (λ (procs : List Proc). HaveOpen (numbers_in old) procs kept.last number files) (sym (on-procs old new kept pid key proc now holds turns))
    (have_replaced old pid proc now (processes old kept) kept.last number files (ap (λ (p : Proc). p.pid) turns.same ∙ own) (ap (numbers_in old) turns.same, opening)
    (only_one (processes old kept) 0 pid proc (rising_procs old.procs kept.listed 0 kept.last holds.stored holds.rising) (named.3 ∙ ap Some same)) have))

-- a process sleeps in another open, or in none
pub have_asleep : (old new : Heap) (kept : TableView) (pid key : ℕ) (proc now : Proc) (number : ℕ → ℕ) (files : Files) → Holds old kept → ProcTurns old new kept pid key proc now
    → HaveOpen (numbers_in old) (processes old kept) kept.last number files → HaveOpen (numbers_in new) (processes new kept) kept.last number (with_opening files pid (opening_in now))
have_asleep old new kept pid key proc now number files holds turns have =
    let named = key_of-proc old.procs kept.listed pid key holds.stored turns.found in
    let same : named.0 ≡ proc = some_same (object old.procs key) named.0 proc named.1 turns.there in
    let own : proc.pid ≡ pid = ap (λ (p : Proc). p.pid) (sym same) ∙ named.2 in
    let there : proc_of (processes old kept) pid ≡ Some proc = named.3 ∙ ap Some same in
    subst (λ (leaves : List (Option Leaf)). HaveOpen (λ p. numbers_by leaves p.descriptors p.leaves) (processes new kept) kept.last number (with_opening files pid (opening_in now)))
    (sym (ap (λ (h : Heap). h.leaves) turns.after))
    (subst (λ (procs : List Proc). HaveOpen (numbers_in old) procs kept.last number (with_opening files pid (opening_in now))) (sym (on-procs old new kept pid key proc now holds turns))
    (have_slept old pid proc now (processes old kept) kept.last number files (ap (λ (p : Proc). p.pid) turns.same ∙ own) (ap (numbers_in old) turns.same)
    (only_one (processes old kept) 0 pid proc (rising_procs old.procs kept.listed 0 kept.last holds.stored holds.rising) there) there
    (subst (λ p. (0 < p) × (p ≤ kept.last)) own
    (has_it (λ p. (0 < p.pid) × (p.pid ≤ kept.last)) (processes old kept) pid proc (pids_within old.procs kept.listed 0 kept.last holds.stored holds.rising) there)) have))
