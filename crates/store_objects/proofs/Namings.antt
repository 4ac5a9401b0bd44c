-- How often the descriptors of processes name a Desc, whatever becomes of the processes.
use Rattle.std.proofs.Common.{◌≡◌, ℕ, ◌+◌, ◌==◌, Bool, true, false, not, cond, List, [], ◌∷◌, ◌++◌, filter, map, Option, None, Some, refl, ap, sym, ◌∙◌, arith}
use Rattle.std.specs.Prelude.{count_by, sum_by}
use Rattle.std.specs.List.{AllByRecursion, cons_option}
use Rattle.std.proofs.lemmas.List.Sums.{sum_by-append, sum_by-cons}
use Rattle.kheap_slabs.specs.declared.objects.Descriptor.{Descriptor}
use Rattle.kheap_slabs.specs.declared.objects.Proc.{Proc}
use Rattle.kheap_slabs.specs.Heap.{Heap}
use Rattle.kheap_slabs.specs.Leaves.{no_row}
use Rattle.open_laws.specs.Owned.{names_desc, namings_in, namings_of}
use Rattle.open_laws.specs.Sharing.{hand_with}
use Rattle.proc_numbers.specs.Having.{AreListed}
use Rattle.proc_table.specs.Changes.{after_wait, child_proc, cleared, ended, is_alone, is_other, left_behind, left_by, left_child, reaped_of, replaced, with_nodes}
use Rattle.proc_table.specs.Procs.{HasClosed, HasNoneOpenOnce, IsClosed, IsLight, no_nodes}
use Rattle.proc_table.specs.Table.{Holds, TableView, processes}
use Rattle.proc_table.specs.declared.reaped.Reaped.{Reaped}
use Rattle.proc_table.specs.declared.reaped.Reaped.TheVariants.{NoChild, Nobody, Took}
use Rattle.proc_table.proofs.OwnLemmas.{rising_procs}
use Rattle.proc_table.proofs.PlaceLemmas.{eqb_is}
use Rattle.proc_table.proofs.TurnLemmas.{GoesLight, goes_light}
use Rattle.proc_table.proofs.WaitLemmas.{took_ended}
use Rattle.store_objects.proofs.Peeling.{sum_listed}

-- 1 where the test is passed
abbrev one_if : Bool → ℕ
one_if passes = cond passes 1 0

-- how many descriptors of a process name the Desc of a key
abbrev pub names_by : ℕ → Proc → ℕ
names_by key proc = count_by (names_desc key) proc.descriptors

-- how many of all do
abbrev pub names_in : ℕ → List Proc → ℕ
names_in key procs = sum_by (names_by key) procs

-- of all Procs in the heap as many as of all in the table; those of Leaves are counted apart
pub namings_are : (h : Heap) (kept : TableView) (key : ℕ) → AreListed h kept → namings_of h.procs key ≡ names_in key (processes h kept)
namings_are h kept key listed = sum_listed (namings_in key) refl h.procs kept.listed 0 kept.last listed.stored listed.rising listed.all

module _ (key : ℕ) where
  none_named : (descriptors : List (Option Descriptor)) → descriptors ≡ no_row → count_by (names_desc key) descriptors ≡ 0
  none_named descriptors none = ap (count_by (names_desc key)) none

  abbrev names_of : Option Proc → ℕ
  names_of None = 0
  names_of (Some proc) = names_by key proc

  names_first : (o : Option Proc) (procs : List Proc) → names_in key (cons_option o procs) ≡ names_of o + names_in key procs
  names_first None procs = omega arith
  names_first (Some proc) procs = sum_by-cons (names_by key) proc procs

  -- ---- each keeps its descriptors

  pub names_changed : (change : Proc → Proc) (procs : List Proc) → AllByRecursion (λ proc. (change proc).descriptors ≡ proc.descriptors) procs
      → names_in key (map change procs) ≡ names_in key procs
  names_changed change [] same = refl
  names_changed change (proc ∷ procs) same =
      let one : names_by key (change proc) ≡ names_by key proc = ap (count_by (names_desc key)) same.0 in
      let rest = names_changed change procs same.1 in
      let now = sum_by-cons (names_by key) (change proc) (map change procs) in
      let was = sum_by-cons (names_by key) proc procs in
      omega (arith, one, rest, now, was)

  nodes_same : (pid : ℕ) (nodes : List (Option ℕ)) (procs : List Proc) → AllByRecursion (λ proc. (with_nodes pid nodes proc).descriptors ≡ proc.descriptors) procs
  nodes_same pid nodes [] = tt
  nodes_same pid nodes (proc ∷ procs) = (by_pid (proc.pid == pid), nodes_same pid nodes procs)
    where
      by_pid : (b : Bool) → (cond b (record proc { nodes = nodes }) proc).descriptors ≡ proc.descriptors
      by_pid true = refl
      by_pid false = refl

  -- other nodes
  pub names_nodes : (pid : ℕ) (nodes : List (Option ℕ)) (procs : List Proc) → names_in key (map (with_nodes pid nodes) procs) ≡ names_in key procs
  names_nodes pid nodes procs = names_changed (with_nodes pid nodes) procs (nodes_same pid nodes procs)

  replaced_same : (pid : ℕ) (was now : Proc) (procs : List Proc) → now.descriptors ≡ was.descriptors → AllByRecursion (λ proc. proc.pid ≡ pid → proc ≡ was) procs
      → AllByRecursion (λ proc. (replaced pid now proc).descriptors ≡ proc.descriptors) procs
  replaced_same pid was now [] same only = tt
  replaced_same pid was now (proc ∷ procs) same only = (by_pid (proc.pid == pid) refl, replaced_same pid was now procs same only.1)
    where
      by_pid : (b : Bool) → (proc.pid == pid) ≡ b → (cond b now proc).descriptors ≡ proc.descriptors
      by_pid true own = same ∙ ap (λ (p : Proc). p.descriptors) (sym (only.0 (eqb_is proc.pid pid own)))
      by_pid false own = refl

  -- one goes on with its descriptors
  pub names_replaced : (pid : ℕ) (was now : Proc) (procs : List Proc) → now.descriptors ≡ was.descriptors → AllByRecursion (λ proc. proc.pid ≡ pid → proc ≡ was) procs
      → names_in key (map (replaced pid now) procs) ≡ names_in key procs
  names_replaced pid was now procs same only = names_changed (replaced pid now) procs (replaced_same pid was now procs same only)

  -- ---- one goes that has nothing open

  pub names_without : (pid : ℕ) (procs : List Proc) → HasClosed procs pid → names_in key (filter (is_other pid) procs) ≡ names_in key procs
  names_without pid [] closed = refl
  names_without pid (proc ∷ procs) closed =
      by_pid (proc.pid == pid) refl (names_without pid procs closed.1) (sum_by-cons (names_by key) proc procs)
    where
      by_pid : (b : Bool) → (proc.pid == pid) ≡ b → names_in key (filter (is_other pid) procs) ≡ names_in key procs
          → names_in key (proc ∷ procs) ≡ names_by key proc + names_in key procs
          → names_in key (cond (not b) (proc ∷ filter (is_other pid) procs) (filter (is_other pid) procs)) ≡ names_in key (proc ∷ procs)
      by_pid true own rest whole = let none = none_named proc.descriptors (closed.0 (eqb_is proc.pid pid own)).opens.0 in omega (arith, none, rest, whole)
      by_pid false own rest whole = let now = sum_by-cons (names_by key) proc (filter (is_other pid) procs) in omega (arith, now, rest, whole)

  -- ---- one ends that has nothing open

  left_one : (pid status : ℕ) (proc : Proc) → HasNoneOpenOnce proc.status proc.descriptors proc.leaves → names_of (left_behind pid status proc) ≡ names_by key proc
  left_one pid status proc over = by_case (proc.pid == pid) (proc.parent == pid) proc.status over
    where
      by_case : (own its : Bool) (told : Option ℕ) → HasNoneOpenOnce told proc.descriptors proc.leaves
          → names_of (cond own (Some (record proc { status = Some status })) (cond its (left_child told proc) (Some proc))) ≡ names_by key proc
      by_case true its told light = refl
      by_case false true None light = refl
      by_case false true (Some at) light = sym (none_named proc.descriptors light.0)
      by_case false false told light = refl

  left_cleared : (pid status : ℕ) (proc : Proc) → HasNoneOpenOnce proc.status proc.descriptors proc.leaves → names_of (left_behind pid status (cleared pid proc)) ≡ names_by key proc
  left_cleared pid status proc over = by_pid (proc.pid == pid)
    where
      by_pid : (b : Bool) → names_of (left_behind pid status (cond b (record proc { nodes = no_nodes }) proc)) ≡ names_by key proc
      by_pid true = left_one pid status (record proc { nodes = no_nodes }) over
      by_pid false = left_one pid status proc over

  names_left : (pid status : ℕ) (procs : List Proc) → AllByRecursion IsLight procs → names_in key (left_by pid status procs) ≡ names_in key procs
  names_left pid status [] light = refl
  names_left pid status (proc ∷ procs) light =
      let its : IsLight proc = light.0 in
      let one = left_cleared pid status proc its.descriptors in
      let rest = names_left pid status procs light.1 in
      let now = names_first (left_behind pid status (cleared pid proc)) (left_by pid status procs) in
      let was = sum_by-cons (names_by key) proc procs in
      omega (arith, one, rest, now, was)

  -- who has the same open, and sleeps in the same, has nothing open either
  closed_as : (one other : Proc) → other.descriptors ≡ one.descriptors → other.leaves ≡ one.leaves → other.opening ≡ one.opening → IsClosed one → IsClosed other
  closed_as one other descriptors leaves opening closed = record { opens = (descriptors ∙ closed.opens.0, leaves ∙ closed.opens.1); awake = opening ∙ closed.awake }

  -- those who are left of that pid have nothing open
  closed_left : (pid status : ℕ) (procs : List Proc) → HasClosed procs pid → HasClosed (left_by pid status procs) pid
  closed_left pid status [] closed = tt
  closed_left pid status (proc ∷ procs) closed = by_clearing (proc.pid == pid) (closed_left pid status procs closed.1)
    where
      behind : (now : Proc) (own its : Bool) (told : Option ℕ) → (now.pid ≡ pid → IsClosed now) → HasClosed (left_by pid status procs) pid
          → HasClosed (cons_option (cond own (Some (record now { status = Some status })) (cond its (left_child told now) (Some now))) (left_by pid status procs)) pid
      behind now true its told here rest = (λ own. closed_as now (record now { status = Some status }) refl refl refl (here own), rest)
      behind now false true None here rest = (λ own. closed_as now (record now { parent = 1 }) refl refl refl (here own), rest)
      behind now false true (Some at) here rest = rest
      behind now false false told here rest = (here, rest)

      by_clearing : (b : Bool) → HasClosed (left_by pid status procs) pid
          → HasClosed (cons_option (left_behind pid status (cond b (record proc { nodes = no_nodes }) proc)) (left_by pid status procs)) pid
      by_clearing true rest = behind (record proc { nodes = no_nodes }) (proc.pid == pid) (proc.parent == pid) proc.status (λ own. closed_as proc (record proc { nodes = no_nodes }) refl refl refl (closed.0 own)) rest
      by_clearing false rest = behind proc (proc.pid == pid) (proc.parent == pid) proc.status closed.0 rest

  pub names_ended : (pid status : ℕ) (procs : List Proc) → AllByRecursion IsLight procs → HasClosed procs pid → names_in key (ended pid status procs) ≡ names_in key procs
  names_ended pid status procs light closed = by_alone (is_alone pid procs)
    where
      by_alone : (b : Bool) → names_in key (cond b (filter (is_other pid) (left_by pid status procs)) (left_by pid status procs)) ≡ names_in key procs
      by_alone true = names_without pid (left_by pid status procs) (closed_left pid status procs closed) ∙ names_left pid status procs light
      by_alone false = names_left pid status procs light

  -- ---- one is waited for

  closed_once : (pid : ℕ) (procs : List Proc) → AllByRecursion (GoesLight pid) procs → HasClosed procs pid
  closed_once pid [] goes = tt
  closed_once pid (proc ∷ procs) goes = (let its : GoesLight pid proc = goes.0 in its.closed, closed_once pid procs goes.1)

  pub names_waited : (h : Heap) (kept : TableView) (parent : ℕ) (which : _) (answer : Reaped) → Holds h kept → answer ≡ reaped_of parent which (processes h kept)
      → names_in key (after_wait answer (processes h kept)) ≡ names_in key (processes h kept)
  names_waited h kept parent which (Took pid status) holds is =
      let over = took_ended h kept parent which pid status holds is in
      names_without pid (processes h kept)
      (closed_once pid (processes h kept)
      (goes_light (processes h kept) 0 pid over.proc over.status (rising_procs h.procs kept.listed 0 kept.last holds.stored holds.rising) over.there over.over holds.light))
  names_waited h kept parent which Nobody holds is = refl
  names_waited h kept parent which NoChild holds is = refl

  -- ---- a child has what its parent has

  pub names_forked : (parent : Proc) (child : ℕ) (nodes leaves : List (Option ℕ)) (procs : List Proc)
      → names_in key (procs ++ child_proc parent child nodes leaves ∷ []) ≡ names_in key procs + names_by key parent
  names_forked parent child nodes leaves procs =
      let both = sum_by-append (names_by key) procs (child_proc parent child nodes leaves ∷ []) in
      let one = sum_by-cons (names_by key) (child_proc parent child nodes leaves) [] in
      let none : names_in key [] ≡ 0 = refl in
      omega (arith, both, one, none)

  -- as many as come in hand where they are shared
  pub names_in_hand : (places : List (Option Descriptor)) (hand : List ℕ)
      → count_by (λ other. other == key) (hand_with places hand) ≡ count_by (names_desc key) places + count_by (λ other. other == key) hand
  names_in_hand [] hand = omega arith
  names_in_hand (None ∷ places) hand =
      let rest = names_in_hand places hand in
      let more = sum_by-cons (λ (o : Option Descriptor). one_if (names_desc key o)) None places in omega (arith, rest, more)
  names_in_hand (Some descriptor ∷ places) hand =
      let rest = names_in_hand places (descriptor.desc ∷ hand) in
      let more = sum_by-cons (λ (o : Option Descriptor). one_if (names_desc key o)) (Some descriptor) places in
      let one = sum_by-cons (λ (other : ℕ). one_if (other == key)) descriptor.desc hand in omega (arith, rest, more, one)
