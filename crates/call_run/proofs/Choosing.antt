-- Who would be killed, among the processes as in the heap.
use Rattle.std.proofs.Common.{◌≡◌, ℕ, ◌+◌, ◌<◌, ◌==◌, ◌&&◌, not, cond, filter, map, List, [], ◌∷◌, length, Option, None, Some, is_some, refl, ap, sym, ◌∙◌, arith}
use Rattle.std.specs.Prelude.{IfSome, IsNone}
use Rattle.std.specs.List.{All, AllByRecursion}
use Rattle.std.specs.Option.{option_map}
use Rattle.std.proofs.lemmas.List.Sums.{sum_by-cons}
use Rattle.std.proofs.lemmas.List.Elements.{All-cons, All-head, All-nil, All-tail, All-weaker}
use Rattle.kabi_types.specs.declared.classes.Weight.{Weight}
use Rattle.kabi_types.specs.declared.scripts.Policy.{Policy}
use Rattle.kabi_types.specs.declared.scripts.Script.{Script}
use Rattle.kheap_slabs.specs.declared.objects.Descriptor.{Descriptor as HeldDescriptor}
use Rattle.kheap_slabs.specs.declared.objects.Proc.{Proc}
use Rattle.kheap_slabs.specs.Heap.{Heap, IsWellFormed}
use Rattle.kheap_slabs.specs.Spaces.{OwnsNodes}
use Rattle.page_space.proofs.NodeCounts.{nodes_by_places}
use Rattle.posix_defs.specs.Memory.{places_of}
use Rattle.posix_defs.specs.Plain.{Plain}
use Rattle.posix_defs.specs.Process.{Table, runs}
use Rattle.posix_defs.specs.Victim.{pid_of_greatest, victim_of, weight_of, weights_from}
use Rattle.posix_defs.specs.World.{World}
use Rattle.posix_defs.specs.Account.{Account}
use Rattle.posix_defs.specs.Files.Descriptors.{Descriptor, open_count}
use Rattle.posix_defs.specs.Files.State.{descriptors_of}
use Rattle.desc_table.specs.Numbered.{descriptor_in}
use Rattle.open_laws.specs.Open.{descriptor_by, descriptors_by}
use Rattle.proc_table.specs.Accounting.{IsPlaced}
use Rattle.proc_table.specs.Procs.{numbers_in, status_of}
use Rattle.proc_table.specs.Standing.{AreFrom, nobody, gone, there}
use Rattle.proc_table.proofs.AccountLemmas.{all_both}
use Rattle.proc_table.proofs.OwnLemmas.{AreRising, all_weaker, rising_procs}
use Rattle.proc_table.proofs.PlaceLemmas.{eqb_same}
use Rattle.victim_core.proofs.GreatestLemmas.{victim-named}
use Rattle.victim_core.specs.Victims.{IsVictim, RisesByPid}
use Rattle.store_objects.specs.declared.objects.Objects.{Objects}
use Rattle.store_objects.specs.Objects.{AreKept, procs_of}
use Rattle.store_objects.specs.Standing.{StandsFor}
use Rattle.store_objects.proofs.Opening.{by_procs}
use Rattle.call_run.specs.Weights.{weight_in, weights_in}
use Rattle.call_run.proofs.FrameCounts.{frames_are}
use Rattle.call_run.proofs.Owning.{Owns, all_own}

-- the account's weight of a process is that of its nodes in the heap
abbrev pub IsWeighed : Heap → Plain → Account → Proc → Type 0
IsWeighed h plain account proc = weight_of plain account proc.pid ≡ weight_in h proc

weight : ℕ → ℕ → ℕ → ℕ → Weight
weight pid frames nodes descs = record { pid = pid; frames = frames; nodes = nodes; descs = descs }

same_weight : (pid frames other nodes more descs held : ℕ) → frames ≡ other → nodes ≡ more → descs ≡ held → weight pid frames nodes descs ≡ weight pid other more held
same_weight pid frames other nodes more descs held e f g = ap (λ n. weight pid n nodes descs) e ∙ ap (λ n. weight pid other n descs) f ∙ ap (weight pid other more) g

-- whatever number each description has, as many are open
same_open : (one other : HeldDescriptor → Descriptor) (places : List (Option HeldDescriptor)) → open_count (map (option_map one) places) ≡ open_count (map (option_map other) places)
same_open one other [] = refl
same_open one other (place ∷ places) =
    let now = sum_by-cons (λ (o : Option Descriptor). cond {A = ℕ} (is_some o) 1 0) (option_map one place) (map (option_map one) places) in
    let then = sum_by-cons (λ (o : Option Descriptor). cond {A = ℕ} (is_some o) 1 0) (option_map other place) (map (option_map other) places) in
    let rest = same_open one other places in
    let here = by_place place in
    omega (arith, now, then, rest, here)
  where
    by_place : (o : Option HeldDescriptor) → cond {A = ℕ} (is_some (option_map one o)) 1 0 ≡ cond {A = ℕ} (is_some (option_map other o)) 1 0
    by_place None = refl
    by_place (Some held) = refl

weighed_so : (h : Heap) (plain : Plain) (account : Account) (number : ℕ → ℕ) (proc : Proc) → IsWellFormed h → IsPlaced number h.nodes account.frames proc → length proc.nodes ≡ 4
    → OwnsNodes h.nodes proc.nodes → (naming : ℕ → ℕ) → descriptors_of plain.files proc.pid ≡ descriptors_by naming (numbers_in h proc) → IsWeighed h plain account proc
unfolding weight
weighed_so h plain account number proc whole placed four owns naming opened =
    same_weight proc.pid _ _ _ _ _ _
    (frames_are number h.nodes proc.nodes (places_of account.frames proc.pid) placed.whole placed.places owns whole.entries four)
    (nodes_by_places h proc.nodes number (places_of account.frames proc.pid) whole owns four placed.places placed.whole)
    (ap open_count opened ∙ same_open (descriptor_by naming) descriptor_in (numbers_in h proc))

-- a machine's weights but the first process's are those of the processes in the heap
weighed : (told : Option ℕ) (pid : ℕ) (w : Weight) (others rest : List Weight) → w.pid ≡ pid → others ≡ filter (λ v. not (v.pid == 1)) rest
    → cond (runs (status_of told) && not (pid == 1)) (w ∷ others) others ≡ filter (λ v. not (v.pid == 1)) (cond (is_some told) rest (w ∷ rest))
weighed None pid w others rest same e =
    ap (λ ws. cond (not (pid == 1)) (w ∷ ws) ws) e ∙ ap (λ k. cond (not (k == 1)) (w ∷ filter (λ v. not (v.pid == 1)) rest) (filter (λ v. not (v.pid == 1)) rest)) (sym same)
weighed (Some status) pid w others rest same e = e

weights_are : {h : Heap} {first : ℕ} {table : Table} {procs : List Proc} → AreFrom h first table procs → (plain : Plain) (account : Account) (n : ℕ) → n ≡ first
    → AllByRecursion (IsWeighed h plain account) procs → weights_from plain account n table ≡ filter (λ w. not (w.pid == 1)) (weights_in h procs)
weights_are (nobody h first) plain account n e all = refl
weights_are (gone h first table procs rest) plain account n e all = weights_are rest plain account (n + 1) (omega arith) all
weights_are (there h first proc table procs p rest) plain account n e all =
    ap (λ k. cond (runs (status_of proc.status) && not (k == 1)) (weight_of plain account k ∷ weights_from plain account (n + 1) table) (weights_from plain account (n + 1) table)) (e ∙ sym p)
    ∙ ap (λ w. cond (runs (status_of proc.status) && not (proc.pid == 1)) (w ∷ weights_from plain account (n + 1) table) (weights_from plain account (n + 1) table)) all.0
    ∙ weighed proc.status proc.pid (weight_in h proc) (weights_from plain account (n + 1) table) (weights_in h procs) refl (weights_are rest plain account (n + 1) (omega arith) all.1)

-- weights of processes that rise by pid rise so too
rises_above : (h : Heap) (below : ℕ) (procs : List Proc) → AreRising below procs → All (λ w. below < w.pid) (weights_in h procs)
rises_above h below [] all = All-nil (λ w. below < w.pid)
rises_above h below (proc ∷ procs) all = go proc.status
    (All-weaker (λ w. proc.pid < w.pid) (λ w. below < w.pid) (λ w more. let k : below < proc.pid = all.0 in omega arith) (weights_in h procs) (rises_above h proc.pid procs all.1))
  where
    go : (told : Option ℕ) → All (λ w. below < w.pid) (weights_in h procs) → All (λ w. below < w.pid) (cond (is_some told) (weights_in h procs) (weight_in h proc ∷ weights_in h procs))
    go None rest = All-cons (λ w. below < w.pid) (weight_in h proc) (weights_in h procs) all.0 rest
    go (Some status) rest = rest

rises_by_pid : (h : Heap) (below : ℕ) (procs : List Proc) → AreRising below procs → RisesByPid (weights_in h procs)
rises_by_pid h below [] all = tt
rises_by_pid h below (proc ∷ procs) all = go proc.status (rises_by_pid h proc.pid procs all.1)
  where
    go : (told : Option ℕ) → RisesByPid (weights_in h procs) → RisesByPid (cond (is_some told) (weights_in h procs) (weight_in h proc ∷ weights_in h procs))
    go None rest = (rises_above h proc.pid procs all.1, rest)
    go (Some status) rest = rest

-- the first process alone leaves no weight
none_but_first : (weights : List Weight) → All (λ w. w.pid ≡ 1) weights → filter (λ w. not (w.pid == 1)) weights ≡ []
none_but_first [] all = refl
none_but_first (w ∷ weights) all =
    ap (λ b. cond (not b) (w ∷ filter (λ v. not (v.pid == 1)) weights) (filter (λ v. not (v.pid == 1)) weights)) (eqb_same w.pid 1 (All-head (λ v. v.pid ≡ 1) w weights all))
    ∙ none_but_first weights (All-tail (λ v. v.pid ≡ 1) w weights all)

chosen_is : (h : Heap) (table : Table) (procs : List Proc) (policy : Policy) (plain : Plain) (account : Account) (chosen : Option ℕ) → AreFrom h 1 table procs → AreRising 0 procs
    → AllByRecursion (IsWeighed h plain account) procs
    → (IsNone chosen → All (λ w. w.pid ≡ 1) (weights_in h procs)) → IfSome chosen (IsVictim policy (weights_in h procs))
    → chosen ≡ pid_of_greatest policy (weights_from plain account 1 table)
chosen_is h table procs policy plain account None are rising all none victim =
    sym (ap (pid_of_greatest policy) (weights_are are plain account 1 refl all ∙ none_but_first (weights_in h procs) (none refl)))
chosen_is h table procs policy plain account (Some pid) are rising all none victim =
    sym (ap (pid_of_greatest policy) (weights_are are plain account 1 refl all) ∙ victim-named policy (weights_in h procs) pid (rises_by_pid h 0 procs rising) victim)

-- Whom the scores choose among the processes is the machine's victim.
pub victim_is : (script other : Script) (objects : Objects) (policy : Policy) (world : World) (chosen : Option ℕ) → AreKept other objects → IsWellFormed objects.heap
    → StandsFor script objects world
    → (IsNone chosen → All (λ w. w.pid ≡ 1) (weights_in objects.heap (procs_of objects))) → IfSome chosen (IsVictim policy (weights_in objects.heap (procs_of objects)))
    → chosen ≡ victim_of policy world.plain world.account
victim_is script other objects policy world chosen kept whole stands none victim =
    let has = stands.memory in
    let procs = procs_of objects in
    let rising = rising_procs objects.heap.procs objects.procs.listed 0 objects.procs.last kept.holds.stored kept.holds.rising in
    let naming = stands.files.numbers.descs in
    let opened = by_procs objects.heap naming procs objects.procs.last world.plain.files rising stands.files.opened.descriptors in
    let all = all_weaker
    (λ (p : Proc). IsPlaced has.number objects.heap.nodes world.account.frames p
    × ((descriptors_of world.plain.files p.pid ≡ descriptors_by naming (numbers_in objects.heap p)) × ((length p.nodes ≡ 4) × Owns objects.heap.nodes p))) (IsWeighed objects.heap world.plain world.account) procs
    (λ p known. weighed_so objects.heap world.plain world.account has.number p whole known.0 known.1.1.0 known.1.1.1 naming known.1.0)
    (all_both (IsPlaced has.number objects.heap.nodes world.account.frames)
    (λ p. (descriptors_of world.plain.files p.pid ≡ descriptors_by naming (numbers_in objects.heap p)) × ((length p.nodes ≡ 4) × Owns objects.heap.nodes p)) procs has.placed
    (all_both (λ p. descriptors_of world.plain.files p.pid ≡ descriptors_by naming (numbers_in objects.heap p)) (λ p. (length p.nodes ≡ 4) × Owns objects.heap.nodes p) procs opened.placed
    (all_both (λ p. length p.nodes ≡ 4) (Owns objects.heap.nodes) procs kept.groups (all_own objects.heap objects.procs kept.holds)))) in
    chosen_is objects.heap world.plain.table procs policy world.plain world.account chosen stands.processes.table.present rising all none victim
