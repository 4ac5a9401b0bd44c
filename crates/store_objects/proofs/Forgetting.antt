-- The account of a store has nothing of who has ended.
use Rattle.std.proofs.Common.{◌≡◌, ℕ, suc, ◌+◌, ◌<◌, not, Bool, true, false, cond, List, [], ◌∷◌, length, get_or, Option, None, Some, is_some, refl, ap, sym, ◌∙◌, arith}
use Rattle.kabi_types.specs.declared.scripts.Script.{Script}
use Rattle.kheap_slabs.specs.declared.objects.Proc.{Proc}
use Rattle.kheap_slabs.specs.Spaces.{keys_in}
use Rattle.posix_defs.specs.Account.{forget_dead}
use Rattle.posix_defs.specs.Memory.{Frames, Places, kept_from, no_places, places_of}
use Rattle.posix_defs.specs.Plain.{Plain}
use Rattle.posix_defs.specs.Process.{is_alive}
use Rattle.proc_table.specs.Accounting.{HasAccount, IsPlaced}
use Rattle.proc_table.specs.Procs.{HasNoMemoryOnce, IsLight, proc_of}
use Rattle.proc_table.proofs.AccountLemmas.{only_places}
use Rattle.proc_table.proofs.FamilyLemmas.{proc_has_pid}
use Rattle.proc_table.proofs.OwnLemmas.{has_it}
use Rattle.store_objects.specs.declared.objects.Objects.{Objects}
use Rattle.store_objects.specs.Objects.{AreKept, procs_of}
use Rattle.store_objects.specs.Standing.{AreProcesses}
use Rattle.store_objects.proofs.RunningProcs.{alive_is, running_as}

-- where the dead have nothing, forgetting them changes nothing
kept_same : (alive : ℕ → Bool) (places : List Places) (pid : ℕ) → ((i : ℕ) → i < length places → alive (pid + i) ≡ false → get_or places i no_places ≡ no_places)
    → kept_from alive pid places ≡ places
kept_same alive [] pid none = refl
kept_same alive (first ∷ rest) pid none =
    ap (λ p. p ∷ kept_from alive (pid + 1) rest) (go (alive pid) refl)
    ∙ ap (λ ps. first ∷ ps) (kept_same alive rest (pid + 1) (λ i less dead. none (suc i) (omega arith) (ap alive (let k : pid + suc i ≡ pid + 1 + i = omega arith in k) ∙ dead)))
  where
    go : (b : Bool) → alive pid ≡ b → cond b first no_places ≡ first
    go true is = refl
    go false is = sym (none 0 (omega arith) (ap alive (let k : pid + 0 ≡ pid = omega arith in k) ∙ is))

some_status : (o : Option ℕ) → not (is_some o) ≡ false → (nodes : List (Option ℕ)) → HasNoMemoryOnce o nodes → keys_in nodes ≡ []
some_status None e nodes light = cc
some_status (Some status) e nodes light = light

dead_places : (script : Script) (objects : Objects) (plain : Plain) (frames : Frames) → AreKept script objects → AreProcesses script objects plain
    → HasAccount objects.heap objects.procs frames → (pid : ℕ) → is_alive plain.table pid ≡ false → (o : Option Proc) → proc_of (procs_of objects) pid ≡ o
    → places_of frames pid ≡ no_places
dead_places script objects plain frames kept are has pid dead None is = has.gone pid is
dead_places script objects plain frames kept are has pid dead (Some proc) is =
    let placed : IsPlaced has.number objects.heap.nodes frames proc = has_it (IsPlaced has.number objects.heap.nodes frames) (procs_of objects) pid proc has.placed is in
    let light : IsLight proc = has_it IsLight (procs_of objects) pid proc kept.holds.light is in
    let over : not (is_some proc.status) ≡ false =
    sym (running_as (procs_of objects) pid proc (is_some proc.status) is refl) ∙ sym (alive_is script objects plain pid are) ∙ dead in
    ap (places_of frames) (sym (proc_has_pid (procs_of objects) pid proc is))
    ∙ only_places has.number objects.heap.nodes proc.nodes (places_of frames proc.pid) (some_status proc.status over proc.nodes light.memory) placed.whole placed.places

-- An account of the processes in the heap has forgotten the dead.
pub forgotten : (script : Script) (objects : Objects) (plain : Plain) (frames : Frames) → AreKept script objects → AreProcesses script objects plain
    → HasAccount objects.heap objects.procs frames → forget_dead plain frames ≡ frames
forgotten script objects plain frames kept are has =
    ap (λ places. record frames { places = places })
    (kept_same (is_alive plain.table) frames.places 1
    (λ i less dead. dead_places script objects plain frames kept are has (suc i) (ap (is_alive plain.table) (let k : suc i ≡ 1 + i = omega arith in k) ∙ dead) (proc_of (procs_of objects) (suc i)) refl))
