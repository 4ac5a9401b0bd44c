-- The account of a heap has nothing of who has ended.
use Rattle.std.proofs.Common.{◌≡◌, ℕ, suc, ◌+◌, ◌<◌, Bool, true, false, cond, List, [], ◌∷◌, length, get_or, Option, None, Some, refl, ap, sym, ◌∙◌, arith}
use Rattle.std.specs.Option.{option_map}
use Rattle.kheap_slabs.specs.declared.objects.Proc.{Proc}
use Rattle.kheap_slabs.specs.Heap.{Heap}
use Rattle.kheap_slabs.specs.Spaces.{keys_in}
use Rattle.posix_defs.specs.Account.{forget_dead}
use Rattle.posix_defs.specs.Memory.{Frames, Places, kept_from, no_places, places_of}
use Rattle.posix_defs.specs.Plain.{Plain}
use Rattle.posix_defs.specs.Process.{is_alive, is_alive_in, process_at, runs}
use Rattle.proc_table.specs.Accounting.{HasAccount, IsPlaced}
use Rattle.proc_table.specs.Procs.{HasNoMemoryOnce, IsLight, proc_of, process_of, status_of}
use Rattle.proc_table.specs.Standing.{IsTable}
use Rattle.proc_table.specs.Table.{Holds, TableView, processes}
use Rattle.proc_table.proofs.AccountLemmas.{only_places}
use Rattle.proc_table.proofs.FamilyLemmas.{proc_has_pid, process_is}
use Rattle.proc_table.proofs.OwnLemmas.{has_it}

-- where the dead have nothing, forgetting them changes nothing
kept_same : (alive : ℕ → Bool) (places : List Places) (pid : ℕ) → ((i : ℕ) → i < length places → alive (pid + i) ≡ false → get_or places i no_places ≡ no_places)
    → kept_from alive pid places ≡ places
kept_same alive [] pid none = refl
kept_same alive (first ∷ rest) pid none =
    ap (λ p. p ∷ kept_from alive (pid + 1) rest) (go (alive pid) refl)
    ∙ ap (λ ps. first ∷ ps) (kept_same alive rest (pid + 1) (λ i less dead. none (suc i) (omega arith) (ap alive (let k : pid + suc i ≡ pid + 1 + i = omega arith in k) ∙ dead)))
  where
    go : (b : Bool) → alive pid ≡ b → cond b first no_places ≡ first
    go true is = refl
    go false is = sym (none 0 (omega arith) (ap alive (let k : pid + 0 ≡ pid = omega arith in k) ∙ is))

some_status : (o : Option ℕ) → runs (status_of o) ≡ false → (nodes : List (Option ℕ)) → HasNoMemoryOnce o nodes → keys_in nodes ≡ []
some_status None e nodes light = absurd (cc)
some_status (Some status) e nodes light = light

module _ (h : Heap) (kept : TableView) (plain : Plain) (frames : Frames) (holds : Holds h kept) (table : IsTable h kept plain.table) (has : HasAccount h kept frames) where
  dead_places : (pid : ℕ) → is_alive plain.table pid ≡ false → (o : Option Proc) → proc_of (processes h kept) pid ≡ o → places_of frames pid ≡ no_places
  dead_places pid dead None is = has.gone pid is
  dead_places pid dead (Some proc) is =
      let placed : IsPlaced has.number h.nodes frames proc = has_it (IsPlaced has.number h.nodes frames) (processes h kept) pid proc has.placed is in
      let light : IsLight proc = has_it IsLight (processes h kept) pid proc holds.light is in
      let there : process_at plain.table pid ≡ Some (process_of h proc) =
      process_is h plain.table (processes h kept) pid table.present ∙ ap (option_map (process_of h)) is in
      let over : runs (status_of proc.status) ≡ false = sym (ap is_alive_in there) ∙ dead in
      ap (places_of frames) (sym (proc_has_pid (processes h kept) pid proc is))
      ∙ only_places has.number h.nodes proc.nodes (places_of frames proc.pid) (some_status proc.status over proc.nodes light.memory) placed.whole placed.places

  -- An account of the processes in the heap has forgotten the dead.
  pub forgotten : forget_dead plain frames ≡ frames
  forgotten =
      ap (λ places. record frames { places = places })
      (kept_same (is_alive plain.table) frames.places 1
      (λ i less dead. dead_places (suc i) (ap (is_alive plain.table) (let k : suc i ≡ 1 + i = omega arith in k) ∙ dead) (proc_of (processes h kept) (suc i)) refl))
