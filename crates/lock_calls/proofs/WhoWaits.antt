-- The row of a process, by what its next call wants.
use Rattle.std.proofs.Common.{◌≡◌, ℕ, zero, suc, ◌<◌, ◌&&◌, Bool, true, false, cond, List, [], ◌∷◌, get_or, length, Option, None, Some, refl, ap, sym, ◌∙◌, arith}
use Rattle.std.specs.Int.{bit_at}
use Rattle.std.proofs.lemmas.Nat.Bits.{bit_at-zero}
use Rattle.kabi_types.specs.declared.scripts.Script.{Script}
use Rattle.lock_table.specs.Holding.{asked_by}
use Rattle.posix_defs.specs.Calls.OnLocks.{is_stopped_by, waits_for, wanted_by}
use Rattle.posix_defs.specs.Locks.{Locks, stops}
use Rattle.posix_defs.specs.Plain.{call_of}
use Rattle.posix_defs.specs.Process.{is_alive}
use Rattle.posix_defs.specs.World.{World}
use Rattle.proc_table.proofs.PlaceLemmas.{eqb_other, eqb_same}
use Rattle.proc_table.specs.Table.{AreBetween, key_of}
use Rattle.proc_table.specs.declared.places.Place.{Place}
use Rattle.store_objects.specs.declared.objects.Objects.{Objects}
use Rattle.store_objects.specs.Standing.{IsSound}
use Rattle.lock_calls.specs.Claiming.{all_wanted}
use Rattle.lock_calls.specs.Waiting.{bit_if, pid_at, stops_at, waits_at}
use Rattle.lock_calls.specs.declared.waits.Wanted.{Wanted as WantedHere}
use Rattle.lock_calls.proofs.Holders.{pid_between, stopped_so}
use Rattle.lock_calls.proofs.Rows.{place_pid}

some_none : {X Y : Type 0} (x : X) → Some x ≡ None → Y
some_none x e = cc

-- where somebody stands, that one's key is found
pub placed_at : (places : List Place) (before last at : ℕ) (d : Place) → AreBetween before places last → at < length places
    → key_of places (get_or places at d).pid ≡ Some (get_or places at d).key
placed_at [] before last at d between within = absurd (omega (arith, within))
placed_at (place ∷ places) before last zero d between within = ap (λ b. cond b (Some place.key) (key_of places place.pid)) (eqb_same place.pid place.pid refl)
placed_at (place ∷ places) before last (suc at) d between within =
    let above = pid_between place.pid last places at (get_or places at d).pid between.1 (place_pid places at d (omega (arith, within))) in
    let first = above.0 in
    ap (λ b. cond b (Some place.key) (key_of places (get_or places at d).pid)) (eqb_other place.pid (get_or places at d).pid (λ same. omega (arith, same, first)))
    ∙ placed_at places place.pid last at d between.1 (omega (arith, within))

module _ (script : Script) (objects : Objects) (world : World) (sound : IsSound world.plain) (pid : ℕ) (found : Option WantedHere)
    (asks : is_alive world.plain.table pid ≡ true → all_wanted world.plain.files.tree found ≡ wanted_by world.plain.files pid (call_of script world.plain pid))
    (ended : is_alive world.plain.table pid ≡ false → found ≡ None) where
  abbrev locks : Locks
  locks = world.plain.files.locks

  abbrev stopped : ℕ → Bool
  stopped other = is_stopped_by locks pid other (wanted_by world.plain.files pid (call_of script world.plain pid))

  waits_some : (wanted : WantedHere) → found ≡ Some wanted → (o : Option ℕ) → stops_at locks pid wanted o ≡ waits_at script world.plain pid o
  unfolding waits_for
  waits_some wanted is None = refl
  waits_some wanted is (Some other) = go (is_alive world.plain.table pid) refl
    where
      go : (alive : Bool) → is_alive world.plain.table pid ≡ alive → stops locks pid wanted.node (asked_by wanted.range) other ≡ (alive && stopped other)
      go true up =
          sym (stopped_so world.plain.files sound.locks pid other wanted)
          ∙ ap (is_stopped_by locks pid other) (sym (ap (all_wanted world.plain.files.tree) is) ∙ asks up)
      go false over = some_none wanted (sym is ∙ ended over)

  waits_none : found ≡ None → (o : Option ℕ) → waits_at script world.plain pid o ≡ false
  unfolding waits_for
  waits_none is None = refl
  waits_none is (Some other) = go (is_alive world.plain.table pid) refl
    where
      go : (alive : Bool) → is_alive world.plain.table pid ≡ alive → (alive && stopped other) ≡ false
      go true up = ap (is_stopped_by locks pid other) (sym (asks up) ∙ ap (all_wanted world.plain.files.tree) is)
      go false over = refl

  pub row_some : (wanted : WantedHere) → found ≡ Some wanted → (row : ℕ) → ((at : ℕ) → bit_at row at ≡ bit_if (stops_at locks pid wanted (pid_at objects.procs.listed at)))
      → (at : ℕ) → bit_at row at ≡ bit_if (waits_at script world.plain pid (pid_at objects.procs.listed at))
  row_some wanted is row bits at = bits at ∙ ap bit_if (waits_some wanted is (pid_at objects.procs.listed at))

  pub row_none : found ≡ None → (at : ℕ) → bit_at 0 at ≡ bit_if (waits_at script world.plain pid (pid_at objects.procs.listed at))
  row_none is at = bit_at-zero at ∙ sym (ap bit_if (waits_none is (pid_at objects.procs.listed at)))
