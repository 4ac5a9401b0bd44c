-- Rows of who waits have a circle exactly where the machine has one.
use Rattle.std.proofs.Common.{◌≡◌, ◌≢◌, ◌==◌, ℕ, ◌<◌, ◌≤◌, Bool, true, false, List, [], ◌∷◌, length, Option, None, Some, refl, ap, sym, ◌∙◌, subst, arith, eq-eqb, eqb-true}
use Rattle.std.specs.Int.{bit_at}
use Rattle.std.specs.Prelude.{◌↔◌}
use Rattle.std.specs.List.{range_with_len}
use Rattle.std.proofs.lemmas.Bool.{and_parts}
use Rattle.kabi_types.specs.declared.scripts.Script.{Script}
use Rattle.machine_laws.specs.Chains.{Chain, among, goes_on, wait}
use Rattle.machine_laws.proofs.Chains.{chain_of, leads_so, who_is_made}
use Rattle.machine_laws.proofs.LockLists.{stopper_holds}
use Rattle.posix_defs.specs.Calls.OnLocks.{Wanted, circles, is_stopped_by, waits_for, wanted_by}
use Rattle.posix_defs.specs.Locks.{Locks, ranges_of}
use Rattle.posix_defs.specs.Plain.{call_of, last_pid}
use Rattle.posix_defs.specs.Process.{is_alive}
use Rattle.posix_defs.specs.World.{World}
use Rattle.proc_table.proofs.PlaceLemmas.{some_same}
use Rattle.proc_table.specs.declared.places.Place.{Place}
use Rattle.store_objects.specs.declared.objects.Objects.{Objects}
use Rattle.store_objects.specs.Standing.{IsSound, StandsFor}
use Rattle.wait_graph.specs.Chains.{IsChain, LeadsTo, WaitsFor}
use Rattle.lock_calls.specs.Waiting.{AreRows, bit_if, pid_at, waits_at}
use Rattle.lock_calls.proofs.Holders.{has_place, pid_between}
use Rattle.lock_calls.proofs.Rows.{place_within}

one_is : (b : Bool) → bit_if b ≡ 1 → b ≡ true
one_is true e = refl
one_is false e = cc

-- who is waited for holds places of some file
waited_holds : (locks : Locks) (pid other : ℕ) (wanted : Option Wanted) → is_stopped_by locks pid other wanted ≡ true → (node : ℕ) × (ranges_of locks other node ≢ [])
waited_holds locks pid other None e = cc
waited_holds locks pid other (Some wanted) e = (wanted.node, stopper_holds locks pid wanted.node other wanted.asked e)

module _ (script : Script) (objects : Objects) (world : World) (stands : StandsFor script objects world) (sound : IsSound world.plain) (rows : List ℕ)
    (are : AreRows script objects rows) where
  abbrev listed : List Place
  listed = objects.procs.listed

  abbrev waits : ℕ → ℕ → Bool
  waits = waits_for script world.plain

  abbrev pids : List ℕ
  pids = range_with_len 1 (last_pid world.plain)

  -- ---- bits

  bit_waits : (at pid to other : ℕ) → pid_at listed at ≡ Some pid → pid_at listed to ≡ Some other → waits pid other ≡ true → WaitsFor rows at to
  bit_waits at pid to other here there is =
      are at pid here world stands sound to ∙ ap (λ o. bit_if (waits_at script world.plain pid o)) there ∙ ap bit_if is

  waits_bit : (at pid to : ℕ) → pid_at listed at ≡ Some pid → WaitsFor rows at to → (other : ℕ) × (pid_at listed to ≡ Some other) × (waits pid other ≡ true)
  waits_bit at pid to here set = go (pid_at listed to) refl (sym (are at pid here world stands sound to) ∙ set)
    where
      go : (o : Option ℕ) → pid_at listed to ≡ o → bit_if (waits_at script world.plain pid o) ≡ 1 → (other : ℕ) × (pid_at listed to ≡ Some other) × (waits pid other ≡ true)
      go None there e = cc
      go (Some other) there e = (other, there, one_is (waits pid other) e)

  -- ---- places

  made : (pid at : ℕ) → pid_at listed at ≡ Some pid → among pids pid
  made pid at here =
      let between = pid_between 0 objects.procs.last listed at pid stands.kept.holds.rising here in
      who_is_made (last_pid world.plain) pid between.0 (subst (λ last. pid ≤ last) stands.processes.last between.1)

  waited : (pid other : ℕ) → waits pid other ≡ true → (at : ℕ) × (pid_at listed at ≡ Some other)
  unfolding waits_for
  waited pid other is =
      let stopped = and_parts (is_alive world.plain.table pid) (is_stopped_by world.plain.files.locks pid other (wanted_by world.plain.files pid (call_of script world.plain pid))) is in
      let held = waited_holds world.plain.files.locks pid other (wanted_by world.plain.files pid (call_of script world.plain pid)) stopped.1 in
      has_place script objects world stands sound other held.0 held.1

  -- ---- chains

  pids_chain : (pid at : ℕ) (between : List ℕ) (to other : ℕ) → pid_at listed at ≡ Some pid → pid_at listed to ≡ Some other → IsChain rows at between to → Chain waits (among pids) pid other
  pids_chain pid at [] to other here there set =
      let it = waits_bit at pid to here set in
      wait pid other (subst (λ n. waits pid n ≡ true) (some_same (pid_at listed to) it.0 other it.1 there) it.2)
  pids_chain pid at (j ∷ js) to other here there chain =
      let it = waits_bit at pid j here chain.0 in
      goes_on pid it.0 other it.2 (made it.0 j it.1) (pids_chain it.0 j js to other it.1 there chain.1)

  rows_chain : {pid other : ℕ} → Chain waits (among pids) pid other → (at to : ℕ) → pid_at listed at ≡ Some pid → pid_at listed to ≡ Some other → LeadsTo rows at to
  rows_chain (wait pid other is) at to here there = ([], bit_waits at pid to other here there is)
  rows_chain (goes_on pid between other is one later) at to here there =
      let j = waited pid between is in
      let rest = rows_chain later j.0 to j.1 there in
      (j.0 ∷ rest.0, (bit_waits at pid j.0 between here j.1 is, rest.1))

  -- ---- circles

  circle_is : (pid at : ℕ) → pid_at listed at ≡ Some pid → (told : Bool) → (told ≡ true → LeadsTo rows at at) → (LeadsTo rows at at → told ≡ true) → told ≡ circles script world.plain pid
  unfolding circles
  circle_is pid at here true leads tells =
      let chain = leads refl in
      sym (leads_so waits pids pid pid (pids_chain pid at chain.0 at pid here here chain.1))
  circle_is pid at here false leads tells = go (circles script world.plain pid) refl
    where
      go : (b : Bool) → circles script world.plain pid ≡ b → false ≡ b
      go true is = tells (rows_chain (chain_of waits pids pid pid is) at at here here)
      go false is = refl

  -- the bits of all who are among 64 tell it
  pub circling_is : length listed ≤ 64 → (circling : ℕ) → ((i : ℕ) → i < 64 → (bit_at circling i ≡ 1) ↔ LeadsTo rows i i)
      → (at pid : ℕ) → pid_at listed at ≡ Some pid → (bit_at circling at == 1) ≡ circles script world.plain pid
  circling_is few circling told at pid here =
      let within : at < length listed = place_within listed at pid here in
      let both = told at (omega (arith, within, few)) in
      circle_is pid at here (bit_at circling at == 1) (λ yes. both.0 (eqb-true _ 1 yes)) (λ chain. eq-eqb _ 1 (both.1 chain))
