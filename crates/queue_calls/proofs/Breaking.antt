-- Whether a write ends its caller, by what it ignores, what was moved before, and who reads.
use Rattle.std.proofs.Common.{◌≡◌, ℕ, Some, ◌<◌, ◌≤◌, ◌==◌, ◌&&◌, ℤ, not, Bool, true, false, refl, ap, sym, ◌∙◌, arith, eq-eqb, ne_eqb}
use Rattle.kabi_types.specs.declared.scripts.Script.{Script}
use Rattle.kheap_slabs.specs.declared.objects.Proc.{Proc}
use Rattle.posix_defs.specs.Calls.Opened.{opened_at}
use Rattle.posix_defs.specs.Calls.Writing.{is_broken, write_ends}
use Rattle.posix_defs.specs.Process.{Ignores, ignores_of}
use Rattle.posix_defs.specs.World.{World}
use Rattle.proc_table.specs.Procs.{proc_of}
use Rattle.store_objects.specs.declared.objects.Objects.{Objects}
use Rattle.store_objects.specs.Objects.{procs_of}
use Rattle.store_objects.specs.Standing.{StandsFor}
use Rattle.store_objects.proofs.Dispositions.{ignores_are}

not_none : (n : ℕ) → 0 < n → (n == 0) ≡ false
not_none n some = ne_eqb n 0 (λ same. omega (arith, some, same))

not_some : (n : ℕ) → n ≤ 0 → (n == 0) ≡ true
not_some n none = eq-eqb n 0 (omega (arith, none))

module _ (script : Script) (objects : Objects) (world : World) (pid : ℕ) (proc : Proc) (found : proc_of (procs_of objects) pid ≡ Some proc) (stands : StandsFor script objects world)
    (fd addr n : ℤ) (done : ℕ) where
  ignored : (ignores_of world.plain.table pid).broken_pipe ≡ proc.ignores_pipe
  ignored = ap (λ (ignores : Ignores). ignores.broken_pipe) (ignores_are script objects world.plain pid proc stands.processes found)

  broken : Bool
  broken = is_broken world.plain pid addr n (opened_at world.plain.files pid fd)

  ends_by : (ignores none : Bool) → proc.ignores_pipe ≡ ignores → (done == 0) ≡ none → write_ends world.plain pid fd addr n done ≡ (not ignores && none && broken)
  unfolding broken
  ends_by ignores none e f =
      ap (λ b. not b && (done == 0) && is_broken world.plain pid addr n (opened_at world.plain.files pid fd)) (ignored ∙ e)
      ∙ ap (λ b. not ignores && b && is_broken world.plain pid addr n (opened_at world.plain.files pid fd)) f

  pub who_ignores : proc.ignores_pipe ≡ true → false ≡ write_ends world.plain pid fd addr n done
  who_ignores e = sym (ends_by true (done == 0) e refl)

  pub who_moved : proc.ignores_pipe ≡ false → 0 < done → false ≡ write_ends world.plain pid fd addr n done
  who_moved e some = sym (ends_by false false e (not_none done some))

  pub who_breaks : (told : Bool) → proc.ignores_pipe ≡ false → done ≤ 0 → told ≡ is_broken world.plain pid addr n (opened_at world.plain.files pid fd)
      → told ≡ write_ends world.plain pid fd addr n done
  unfolding broken
  who_breaks told e none tells = tells ∙ sym (ends_by false true e (not_some done none))
