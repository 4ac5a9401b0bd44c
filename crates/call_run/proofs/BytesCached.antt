-- What a call leaves of the bytes that it reads: a read of a queue reads none of a node.
use Rattle.std.proofs.Common.{◌≡◌, ℕ, ℤ, Option, None, Some, ap, sym, subst, ◌∙◌}
use Rattle.kabi_types.specs.declared.calls.Call.{Call}
use Rattle.kabi_types.specs.declared.calls.Call.TheVariants as call
use Rattle.kheap_slabs.specs.declared.objects.Desc.{Desc}
use Rattle.kheap_slabs.specs.declared.objects.Target.TheVariants as target
use Rattle.open_laws.specs.Described.{inode_in}
use Rattle.posix_defs.specs.declared.turner.Turned.{Turned}
use Rattle.proc_numbers.specs.Found.{IsOffNodes}
use Rattle.store_objects.specs.declared.objects.Objects.{Objects}
use Rattle.file_calls.specs.Bytes.{AreBytesCached, ReadsCached}
use Rattle.call_run.specs.Families.{IsOffFiles}

-- where it is another call, spelt in other words
pub cached_that : (old new : Objects) (pid : ℕ) {which that : Call} (told : Turned) → which ≡ that → ReadsCached old pid that told new → ReadsCached old pid which told new
cached_that old new pid told is cached = subst (λ w. ReadsCached old pid w told new) (sym is) cached

module _ (old new : Objects) (pid : ℕ) where
  is_no_node : (desc : Desc) (number : ℕ) → desc.target ≡ target.Inode number → inode_in desc.target ≡ None → ⊥
  is_no_node desc number leads none = let both : ◌≡◌ {A = Option ℕ} None (Some number) = sym none ∙ ap inode_in leads in absurd (cc)

  -- a number of a queue names no node
  off_cached : (fd : ℤ) (at : Desc → ℕ) (count : ℕ) → IsOffNodes old.heap old.procs pid fd → AreBytesCached old pid fd at count new
  off_cached fd at count off = record {
    saved = λ held desc number inode named there leads has cached. absurd (is_no_node desc number leads (off held desc named there));
    last = λ held desc number inode named there leads has some. absurd (is_no_node desc number leads (off held desc named there));
  }

  -- so a read of one reads nothing of a file
  pub queue_cached : (which : Call) (fd addr n : ℤ) (told : Turned) → which ≡ call.Read fd addr n → IsOffFiles old.heap old.procs pid which → ReadsCached old pid which told new
  queue_cached which fd addr n told is off =
      subst (λ w. ReadsCached old pid w told new) (sym is) (off_cached fd _ _ (subst (IsOffFiles old.heap old.procs pid) is off))
