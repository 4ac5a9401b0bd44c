-- A write to a node never ends its caller.
use Rattle.std.proofs.Common.{◌≡◌, ℕ, ◌==◌, ◌&&◌, ℤ, not, Bool, true, false, Option, None, Some, IsSome, refl, ap, sym, ◌∙◌, subst}
use Rattle.std.specs.Option.{option_map}
use Rattle.kabi_types.specs.declared.calls.Call.{Call}
use Rattle.kabi_types.specs.declared.scripts.Script.{Script}
use Rattle.kheap_slabs.specs.Heap.{Heap}
use Rattle.kheap_slabs.specs.declared.objects.Target.{Target}
use Rattle.kheap_slabs.specs.declared.objects.Target.TheVariants as target
use Rattle.kabi_types.specs.Arguments.{count_of}
use Rattle.open_laws.specs.Described.{access_in, inode_in, target_in}
use Rattle.open_laws.specs.Placed.{Numbers}
use Rattle.posix_defs.proofs.SignalLemmas.{write_goes_on}
use Rattle.posix_defs.specs.Calls.Opened.{opened_at}
use Rattle.posix_defs.specs.Calls.Writing.{is_broken, is_unread, write, write_ends, write_ignoring}
use Rattle.posix_defs.specs.Plain.{Plain}
use Rattle.posix_defs.specs.Files.Descriptions.{may_write}
use Rattle.posix_defs.specs.Memory.{is_mapped_range}
use Rattle.posix_defs.specs.Process.{ignores_of, memory_of}
use Rattle.posix_defs.specs.World.{World}
use Rattle.posix_defs.specs.declared.turner.Turned.{Turned}
use Rattle.proc_numbers.specs.Found.{IsOnNode, IsOpened, held_in, opened_in}
use Rattle.proc_numbers.specs.Having.{HaveOpen}
use Rattle.proc_numbers.specs.declared.lookups.Found.{Found}
use Rattle.proc_numbers.specs.declared.lookups.Named.{Named}
use Rattle.proc_numbers.proofs.OpenedBy.{is_held, is_there, opened_is}
use Rattle.proc_table.specs.Table.{TableView}
use Rattle.store_objects.specs.declared.objects.Objects.{Objects}
use Rattle.store_objects.specs.Standing.{StandsFor}
use Rattle.store_objects.specs.Walking.{Serves, WorldReached}

-- what it is open on is read, whatever else
node_is_read : (numbers : Numbers) (plain : Plain) (what : Target) → IsSome (inode_in what) → is_unread plain.files (target_in numbers what) ≡ false
node_is_read numbers plain (target.Inode number) some = refl
node_is_read numbers plain (target.Pipe key) some = absurd (let both : false ≡ true = some in cc)
node_is_read numbers plain (target.Sock key) some = absurd (let both : false ≡ true = some in cc)

module _ (h : Heap) (kept : TableView) (pid : ℕ) (on : Named) (opened : IsOpened h kept pid on) (numbers : Numbers) (plain : Plain) (have : HaveOpen numbers h kept plain.files)
    (node : IsOnNode h kept pid on.fd) (addr n : ℤ) where
  whole : is_broken plain pid addr n (opened_at plain.files pid on.fd) ≡ false
  whole = ap (is_broken plain pid addr n) (opened_is h kept pid on opened numbers plain.files have) ∙ by_found on.found refl
    where
      never : (a b c d : Bool) → d ≡ false → (a && b && c && d) ≡ false
      never true true true d e = e
      never true true false d e = refl
      never true false c d e = refl
      never false b c d e = refl

      by_found : (o : Option Found) → on.found ≡ o → is_broken plain pid addr n (option_map (opened_in numbers) o) ≡ false
      by_found None is = refl
      by_found (Some found) is =
          never (may_write (access_in found.desc.access)) (is_mapped_range (memory_of plain.table pid) (count_of addr) (count_of n)) (not (count_of n == 0))
          (is_unread plain.files (target_in numbers found.desc.target)) (node_is_read numbers plain found.desc.target (node (held_in found) found.desc (is_held h kept pid on opened found is) (is_there h kept pid on opened found is)))

  pub never_ends : (done : ℕ) → write_ends plain pid on.fd addr n done ≡ false
  never_ends done = ap (λ b. not (ignores_of plain.table pid).broken_pipe && (done == 0) && b) whole ∙ none (not (ignores_of plain.table pid).broken_pipe) (done == 0)
    where
      none : (a b : Bool) → (a && b && false) ≡ false
      none true true = refl
      none true false = refl
      none false b = refl

-- so it is answered as who ignores SIGPIPE is
pub serves_write : (script : Script) (old new : Objects) (pid : ℕ) (on : Named) (addr n : ℤ) (done : ℕ) (which : Call) (told : Turned) → IsOpened old.heap old.procs pid on
    → IsOnNode old.heap old.procs pid on.fd → Serves script old pid which (λ plain. write_ignoring script plain pid on.fd addr n done) told new
    → Serves script old pid which (λ plain. write script plain pid on.fd addr n done) told new
serves_write script old new pid on addr n done which told opened node serves = λ world stands sound alive.
    subst (λ answer. WorldReached script new world pid which answer told)
    (sym (write_goes_on script world.plain pid on.fd addr n done
    (never_ends old.heap old.procs pid on opened stands.files.numbers world.plain stands.files.opened node addr n done)))
    (serves world stands sound alive)
