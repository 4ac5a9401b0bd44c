-- Who may read, who may write, and that a pipe is there for who has it open.
use Rattle.std.proofs.Common.{◌≡◌, ℕ, ℤ, Bool, cond, [], Option, None, Some, IsSome, refl, ap, subst, ◌∙◌}
use Rattle.kabi_types.specs.declared.errnos.Errno.TheVariants.{EBADF}
use Rattle.kabi_types.specs.declared.scripts.Script.{Script}
use Rattle.kheap_slabs.specs.Objects.{object}
use Rattle.kheap_slabs.specs.declared.objects.Desc.{Desc}
use Rattle.kheap_slabs.specs.declared.objects.Target.TheVariants as target
use Rattle.kheap_slabs.specs.Heap.{Heap}
use Rattle.open_laws.specs.Described.{access_in}
use Rattle.open_laws.specs.Owned.{HasItsOwners, IsThereFor}
use Rattle.pipe_ends.specs.Standing.{IsPipeAt}
use Rattle.open_laws.specs.Placed.{Numbers}
use Rattle.posix_defs.specs.Answer.{Answer, failed}
use Rattle.posix_defs.specs.Calls.Opened.{Opened, answer_on, if_readable, if_writable, on_open, opened_at}
use Rattle.posix_defs.specs.Files.Descriptions.{may_read, may_write}
use Rattle.posix_defs.specs.Plain.{Plain}
use Rattle.proc_table.specs.Procs.{IsAlive}
use Rattle.proc_table.specs.Table.{AreStored, TableView, key_of, processes}
use Rattle.proc_table.proofs.PlaceLemmas.{key_of-none, none_not_some}
use Rattle.proc_numbers.specs.Found.{opened_in}
use Rattle.proc_numbers.specs.declared.lookups.Found.{Found}

module _ (script : Script) (numbers : Numbers) (plain : Plain) (pid : ℕ) (fd : ℤ) (answer : Opened → Answer) where
  pub may_be_read : (found : Found) → opened_at plain.files pid fd ≡ Some (opened_in numbers found) → (b : Bool) → may_read (access_in found.desc.access) ≡ b
      → on_open script plain pid fd (λ opened. if_readable script plain pid opened (answer opened)) ≡ cond b (answer (opened_in numbers found)) (failed script plain pid EBADF)
  may_be_read found is b tells =
      ap (answer_on script plain pid (λ opened. if_readable script plain pid opened (answer opened))) is
      ∙ ap (λ t. cond t (answer (opened_in numbers found)) (failed script plain pid EBADF)) tells

  pub may_be_written : (found : Found) → opened_at plain.files pid fd ≡ Some (opened_in numbers found) → (b : Bool) → may_write (access_in found.desc.access) ≡ b
      → on_open script plain pid fd (λ opened. if_writable script plain pid opened (answer opened)) ≡ cond b (answer (opened_in numbers found)) (failed script plain pid EBADF)
  may_be_written found is b tells =
      ap (answer_on script plain pid (λ opened. if_writable script plain pid opened (answer opened))) is
      ∙ ap (λ t. cond t (answer (opened_in numbers found)) (failed script plain pid EBADF)) tells

  pub isnt_open : (by : Opened → Answer) → opened_at plain.files pid fd ≡ None → on_open script plain pid fd by ≡ failed script plain pid EBADF
  isnt_open by is = ap (answer_on script plain pid by) is

-- the pipe that a description is open on is there
pub pipe_of : (h : Heap) (key pipe : ℕ) (desc : Desc) → HasItsOwners h [] → object h.descs key ≡ Some desc → desc.target ≡ target.Pipe pipe → IsPipeAt h pipe
pipe_of h key pipe desc owners is on =
    let there : IsThereFor h desc.access (target.Pipe pipe) = subst (IsThereFor h desc.access) on (owners.held.targets key desc is) in
    owners.held.stand pipe there.0

-- who runs is in the table
pub alive_listed : (h : Heap) (kept : TableView) (pid : ℕ) → AreStored h.procs kept.listed → IsAlive (processes h kept) pid → IsSome (key_of kept.listed pid)
alive_listed h kept pid stored alive = by_key (key_of kept.listed pid) refl
  where
    by_key : (o : Option ℕ) → key_of kept.listed pid ≡ o → IsSome o
    by_key None is = absurd (none_not_some _ alive.proc (key_of-none h.procs kept.listed pid stored is) alive.there)
    by_key (Some key) is = refl
