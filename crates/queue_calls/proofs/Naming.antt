-- No read or write of a queue gives a key of the heap another name.
use Rattle.std.proofs.Common.{◌≡◌, ◌+◌, ◌≤◌, ℕ, ℤ, is_some, ap, sym, subst, ◌∙◌}
use Rattle.std.specs.Prelude.{slice_index}
use Rattle.kabi_types.specs.Arguments.{count_of}
use Rattle.kabi_types.specs.declared.calls.Call.{Call}
use Rattle.kabi_types.specs.declared.calls.Call.TheVariants as call
use Rattle.kabi_types.specs.declared.scripts.Script.{Script}
use Rattle.kheap_slabs.specs.Heap.{Heap}
use Rattle.store_objects.proofs.Leaving.{files_in}
use Rattle.open_laws.specs.Placed.{Numbers}
use Rattle.posix_defs.specs.Account.{Account}
use Rattle.posix_defs.specs.Answer.{Answer}
use Rattle.posix_defs.specs.Calls.Reading.{read}
use Rattle.posix_defs.specs.Calls.Writing.{write_ignoring}
use Rattle.posix_defs.specs.Plain.{Plain}
use Rattle.posix_defs.specs.World.{World}
use Rattle.posix_defs.specs.declared.turner.Turned.{Turned}
use Rattle.posix_defs.specs.declared.turner.Turned.TheVariants as turned
use Rattle.proc_numbers.specs.Having.{HaveOpen}
use Rattle.proc_numbers.specs.Found.{IsOffNodes}
use Rattle.proc_files.specs.Names.{name_of}
use Rattle.proc_files.proofs.GoesOn.{names_on}
use Rattle.proc_numbers.specs.PipeOpening.{KeepsNumbers}
use Rattle.proc_numbers.specs.Standing.{IsTold, Leads, StandsFor as QueuesStandFor}
use Rattle.store_objects.specs.declared.objects.Objects.{Objects}
use Rattle.store_objects.specs.Standing.{StandsFor}
use Rattle.queue_calls.proofs.Queueing.{off_world}
use Rattle.queue_calls.proofs.Remaining.{Leaves, nodes_left, read_leaves, write_leaves}

-- the files of the machine that a call was told of are those that its answer leads to
files_led : (script : Script) (plain : Plain) (pid : ℕ) (answer : Answer) (told : Turned) (next : Plain) → IsTold script plain pid answer told next
    → next.files ≡ files_in plain.files answer
files_led script plain pid answer (turned.Done reply) next is = sym (ap (files_in plain.files) is)
files_led script plain pid answer (turned.Part moved) next is = sym (ap (files_in plain.files) is)
files_led script plain pid answer turned.Sleep next is = ap (λ (p : Plain). p.files) is.1 ∙ sym (ap (files_in plain.files) is.0)
files_led script plain pid answer (turned.Ended status) next is = absurd is
files_led script plain pid answer turned.Gone next is = absurd is

module _ (script : Script) (old : Objects) (heap : Heap) (pid : ℕ) (which : Call) (Parts : ℕ → Type 0) (answer : Plain → Answer) (told : Turned)
    (leads : (numbers : Numbers) (plain : Plain) (account : Account) → QueuesStandFor numbers old.heap old.procs plain account
    → Leads script numbers heap old.procs plain account pid which (answer plain) told)
    (some : (world : World) × StandsFor script old world) (leaves : Leaves Parts some.0.plain (answer some.0.plain)) where
  abbrev plain : Plain
  plain = some.0.plain

  -- they stand for the machine by all numbers that keep those in use
  stand_by : (n : Numbers) → KeepsNumbers old.heap some.1.files.numbers n → HaveOpen n old.heap old.procs plain.files
      → QueuesStandFor n old.heap old.procs plain some.0.account
  stand_by n keeps opened = record {
    table = some.1.processes.table;
    opened = opened;
    frames = some.1.memory;
    fronts = record {
      pipes = λ key pipe there. ap (slice_index some.0.account.pipes) (keeps.pipes key (ap is_some there)) ∙ some.1.files.fronts.pipes key pipe there;
      socks = λ key sock there. ap (slice_index some.0.account.sockets) (keeps.socks key (ap is_some there)) ∙ some.1.files.fronts.socks key sock there;
    };
  }

  pub names_led : (key : ℕ) → name_of heap.socks key ≡ name_of old.heap.socks key
  names_led =
      names_on some.1.files.numbers old.heap heap old.procs plain.files (files_in plain.files (answer plain)) some.1.kept.owners some.1.files.opened
      (λ n keeps opened.
      let led = leads n plain some.0.account (stand_by n keeps opened) in
      subst (HaveOpen n heap old.procs) (files_led script plain pid (answer plain) told led.next led.told_so) led.stands.opened)
      (nodes_left Parts plain (answer plain) leaves).names

-- of a read
pub names_read : (script : Script) (old : Objects) (heap : Heap) (pid : ℕ) (fd addr n : ℤ) (told : Turned)
    → ((numbers : Numbers) (plain : Plain) (account : Account) → QueuesStandFor numbers old.heap old.procs plain account
    → Leads script numbers heap old.procs plain account pid (call.Read fd addr n) (read script plain pid fd addr n) told)
    → (world : World) × StandsFor script old world → IsOffNodes old.heap old.procs pid fd → (key : ℕ) → name_of heap.socks key ≡ name_of old.heap.socks key
names_read script old heap pid fd addr n told leads some off =
    names_led script old heap pid (call.Read fd addr n) (λ moved. ⊥) (λ plain. read script plain pid fd addr n) told leads some
    (read_leaves (λ moved. ⊥) script some.0.plain pid fd (off_world script old some.0 pid fd some.1 off) addr n)

-- and of a write
pub names_written : (script : Script) (old : Objects) (heap : Heap) (pid : ℕ) (fd addr n : ℤ) (done : ℕ) (told : Turned)
    → ((numbers : Numbers) (plain : Plain) (account : Account) → QueuesStandFor numbers old.heap old.procs plain account
    → Leads script numbers heap old.procs plain account pid (call.Write fd addr n done) (write_ignoring script plain pid fd addr n done) told)
    → (world : World) × StandsFor script old world → IsOffNodes old.heap old.procs pid fd → (key : ℕ) → name_of heap.socks key ≡ name_of old.heap.socks key
names_written script old heap pid fd addr n done told leads some off =
    names_led script old heap pid (call.Write fd addr n done) (λ moved. done + moved ≤ count_of n) (λ plain. write_ignoring script plain pid fd addr n done) told leads some
    (write_leaves (λ moved. done + moved ≤ count_of n) script some.0.plain pid fd (off_world script old some.0 pid fd some.1 off) addr n done (λ moved less. less))
