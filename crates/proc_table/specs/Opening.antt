-- Which descriptors of the plain machine the processes in the heap have, and in which opens of FIFOs they sleep.
use Rattle.std.specs.Prelude.{ℕ, ◌≡◌, List, Option, None, Some, length, unwrap_or}
use Rattle.std.specs.List.{AllByRecursion}
use Rattle.std.specs.Option.{option_map}
use Rattle.kheap_slabs.specs.declared.objects.Descriptor.{Descriptor}
use Rattle.kheap_slabs.specs.declared.objects.HalfOpen.{HalfOpen as HeldHalf}
use Rattle.kheap_slabs.specs.declared.objects.Proc.{Proc}
use Rattle.posix_defs.specs.ByPid.{at_pid}
use Rattle.posix_defs.specs.Files.Descriptors.{none_open}
use Rattle.posix_defs.specs.Files.State.{Files, HalfOpen, descriptors_of, opening_at}
use Rattle.open_laws.specs.Open.{descriptors_by}
use Rattle.proc_table.specs.Procs.{proc_of}

-- what the heap says of an open that a process sleeps in
abbrev pub half_in : HeldHalf → HalfOpen
half_in held = record { fd = held.fd; seen = held.seen }

abbrev pub opening_in : Proc → Option HalfOpen
opening_in proc = option_map half_in proc.opening

-- the same, if the process is there; who isn't sleeps in none
abbrev pub opening_of : Option Proc → Option HalfOpen
opening_of None = None
opening_of (Some proc) = opening_in proc

-- These are the opens of FIFOs in which processes sleep, by pid, up to the last that was made: each is that of which its Proc tells.
pub record HaveOpenings (procs : List Proc) (last : ℕ) (openings : List (Option HalfOpen)) : Type 0 where
  pub each : (pid : ℕ) → unwrap_or (at_pid openings pid) None ≡ opening_of (proc_of procs pid)
  pub made : length openings ≡ last

-- The machine has open in each process what that one has by number, where the Desc of each key has this place, and has it sleep in the
-- open of a FIFO of which its Proc tells; who is gone has nothing open and sleeps in none; and the machine has descriptors and opens of
-- each process up to the last that was made.
pub record HaveOpen (numbers : Proc → List (Option Descriptor)) (procs : List Proc) (last : ℕ) (number : ℕ → ℕ) (files : Files) : Type 0 where
  pub placed : AllByRecursion (λ proc. descriptors_of files proc.pid ≡ descriptors_by number (numbers proc)) procs
  pub sleeping : AllByRecursion (λ proc. opening_at files proc.pid ≡ opening_in proc) procs
  pub gone : (pid : ℕ) → proc_of procs pid ≡ None → descriptors_of files pid ≡ none_open
  pub awake : (pid : ℕ) → proc_of procs pid ≡ None → opening_at files pid ≡ None
  pub made : length files.descriptors ≡ last
  pub counted : length files.openings ≡ last
