-- What is open goes on in heap and machine, whatever becomes of the processes.
use Rattle.std.proofs.Common.{◌≡◌, ℕ, List, map, Option, None, Some, refl, ap, sym, ◌∙◌, subst}
use Rattle.std.specs.Prelude.{slice_index}
use Rattle.kheap_slabs.specs.Leaves.{numbers_by}
use Rattle.kheap_slabs.specs.Objects.{object}
use Rattle.kheap_slabs.specs.declared.objects.Proc.{Proc}
use Rattle.kheap_slabs.specs.Heap.{Heap}
use Rattle.open_laws.specs.Open.{descriptors_by}
use Rattle.open_laws.proofs.GoingLemmas.{open_on}
use Rattle.posix_defs.specs.Account.{Account, fronts_after, pipe_lengths, socket_lengths, unread_in_pipe, unread_in_socket}
use Rattle.posix_defs.specs.Files.Descriptors.{none_open}
use Rattle.posix_defs.specs.Files.State.{Files, descriptors_of, opening_at}
use Rattle.posix_defs.specs.Pipe.{Pipe}
use Rattle.posix_defs.specs.Sockets.{Sockets}
use Rattle.proc_numbers.specs.Having.{HaveDescriptors, places_in}
use Rattle.proc_table.specs.Moves.{TableMoves}
use Rattle.proc_table.specs.Opening.{HaveOpen as TableOpen, opening_in, opening_of}
use Rattle.proc_table.specs.Procs.{no_descriptors, numbers_in, proc_of}
use Rattle.proc_table.proofs.FamilyLemmas.{proc_has_pid}
use Rattle.proc_table.proofs.OwnLemmas.{AreRising, has_it}
use Rattle.store_objects.specs.declared.objects.Objects.{Objects}
use Rattle.store_objects.specs.Files.{AreSettled, HaveFiles}
use Rattle.store_objects.specs.Objects.{procs_of}
use Rattle.store_objects.proofs.RunningProcs.{all_found}

-- ---- descriptors

-- nothing open is the same to the machine
pub none_by : (number : ℕ → ℕ) → descriptors_by number no_descriptors ≡ none_open
unfolding none_open
none_by number = refl

-- what the machine has of each pid it has of each process that is there, and nothing of who isn't
pub by_procs : (h : Heap) (number : ℕ → ℕ) (procs : List Proc) (last : ℕ) (files : Files) → AreRising 0 procs → HaveDescriptors (numbers_in h) number procs last files → TableOpen (numbers_in h) procs last number files
by_procs h number procs last files rising have = record {
  placed = all_found (λ proc. descriptors_of files proc.pid ≡ descriptors_by number (numbers_in h proc)) procs 0 rising
      (λ pid proc above is. ap (descriptors_of files) (proc_has_pid procs pid proc is) ∙ have.each pid ∙ ap (λ o. descriptors_by number (places_in (numbers_in h) o)) is);
  gone = λ pid none. have.each pid ∙ ap (λ o. descriptors_by number (places_in (numbers_in h) o)) none ∙ none_by number;
  made = have.made;
  sleeping = all_found (λ proc. opening_at files proc.pid ≡ opening_in proc) procs 0 rising
      (λ pid proc above is. ap (opening_at files) (proc_has_pid procs pid proc is) ∙ have.openings.each pid ∙ ap opening_of is);
  awake = λ pid none. have.openings.each pid ∙ ap opening_of none;
  counted = have.openings.made;
}

pub by_pids : (h : Heap) (number : ℕ → ℕ) (procs : List Proc) (last : ℕ) (files : Files) → TableOpen (numbers_in h) procs last number files → HaveDescriptors (numbers_in h) number procs last files
by_pids h number procs last files have = record {
  each = λ pid. by_proc pid (proc_of procs pid) refl;
  made = have.made;
  openings = record { each = λ pid. asleep pid (proc_of procs pid) refl; made = have.counted };
}
  where
    asleep : (pid : ℕ) (o : Option Proc) → proc_of procs pid ≡ o → opening_at files pid ≡ opening_of (proc_of procs pid)
    asleep pid None none = have.awake pid none ∙ sym (ap opening_of none)
    asleep pid (Some proc) is =
        ap (opening_at files) (sym (proc_has_pid procs pid proc is))
        ∙ has_it (λ p. opening_at files p.pid ≡ opening_in p) procs pid proc have.sleeping is
        ∙ sym (ap opening_of is)

    by_proc : (pid : ℕ) (o : Option Proc) → proc_of procs pid ≡ o → descriptors_of files pid ≡ descriptors_by number (places_in (numbers_in h) (proc_of procs pid))
    by_proc pid None none = have.gone pid none ∙ sym (none_by number) ∙ sym (ap (λ o. descriptors_by number (places_in (numbers_in h) o)) none)
    by_proc pid (Some proc) is =
        ap (descriptors_of files) (sym (proc_has_pid procs pid proc is))
        ∙ has_it (λ p. descriptors_of files p.pid ≡ descriptors_by number (numbers_in h p)) procs pid proc have.placed is
        ∙ sym (ap (λ o. descriptors_by number (places_in (numbers_in h) o)) is)

-- the same in another heap with the same Leaves
pub leaves_on : (old new : Heap) (number : ℕ → ℕ) (procs : List Proc) (last : ℕ) (files : Files) → new.leaves ≡ old.leaves → TableOpen (numbers_in old) procs last number files → TableOpen (numbers_in new) procs last number files
leaves_on old new number procs last files same = subst (λ leaves. TableOpen (λ (proc : Proc). numbers_by leaves proc.descriptors proc.leaves) procs last number files) (sym same)

-- ---- all that is open

-- how many bytes are unread in pipes and in sockets
lengths_by : (files now : Files) → now.pipes ≡ files.pipes → now.sockets ≡ files.sockets → (pipe_lengths now ≡ pipe_lengths files) × (socket_lengths now ≡ socket_lengths files)
lengths_by files now pipes sockets = (ap (λ (there : List (Option Pipe)). map unread_in_pipe there) pipes, ap (λ (there : Sockets). map unread_in_socket there) sockets)

pub settled_on : (files now : Files) (account next : Account) → now.pipes ≡ files.pipes → now.sockets ≡ files.sockets → next.pipes ≡ account.pipes → next.sockets ≡ account.sockets
    → AreSettled files account → AreSettled now next
settled_on files now account next pipes sockets same_pipes same_sockets settled =
    let lengths = lengths_by files now pipes sockets in
    record {
      pipes = ap (λ fronts. fronts_after (pipe_lengths now) (pipe_lengths now) fronts) same_pipes ∙ ap (λ ns. fronts_after ns ns account.pipes) lengths.0 ∙ settled.pipes ∙ sym same_pipes;
      sockets = ap (λ fronts. fronts_after (socket_lengths now) (socket_lengths now) fronts) same_sockets ∙ ap (λ ns. fronts_after ns ns account.sockets) lengths.1 ∙ settled.sockets ∙ sym same_sockets;
    }

-- Of another heap it is the same where Descs, Pipes, Socks and Chunks are the same, and the machine and the account have the same
-- of them, and where descriptors go on.
pub files_on : (old new : Objects) (files now : Files) (account next : Account)
    → new.heap.descs ≡ old.heap.descs → new.heap.pipes ≡ old.heap.pipes → new.heap.socks ≡ old.heap.socks → new.heap.chunks ≡ old.heap.chunks
    → now.descriptions ≡ files.descriptions → now.pipes ≡ files.pipes → now.sockets ≡ files.sockets
    → next.pipes ≡ account.pipes → next.sockets ≡ account.sockets
    → ((number : ℕ → ℕ) → HaveDescriptors (numbers_in old.heap) number (procs_of old) old.procs.last files → HaveDescriptors (numbers_in new.heap) number (procs_of new) new.procs.last now)
    → HaveFiles old files account → HaveFiles new now next
files_on old new files now account next descs pipes socks chunks descriptions plain_pipes sockets fronts_of_pipes fronts_of_sockets descriptors have =
    let opened = have.opened in record {
      numbers = have.numbers;
      opened = record {
        list = opened.list;
        opened = open_on have.numbers old.heap new.heap opened.list files now descs pipes socks chunks descriptions plain_pipes sockets opened.opened;
        descriptors = descriptors have.numbers.descs opened.descriptors;
      };
      fronts = record {
        pipes = λ key pipe is. ap (λ fronts. slice_index fronts (have.numbers.pipes key)) fronts_of_pipes
            ∙ have.fronts.pipes key pipe (ap (λ objects. object objects key) (sym pipes) ∙ is);
        socks = λ key sock is. ap (λ fronts. slice_index fronts (have.numbers.socks key)) fronts_of_sockets
            ∙ have.fronts.socks key sock (ap (λ objects. object objects key) (sym socks) ∙ is);
      };
      settled = settled_on files now account next plain_pipes sockets fronts_of_pipes fronts_of_sockets have.settled;
    }

-- and so where a table moves on
pub files_moved : (old new : Objects) (files now : Files) (account next : Account) → TableMoves old.heap old.procs new.heap new.procs
    → now.descriptions ≡ files.descriptions → now.pipes ≡ files.pipes → now.sockets ≡ files.sockets
    → next.pipes ≡ account.pipes → next.sockets ≡ account.sockets
    → ((number : ℕ → ℕ) → HaveDescriptors (numbers_in old.heap) number (procs_of old) old.procs.last files → HaveDescriptors (numbers_in new.heap) number (procs_of new) new.procs.last now)
    → HaveFiles old files account → HaveFiles new now next
files_moved old new files now account next moves descriptions pipes sockets fronts_of_pipes fronts_of_sockets descriptors =
    files_on old new files now account next (ap (λ (h : Heap). h.descs) moves.kept) (ap (λ (h : Heap). h.pipes) moves.kept) (ap (λ (h : Heap). h.socks) moves.kept) (ap (λ (h : Heap). h.chunks) moves.kept)
    descriptions pipes sockets fronts_of_pipes fronts_of_sockets descriptors
