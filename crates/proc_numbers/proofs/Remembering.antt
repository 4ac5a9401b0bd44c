-- Bytes are put in the memory of a process, where the heap has its owners.
use Rattle.std.proofs.Common.{◌≡◌, ℕ, Bool, List, [], ◌++◌, length, Option, None, Some, refl, ap, sym, subst, ◌∙◌}
use Rattle.std.specs.Prelude.{slice_index, slice_set}
use Rattle.std.specs.Option.{option_map}
use Rattle.std.proofs.lemmas.List.{set-get_or}
use Rattle.kheap_laws.proofs.TableLemmas.{AreOwnersOf-proc_out}
use Rattle.kheap_slabs.specs.Objects.{object, put}
use Rattle.kheap_slabs.specs.Purse.{Purse}
use Rattle.kheap_slabs.specs.declared.objects.Pipe.{Pipe as HeldPipe}
use Rattle.kheap_slabs.specs.declared.objects.Proc.{Proc}
use Rattle.kheap_slabs.specs.declared.objects.Sock.{Sock}
use Rattle.kheap_slabs.specs.Heap.{Heap}
use Rattle.kheap_slabs.specs.Owners.{IsOwned, Owners, OwnsItsObjects, pipe_queues, sock_queues, spaces_of, with_space}
use Rattle.open_laws.specs.Open.{HaveFronts, descriptors_by}
use Rattle.open_laws.specs.Owned.{all_namings}
use Rattle.open_laws.proofs.GoingLemmas.{held_open_on, named_on, open_on}
use Rattle.page_space.specs.Accounts.{AccountMoves, IsAccounted}
use Rattle.page_space.specs.Contents.{SpaceMoves, StandsFor as IsMemory}
use Rattle.page_space.specs.Putting.{Puts}
use Rattle.page_space.proofs.StoreLemmas.{length-stored}
use Rattle.open_laws.specs.Placed.{Numbers}
use Rattle.posix_defs.specs.Account.{Account}
use Rattle.posix_defs.specs.Files.State.{Files}
use Rattle.posix_defs.specs.Memory.{Frames, Memory, after_put, is_mapped_range, stored}
use Rattle.posix_defs.specs.Process.{Table, memory_in, memory_of, with_memory}
use Rattle.proc_numbers.specs.Having.{HaveOpen, places_in}
use Rattle.proc_numbers.proofs.Listing.{openings_on}
use Rattle.proc_numbers.proofs.NumberCloses.{listed_on}
use Rattle.proc_table.specs.Accounting.{HasAccount}
use Rattle.proc_table.specs.Moves.{SpaceTurns}
use Rattle.proc_table.specs.Procs.{memory_at, numbers_in, proc_of, process_of}
use Rattle.proc_table.specs.Standing.{IsTable}
use Rattle.proc_table.specs.Table.{TableView, processes, procs_at}
use Rattle.proc_table.proofs.AccountLemmas.{accounted_of}
use Rattle.proc_table.proofs.FamilyLemmas.{process_is}
use Rattle.proc_table.proofs.LawLemmas.{back-account, back-moves, back-table}
use Rattle.proc_table.proofs.MemoryLemmas.{length-memory_at, memory_at-stands}
use Rattle.proc_numbers.specs.Spaces.{HasSpace}
use Rattle.proc_numbers.specs.Standing.{IsKept}

-- what the machine has in the process's memory is what its space has
pub memory_is : (h : Heap) (kept : TableView) (table : Table) (pid : ℕ) (space : List (Option ℕ)) → HasSpace h kept pid space → IsTable h kept table → memory_of table pid ≡ memory_at h space
memory_is h kept table pid space has is =
    ap memory_in (process_is h table (processes h kept) pid is.present ∙ ap (option_map (process_of h)) has.found)
    ∙ ap (memory_at h) has.nodes

-- whether a range is mapped in the machine is what the space tells
pub mapped_so : (h : Heap) (kept : TableView) (table : Table) (pid : ℕ) (space : List (Option ℕ)) (start n : ℕ) (result b : Bool) → HasSpace h kept pid space → IsTable h kept table
    → ((memory : Memory) → IsMemory h space memory → result ≡ is_mapped_range memory start n) → result ≡ b → is_mapped_range (memory_of table pid) start n ≡ b
mapped_so h kept table pid space start n result b has is tells told =
    ap (λ m. is_mapped_range m start n) (memory_is h kept table pid space has is) ∙ sym (tells (memory_at h space) (memory_at-stands h space)) ∙ told

-- the space is the process's still where Procs, nodes and pages are the same
pub space_on : (old new : Heap) (kept : TableView) (pid : ℕ) (space : List (Option ℕ)) → new.procs ≡ old.procs
    → ((others : Owners) → IsOwned old (with_space space others) → (after : Owners) × IsOwned new (with_space space after))
    → HasSpace old kept pid space → HasSpace new kept pid space
space_on old new kept pid space procs owns has = record {
  key = has.key;
  proc = has.proc;
  found = ap (λ (objects : List (Option Proc)). proc_of (procs_at objects kept.listed) pid) procs ∙ has.found;
  runs = has.runs;
  named = has.named;
  there = ap (λ (objects : List (Option Proc)). object objects has.key) procs ∙ has.there;
  nodes = has.nodes;
  owned = owns has.owned.0 has.owned.1;
}

module _ (mid : Heap) (before : Purse) (new : Heap) (after : Purse) (kept : TableView) (pid : ℕ) (space : List (Option ℕ)) (addr : ℕ) (bytes : List ℕ)
    (is : IsKept mid kept) (has : HasSpace mid kept pid space) (puts : Puts mid before new after space addr bytes) where
  pub put_procs : new.procs ≡ mid.procs
  put_procs = ap (λ (h : Heap). h.procs) puts.moves.kept

  put_leaves : new.leaves ≡ mid.leaves
  put_leaves = ap (λ (h : Heap). h.leaves) puts.moves.kept

  put_pipes : new.pipes ≡ mid.pipes
  put_pipes = ap (λ (h : Heap). h.pipes) puts.moves.kept

  put_socks : new.socks ≡ mid.socks
  put_socks = ap (λ (h : Heap). h.socks) puts.moves.kept

  put_descs : new.descs ≡ mid.descs
  put_descs = ap (λ (h : Heap). h.descs) puts.moves.kept

  put_chunks : new.chunks ≡ mid.chunks
  put_chunks = ap (λ (h : Heap). h.chunks) puts.moves.kept

  -- the Proc has the nodes that it had
  back_is : new ≡ record new { procs = put new.procs has.key (record has.proc { nodes = space }) }
  back_is =
      let there : object new.procs has.key ≡ Some has.proc = ap (λ (objects : List (Option Proc)). object objects has.key) put_procs ∙ has.there in
      ap (λ (objects : List (Option Proc)). record new { procs = objects })
      (sym (ap (λ nodes. put new.procs has.key (record has.proc { nodes = nodes })) (sym has.nodes) ∙ ap (slice_set new.procs has.key) (sym there) ∙ set-get_or new.procs has.key None))

  moves_own : SpaceMoves mid new has.proc.nodes space
  moves_own = subst (λ nodes. SpaceMoves mid new nodes space) (sym has.nodes) puts.moves

  turns : SpaceTurns mid new new kept pid has.key has.proc space
  turns = record { found = has.named; there = has.there; runs = has.runs; moves = moves_own; after = back_is }

  objects_put : OwnsItsObjects mid → OwnsItsObjects new
  objects_put owns =
      let out = AreOwnersOf-proc_out mid owns.0 has.key has.proc has.there owns.1 in (
        owns.0,
        record {
          spaces = owns.1.spaces ∙ ap spaces_of (sym put_procs);
          queues = owns.1.queues
              ∙ ap (λ (pipes : List (Option HeldPipe)). pipe_queues pipes ++ sock_queues mid.socks) (sym put_pipes)
              ∙ ap (λ (socks : List (Option Sock)). pipe_queues new.pipes ++ sock_queues socks) (sym put_socks);
        },
        out.1.same.back new (subst (λ nodes. IsOwned new (with_space nodes out.0)) (sym has.nodes) (moves_own.owners out.0 (out.1.same.there mid owns.2))),
      )

  pub kept_put : IsKept new kept
  kept_put = record {
    holds = (back-moves mid new new kept pid has.key has.proc space is.holds turns).holds;
    listed = listed_on mid new kept put_procs put_leaves is.listed;
    owners = record {
      objects = objects_put is.owners.objects;
      named = named_on mid new [] put_descs (λ other. ap (λ (h : Heap). all_namings h other) puts.moves.kept) is.owners.named;
      held = held_open_on mid new put_descs put_pipes put_socks put_chunks is.owners.held;
    };
  }

  pub table_put : (table : Table) → IsTable mid kept table → IsTable new kept (with_memory table pid (stored (memory_of table pid) addr bytes))
  table_put table was =
      subst (λ memory. IsTable new kept (with_memory table pid (stored memory addr bytes))) (sym (memory_is mid kept table pid space has was))
      (back-table mid new new kept pid has.key has.proc space is.holds turns table (stored (memory_at mid space) addr bytes)
      (puts.memory (memory_at mid space) (length-memory_at mid space) (memory_at-stands mid space))
      (length-stored (memory_at mid space) addr bytes ∙ length-memory_at mid space) was)

  pub account_put : (frames : Frames) → HasAccount mid kept frames → HasAccount new kept (after_put frames pid addr (length bytes))
  account_put frames was =
      back-account mid new new kept pid has.key has.proc space is.holds turns frames (after_put frames pid addr (length bytes)) was
      (subst (λ nodes. AccountMoves mid new nodes space was.number frames (after_put frames pid addr (length bytes)) pid) (sym has.nodes)
      (puts.account was.number frames pid
      (subst (IsAccounted mid was.number frames pid) has.nodes (accounted_of mid kept frames pid has.proc is.holds was has.found))))

  pub open_put : (numbers : Numbers) (files : Files) → HaveOpen numbers mid kept files → HaveOpen numbers new kept files
  open_put numbers files have = record {
    list = have.list;
    opened = open_on numbers mid new have.list files files put_descs put_pipes put_socks put_chunks refl refl refl have.opened;
    descriptors = record {
      each = λ q. have.descriptors.each q ∙ ap (λ (h : Heap). descriptors_by numbers.descs (places_in (numbers_in h) (proc_of (procs_at h.procs kept.listed) q))) (sym puts.moves.kept);
      made = have.descriptors.made;
      openings = openings_on mid new kept files.openings (ap (λ (h : Heap). h.procs) puts.moves.kept) have.descriptors.openings;
    };
  }

  pub fronts_put : (numbers : Numbers) (account now : Account) → now.pipes ≡ account.pipes → now.sockets ≡ account.sockets → HaveFronts numbers mid account → HaveFronts numbers new now
  fronts_put numbers account now pipes sockets fronts = record {
    pipes = λ key held at. ap (λ (list : List ℕ). slice_index list (numbers.pipes key)) pipes ∙ fronts.pipes key held (ap (λ (p : List (Option HeldPipe)). object p key) (sym put_pipes) ∙ at);
    socks = λ key sock at. ap (λ (list : List ℕ). slice_index list (numbers.socks key)) sockets ∙ fronts.socks key sock (ap (λ (s : List (Option Sock)). object s key) (sym put_socks) ∙ at);
  }
