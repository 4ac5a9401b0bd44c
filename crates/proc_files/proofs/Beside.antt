-- What heap and table stand for goes on where the heap has other objects of the three caches alone.
use Rattle.std.proofs.Common.{◌≡◌, ℕ, List, [], length, Option, None, unwrap_or, ap, sym, ◌∙◌}
use Rattle.kheap_laws.proofs.OwnerLemmas.{IsOwned-same}
use Rattle.kheap_laws.proofs.TableLemmas.{OwnsItsObjects-along}
use Rattle.kheap_slabs.specs.Objects.{object}
use Rattle.kheap_slabs.specs.declared.objects.Pipe.{Pipe as HeldPipe}
use Rattle.kheap_slabs.specs.declared.objects.Sock.{Sock}
use Rattle.kheap_slabs.specs.Heap.{Heap}
use Rattle.kheap_slabs.specs.Owners.{IsOwned, Owners, pipe_queues, sock_queues, spaces_of, with_space}
use Rattle.open_laws.specs.Open.{HaveFronts, descriptors_by}
use Rattle.open_laws.specs.Owned.{HasItsOwners, all_namings}
use Rattle.open_laws.proofs.GoingLemmas.{held_open_on, named_on, open_on}
use Rattle.open_laws.specs.Placed.{Numbers}
use Rattle.posix_defs.specs.Account.{Account}
use Rattle.posix_defs.specs.ByPid.{at_pid}
use Rattle.posix_defs.specs.Files.Descriptors.{Descriptors, none_open}
use Rattle.posix_defs.specs.Files.State.{Files, HalfOpen}
use Rattle.posix_defs.specs.Memory.{Frames}
use Rattle.posix_defs.specs.Process.{Table}
use Rattle.proc_numbers.specs.Having.{AreListed, HaveOpen, places_in}
use Rattle.proc_numbers.proofs.NumberCloses.{listed_on}
use Rattle.proc_table.specs.Accounting.{HasAccount}
use Rattle.kheap_slabs.specs.declared.objects.Proc.{Proc}
use Rattle.proc_table.specs.Opening.{opening_of}
use Rattle.proc_table.specs.Procs.{numbers_in, proc_of}
use Rattle.proc_table.specs.Standing.{IsTable}
use Rattle.proc_table.specs.Table.{TableView, procs_at, processes, with_procs}
use Rattle.proc_table.proofs.LawLemmas.{elsewhere_account, elsewhere_holds, elsewhere_table}
use Rattle.proc_numbers.specs.Spaces.{HasSpace}
use Rattle.proc_numbers.specs.Standing.{IsKept}
use Rattle.proc_numbers.proofs.Remembering.{space_on}
use Rattle.proc_files.specs.Closing.{CachesChange}

module _ (old new : Heap) (e : CachesChange old new) where
  pub same_procs : new.procs ≡ old.procs
  same_procs = ap (λ (h : Heap). h.procs) e

  pub same_leaves : new.leaves ≡ old.leaves
  same_leaves = ap (λ (h : Heap). h.leaves) e

  pub same_nodes : new.nodes ≡ old.nodes
  same_nodes = ap (λ (h : Heap). h.nodes) e

  pub same_pages : new.pages ≡ old.pages
  same_pages = ap (λ (h : Heap). h.pages) e

  pub same_descs : new.descs ≡ old.descs
  same_descs = ap (λ (h : Heap). h.descs) e

  pub same_pipes : new.pipes ≡ old.pipes
  same_pipes = ap (λ (h : Heap). h.pipes) e

  pub same_chunks : new.chunks ≡ old.chunks
  same_chunks = ap (λ (h : Heap). h.chunks) e

  pub same_socks : new.socks ≡ old.socks
  same_socks = ap (λ (h : Heap). h.socks) e

  pub same_locks : new.locks ≡ old.locks
  same_locks = ap (λ (h : Heap). h.locks) e

  owned_beside : (owners : Owners) → IsOwned old owners → IsOwned new owners
  owned_beside owners owned = IsOwned-same old new owners same_nodes same_pages same_chunks owned

  pub listed_beside : (kept : TableView) → AreListed old kept → AreListed new kept
  listed_beside kept listed = listed_on old new kept same_procs same_leaves listed

  pub owners_beside : (hand : List ℕ) → HasItsOwners old hand → HasItsOwners new hand
  owners_beside hand owners = record {
    objects = OwnsItsObjects-along old new (ap spaces_of same_procs) (ap pipe_queues same_pipes) (ap sock_queues same_socks) same_nodes same_pages same_chunks owners.objects;
    named = named_on old new hand same_descs (λ key. ap (λ (h : Heap). all_namings h key) e) owners.named;
    held = held_open_on old new same_descs same_pipes same_socks same_chunks owners.held;
  }

  pub kept_beside : (kept : TableView) → IsKept old kept → IsKept new kept
  kept_beside kept is = record {
    holds = elsewhere_holds old new kept is.holds.owned.0 same_procs (owned_beside (with_procs (processes old kept) is.holds.owned.0) is.holds.owned.1) is.holds;
    listed = listed_beside kept is.listed;
    owners = owners_beside [] is.owners;
  }

  -- what is open is open, where the machine has the same of it
  pub have_beside : (numbers : Numbers) (kept : TableView) (files now : Files) → now.descriptors ≡ files.descriptors → now.openings ≡ files.openings → now.descriptions ≡ files.descriptions → now.pipes ≡ files.pipes → now.sockets ≡ files.sockets
      → HaveOpen numbers old kept files → HaveOpen numbers new kept now
  have_beside numbers kept files now descriptors openings descriptions pipes sockets have = record {
    list = have.list;
    opened = open_on numbers old new have.list files now same_descs same_pipes same_socks same_chunks descriptions pipes sockets have.opened;
    descriptors = record {
      each = λ q.
          ap (λ (d : List Descriptors). unwrap_or (at_pid d q) none_open) descriptors ∙ have.descriptors.each q
          ∙ ap (λ (h : Heap). descriptors_by numbers.descs (places_in (numbers_in h) (proc_of (procs_at h.procs kept.listed) q))) (sym e);
      made = ap length descriptors ∙ have.descriptors.made;
      openings = record {
        each = λ q.
            ap (λ (o : List (Option HalfOpen)). unwrap_or (at_pid o q) None) openings ∙ have.descriptors.openings.each q
            ∙ ap (λ (p : List (Option Proc)). opening_of (proc_of (procs_at p kept.listed) q)) (sym same_procs);
        made = ap length openings ∙ have.descriptors.openings.made;
      };
    };
  }

  pub table_beside : (kept : TableView) (table : Table) → IsTable old kept table → IsTable new kept table
  table_beside kept table is = elsewhere_table old new kept table same_procs same_nodes same_pages is

  pub account_beside : (kept : TableView) (frames : Frames) → HasAccount old kept frames → HasAccount new kept frames
  account_beside kept frames has = elsewhere_account old new kept frames same_procs same_nodes same_pages has

  pub fronts_beside : (numbers : Numbers) (account : Account) → HaveFronts numbers old account → HaveFronts numbers new account
  fronts_beside numbers account fronts = record {
    pipes = λ key held at. fronts.pipes key held (ap (λ (p : List (Option HeldPipe)). object p key) (sym same_pipes) ∙ at);
    socks = λ key sock at. fronts.socks key sock (ap (λ (s : List (Option Sock)). object s key) (sym same_socks) ∙ at);
  }

  pub space_beside : (kept : TableView) (pid : ℕ) (space : List (Option ℕ)) → HasSpace old kept pid space → HasSpace new kept pid space
  space_beside kept pid space has = space_on old new kept pid space same_procs (λ others owned. (others, owned_beside (with_space space others) owned)) has
