-- The heap goes on where the queue of a socket has turned: what it keeps, and the fronts of its queues.
use Rattle.std.proofs.Common.{◌≡◌, ℕ, ◌<◌, List, [], length, Option, Some, IsSome, is_some, refl, ap, sym, subst, ◌∙◌, arith}
use Rattle.std.specs.Prelude.{slice_index}
use Rattle.std.proofs.lemmas.List.{length-map}
use Rattle.std.proofs.lemmas.List.FromFn.{get_or-map-range_with_len}
use Rattle.kheap_slabs.specs.Objects.{object}
use Rattle.kheap_slabs.specs.declared.objects.Node.{Node}
use Rattle.kheap_slabs.specs.declared.objects.Page.{Page}
use Rattle.kheap_slabs.specs.declared.objects.Sock.{Sock}
use Rattle.kheap_slabs.proofs.ObjectLemmas.{InUse-within, object_of}
use Rattle.kheap_slabs.specs.Heap.{Heap}
use Rattle.kheap_slabs.specs.Keys.{AreKeysOf}
use Rattle.kheap_slabs.specs.Owners.{Owners, IsOwned, OwnsItsObjects, node_keys}
use Rattle.kheap_slabs.specs.Spaces.{IsCounted}
use Rattle.open_laws.specs.Open.{HaveFronts}
use Rattle.open_laws.specs.Socketed.{AreRenamed}
use Rattle.open_laws.proofs.SocketLemmas.{placed_there}
use Rattle.open_laws.specs.Placed.{Numbers}
use Rattle.posix_defs.specs.Account.{Account, front_after, fronts_after, pipe_lengths, socket_lengths, unread_in_socket}
use Rattle.posix_defs.specs.Files.State.{Files, with_sockets}
use Rattle.posix_defs.specs.QueuePlace.{QueuePlace}
use Rattle.posix_defs.specs.Sockets.{Sockets, sock_at}
use Rattle.usock_core.specs.Standing.{StandsFor as SocketsStandFor, queue_at, queue_in}
use Rattle.usock_core.proofs.StandingLemmas.{found, used_from}
use Rattle.proc_numbers.specs.Having.{HaveOpen}
use Rattle.proc_numbers.proofs.NumberCloses.{listed_on}
use Rattle.proc_table.specs.Table.{TableView, processes, with_procs}
use Rattle.proc_table.proofs.LawLemmas.{elsewhere_holds}
use Rattle.proc_numbers.specs.Standing.{IsKept}
use Rattle.proc_numbers.proofs.FrontsMoved.{pipe_fronts, socket_length}
use Rattle.proc_numbers.specs.Owning.{SocketsChange}
use Rattle.proc_numbers.proofs.Owners.{owners_change}
use Rattle.proc_numbers.proofs.Told.{have_after}

module _ (old new : Heap) (change : SocketsChange old new []) where
  pub same_procs : new.procs ≡ old.procs
  same_procs = ap (λ (h : Heap). h.procs) change.others.kept

  same_leaves : new.leaves ≡ old.leaves
  same_leaves = ap (λ (h : Heap). h.leaves) change.others.kept

  pub same_nodes : new.nodes ≡ old.nodes
  same_nodes = ap (λ (h : Heap). h.nodes) change.others.kept

  pub same_pages : new.pages ≡ old.pages
  same_pages = ap (λ (h : Heap). h.pages) change.others.kept

  -- the spaces own what they owned, and the queues what all of them own now
  pub spaces_own : (owners : Owners) → IsOwned old owners → (owns : OwnsItsObjects new) → IsOwned new (record owners { queues = owns.0.queues })
  spaces_own owners is owns = record {
    nodes = subst (λ (n : List (Option Node)). AreKeysOf n (node_keys owners.spaces)) (sym same_nodes) is.nodes;
    mapped = λ other node at. is.mapped other node (ap (λ (n : List (Option Node)). object n other) (sym same_nodes) ∙ at);
    pages = subst (λ (n : List (Option Node)). IsCounted n new.pages) (sym same_nodes) (subst (λ (p : List (Option Page)). IsCounted old.nodes p) (sym same_pages) is.pages);
    chunks = owns.2.chunks;
    queues = owns.2.queues;
  }

  pub kept_changed : (kept : TableView) → IsKept old kept → IsKept new kept
  kept_changed kept is = record {
    holds =
        let owns = change.objects in
        elsewhere_holds old new kept (record is.holds.owned.0 { queues = owns.0.queues }) same_procs (spaces_own (with_procs (processes old kept) is.holds.owned.0) is.holds.owned.1 owns) is.holds;
    listed = listed_on old new kept same_procs same_leaves is.listed;
    owners = owners_change old new [] change is.owners;
  }

  module _ (numbers : Numbers) (kept : TableView) (is : IsKept old kept) (files : Files) (have : HaveOpen numbers old kept files) (keyed next : Sockets) (stands : SocketsStandFor new keyed)
      (renamed : AreRenamed numbers.socks keyed next) where
    pub open_changed : HaveOpen numbers new kept (with_sockets files next)
    open_changed = have_after numbers old new kept [] change is.owners files have keyed next stands renamed

    front_at : (before after fronts : List ℕ) (place : ℕ) → place < length after
        → slice_index (fronts_after before after fronts) place ≡ front_after (slice_index before place) (slice_index after place) (slice_index fronts place)
    front_at before after fronts place within =
        get_or-map-range_with_len (λ p. front_after (slice_index before p) (slice_index after p) (slice_index fronts p)) 0 (length after) place place 0 within (omega arith)

    -- how many bytes a socket of the heap has to read, as the machine says it
    its_length : (h : Heap) (table sockets : Sockets) (key : ℕ) (sock : Sock) → SocketsStandFor h table → AreRenamed numbers.socks table sockets → object h.socks key ≡ Some sock
        → unread_in_socket (object sockets (numbers.socks key)) ≡ sock.queue.len
    its_length h table sockets key sock stood placed at =
        let it = found h table key sock stood.table at in
        ap unread_in_socket (placed_there numbers.socks table sockets key placed it.there) ∙ sym it.kept.len

    pub fronts_changed : (account : Account) → HaveFronts numbers old account → ((key : ℕ) → IsSome (sock_at keyed key) → IsSome (sock_at have.opened.socketed.keyed key))
        → ((key : ℕ) → front_after (queue_at old key).len (queue_at new key).len (queue_at old key).place ≡ (queue_at new key).place)
        → HaveFronts numbers new (record account {
          pipes = fronts_after (pipe_lengths files) (pipe_lengths (with_sockets files next)) account.pipes;
          sockets = fronts_after (socket_lengths files) (socket_lengths (with_sockets files next)) account.sockets;
        })
    fronts_changed account fronts before turns = record {
      pipes = pipe_fronts numbers new files (with_sockets files next) account refl open_changed.opened.piped
          (λ key held at. fronts.pipes key held (ap (λ (h : Heap). object h.pipes key) (sym change.others.kept) ∙ at));
      socks = λ key sock at.
          let it = found new keyed key sock stands.table at in
          let used = used_from old have.opened.socketed.keyed key have.opened.socketed.stands.table (before key it.there) in
          let o = object_of old.socks key used in
          let place = numbers.socks key in
          front_at (socket_lengths files) (socket_lengths (with_sockets files next)) account.sockets place
          (let within = InUse-within next place (ap is_some (placed_there numbers.socks keyed next key renamed it.there)) in let long = length-map next unread_in_socket in omega (arith, within, long))
          ∙ ap (λ n. front_after n (slice_index (socket_lengths (with_sockets files next)) place) (slice_index account.sockets place))
          (socket_length files place ∙ its_length old have.opened.socketed.keyed files.sockets key o.0 have.opened.socketed.stands have.opened.socketed.renamed o.1)
          ∙ ap (λ n. front_after o.0.queue.len n (slice_index account.sockets place)) (socket_length (with_sockets files next) place ∙ its_length new keyed next key sock stands renamed at)
          ∙ ap (front_after o.0.queue.len sock.queue.len) (fronts.socks key o.0 o.1)
          ∙ sym (ap (λ (q : QueuePlace). front_after q.len sock.queue.len q.place) (ap queue_in o.1))
          ∙ ap (λ (q : QueuePlace). front_after (queue_at old key).len q.len (queue_at old key).place) (sym (ap queue_in at))
          ∙ turns key
          ∙ ap (λ (q : QueuePlace). q.place) (ap queue_in at);
    }
