-- The heap goes on where the queue of one pipe has turned.
use Rattle.std.proofs.Common.{◌≡◌, ◌≢◌, ◌⊎◌, ℕ, List, [], set, length, Option, None, Some, is_some, refl, ap, sym, subst, ◌∙◌, arith, inl, inr}
use Rattle.std.specs.Prelude.{slice_index}
use Rattle.std.proofs.lemmas.Bool.{cases_eq}
use Rattle.std.proofs.lemmas.List.{get_or-set_other}
use Rattle.kheap_laws.proofs.OnceLemmas.{Contains-single}
use Rattle.kheap_slabs.specs.Objects.{InUse, object}
use Rattle.kheap_slabs.specs.declared.objects.Access.{Access}
use Rattle.kheap_slabs.specs.declared.objects.Desc.{Desc}
use Rattle.kheap_slabs.specs.declared.objects.Node.{Node}
use Rattle.kheap_slabs.specs.declared.objects.Page.{Page}
use Rattle.kheap_slabs.specs.declared.objects.Pipe.{Pipe as HeldPipe}
use Rattle.kheap_slabs.specs.declared.objects.Sock.{Sock}
use Rattle.kheap_slabs.specs.declared.objects.Target.{Target}
use Rattle.kheap_slabs.specs.declared.objects.Target.TheVariants as target
use Rattle.kheap_slabs.specs.Heap.{Heap}
use Rattle.kheap_slabs.specs.Keys.{AreKeysOf}
use Rattle.kheap_slabs.specs.Owners.{Owners, IsOwned, OwnsItsObjects, node_keys}
use Rattle.kheap_slabs.specs.Spaces.{IsCounted}
use Rattle.open_laws.specs.Open.{HaveFronts, descriptors_by}
use Rattle.open_laws.specs.Described.{AreDescribed}
use Rattle.open_laws.specs.Owned.{HasItsEnds, IsHeldOpen, IsThereFor, all_namings, sock_in, socks_named}
use Rattle.open_laws.specs.Piped.{ArePiped}
use Rattle.open_laws.proofs.DropLemmas.{socketed_on}
use Rattle.open_laws.proofs.GoingLemmas.{named_on}
use Rattle.pipe_ends.specs.Standing.{IsPipeAt, LeavesOthers, StandsFor}
use Rattle.pipe_ends.proofs.StandingLemmas.{held_place, held_readers, held_writers, stands_for_one, stands_on}
use Rattle.open_laws.specs.Placed.{Numbers}
use Rattle.open_laws.proofs.PlaceLemmas.{placed_changed, put_at}
use Rattle.posix_defs.specs.Account.{Account, front_after, fronts_after, pipe_lengths, socket_lengths, unread_in_pipe}
use Rattle.posix_defs.specs.Files.State.{Files, with_pipe}
use Rattle.posix_defs.specs.Pipe.{Pipe}
use Rattle.proc_numbers.specs.Having.{HaveOpen, places_in}
use Rattle.proc_numbers.proofs.Listing.{openings_on}
use Rattle.proc_numbers.proofs.NumberCloses.{listed_on}
use Rattle.proc_table.specs.Procs.{numbers_in, proc_of}
use Rattle.proc_table.specs.Table.{TableView, processes, procs_at, with_procs}
use Rattle.proc_table.proofs.LawLemmas.{elsewhere_holds}
use Rattle.usock_core.specs.Standing.{IsHeldIn}
use Rattle.usock_core.proofs.StandingLemmas.{held_on}
use Rattle.proc_numbers.specs.Standing.{IsKept}
use Rattle.proc_numbers.proofs.FrontsMoved.{empty_pipe, front_stays, pipe_front, socket_fronts}

-- what a pipe of the heap says
abbrev Says : Heap → ℕ → HeldPipe → Pipe → Type 0
Says h key held pipe = (at : ℕ) × StandsFor h key pipe at

module _ (old new : Heap) (key : ℕ) (others : LeavesOthers old new key) where
  pub same_procs : new.procs ≡ old.procs
  same_procs = ap (λ (h : Heap). h.procs) others.kept

  same_leaves : new.leaves ≡ old.leaves
  same_leaves = ap (λ (h : Heap). h.leaves) others.kept

  pub same_nodes : new.nodes ≡ old.nodes
  same_nodes = ap (λ (h : Heap). h.nodes) others.kept

  pub same_pages : new.pages ≡ old.pages
  same_pages = ap (λ (h : Heap). h.pages) others.kept

  pub same_descs : new.descs ≡ old.descs
  same_descs = ap (λ (h : Heap). h.descs) others.kept

  pub same_socks : new.socks ≡ old.socks
  same_socks = ap (λ (h : Heap). h.socks) others.kept

  pub other_object : (other : ℕ) → other ≢ key → object new.pipes other ≡ object old.pipes other
  other_object other apart = others.objects other (λ among. apart (sym (Contains-single key other among)))

  other_stands : (other : ℕ) (pipe : Pipe) (at : ℕ) → other ≢ key → StandsFor old other pipe at → StandsFor new other pipe at
  other_stands other pipe at apart stands = stands_on old new other pipe at (other_object other apart) (others.pipes other apart) stands

  -- the spaces own what they owned, and the queues what all of them own now
  pub spaces_own : (owners : Owners) → IsOwned old owners → (owns : OwnsItsObjects new) → IsOwned new (record owners { queues = owns.0.queues })
  spaces_own owners is owns = record {
    nodes = subst (λ (n : List (Option Node)). AreKeysOf n (node_keys owners.spaces)) (sym same_nodes) is.nodes;
    mapped = λ other node at. is.mapped other node (ap (λ (n : List (Option Node)). object n other) (sym same_nodes) ∙ at);
    pages = subst (λ (n : List (Option Node)). IsCounted n new.pages) (sym same_nodes) (subst (λ (p : List (Option Page)). IsCounted old.nodes p) (sym same_pages) is.pages);
    chunks = owns.2.chunks;
    queues = owns.2.queues;
  }

  -- The pipe of the key has turned from one to another.
  module _ (pipe now : Pipe) (at place : ℕ) (was : StandsFor old key pipe at) (stands : StandsFor new key now place) where
    used : InUse old.pipes key
    used = ap is_some was.there

    piped_turned : (numbers : Numbers) (pipes : List (Option Pipe)) → ArePiped numbers old pipes → ArePiped numbers new (set pipes (numbers.pipes key) (Some now))
    piped_turned numbers pipes are =
        let there = are.there key was.held was.there in
        placed_changed (Says old) (Says new) numbers.pipes old.pipes new.pipes (object pipes) (object (set pipes (numbers.pipes key) (Some now))) key stands.held now used
        stands.there (put_at pipes (numbers.pipes key) there.0 (Some now) there.1) (place, stands) (record {
          objects = λ other apart. other_object other apart;
          things = λ other apart. get_or-set_other pipes (numbers.pipes key) other (Some now) None apart;
        })
        (λ other x y apart is said means. (means.0, other_stands other y means.0 apart means.1)) are

    pub open_turned : (numbers : Numbers) (kept : TableView) (files : Files) → HaveOpen numbers old kept files → HaveOpen numbers new kept (with_pipe files (numbers.pipes key) (Some now))
    open_turned numbers kept files have = record {
      list = have.list;
      opened = record {
        described = subst (λ (d : List (Option Desc)). AreDescribed numbers d have.list) (sym same_descs) have.opened.described;
        descriptions = have.opened.descriptions;
        piped = piped_turned numbers files.pipes have.opened.piped;
        socketed = socketed_on numbers old new files.sockets same_socks others.socks have.opened.socketed;
      };
      descriptors = record {
        each = λ pid. have.descriptors.each pid ∙ ap (λ (h : Heap). descriptors_by numbers.descs (places_in (numbers_in h) (proc_of (procs_at h.procs kept.listed) pid))) (sym others.kept);
        made = have.descriptors.made;
        openings = openings_on old new kept files.openings (ap (λ (h : Heap). h.procs) others.kept) have.descriptors.openings;
      };
    }

    -- the pipe has the ends that it had
    module _ (reads : now.readers ≡ pipe.readers) (writes : now.writers ≡ pipe.writers) where
      ends_turned : (other : ℕ) (held : HeldPipe) → object new.pipes other ≡ Some held → IsHeldOpen old → HasItsEnds new.descs other held
      ends_turned other held is open_so = elim (cases_eq other key) [
        | inl same ↦
            let ends = open_so.pipes key was.held was.there in
            let mine : object new.pipes key ≡ Some held = ap (object new.pipes) (sym same) ∙ is in
            let r : held.readers ≡ was.held.readers = held_readers new key held now place mine stands ∙ reads ∙ sym was.readers in
            let w : held.writers ≡ was.held.writers = held_writers new key held now place mine stands ∙ writes ∙ sym was.writers in
            let e1 = ends.readers in let e2 = ends.writers in let some = ends.some_end in
            subst (λ (n : ℕ). HasItsEnds new.descs n held) (sym same)
            (subst (λ (d : List (Option Desc)). HasItsEnds d key held) (sym same_descs)
            (record { readers = r ∙ e1; writers = w ∙ e2; some_end = omega (arith, some, r, w) }))
        | inr apart ↦
            subst (λ (d : List (Option Desc)). HasItsEnds d other held) (sym same_descs) (open_so.pipes other held (sym (other_object other apart) ∙ is))
      ]

      there_turned : (access : Access) (what : Target) → IsThereFor old access what → IsThereFor new access what
      there_turned access (target.Inode number) there = tt
      there_turned access (target.Pipe other) there = elim (cases_eq other key) [
        | inl same ↦ (subst (InUse new.pipes) (sym same) (ap is_some stands.there), there.1)
        | inr apart ↦ (ap is_some (other_object other apart) ∙ there.0, there.1)
      ]
      there_turned access (target.Sock sock) there = ap (λ (s : List (Option Sock)). is_some (object s sock)) same_socks ∙ there

      held_turned : IsHeldOpen old → IsHeldOpen new
      held_turned open_so = record {
        targets = λ other desc is. there_turned desc.access desc.target (open_so.targets other desc (ap (λ (d : List (Option Desc)). object d other) (sym same_descs) ∙ is));
        pipes = λ other held is. ends_turned other held is open_so;
        stand = λ other is. stand_turned other is (cases_eq other key) open_so;
        socks = subst (λ (d : List (Option Desc)). IsHeldIn new (socks_named d)) (sym same_descs) (held_on old new (socks_named old.descs) same_socks others.socks open_so.socks);
        once = λ one other sock first second.
            open_so.once one other sock (ap (λ (d : List (Option Desc)). sock_in (object d one)) (sym same_descs) ∙ first) (ap (λ (d : List (Option Desc)). sock_in (object d other)) (sym same_descs) ∙ second);
      }
        where
          stand_turned : (other : ℕ) → InUse new.pipes other → (other ≡ key) ⊎ (other ≢ key) → IsHeldOpen old → IsPipeAt new other
          stand_turned other is (inl same) open_so = (now, place, subst (λ (n : ℕ). StandsFor new n now place) (sym same) stands)
          stand_turned other is (inr apart) open_so =
              let stood = open_so.stand other (sym (ap is_some (other_object other apart)) ∙ is) in
              (stood.0, stood.1, other_stands other stood.0 stood.1 apart stood.2)

      pub kept_turned : (kept : TableView) → IsKept old kept → OwnsItsObjects new → IsKept new kept
      kept_turned kept is owns = record {
        holds = elsewhere_holds old new kept (record is.holds.owned.0 { queues = owns.0.queues }) same_procs (spaces_own (with_procs (processes old kept) is.holds.owned.0) is.holds.owned.1 owns) is.holds;
        listed = listed_on old new kept same_procs same_leaves is.listed;
        owners = record {
          objects = owns;
          named = named_on old new [] same_descs (λ other. ap (λ (h : Heap). all_namings h other) others.kept) is.owners.named;
          held = held_turned is.owners.held;
        };
      }

    -- the fronts, where the account has that of the pipe
    pub fronts_turned : (numbers : Numbers) (kept : TableView) (files : Files) (account : Account) → HaveOpen numbers old kept files → HaveFronts numbers old account
        → front_after (length pipe.bytes) (length now.bytes) at ≡ place
        → HaveFronts numbers new (record account {
          pipes = fronts_after (pipe_lengths files) (pipe_lengths (with_pipe files (numbers.pipes key) (Some now))) account.pipes;
          sockets = fronts_after (socket_lengths files) (socket_lengths files) account.sockets;
        })
    fronts_turned numbers kept files account have fronts moves = record {
      pipes = λ other held is. by_key other held is (cases_eq other key);
      socks = socket_fronts numbers old new files files account same_socks refl (open_turned numbers kept files have).opened.socketed fronts.socks;
    }
      where
        after : Files
        after = with_pipe files (numbers.pipes key) (Some now)

        mine : (p : Pipe) × (object files.pipes (numbers.pipes key) ≡ Some p)
        mine = have.opened.piped.there key was.held was.there

        its : Says old key was.held mine.0
        its = have.opened.piped.means key was.held mine.0 was.there mine.1

        by_key : (other : ℕ) (held : HeldPipe) → object new.pipes other ≡ Some held → (other ≡ key) ⊎ (other ≢ key)
            → slice_index (fronts_after (pipe_lengths files) (pipe_lengths (with_pipe files (numbers.pipes key) (Some now))) account.pipes) (numbers.pipes other) ≡ held.queue.place
        by_key other held is (inl same) =
            let here : object new.pipes key ≡ Some held = ap (object new.pipes) (sym same) ∙ is in
            ap (λ (n : ℕ). slice_index (fronts_after (pipe_lengths files) (pipe_lengths (with_pipe files (numbers.pipes key) (Some now))) account.pipes) (numbers.pipes n)) same
            ∙ pipe_front files (with_pipe files (numbers.pipes key) (Some now)) account.pipes (numbers.pipes key) (length pipe.bytes) now
            (put_at files.pipes (numbers.pipes key) mine.0 (Some now) mine.1)
            (ap unread_in_pipe mine.1 ∙ ap (λ (p : Pipe). length p.bytes) (stands_for_one old key mine.0 pipe its.0 at its.1 was).0)
            ∙ ap (front_after (length pipe.bytes) (length now.bytes)) (fronts.pipes key was.held was.there ∙ was.place)
            ∙ moves
            ∙ sym (held_place new key held now place here stands)
        by_key other held is (inr apart) =
            let there : object old.pipes other ≡ Some held = sym (other_object other apart) ∙ is in
            let thing = have.opened.piped.there other held there in
            let said = have.opened.piped.means other held thing.0 there thing.1 in
            let elsewhere : numbers.pipes other ≢ numbers.pipes key = λ same. apart (have.opened.piped.once other key (ap is_some there) used same) in
            pipe_front files (with_pipe files (numbers.pipes key) (Some now)) account.pipes (numbers.pipes other) (length thing.0.bytes) thing.0
            (get_or-set_other files.pipes (numbers.pipes key) (numbers.pipes other) (Some now) None elsewhere ∙ thing.1)
            (ap unread_in_pipe thing.1)
            ∙ front_stays (length thing.0.bytes) (length thing.0.bytes) (slice_index account.pipes (numbers.pipes other)) held.queue.place (omega arith)
            (fronts.pipes other held there)
            (λ none. held_place old other held thing.0 said.0 there said.1 ∙ empty_pipe old other thing.0 said.0 said.1 none)
