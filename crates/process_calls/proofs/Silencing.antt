-- A process that has closed what it had open sleeps in no open any more: what the objects keep then, and stand for.
use Rattle.std.proofs.Common.{◌≡◌, ℕ, ◌+◌, ◌==◌, Bool, true, false, cond, List, Option, None, Some, map, refl, ap, sym, subst, ◌∙◌}
use Rattle.std.specs.Option.{option_map}
use Rattle.kabi_types.specs.declared.scripts.Script.{Script}
use Rattle.kheap_slabs.specs.declared.objects.Proc.{Proc}
use Rattle.kheap_slabs.specs.declared.objects.Sock.{Sock}
use Rattle.kheap_slabs.specs.Heap.{Heap}
use Rattle.memfs_ops.specs.FileTree.{TreeView}
use Rattle.open_laws.proofs.GoingLemmas.{open_on}
use Rattle.open_laws.specs.Placed.{Numbers}
use Rattle.posix_defs.specs.Files.Closing.{after_end_of}
use Rattle.posix_defs.specs.Files.State.{Files, with_opening}
use Rattle.posix_defs.specs.Memory.{Frames}
use Rattle.posix_defs.specs.Process.{Table}
use Rattle.proc_numbers.specs.Having.{HaveOpen}
use Rattle.proc_files.specs.Ending.{ClosesEach, closed_each}
use Rattle.proc_files.specs.Holders.{holders, times}
use Rattle.proc_files.specs.NameHolding.{HoldNames}
use Rattle.proc_files.specs.Names.{AreBound, name_of}
use Rattle.proc_files.proofs.Holding.{same_pins, stands_on}
use Rattle.proc_files.proofs.Openings.{all_same, same_node, same_nodes}
use Rattle.proc_table.specs.Accounting.{HasAccount}
use Rattle.proc_table.specs.Changes.{replaced}
use Rattle.proc_table.specs.Moves.{TableMoves}
use Rattle.proc_table.specs.Procs.{HasClosed, IsAlive, closed_all, proc_of}
use Rattle.proc_table.specs.Standing.{IsTable}
use Rattle.proc_table.specs.Table.{TableView}
use Rattle.proc_table.proofs.FamilyLemmas.{proc_has_pid}
use Rattle.proc_table.proofs.LawLemmas.{on-table, only_one}
use Rattle.proc_table.proofs.PlaceLemmas.{eqb_same, some_same}
use Rattle.store_objects.specs.declared.objects.Objects.{Objects}
use Rattle.store_objects.specs.Objects.{AreKept, WaitsIn, procs_of}
use Rattle.store_objects.proofs.GoingOn.{account_changed, descriptors_slept, moves_changed, procs_changed, rising_in}
use Rattle.store_objects.proofs.Sleeping.{kept_sleeping, sleeping}
use Rattle.process_calls.specs.Endings.{HoldBeside, shut, silent}
use Rattle.process_calls.proofs.Closing.{closed_at, shut_account, shut_procs, shut_table, silent_then, with_heap}
use Rattle.process_calls.proofs.Holding.{table_caches}
use Rattle.process_calls.proofs.Shutting.{found_changing, found_shut, has_shut}

module _ (script : Script) (old : Objects) (heap : Heap) (tree : TreeView) (names : List (Option ℕ)) (first held : Option ℕ) (pid : ℕ) (now : Objects) (kept : AreKept script old)
    (closes : ClosesEach old.heap heap old.procs pid) (alive : IsAlive (procs_of old) pid) (between : AreKept script (with_heap old heap tree names first held))
    (waits : WaitsIn (with_heap old heap tree names first held) pid None now) where
  abbrev mid : Objects
  mid = with_heap old heap tree names first held

  abbrev was : Proc
  was = alive.proc

  closed_procs : procs_of mid ≡ map (closed_at pid) (procs_of old)
  closed_procs = shut_procs old.heap heap old.procs pid kept.holds closes

  it_is : waits.proc ≡ closed_all was
  it_is =
      some_same (proc_of (procs_of mid) pid) waits.proc (closed_all was) waits.found
      (ap (λ procs. proc_of procs pid) closed_procs
      ∙ found_changing closed_all (λ p. refl) (λ p. refl) pid (procs_of old) pid
      ∙ ap (option_map (closed_at pid)) alive.there
      ∙ ap (λ b. Some (cond b (closed_all was) was)) (eqb_same was.pid pid (proc_has_pid (procs_of old) pid was alive.there)))

  pub silenced : procs_of now ≡ map (shut pid) (procs_of old)
  silenced =
      procs_changed script mid now pid (sleeping None) between waits
      ∙ ap (λ (p : Proc). map (replaced pid (sleeping None p)) (procs_of mid)) it_is
      ∙ ap (map (replaced pid (silent was))) closed_procs
      ∙ silent_then pid was (procs_of old) (only_one (procs_of old) 0 pid was (rising_in script old kept) alive.there)

  pub kept_silent : AreKept script now
  kept_silent = kept_sleeping script mid now pid None between waits

  pub alive_silent : IsAlive (procs_of now) pid
  alive_silent = record {
    proc = shut pid was;
    there = ap (λ procs. proc_of procs pid) silenced ∙ found_shut pid (procs_of old) pid ∙ ap (option_map (shut pid)) alive.there;
    runs = by_pid (was.pid == pid) ∙ alive.runs;
  }
    where
      by_pid : (b : Bool) → (cond b (silent was) was).status ≡ was.status
      by_pid true = refl
      by_pid false = refl

  pub closed_silent : HasClosed (procs_of now) pid
  closed_silent = subst (λ procs. HasClosed procs pid) (sym silenced) (has_shut pid (procs_of old))

  pub moves_silent : TableMoves heap old.procs now.heap now.procs
  moves_silent = moves_changed script mid now pid (sleeping None) between waits

  pub table_silent : (table : Table) → IsTable old.heap old.procs table → IsTable now.heap now.procs table
  table_silent table is =
      subst (λ (view : TableView). IsTable now.heap view table) (sym waits.same)
      (on-table mid.heap now.heap mid.procs pid waits.key waits.proc (sleeping None waits.proc) between.holds waits.turns table refl refl (shut_table old.heap heap old.procs pid kept.holds closes table is))

  pub account_silent : (frames : Frames) → HasAccount old.heap old.procs frames → HasAccount now.heap now.procs frames
  account_silent frames has = account_changed script mid now pid (sleeping None) between waits frames (shut_account old.heap heap old.procs pid kept.holds closes frames has)

  -- what it had open is closed, and it sleeps in none
  module _ (numbers : Numbers) (others : ℕ → ℕ) (files : Files) (hold : HoldNames numbers others heap old.procs tree names files) where
    abbrev then : Files
    then = with_opening files pid None

    opened_then : HaveOpen numbers now.heap now.procs then
    opened_then = record {
      list = hold.held.opened.list;
      opened = open_on numbers heap now.heap hold.held.opened.list files then (ap (λ (h : Heap). h.descs) moves_silent.kept) (ap (λ (h : Heap). h.pipes) moves_silent.kept)
          (ap (λ (h : Heap). h.socks) moves_silent.kept) (ap (λ (h : Heap). h.chunks) moves_silent.kept) refl refl refl hold.held.opened.opened;
      descriptors = descriptors_slept script mid now pid (sleeping None) between waits files numbers.descs hold.held.opened.descriptors;
    }

    pub held_silent : HoldNames numbers others now.heap now.procs now.tree now.names then
    held_silent =
        subst (λ fs. HoldNames numbers others now.heap now.procs fs now.names then) (sym waits.tree)
        (subst (λ list. HoldNames numbers others now.heap now.procs tree list then) (sym waits.names)
        (record {
          held = record {
            opened = opened_then;
            tree = same_pins now.heap tree files.tree (holders others files) (holders others then)
                (λ n. ap (λ nodes. others n + times n nodes) (same_nodes files then files.descriptions (all_same files then files.descriptions refl)))
                (stands_on heap now.heap tree files.tree (holders others files) (table_caches heap now.heap old.procs now.procs moves_silent) hold.held.tree);
            nodes = λ place number d there on. hold.held.nodes place number d there (same_node files then refl d.target ∙ on);
            beside = hold.held.beside;
          };
          bound = subst (λ (socks : List (Option Sock)). AreBound (name_of socks) names) (sym (ap (λ (h : Heap). h.socks) moves_silent.kept)) hold.bound;
          named = record { bound = hold.named.bound; waiting = hold.named.waiting };
          places = hold.places;
        }))

  pub held_shut : (numbers : Numbers) (others : ℕ → ℕ) (files : Files) → HoldNames numbers others heap old.procs tree names (closed_each files pid) → HoldBeside numbers others now (after_end_of files pid)
  unfolding closed_each after_end_of
  held_shut numbers others files hold = held_silent numbers others (closed_each files pid) hold
