-- A process ends.
use Rattle.std.proofs.Common.{◌≡◌, ◌≢◌, ◌⊎◌, ℕ, ◌==◌, Bool, true, false, cond, List, [], ◌∷◌, filter, map, Option, None, Some, refl, sym, ap, ◌∙◌, subst, inl, inr}
use Rattle.std.specs.List.{AllByRecursion, filter_map, cons_option}
use Rattle.std.proofs.lemmas.Bool.Decides.{eqb_tells}
use Rattle.std.proofs.lemmas.List.{length-map}
use Rattle.kheap_slabs.specs.Objects.{object}
use Rattle.kheap_slabs.specs.declared.objects.Proc.{Proc}
use Rattle.kheap_slabs.specs.Heap.{Heap}
use Rattle.kheap_slabs.specs.Spaces.{keys_in}
use Rattle.posix_defs.specs.ByPid.{with_pid}
use Rattle.posix_defs.specs.Ending.{leaves}
use Rattle.posix_defs.specs.Ending as ending
use Rattle.posix_defs.specs.Memory.{Frames, no_memory}
use Rattle.posix_defs.specs.Process.{Table, process_at}
use Rattle.proc_table.specs.Accounting.{HasAccount}
use Rattle.proc_table.specs.Changes.{cleared, ended, is_alone, is_other, left_behind, left_by, left_child}
use Rattle.proc_table.specs.Moves.{MemoryStays, TableMoves}
use Rattle.proc_table.specs.Procs.{HasClosed, HasEnded, HasNoMemoryOnce, IsClosed, IsLight, memory_at, no_nodes, proc_of}
use Rattle.proc_table.specs.Standing.{AreFrom, IsTable, cleared_in, ends_in}
use Rattle.proc_table.specs.Table.{Holds, TableView, objects_after, places_kept, processes}
use Rattle.proc_table.proofs.AccountLemmas.{becomes_account}
use Rattle.proc_table.proofs.ChangedAccounts.{left_nodes}
use Rattle.proc_table.proofs.FamilyLemmas.{alone_is, leaves_cleared, leaves_is, left_pid, length-with_pid, reaped_is, same_table}
use Rattle.proc_table.proofs.HoldLemmas.{Becomes, becomes-moves, becomes-procs, memory_kept, memory_on, moves_on}
use Rattle.proc_table.proofs.MemoryLemmas.{no_memory_at, processes_same}
use Rattle.proc_table.proofs.OwnLemmas.{all_weaker, keys_left}
use Rattle.proc_table.proofs.PlaceLemmas.{Follows, Misses, eqb_is, eqb_other, eqb_same, follows_all, objects_after-missed, some_same}
use Rattle.proc_table.proofs.TurnLemmas.{GoesLight, with_nodes_pid}

-- who is cleared has no nodes
pub cleared_light : (procs : List Proc) (pid : ℕ) → HasClosed procs pid → AllByRecursion IsLight (map (cleared pid) procs) → AllByRecursion (GoesLight pid) (map (cleared pid) procs)
cleared_light [] pid closed light = tt
cleared_light (proc ∷ procs) pid closed light = (
  record {
    light = light.0;
    empty = λ same. by_case (proc.pid == pid) refl same;
    closed = λ same. as_open (proc.pid == pid) (closed.0 (sym (with_nodes_pid pid no_nodes proc) ∙ same));
  },
  cleared_light procs pid closed.1 light.1,
)
  where
    as_open : (b : Bool) → IsClosed proc → IsClosed (cond b (record proc { nodes = no_nodes }) proc)
    as_open true none = record { opens = none.opens; awake = none.awake }
    as_open false none = none

    by_case : (b : Bool) → (proc.pid == pid) ≡ b → (cleared pid proc).pid ≡ pid → keys_in (cleared pid proc).nodes ≡ []
    by_case true is same = ap (λ b. keys_in (cond b (record proc { nodes = no_nodes }) proc).nodes) is
    by_case false is same =
        let own : proc.pid ≡ pid = ap (λ b. (cond b (record proc { nodes = no_nodes }) proc).pid) (sym is) ∙ same in
        absurd (let known = eqb_same proc.pid pid own in let other = is in cc)

left_sound : (pid status : ℕ) → Becomes (GoesLight pid) (left_behind pid status)
left_sound pid status = record {
  pid = left_pid pid status;
  light = λ proc now goes is. light proc now goes is;
  keys = λ proc goes. keys proc goes;
}
  where
    child_light : (proc now : Proc) → IsLight proc → (told : Option ℕ) → left_child told proc ≡ Some now → IsLight now
    child_light proc now light None is = subst IsLight (some_same (Some now) (record proc { parent = 1 }) now (sym is) refl) (record { memory = light.memory; descriptors = light.descriptors; awake = light.awake })
    child_light proc now light (Some over) is = cc

    parent_light : (proc now : Proc) → IsLight proc → (b : Bool) → cond b (left_child proc.status proc) (Some proc) ≡ Some now → IsLight now
    parent_light proc now light true is = child_light proc now light proc.status is
    parent_light proc now light false is = subst IsLight (some_same (Some now) proc now (sym is) refl) light

    light_by : (proc now : Proc) → GoesLight pid proc → (b : Bool) → (proc.pid == pid) ≡ b
        → cond b (Some (record proc { status = Some status })) (cond (proc.parent == pid) (left_child proc.status proc) (Some proc)) ≡ Some now → IsLight now
    light_by proc now goes true own is =
        subst IsLight (some_same (Some now) (record proc { status = Some status }) now (sym is) refl)
        (let closed = goes.closed (eqb_is proc.pid pid own) in record { memory = goes.empty (eqb_is proc.pid pid own); descriptors = closed.opens; awake = closed.awake })
    light_by proc now goes false own is = parent_light proc now goes.light (proc.parent == pid) is

    light : (proc now : Proc) → GoesLight pid proc → left_behind pid status proc ≡ Some now → IsLight now
    light proc now goes is =
        light_by proc now goes (proc.pid == pid) refl is

    child_keys : (proc : Proc) (told : Option ℕ) → HasNoMemoryOnce told proc.nodes → keys_left (left_child told proc) ≡ keys_in proc.nodes
    child_keys proc None memory = refl
    child_keys proc (Some over) memory = sym memory

    parent_keys : (proc : Proc) → IsLight proc → (b : Bool) → keys_left (cond b (left_child proc.status proc) (Some proc)) ≡ keys_in proc.nodes
    parent_keys proc light true = child_keys proc proc.status light.memory
    parent_keys proc light false = refl

    keys_by : (proc : Proc) → IsLight proc → (b : Bool)
        → keys_left (cond b (Some (record proc { status = Some status })) (cond (proc.parent == pid) (left_child proc.status proc) (Some proc))) ≡ keys_in proc.nodes
    keys_by proc light true = refl
    keys_by proc light false = parent_keys proc light (proc.parent == pid)

    keys : (proc : Proc) → GoesLight pid proc → keys_left (left_behind pid status proc) ≡ keys_in proc.nodes
    keys proc goes = keys_by proc goes.light (proc.pid == pid)

-- who has ended is there
pub has_ended : (procs : List Proc) (pid status : ℕ) (proc : Proc) → proc_of procs pid ≡ Some proc → HasEnded (left_by pid status procs) pid
has_ended [] pid status proc is = cc
has_ended (first ∷ procs) pid status proc is = by_case (eqb_tells first.pid pid) (has_ended procs pid status proc)
  where
    rest : List Proc
    rest = left_by pid status procs

    over : Proc
    over = record first { nodes = no_nodes; status = Some status }

    behind : (o : Option Proc) → first.pid ≢ pid → left_behind pid status first ≡ o → HasEnded (left_by pid status procs) pid → HasEnded (cons_option o (left_by pid status procs)) pid
    behind None apart left found = found
    behind (Some now) apart left found = record {
      proc = found.proc;
      status = found.status;
      there = ap (λ b. cond b (Some now) (proc_of (left_by pid status procs) pid)) (eqb_other now.pid pid (λ same. apart (sym (left_pid pid status first now left) ∙ same))) ∙ found.there;
      over = found.over;
    }

    by_case : (((first.pid == pid) ≡ true) × (first.pid ≡ pid)) ⊎ (((first.pid == pid) ≡ false) × (first.pid ≢ pid))
        → (proc_of procs pid ≡ Some proc → HasEnded (left_by pid status procs) pid) → HasEnded (left_by pid status (first ∷ procs)) pid
    by_case (inl same) found =
        let gone : left_behind pid status (cleared pid first) ≡ Some (record first { nodes = no_nodes; status = Some status }) =
        ap (λ b. left_behind pid status (cond b (record first { nodes = no_nodes }) first)) same.0
        ∙ ap (λ b. cond b (Some (record first { nodes = no_nodes; status = Some status })) (cond (first.parent == pid) (left_child first.status (record first { nodes = no_nodes })) (Some (record first { nodes = no_nodes })))) same.0 in
        subst (λ o. HasEnded (cons_option o (left_by pid status procs)) pid) (sym gone)
        (record {
          proc = record first { nodes = no_nodes; status = Some status };
          status = status;
          there = ap (λ b. cond b (Some (record first { nodes = no_nodes; status = Some status })) (proc_of (left_by pid status procs) pid)) same.0;
          over = refl;
        })
    by_case (inr other) found =
        subst (λ p. HasEnded (cons_option (left_behind pid status p) (left_by pid status procs)) pid)
        (sym (ap (λ b. cond b (record first { nodes = no_nodes }) first) other.0))
        (behind (left_behind pid status first) other.1 refl (found (sym (ap (λ b. cond b (Some first) (proc_of procs pid)) other.0) ∙ is)))

-- A process that is cleared leaves its children, and has ended.
module _ (old mid new : Heap) (was between now : TableView) (pid status : ℕ) (holds : Holds old was) (closed : HasClosed (processes old was) pid)
    (first : TableMoves old was mid between) (same : between ≡ was)
    (cleared_is : processes mid between ≡ map (cleared pid) (processes old was))
    (memory : MemoryStays old mid (filter (is_other pid) (processes old was)))
    (tables : (table : Table) → IsTable old was table → IsTable mid between (cleared_in table pid))
    (left : new ≡ record mid { procs = objects_after (left_behind pid status) mid.procs between.listed })
    (listed : now ≡ record between { listed = places_kept (left_behind pid status) mid.procs between.listed }) where
  procs_are : new.procs ≡ objects_after (left_behind pid status) mid.procs between.listed
  procs_are = ap (λ (h : Heap). h.procs) left

  follows : Follows (left_behind pid status) mid.procs new.procs between.listed
  follows = subst (λ procs. Follows (left_behind pid status) mid.procs procs between.listed) (sym procs_are)
      (follows_all (left_behind pid status) mid.procs between.listed 0 between.last first.holds.stored first.holds.rising)

  missed : (key : ℕ) → Misses key between.listed → object new.procs key ≡ object mid.procs key
  missed key misses = ap (λ procs. object procs key) procs_are ∙ objects_after-missed (left_behind pid status) mid.procs between.listed key misses

  all : AllByRecursion (GoesLight pid) (processes mid between)
  all = subst (AllByRecursion (GoesLight pid)) (sym cleared_is) (cleared_light (processes old was) pid closed (subst (AllByRecursion IsLight) cleared_is first.holds.light))

  kept : new ≡ record mid { procs = new.procs }
  kept = left ∙ ap (λ (procs : List (Option Proc)). record mid { procs = procs }) (sym procs_are)

  none : AllByRecursion (λ proc. proc.pid ≡ pid → memory_at new proc.nodes ≡ no_memory) (processes mid between)
  none = all_weaker (GoesLight pid) (λ proc. proc.pid ≡ pid → memory_at new proc.nodes ≡ no_memory) (processes mid between)
      (λ proc goes own. no_memory_at new proc.nodes (goes.empty own)) all

  pub left-procs : processes new now ≡ left_by pid status (processes old was)
  left-procs =
      ap (processes new) listed
      ∙ becomes-procs (GoesLight pid) (left_behind pid status) (left_sound pid status) mid new between first.holds all follows missed kept
      ∙ ap (filter_map (left_behind pid status)) cleared_is

  pub left-moves : TableMoves old was new now
  left-moves =
      moves_on old mid new was between now first
      (subst (TableMoves mid between new) (sym listed) (becomes-moves (GoesLight pid) (left_behind pid status) (left_sound pid status) mid new between first.holds all follows missed kept))

  pub left-memory : MemoryStays old new (filter (is_other pid) (processes old was))
  left-memory = memory_on old mid new (filter (is_other pid) (processes old was)) memory
      (memory_kept mid new (filter (is_other pid) (processes old was)) (ap (λ (h : Heap). h.nodes) left) (ap (λ (h : Heap). h.pages) left))

  pub left-last : now.last ≡ was.last
  left-last = ap (λ (t : TableView). t.last) listed ∙ ap (λ (t : TableView). t.last) same

  pub left-table : (table : Table) → IsTable old was table → IsTable new now (leaves table pid status)
  left-table table is =
      let between_is = tables table is in
      record {
        present = subst (AreFrom new 1 (leaves table pid status))
            (sym (ap (processes new) listed ∙ becomes-procs (GoesLight pid) (left_behind pid status) (left_sound pid status) mid new between first.holds all follows missed kept))
            (subst (λ t. AreFrom new 1 t (filter_map (left_behind pid status) (processes mid between))) (leaves_cleared table pid status)
            (leaves_is new (cleared_in table pid) (processes mid between) pid status none
            (same_table between_is.present new
            (processes_same mid new (processes mid between) (memory_kept mid new (processes mid between) (ap (λ (h : Heap). h.nodes) left) (ap (λ (h : Heap). h.pages) left))))));
        made = length-with_pid (map (ending.left_behind pid) table) pid (ending.ended_as status (process_at table pid)) ∙ length-map table (ending.left_behind pid) ∙ is.made ∙ sym left-last;
      }

  pub left-account : (frames : Frames) → HasAccount mid between frames → HasAccount new now frames
  left-account frames has =
      becomes_account (GoesLight pid) (left_behind pid status) mid new between now frames (left_pid pid status) (λ proc now goes is. left_nodes pid status proc now is) empty all
      (ap (processes new) listed ∙ becomes-procs (GoesLight pid) (left_behind pid status) (left_sound pid status) mid new between first.holds all follows missed kept)
      (ap (λ (t : TableView). t.last) listed) (ap (λ (h : Heap). h.nodes) left) (ap (λ (h : Heap). h.pages) left) has
    where
      empty : (proc : Proc) → GoesLight pid proc → left_behind pid status proc ≡ None → keys_in proc.nodes ≡ []
      empty proc goes gone = sym (Becomes.keys (left_sound pid status) proc goes) ∙ ap keys_left gone

  -- somebody may wait for it
  pub stays-procs : is_alone pid (processes old was) ≡ false → processes new now ≡ ended pid status (processes old was)
  stays-procs accompanied =
      left-procs
      ∙ ap (λ b. cond b (filter (is_other pid) (left_by pid status (processes old was))) (left_by pid status (processes old was))) (sym accompanied)

  pub stays-table : is_alone pid (processes old was) ≡ false → (table : Table) → IsTable old was table → IsTable new now (ends_in table pid status)
  stays-table accompanied table is =
      subst (λ b. IsTable new now (cond b (with_pid (leaves table pid status) pid None) (leaves table pid status)))
      (sym (sym (alone_is old table (processes old was) pid is.present) ∙ accompanied))
      (left-table table is)

-- and nobody may, so it goes
module _ (old mid new : Heap) (was between now : TableView) (pid status : ℕ) (alone : is_alone pid (processes old was) ≡ true)
    (left_is : processes mid between ≡ left_by pid status (processes old was))
    (tables : (table : Table) → IsTable old was table → IsTable mid between (leaves table pid status))
    (gone : processes new now ≡ filter (is_other pid) (processes mid between)) (left : new ≡ record mid { procs = new.procs })
    (last : now.last ≡ between.last) where
  pub goes-procs : processes new now ≡ ended pid status (processes old was)
  goes-procs =
      gone ∙ ap (filter (is_other pid)) left_is
      ∙ ap (λ b. cond b (filter (is_other pid) (left_by pid status (processes old was))) (left_by pid status (processes old was))) (sym alone)

  pub goes-table : (table : Table) → IsTable old was table → IsTable new now (ends_in table pid status)
  goes-table table is =
      let between_is = tables table is in
      subst (λ b. IsTable new now (cond b (with_pid (leaves table pid status) pid None) (leaves table pid status)))
      (sym (sym (alone_is old table (processes old was) pid is.present) ∙ alone))
      (record {
        present = subst (AreFrom new 1 (with_pid (leaves table pid status) pid None)) (sym gone)
            (reaped_is new (leaves table pid status) (processes mid between) pid
            (same_table between_is.present new
            (processes_same mid new (processes mid between) (memory_kept mid new (processes mid between) (ap (λ (h : Heap). h.nodes) left) (ap (λ (h : Heap). h.pages) left)))));
        made = length-with_pid (leaves table pid status) pid None ∙ between_is.made ∙ sym last;
      })
