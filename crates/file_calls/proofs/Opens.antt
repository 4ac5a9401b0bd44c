-- What an open leaves of the caches.
use Rattle.std.proofs.Common.{◌≡◌, ℕ, ◌<◌, ◌&&◌, ◌||◌, ℤ, true, false, cond, List, Option, None, Some, is_none, is_some, Result, Ok, Err, refl, ap, sym, subst, ◌∙◌, arith}
use Rattle.std.specs.Prelude.{OnOk}
use Rattle.std.specs.Option.{option_and_then}
use Rattle.std.proofs.lemmas.Bool.{false≢true}
use Rattle.kabi_types.specs.Arguments.{argument_fault}
use Rattle.kabi_types.specs.PathParts.{components}
use Rattle.kabi_types.specs.declared.calls.Call.TheVariants as call
use Rattle.kabi_types.specs.declared.scripts.Script.{Script}
use Rattle.kabi_types.specs.declared.classes.Need.{Need}
use Rattle.kabi_types.specs.declared.errnos.Errno.{Errno}
use Rattle.kheap_slabs.specs.Purse.{Purse}
use Rattle.kheap_slabs.specs.declared.objects.Proc.{Proc}
use Rattle.disk_layout.specs.Disk.{Disk}
use Rattle.memfs_ops.specs.FileTree.{KeepsLast, KnowsWay, Stands, in_call}
use Rattle.memfs_ops.proofs.PinLemmas.{held_cached}
use Rattle.open_laws.specs.Placed.{Numbers}
use Rattle.posix_defs.specs.Calls.OnFiles.{open_by, opening_of}
use Rattle.posix_defs.specs.Files.Descriptions.{access_of, has_flag, o_creat, o_trunc}
use Rattle.posix_defs.specs.Files.State.{HalfOpen, opening_at}
use Rattle.posix_defs.specs.Needs.{need_of}
use Rattle.posix_defs.proofs.PriceLemmas.{right_needs}
use Rattle.posix_defs.specs.PathCalls.{open_path}
use Rattle.posix_defs.specs.Paths.{IsLed, begins_at, resolve}
use Rattle.posix_defs.specs.Plain.{Plain, with_files}
use Rattle.posix_defs.specs.Process.{directory_of}
use Rattle.posix_defs.specs.Reaching.{IsLeft, ends_node, knows, knows_way, last_of, reaches_node}
use Rattle.posix_defs.specs.Tree.{Tree}
use Rattle.posix_defs.specs.World.{Kept, World}
use Rattle.tree_laws.proofs.PathLeads.{path_led}
use Rattle.proc_files.specs.Opening.{AnswersOpening, LeadsTo, opened_answer}
use Rattle.proc_files.proofs.OpenLeads.{open_leads}
use Rattle.proc_files.specs.declared.opening.Opened.{Opened}
use Rattle.proc_files.specs.declared.opening.Opened.TheVariants as opened
use Rattle.proc_files.specs.Holders.{holders}
use Rattle.proc_table.specs.Procs.{proc_of}
use Rattle.store_objects.specs.declared.objects.Objects.{Objects}
use Rattle.store_objects.specs.Objects.{procs_of}
use Rattle.store_objects.specs.Standing.{StandsFor}
use Rattle.store_objects.specs.Trees.{kept_by, others_in, pins_in}
use Rattle.store_objects.proofs.HoldsFiles.{works_in_directory}
use Rattle.file_calls.specs.Opening.{LeavesOpening}
use Rattle.path_calls.proofs.Stated.{knows_it}
use Rattle.path_calls.proofs.Walked.{holds_directory, works_there}
use Rattle.file_calls.proofs.Opened.{HasOpened, has_opened, known_open, leads_there, open_left}

-- an open may make one description
pub one_left : (path : List ℕ) (flags : ℤ) (purse : Purse) → argument_fault (call.OpenFile path flags) ≡ None → purse.left ≡ need_of (call.OpenFile path flags) → 0 < purse.left.desc
one_left path flags purse right needed =
    let one : purse.left.desc ≡ 1 = ap (λ (need : Need). need.desc) (needed ∙ right_needs (call.OpenFile path flags) right) in omega (arith, one)

-- and one Leaf
pub leaf_left : (path : List ℕ) (flags : ℤ) (purse : Purse) → argument_fault (call.OpenFile path flags) ≡ None → purse.left ≡ need_of (call.OpenFile path flags) → 0 < purse.left.leaf
leaf_left path flags purse right needed =
    let one : purse.left.leaf ≡ 1 = ap (λ (need : Need). need.leaf) (needed ∙ right_needs (call.OpenFile path flags) right) in omega (arith, one)

-- and one Pipe
pub pipe_left : (path : List ℕ) (flags : ℤ) (purse : Purse) → argument_fault (call.OpenFile path flags) ≡ None → purse.left ≡ need_of (call.OpenFile path flags) → 0 < purse.left.pipe
pipe_left path flags purse right needed =
    let one : purse.left.pipe ≡ 1 = ap (λ (need : Need). need.pipe) (needed ∙ right_needs (call.OpenFile path flags) right) in omega (arith, one)

module _ (script : Script) (old mid : Objects) (before : Purse) (pid : ℕ) (path : List ℕ) (flags : ℤ) (proc : Proc) (found : proc_of (procs_of old) pid ≡ Some proc) (up : proc.status ≡ None)
    (right : argument_fault (call.OpenFile path flags) ≡ None) (came : Result Opened Errno)
    (saved : (proc : Proc) (plain : Tree) (pins : ℕ → ℕ) → proc_of (procs_of old) pid ≡ Some proc → Stands old.heap old.tree plain pins
    → KnowsWay (in_call old.heap before old.tree) plain proc.cwd path → has_flag flags o_trunc ≡ false → mid.tree.disk ≡ old.tree.disk)
    (kept : (proc : Proc) (plain : Tree) (pins : ℕ → ℕ) → proc_of (procs_of old) pid ≡ Some proc → Stands old.heap old.tree plain pins → OnOk came (KeepsLast mid.tree (resolve plain proc.cwd path))) where
  module _ (world : World) (stands : StandsFor script old world) where
    abbrev tree : Tree
    tree = world.plain.files.tree

    works : directory_of world.plain.table pid ≡ proc.cwd
    works = works_there script old world pid proc stands found

    led_there : IsLed tree (resolve tree proc.cwd path)
    led_there = path_led tree proc.cwd path stands.tree.stands.is_tree (works_in_directory script old world pid proc stands found up)

    leads : (node : ℕ) (next : Tree) → open_path tree (directory_of world.plain.table pid) path (opening_of flags) ≡ Ok (node, next) → LeadsTo tree next node (access_of flags)
    leads node next led =
        open_leads tree flags (resolve tree proc.cwd path) node next stands.tree.stands.is_tree led_there (ap (λ dir. open_path tree dir path (opening_of flags)) (sym works) ∙ led)

    -- what the machine came to where the tree led so
    abbrev Answers : Numbers → Type 0
    Answers numbers = AnswersOpening numbers (others_in world.plain) old.heap mid.heap old.procs mid.tree script world.plain pid (open_by script world.plain pid path flags None) came

    -- a number that was told is that of a node which is kept with its name
    left_by : (numbers : Numbers) (number : ℕ) → came ≡ Ok (opened.Over number) → (it : Answers numbers)
        → IsLeft it.files.tree (kept_by mid.tree) (last_of (resolve tree (directory_of world.plain.table pid) path))
    left_by numbers number is it =
        let has : HasOpened world.plain pid path flags it.files =
        has_opened script world.plain pid path flags number it.files leads (it.answers ∙ ap (opened_answer script world.plain it.files pid) is) in
        let at : open_path tree proc.cwd path (opening_of flags) ≡ Ok (has.node, has.next) = ap (λ dir. open_path tree dir path (opening_of flags)) (sym works) ∙ has.led in
        let some : 0 < holders (others_in world.plain) it.files has.node = (let opens = has.opens in omega (arith, opens)) in
        let slot = held_cached (holders (others_in world.plain) it.files) mid.heap.vnodes mid.tree.vnodes has.node it.holds.tree.nodes it.holds.tree.held some in
        let last = subst (λ o. OnOk o (KeepsLast mid.tree (resolve tree proc.cwd path))) is (kept proc tree (pins_in world.plain) found stands.tree.stands) in
        subst (λ (t : Tree). IsLeft t (kept_by mid.tree) (last_of (resolve tree (directory_of world.plain.table pid) path))) (sym has.tree)
        (subst (λ dir. IsLeft has.next (kept_by mid.tree) (last_of (resolve tree dir path))) (sym works)
        (open_left mid.tree (resolve tree proc.cwd path) has.node has.next last (leads_there tree (opening_of flags) (resolve tree proc.cwd path) has.node has.next led_there at) slot))

    untouched : (next : Plain) → reaches_node world.plain pid (call.OpenFile path flags) next ≡ false → (kept_by mid.tree ≡ kept_by old.tree) × (mid.tree.disk.reads ≡ old.tree.disk.reads)
    untouched next none =
        absurd (false≢true (sym none ∙ ap (λ (fault : Option Errno). (is_none fault && true) || ends_node world.plain.files next.files) right))

    known : knows_way world.plain world.kept pid (call.OpenFile path flags) ≡ true → mid.tree.disk.reads ≡ old.tree.disk.reads
    known knows_it_all =
        let neither = known_open (has_flag flags o_creat) (has_flag flags o_trunc) path (λ p. knows tree world.kept (begins_at (directory_of world.plain.table pid) p) (components p)) knows_it_all in
        let way = knows_it old.heap before old.tree world.plain proc.cwd path stands.tree.stands (holds_directory script old world pid proc stands found up)
        (subst (λ dir. knows tree (kept_by old.tree) (begins_at dir path) (components path) ≡ true) works
        (subst (λ (k : Kept). knows tree k (begins_at (directory_of world.plain.table pid) path) (components path) ≡ true) stands.tree.kept neither.1)) in
        ap (λ (disk : Disk). disk.reads) (saved proc tree (pins_in world.plain) found stands.tree.stands way neither.0)

    -- where its caller has begun another open, the name isn't asked for
    named : (t : Tree) (o : Option HalfOpen) → IsLeft t (kept_by mid.tree) (last_of (resolve tree (directory_of world.plain.table pid) path))
        → IsLeft t (kept_by mid.tree) (option_and_then (λ p. last_of (resolve tree (directory_of world.plain.table pid) p)) (cond (is_some o) None (Some path)))
    named t None left = left
    named t (Some opening) left = tt

    pub leaves_open : (numbers : Numbers) (it : Answers numbers) → LeavesOpening old mid world pid (call.OpenFile path flags) came (with_files world.plain it.files)
    leaves_open numbers it = by_came came refl
      where
        by_came : (o : Result Opened Errno) → came ≡ o → LeavesOpening old mid world pid (call.OpenFile path flags) o (with_files world.plain it.files)
        by_came (Ok (opened.Over number)) is = record {
          untouched = untouched (with_files world.plain it.files);
          left = λ ok. named it.files.tree (opening_at world.plain.files pid) (left_by numbers number is it);
          known = known;
        }
        by_came (Ok (opened.Waits opening)) is = (untouched (with_files world.plain it.files), known)
        by_came (Err errno) is = record { untouched = untouched (with_files world.plain it.files); left = λ ok. absurd (false≢true ok); known = known }
