use Rattle.std.proofs.Common.{is_some, ◌≡◌, ◌∙◌, ◌<◌, ◌≤◌, true, [], Err, Ok, ap, refl, sym, subst, w64}
use Rattle.std.specs.Prelude.{IfSome}
use Rattle.std.proofs.lemmas.Int.{to_z-of_z}
use Rattle.kabi_types.specs.OpenFlags.{are_open_flags}
use Rattle.fifo_nodes.proofs.ChainLemmas.{chain_kept}
use Rattle.pipe_ends.proofs.LinkLemmas.{links_same}
use Rattle.kheap_laws.proofs.PaidLemmas.{CanPay-kept, IsPaid-trans}
use Rattle.kheap_slabs.specs.Purse.{Purse}
use Rattle.kheap_slabs.specs.Heap.{Heap}
use Rattle.memfs_ops.specs.FileTree.{KeepsLast, KnowsWay, in_call}
use Rattle.memfs_ops.specs.Opening.{KeepsOpened, OpenedAs, asks_of}
use Rattle.posix_defs.specs.Calls.OnFiles.{opened_node_as, opening_of}
use Rattle.posix_defs.specs.PathCalls.{Opening, open_path}
use Rattle.posix_defs.specs.Paths.{resolve}
use Rattle.posix_defs.specs.Tree.{is_directory}
use Rattle.proc_numbers.specs.Naming.{named_at}
use Rattle.proc_numbers.proofs.Fronts.{queues_same, queues_then}
use Rattle.proc_numbers.proofs.NumberCloses.{no_some}
use Rattle.proc_numbers.proofs.Changes.{changes_nothing}
use Rattle.proc_numbers.proofs.Lowest.{IsLowest}
use Rattle.proc_files.specs.Holders.{holders}
use Rattle.proc_files.specs.Opening.{AnswersOpening, HasLed}
use Rattle.proc_files.proofs.Beside.{listed_beside, owners_beside, same_locks, same_pipes, same_socks}
use Rattle.proc_files.proofs.Changing.{caches_before, holding_of}
use Rattle.proc_files.proofs.HoldMade.{may_hold}
use Rattle.proc_files.proofs.OpenAnswers.{answers_before, fault_holds, keeps_last, led_by, on_any, open_full, open_walks, reads_same, right_open}
use Rattle.proc_files.proofs.opening.open_path.Goals as goal

-- ---- no number is free

pub returns-in_default-clause-answers : goal.returns-in_default-clause-answers
returns-in_default-clause-answers c = λ numbers others script plain table hold.
    let none = no_some c.lowest_from.result c.in_default.not-Some in
    record {
      now = numbers;
      keeps = record { descs = λ key used. refl; pipes = λ key used. refl; socks = λ key used. refl; frames = refl };
      files = plain.files;
      answers = open_full script plain c.args.place.pid c.args.path.now c.args.flags (c.lowest_from.ensures.lowest numbers plain.files hold.opened ∙ none);
      holds = hold;
    }

pub returns-in_default-clause-hold : goal.returns-in_default-clause-hold
returns-in_default-clause-hold c =
    let works = c.requires.works in record { numbers = works.numbers; others = works.others; files = works.files; hold = works.hold }

pub returns-in_default-clause-changes : goal.returns-in_default-clause-changes
returns-in_default-clause-changes c =
    holding_of c.args.heap.now c.args.heap.now c.args.procs.now c.args.place.pid (changes_nothing c.args.heap.now c.args.procs.now c.args.place.pid c.requires.listed (ap is_some c.requires.there))

pub returns-in_default-clause-queues : goal.returns-in_default-clause-queues
returns-in_default-clause-queues c = queues_same c.args.heap.now c.args.heap.now refl refl

-- ---- one is

pub asked_by-how-requires : goal.asked_by-how-requires
asked_by-how-requires c =
    let flags = to_z-of_z w64 c.args.flags c.ranges.flags in
    subst (λ z. are_open_flags z ≡ true) (sym flags) (right_open c.args.path.now c.args.flags c.requires.right).0

pub open_node-requires-clause-stands : goal.open_node-requires-clause-stands
open_node-requires-clause-stands c =
    let works = c.requires.works in (
      works.files.tree,
      holders works.others works.files,
      works.hold.tree,
      ap (is_directory works.files.tree) (c.directory_of-cwd.ensures.works works.proc works.found) ∙ works.directory,
      may_hold works.numbers works.others c.args.heap.now c.args.procs.now c.args.tree.now works.files c.is_well_formed.ensures works.hold,
    )

pub open_node-requires-clause-path : goal.open_node-requires-clause-path
open_node-requires-clause-path c = (right_open c.args.path.now c.args.flags c.requires.right).1

-- ---- the tree has a fault

pub returns-in-Err-clause-answers : goal.returns-in-Err-clause-answers
returns-in-Err-clause-answers c = λ numbers others script plain table hold.
    let flags = to_z-of_z w64 c.args.flags c.ranges.flags in
    let how : asks_of c.asked_by-how.result ≡ opening_of c.args.flags = c.asked_by-how.ensures ∙ ap opening_of flags in
    let cwd = c.directory_of-cwd.ensures.plain plain.table table in
    let it = fault_holds numbers others c.args.heap.now c.open_node.new.heap c.args.procs.now c.args.tree.now c.open_node.new.self plain.files c.directory_of-cwd.result c.args.path.now c.args.flags hold
    c.open_node.ensures.pays.only c.in-Err.errno
    (subst (λ r. OpenedAs c.open_node.new.heap c.open_node.new.self plain.files.tree (open_path plain.files.tree c.directory_of-cwd.result c.args.path.now (opening_of c.args.flags)) (holders others plain.files) r) c.in-Err.is
    (subst (λ (o : Opening). OpenedAs c.open_node.new.heap c.open_node.new.self plain.files.tree (open_path plain.files.tree c.directory_of-cwd.result c.args.path.now o) (holders others plain.files) c.open_node.result) how
    (c.open_node.ensures.answer plain.files.tree (holders others plain.files) hold.tree))) in
    record {
      now = numbers;
      keeps = record { descs = λ key used. refl; pipes = λ key used. refl; socks = λ key used. refl; frames = refl };
      files = plain.files;
      answers = open_walks script plain c.args.place.pid c.args.path.now c.args.flags c.in-Some.fd (c.lowest_from.ensures.lowest numbers plain.files hold.opened ∙ c.in-Some.is) c.directory_of-cwd.result cwd (Err c.in-Err.errno) it.0;
      holds = it.1;
    }

pub returns-in-Err-clause-listed : goal.returns-in-Err-clause-listed
returns-in-Err-clause-listed c = listed_beside c.args.heap.now c.open_node.new.heap c.open_node.ensures.pays.only c.args.procs.now c.requires.listed

pub returns-in-Err-clause-owners : goal.returns-in-Err-clause-owners
returns-in-Err-clause-owners c = owners_beside c.args.heap.now c.open_node.new.heap c.open_node.ensures.pays.only [] c.requires.owners

pub returns-in-Err-clause-chain : goal.returns-in-Err-clause-chain
returns-in-Err-clause-chain c =
    chain_kept c.args.heap.now c.open_node.new.heap c.args.fifos.now (links_same c.args.heap.now c.open_node.new.heap (same_pipes c.args.heap.now c.open_node.new.heap c.open_node.ensures.pays.only)) c.requires.chain

pub returns-in-Err-clause-hold : goal.returns-in-Err-clause-hold
returns-in-Err-clause-hold c =
    let flags = to_z-of_z w64 c.args.flags c.ranges.flags in
    let how : asks_of c.asked_by-how.result ≡ opening_of c.args.flags = c.asked_by-how.ensures ∙ ap opening_of flags in
    let works = c.requires.works in
    let it = fault_holds works.numbers works.others c.args.heap.now c.open_node.new.heap c.args.procs.now c.args.tree.now c.open_node.new.self works.files c.directory_of-cwd.result c.args.path.now c.args.flags works.hold
    c.open_node.ensures.pays.only c.in-Err.errno
    (subst (λ r. OpenedAs c.open_node.new.heap c.open_node.new.self works.files.tree (open_path works.files.tree c.directory_of-cwd.result c.args.path.now (opening_of c.args.flags)) (holders works.others works.files) r) c.in-Err.is
    (subst (λ (o : Opening). OpenedAs c.open_node.new.heap c.open_node.new.self works.files.tree (open_path works.files.tree c.directory_of-cwd.result c.args.path.now o) (holders works.others works.files) c.open_node.result) how
    (c.open_node.ensures.answer works.files.tree (holders works.others works.files) works.hold.tree))) in
    record { numbers = works.numbers; others = works.others; files = works.files; hold = it.1 }

pub returns-in-Err-clause-changes : goal.returns-in-Err-clause-changes
returns-in-Err-clause-changes c =
    let only = c.open_node.ensures.pays.only in
    caches_before c.args.heap.now c.open_node.new.heap c.open_node.new.heap c.args.procs.now c.args.place.pid only
    (holding_of c.open_node.new.heap c.open_node.new.heap c.args.procs.now c.args.place.pid
    (changes_nothing c.open_node.new.heap c.args.procs.now c.args.place.pid (listed_beside c.args.heap.now c.open_node.new.heap only c.args.procs.now c.requires.listed) (ap is_some c.requires.there)))

pub returns-in-Err-clause-queues : goal.returns-in-Err-clause-queues
returns-in-Err-clause-queues c =
    let only = c.open_node.ensures.pays.only in
    queues_same c.args.heap.now c.open_node.new.heap (same_pipes c.args.heap.now c.open_node.new.heap only) (same_socks c.args.heap.now c.open_node.new.heap only)

pub returns-in-Err-clause-saved : goal.returns-in-Err-clause-saved
returns-in-Err-clause-saved c = λ proc plain pins found stands knows fine.
    let flags = to_z-of_z w64 c.args.flags c.ranges.flags in
    let how : asks_of c.asked_by-how.result ≡ opening_of c.args.flags = c.asked_by-how.ensures ∙ ap opening_of flags in
    c.open_node.ensures.saved plain pins stands
    (subst (λ n. KnowsWay (in_call c.args.heap.now c.args.purse.now c.args.tree.now) plain n c.args.path.now) (sym (c.directory_of-cwd.ensures.works proc found)) knows)
    (ap (λ (o : Opening). o.truncates) how ∙ fine)

-- ---- the tree has led to a node

pub open_found-requires-clause-listed : goal.open_found-requires-clause-listed
open_found-requires-clause-listed c = listed_beside c.args.heap.now c.open_node.new.heap c.open_node.ensures.pays.only c.args.procs.now c.requires.listed

pub open_found-requires-clause-owners : goal.open_found-requires-clause-owners
open_found-requires-clause-owners c = owners_beside c.args.heap.now c.open_node.new.heap c.open_node.ensures.pays.only [] c.requires.owners

pub open_found-requires-clause-chain : goal.open_found-requires-clause-chain
open_found-requires-clause-chain c =
    chain_kept c.args.heap.now c.open_node.new.heap c.args.fifos.now (links_same c.args.heap.now c.open_node.new.heap (same_pipes c.args.heap.now c.open_node.new.heap c.open_node.ensures.pays.only)) c.requires.chain

pub open_found-requires-clause-number : goal.open_found-requires-clause-number
open_found-requires-clause-number c = (subst (λ o. IfSome o (IsLowest c.args.heap.now c.args.procs.now c.args.place.pid 0)) c.in-Some.is c.lowest_from.ensures.free).0

pub open_found-requires-clause-free : goal.open_found-requires-clause-free
open_found-requires-clause-free c =
    ap (λ (h : Heap). named_at h c.args.procs.now c.args.place.pid c.in-Some.fd) c.open_node.ensures.pays.only
    ∙ (subst (λ o. IfSome o (IsLowest c.args.heap.now c.args.procs.now c.args.place.pid 0)) c.in-Some.is c.lowest_from.ensures.free).2

pub open_found-requires-clause-led : goal.open_found-requires-clause-led
open_found-requires-clause-led c =
    let flags = to_z-of_z w64 c.args.flags c.ranges.flags in
    let how : asks_of c.asked_by-how.result ≡ opening_of c.args.flags = c.asked_by-how.ensures ∙ ap opening_of flags in
    let works = c.requires.works in
    let dir : is_directory works.files.tree c.directory_of-cwd.result ≡ true = ap (is_directory works.files.tree) (c.directory_of-cwd.ensures.works works.proc works.found) ∙ works.directory in
    let answer : OpenedAs c.open_node.new.heap c.open_node.new.self works.files.tree (open_path works.files.tree c.directory_of-cwd.result c.args.path.now (opening_of c.args.flags)) (holders works.others works.files) (Ok c.in-Ok.node) =
    subst (λ r. OpenedAs c.open_node.new.heap c.open_node.new.self works.files.tree (open_path works.files.tree c.directory_of-cwd.result c.args.path.now (opening_of c.args.flags)) (holders works.others works.files) r) c.in-Ok.is
    (subst (λ (o : Opening). OpenedAs c.open_node.new.heap c.open_node.new.self works.files.tree (open_path works.files.tree c.directory_of-cwd.result c.args.path.now o) (holders works.others works.files) c.open_node.result) how
    (c.open_node.ensures.answer works.files.tree (holders works.others works.files) works.hold.tree)) in
    let led = led_by works.numbers works.others c.args.heap.now c.open_node.new.heap c.args.procs.now c.args.tree.now c.open_node.new.self works.files c.directory_of-cwd.result c.args.path.now c.args.flags works.hold
    c.open_node.ensures.pays.only works.files.tree works.hold.tree.behind dir c.in-Ok.node answer in
    record {
      numbers = works.numbers;
      others = works.others;
      files = works.files;
      next = led.next;
      led = subst (λ z. HasLed works.numbers works.others c.open_node.new.heap c.args.procs.now c.open_node.new.self works.files led.next c.in-Ok.node z) (sym flags) led.has;
    }

pub open_found-requires-clause-pays : goal.open_found-requires-clause-pays
open_found-requires-clause-pays c = CanPay-kept c.args.heap.now c.open_node.new.heap c.args.purse.now c.open_node.new.purse c.open_node.ensures.pays.paid c.requires.may.pays

pub open_found-requires-clause-left : goal.open_found-requires-clause-left
open_found-requires-clause-left c = subst (λ n. 0 < n) (sym (ap (λ (p : Purse). p.left.desc) c.open_node.ensures.pays.purse)) c.requires.left

pub open_found-requires-clause-left_leaf : goal.open_found-requires-clause-left_leaf
open_found-requires-clause-left_leaf c = subst (λ n. 0 < n) (sym (ap (λ (p : Purse). p.left.leaf) c.open_node.ensures.pays.purse)) c.requires.left_leaf

pub open_found-requires-clause-left_pipe : goal.open_found-requires-clause-left_pipe
open_found-requires-clause-left_pipe c = subst (λ n. 0 < n) (sym (ap (λ (p : Purse). p.left.pipe) c.open_node.ensures.pays.purse)) c.requires.left_pipe

-- ---- and that is opened

pub returns-in-Ok-clause-answers : goal.returns-in-Ok-clause-answers
returns-in-Ok-clause-answers c = λ numbers others script plain table hold.
    let flags = to_z-of_z w64 c.args.flags c.ranges.flags in
    let how : asks_of c.asked_by-how.result ≡ opening_of c.args.flags = c.asked_by-how.ensures ∙ ap opening_of flags in
    let works = c.requires.works in
    let dir : is_directory works.files.tree c.directory_of-cwd.result ≡ true = ap (is_directory works.files.tree) (c.directory_of-cwd.ensures.works works.proc works.found) ∙ works.directory in
    let answer : OpenedAs c.open_node.new.heap c.open_node.new.self plain.files.tree (open_path plain.files.tree c.directory_of-cwd.result c.args.path.now (opening_of c.args.flags)) (holders others plain.files) (Ok c.in-Ok.node) =
    subst (λ r. OpenedAs c.open_node.new.heap c.open_node.new.self plain.files.tree (open_path plain.files.tree c.directory_of-cwd.result c.args.path.now (opening_of c.args.flags)) (holders others plain.files) r) c.in-Ok.is
    (subst (λ (o : Opening). OpenedAs c.open_node.new.heap c.open_node.new.self plain.files.tree (open_path plain.files.tree c.directory_of-cwd.result c.args.path.now o) (holders others plain.files) c.open_node.result) how
    (c.open_node.ensures.answer plain.files.tree (holders others plain.files) hold.tree)) in
    let led = led_by numbers others c.args.heap.now c.open_node.new.heap c.args.procs.now c.args.tree.now c.open_node.new.self plain.files c.directory_of-cwd.result c.args.path.now c.args.flags hold
    c.open_node.ensures.pays.only works.files.tree works.hold.tree.behind dir c.in-Ok.node answer in
    let cwd = c.directory_of-cwd.ensures.plain plain.table table in
    let answers : AnswersOpening numbers others c.open_node.new.heap c.open_found.new.heap c.args.procs.now c.open_found.new.tree script plain c.args.place.pid
    (opened_node_as script plain c.args.place.pid c.args.flags c.in-Some.fd (Ok (c.in-Ok.node, led.next))) c.open_found.result =
    subst (λ z. AnswersOpening numbers others c.open_node.new.heap c.open_found.new.heap c.args.procs.now c.open_found.new.tree script plain c.args.place.pid (opened_node_as script plain c.args.place.pid z c.in-Some.fd (Ok (c.in-Ok.node, led.next))) c.open_found.result) flags
    (c.open_found.ensures.answers numbers others script plain led.next
    (subst (λ z. HasLed numbers others c.open_node.new.heap c.args.procs.now c.open_node.new.self plain.files led.next c.in-Ok.node z) (sym flags) led.has)) in
    answers_before numbers others c.args.heap.now c.open_node.new.heap c.open_found.new.heap c.args.procs.now c.open_found.new.tree script plain c.args.place.pid
    (opened_node_as script plain c.args.place.pid c.args.flags c.in-Some.fd (Ok (c.in-Ok.node, led.next))) _ c.open_found.result c.open_node.ensures.pays.only
    (open_walks script plain c.args.place.pid c.args.path.now c.args.flags c.in-Some.fd (c.lowest_from.ensures.lowest numbers plain.files hold.opened ∙ c.in-Some.is) c.directory_of-cwd.result cwd (Ok (c.in-Ok.node, led.next)) led.is) answers

pub returns-in-Ok-clause-changes : goal.returns-in-Ok-clause-changes
returns-in-Ok-clause-changes c =
    caches_before c.args.heap.now c.open_node.new.heap c.open_found.new.heap c.args.procs.now c.args.place.pid c.open_node.ensures.pays.only c.open_found.ensures.changes

pub returns-in-Ok-clause-queues : goal.returns-in-Ok-clause-queues
returns-in-Ok-clause-queues c =
    let only = c.open_node.ensures.pays.only in
    queues_then c.args.heap.now c.open_node.new.heap c.open_found.new.heap
    (queues_same c.args.heap.now c.open_node.new.heap (same_pipes c.args.heap.now c.open_node.new.heap only) (same_socks c.args.heap.now c.open_node.new.heap only)) c.open_found.ensures.queues

pub returns-in-Ok-clause-paid : goal.returns-in-Ok-clause-paid
returns-in-Ok-clause-paid c =
    IsPaid-trans c.args.heap.now c.args.purse.now c.open_node.new.heap c.open_node.new.purse c.open_found.new.heap c.open_found.new.purse c.open_node.ensures.pays.paid c.open_found.ensures.paid

pub returns-in-Ok-clause-reads : goal.returns-in-Ok-clause-reads
returns-in-Ok-clause-reads c =
    subst (λ n. c.args.tree.now.disk.reads ≤ n) (sym (reads_same c.open_node.new.self c.open_found.new.tree c.open_found.ensures.disk)) c.open_node.ensures.pays.reads

pub returns-in-Ok-clause-saved : goal.returns-in-Ok-clause-saved
returns-in-Ok-clause-saved c = λ proc plain pins found stands knows fine.
    let flags = to_z-of_z w64 c.args.flags c.ranges.flags in
    let how : asks_of c.asked_by-how.result ≡ opening_of c.args.flags = c.asked_by-how.ensures ∙ ap opening_of flags in
    c.open_found.ensures.disk
    ∙ c.open_node.ensures.saved plain pins stands
    (subst (λ n. KnowsWay (in_call c.args.heap.now c.args.purse.now c.args.tree.now) plain n c.args.path.now) (sym (c.directory_of-cwd.ensures.works proc found)) knows)
    (ap (λ (o : Opening). o.truncates) how ∙ fine)

pub returns-in-Ok-clause-kept : goal.returns-in-Ok-clause-kept
returns-in-Ok-clause-kept c = λ proc plain pins found stands.
    on_any c.open_found.result (KeepsLast c.open_found.new.tree (resolve plain proc.cwd c.args.path.now))
    (keeps_last c.open_node.new.self c.open_found.new.tree (resolve plain proc.cwd c.args.path.now) c.open_found.ensures.names
    (subst (λ n. KeepsLast c.open_node.new.self (resolve plain n c.args.path.now)) (c.directory_of-cwd.ensures.works proc found)
    (subst (KeepsOpened c.open_node.new.self (resolve plain c.directory_of-cwd.result c.args.path.now)) c.in-Ok.is (c.open_node.ensures.kept plain pins stands)).0))

-- ---- sockets

pub returns-in-Err-clause-socks : goal.returns-in-Err-clause-socks
returns-in-Err-clause-socks c = same_socks c.args.heap.now c.open_node.new.heap c.open_node.ensures.pays.only

pub returns-in-Err-clause-locks : goal.returns-in-Err-clause-locks
returns-in-Err-clause-locks c = same_locks c.args.heap.now c.open_node.new.heap c.open_node.ensures.pays.only

pub returns-in-Ok-clause-socks : goal.returns-in-Ok-clause-socks
returns-in-Ok-clause-socks c = c.open_found.ensures.socks ∙ same_socks c.args.heap.now c.open_node.new.heap c.open_node.ensures.pays.only

pub returns-in-Ok-clause-locks : goal.returns-in-Ok-clause-locks
returns-in-Ok-clause-locks c = c.open_found.ensures.locks ∙ same_locks c.args.heap.now c.open_node.new.heap c.open_node.ensures.pays.only
