use Rattle.std.proofs.Common.{◌≡◌, ◌∙◌, ◌+◌, ◌≤◌, ap, false, true, List, length, None, of_z, Option, pos, refl, Some, sym, subst, to_z, w64, arith, is_some}
use Rattle.std.proofs.lemmas.Int.{to_z-of_z}
use Rattle.kabi_types.specs.Arguments.{count_of, range_fault}
use Rattle.kabi_types.specs.declared.errnos.Errno.TheVariants.{EBADF, EFAULT, EISDIR}
use Rattle.kabi_types.specs.declared.replies.Reply.TheVariants.{Fail, Val}
use Rattle.kheap_laws.proofs.PaidLemmas.{IsPaid-nothing, IsPaid-trans}
use Rattle.kheap_slabs.specs.Objects.{object}
use Rattle.kheap_slabs.specs.declared.objects.Desc.{Desc}
use Rattle.posix_defs.specs.Calls.Opened.{moved_to}
use Rattle.posix_defs.specs.Calls.Reading.{put, read_file}
use Rattle.posix_defs.specs.Needs.{pages_touched}
use Rattle.posix_defs.specs.PathCalls.{read_node}
use Rattle.proc_numbers.specs.Found.{opened_in}
use Rattle.proc_numbers.proofs.RightBytes.{touched_at}
use Rattle.proc_files.specs.Holders.{holders}
use Rattle.proc_files.proofs.Holding.{as_found, held_some, hold_on, on_node, only_node}
use Rattle.proc_files.proofs.Leading.{leads_nowhere}
use Rattle.proc_files.proofs.Lengths.{read_ends}
use Rattle.proc_files.proofs.Moved.{moved_kept}
use Rattle.proc_files.proofs.OpenFiles.{holds_file, used_reads}
use Rattle.proc_files.proofs.Puts.{leads_moved, moved_beside, read_descs, read_kept, read_paid}
use Rattle.proc_files.proofs.Ranges.{as_mapped, as_range, no_count, right_moved, some_count}
use Rattle.proc_files.proofs.ReadAnswers.{read_closed, read_denied, read_directory, read_goes, read_nothing, read_unmapped}
use Rattle.kabi_types.specs.declared.calls.Call.TheVariants as call
use Rattle.proc_files.proofs.Saves.{keeps_read, saves_read, saves_used}
use Rattle.proc_numbers.proofs.OpenedBy.{is_named, is_there}
use Rattle.proc_files.proofs.reading.read_file.Goals as goal

pub returns-in_default-clause-leads : goal.returns-in_default-clause-leads
returns-in_default-clause-leads c = λ script numbers others plain account stands hold.
    leads_nowhere script numbers others c.args.heap.now c.args.procs.now c.args.tree.now plain account c.args.place.pid (call.Read c.args.on.now.fd c.args.addr c.args.n) c.requires.kept stands hold _ (Fail EBADF)
    (read_closed script numbers plain c.args.place.pid c.args.on.now.fd c.args.addr c.args.n (as_found c.args.heap.now c.args.procs.now c.args.place.pid c.args.on.now c.requires.opened numbers plain.files hold.opened None c.in_default.is)) refl

pub returns-then-not-is_readable-clause-leads : goal.returns-then-not-is_readable-clause-leads
returns-then-not-is_readable-clause-leads c = λ script numbers others plain account stands hold.
    leads_nowhere script numbers others c.args.heap.now c.args.procs.now c.args.tree.now plain account c.args.place.pid (call.Read c.args.on.now.fd c.args.addr c.args.n) c.requires.kept stands hold _ (Fail EBADF)
    (read_denied script numbers plain c.args.place.pid c.args.on.now.fd c.args.addr c.args.n c.in-Some.found (as_found c.args.heap.now c.args.procs.now c.args.place.pid c.args.on.now c.requires.opened numbers plain.files hold.opened (Some c.in-Some.found) c.in-Some.is) (sym c.is_readable.ensures ∙ c.if-not-is_readable.true)) refl

pub unreachable-requires : goal.unreachable-requires
unreachable-requires c =
    only_node c.args.heap.now c.args.procs.now c.args.place.pid c.args.on.now.fd c.in-Some.found c.requires.kept.listed c.requires.kept.owners (ap is_some c.requires.there)
    c.requires.hold c.requires.on (is_there c.args.heap.now c.args.procs.now c.args.place.pid c.args.on.now c.requires.opened c.in-Some.found c.in-Some.is)
    (λ numbers files have. (as_found c.args.heap.now c.args.procs.now c.args.place.pid c.args.on.now c.requires.opened numbers files have (Some c.in-Some.found) c.in-Some.is)) c.in_default-target.not-Inode

pub stat_node-info-requires : goal.stat_node-info-requires
stat_node-info-requires c =
    held_some c.args.heap.now c.args.procs.now c.args.tree.now c.requires.hold c.in-Some.found.key c.in-Inode.node c.in-Some.found.desc (is_there c.args.heap.now c.args.procs.now c.args.place.pid c.args.on.now c.requires.opened c.in-Some.found c.in-Some.is) c.in-Inode.is

pub returns-then-is_directory-clause-leads : goal.returns-then-is_directory-clause-leads
returns-then-is_directory-clause-leads c = λ script numbers others plain account stands hold.
    leads_nowhere script numbers others c.args.heap.now c.args.procs.now c.stat_node-info.new.self plain account c.args.place.pid (call.Read c.args.on.now.fd c.args.addr c.args.n) c.requires.kept stands (hold_on numbers others c.args.heap.now c.args.procs.now c.args.tree.now c.stat_node-info.new.self plain.files c.stat_node-info.ensures.stands hold) _ (Fail EISDIR)
    (read_directory script numbers plain c.args.place.pid c.args.on.now.fd c.args.addr c.args.n c.in-Some.found (as_found c.args.heap.now c.args.procs.now c.args.place.pid c.args.on.now c.requires.opened numbers plain.files hold.opened (Some c.in-Some.found) c.in-Some.is) c.in-Inode.node c.in-Inode.is (sym c.is_readable.ensures ∙ c.if-not-is_readable.false) (sym (c.is_directory.ensures plain.files.tree c.in-Inode.node (c.stat_node-info.ensures.value plain.files.tree (holders others plain.files) hold.tree)) ∙ c.if-is_directory.true)) refl

pub returns-then-is_directory-clause-stays : goal.returns-then-is_directory-clause-stays
returns-then-is_directory-clause-stays c = λ numbers files have off.
    absurd (on_node numbers files c.args.place.pid c.args.on.now.fd c.in-Some.found c.in-Inode.node (as_found c.args.heap.now c.args.procs.now c.args.place.pid c.args.on.now c.requires.opened numbers files have (Some c.in-Some.found) c.in-Some.is) c.in-Inode.is off)

pub returns-then-is_directory-clause-reads : goal.returns-then-is_directory-clause-reads
returns-then-is_directory-clause-reads c = used_reads c.args.tree.now c.stat_node-info.new.self c.stat_node-info.ensures.used

pub range_of-requires-clause-right : goal.range_of-requires-clause-right
range_of-requires-clause-right c =
    let right = right_moved c.args.addr c.args.n c.requires.right in
    subst (λ z. range_fault z (count_of (to_z w64 (of_z w64 c.args.n))) ≡ None) (sym (to_z-of_z w64 c.args.addr c.ranges.addr))
    (subst (λ z. range_fault c.args.addr (count_of z) ≡ None) (sym (to_z-of_z w64 c.args.n c.ranges.n)) right.1)

pub range_of-requires-clause-few : goal.range_of-requires-clause-few
range_of-requires-clause-few c =
    let right = right_moved c.args.addr c.args.n c.requires.right in
    subst (λ z. count_of z ≤ 32767) (sym (to_z-of_z w64 c.args.n c.ranges.n)) right.0

pub returns-in_default-range_of-clause-leads : goal.returns-in_default-range_of-clause-leads
returns-in_default-range_of-clause-leads c = λ script numbers others plain account stands hold.
    leads_nowhere script numbers others c.args.heap.now c.args.procs.now c.stat_node-info.new.self plain account c.args.place.pid (call.Read c.args.on.now.fd c.args.addr c.args.n) c.requires.kept stands (hold_on numbers others c.args.heap.now c.args.procs.now c.args.tree.now c.stat_node-info.new.self plain.files c.stat_node-info.ensures.stands hold) _ (Fail EFAULT)
    (read_unmapped script numbers plain c.args.place.pid c.args.on.now.fd c.args.addr c.args.n c.in-Some.found (as_found c.args.heap.now c.args.procs.now c.args.place.pid c.args.on.now c.requires.opened numbers plain.files hold.opened (Some c.in-Some.found) c.in-Some.is) c.in-Inode.node c.in-Inode.is (sym c.is_readable.ensures ∙ c.if-not-is_readable.false) (sym (c.is_directory.ensures plain.files.tree c.in-Inode.node (c.stat_node-info.ensures.value plain.files.tree (holders others plain.files) hold.tree)) ∙ c.if-is_directory.false) (as_mapped c.args.heap.now c.args.procs.now plain.table c.args.place.pid _ c.args.addr _ c.args.n _ false (to_z-of_z w64 c.args.addr c.ranges.addr) (to_z-of_z w64 c.args.n c.ranges.n) c.range_of.ensures.tells stands.table (ap is_some c.in_default-range_of.is))) refl

pub returns-in_default-range_of-clause-stays : goal.returns-in_default-range_of-clause-stays
returns-in_default-range_of-clause-stays c = λ numbers files have off.
    absurd (on_node numbers files c.args.place.pid c.args.on.now.fd c.in-Some.found c.in-Inode.node (as_found c.args.heap.now c.args.procs.now c.args.place.pid c.args.on.now c.requires.opened numbers files have (Some c.in-Some.found) c.in-Some.is) c.in-Inode.is off)

pub returns-in_default-range_of-clause-reads : goal.returns-in_default-range_of-clause-reads
returns-in_default-range_of-clause-reads c = used_reads c.args.tree.now c.stat_node-info.new.self c.stat_node-info.ensures.used

pub returns-then-is_empty-clause-leads : goal.returns-then-is_empty-clause-leads
returns-then-is_empty-clause-leads c = λ script numbers others plain account stands hold.
    let range = (as_range c.args.heap.now c.args.procs.now c.args.place.pid _ c.args.addr _ c.args.n _ _ _ (to_z-of_z w64 c.args.addr c.ranges.addr) (to_z-of_z w64 c.args.n c.ranges.n) c.in-Some-range_of.ensures.range) in
    leads_nowhere script numbers others c.args.heap.now c.args.procs.now c.stat_node-info.new.self plain account c.args.place.pid (call.Read c.args.on.now.fd c.args.addr c.args.n) c.requires.kept stands (hold_on numbers others c.args.heap.now c.args.procs.now c.args.tree.now c.stat_node-info.new.self plain.files c.stat_node-info.ensures.stands hold) _ (Val (pos 0))
    (read_nothing script numbers plain c.args.place.pid c.args.on.now.fd c.args.addr c.args.n c.in-Some.found (as_found c.args.heap.now c.args.procs.now c.args.place.pid c.args.on.now c.requires.opened numbers plain.files hold.opened (Some c.in-Some.found) c.in-Some.is) c.in-Inode.node c.in-Inode.is (sym c.is_readable.ensures ∙ c.if-not-is_readable.false) (sym (c.is_directory.ensures plain.files.tree c.in-Inode.node (c.stat_node-info.ensures.value plain.files.tree (holders others plain.files) hold.tree)) ∙ c.if-is_directory.false) (as_mapped c.args.heap.now c.args.procs.now plain.table c.args.place.pid _ c.args.addr _ c.args.n _ true (to_z-of_z w64 c.args.addr c.ranges.addr) (to_z-of_z w64 c.args.n c.ranges.n) c.range_of.ensures.tells stands.table (ap is_some c.in-Some-range_of.is)) (sym range.counted ∙ no_count _ (sym c.is_empty.ensures ∙ c.if-is_empty.true))) refl

pub returns-then-is_empty-clause-stays : goal.returns-then-is_empty-clause-stays
returns-then-is_empty-clause-stays c = λ numbers files have off.
    absurd (on_node numbers files c.args.place.pid c.args.on.now.fd c.in-Some.found c.in-Inode.node (as_found c.args.heap.now c.args.procs.now c.args.place.pid c.args.on.now c.requires.opened numbers files have (Some c.in-Some.found) c.in-Some.is) c.in-Inode.is off)

pub returns-then-is_empty-clause-reads : goal.returns-then-is_empty-clause-reads
returns-then-is_empty-clause-reads c = used_reads c.args.tree.now c.stat_node-info.new.self c.stat_node-info.ensures.used

pub read_into-count-requires-clause-file : goal.read_into-count-requires-clause-file
read_into-count-requires-clause-file c =
    let some = c.requires.hold in
    holds_file c.args.heap.now c.args.procs.now c.args.tree.now c.stat_node-info.new.self some c.stat_node-info.ensures.stands c.in-Some.found.key c.in-Inode.node c.in-Some.found.desc (is_there c.args.heap.now c.args.procs.now c.args.place.pid c.args.on.now c.requires.opened c.in-Some.found c.in-Some.is) c.in-Inode.is
    (sym (c.is_directory.ensures some.files.tree c.in-Inode.node (c.stat_node-info.ensures.value some.files.tree (holders some.others some.files) some.hold.tree)) ∙ c.if-is_directory.false)

pub read_into-count-requires-clause-owned : goal.read_into-count-requires-clause-owned
read_into-count-requires-clause-owned c = c.in-Some-range_of.ensures.range.space.owned

pub read_into-count-requires-clause-mapped : goal.read_into-count-requires-clause-mapped
read_into-count-requires-clause-mapped c = c.in-Some-range_of.ensures.range.mapped

pub read_into-count-requires-clause-within : goal.read_into-count-requires-clause-within
read_into-count-requires-clause-within c = c.in-Some-range_of.ensures.range.within

pub read_into-count-requires-clause-few : goal.read_into-count-requires-clause-few
read_into-count-requires-clause-few c =
    let right = right_moved c.args.addr c.args.n c.requires.right in
    let range = (as_range c.args.heap.now c.args.procs.now c.args.place.pid _ c.args.addr _ c.args.n _ _ _ (to_z-of_z w64 c.args.addr c.ranges.addr) (to_z-of_z w64 c.args.n c.ranges.n) c.in-Some-range_of.ensures.range) in
    let few = right.0 in let same = range.counted in omega (arith, few, same)

pub read_into-count-requires-clause-left : goal.read_into-count-requires-clause-left
read_into-count-requires-clause-left c =
    let range = (as_range c.args.heap.now c.args.procs.now c.args.place.pid _ c.args.addr _ c.args.n _ _ _ (to_z-of_z w64 c.args.addr c.ranges.addr) (to_z-of_z w64 c.args.n c.ranges.n) c.in-Some-range_of.ensures.range) in
    let left = c.requires.left in
    subst (λ n. n ≤ c.args.purse.now.left.page) (sym (touched_at c.in-Some-range_of.range.start (count_of c.args.addr) c.in-Some-range_of.range.count range.begins))
    (subst (λ n. pages_touched (count_of c.args.addr) n ≤ c.args.purse.now.left.page) (sym range.counted) left)

pub overflow_add-at : goal.overflow_add-at
overflow_add-at c =
    let some = c.requires.hold in
    let count = c.read_into-count.ensures.count some.files.tree (holders some.others some.files) (c.stat_node-info.ensures.stands some.files.tree (holders some.others some.files) some.hold.tree) in
    let ends = read_ends some.files.tree c.in-Inode.node c.offset_of-at.result c.in-Some-range_of.range.count some.hold.tree.is_tree (omega arith) in
    let from = c.from.ensures in omega (arith, count, ends, from)

pub move_to-requires : goal.move_to-requires
move_to-requires c =
    let some = c.requires.hold in
    ap (λ (d : List (Option Desc)). object d c.in-Some.found.key) (read_descs c.args.heap.now c.args.purse.now c.read_into-count.new.heap c.read_into-count.new.purse c.stat_node-info.new.self c.read_into-count.new.tree c.in-Some-range_of.range.space c.in-Some-range_of.range.start (read_node some.files.tree c.in-Inode.node c.offset_of-at.result c.in-Some-range_of.range.count) (c.read_into-count.ensures.reads some.files.tree (holders some.others some.files) (c.stat_node-info.ensures.stands some.files.tree (holders some.others some.files) some.hold.tree))) ∙ (is_there c.args.heap.now c.args.procs.now c.args.place.pid c.args.on.now c.requires.opened c.in-Some.found c.in-Some.is)

pub returns-clause-leads : goal.returns-clause-leads
returns-clause-leads c = λ script numbers others plain account stands hold.
    let held = (hold_on numbers others c.args.heap.now c.args.procs.now c.args.tree.now c.stat_node-info.new.self plain.files c.stat_node-info.ensures.stands hold) in
    let range = (as_range c.args.heap.now c.args.procs.now c.args.place.pid _ c.args.addr _ c.args.n _ _ _ (to_z-of_z w64 c.args.addr c.ranges.addr) (to_z-of_z w64 c.args.n c.ranges.n) c.in-Some-range_of.ensures.range) in
    leads_moved c.args.heap.now c.args.purse.now c.read_into-count.new.heap c.read_into-count.new.purse c.stat_node-info.new.self c.read_into-count.new.tree c.in-Some-range_of.range.space c.in-Some-range_of.range.start (read_node plain.files.tree c.in-Inode.node c.offset_of-at.result c.in-Some-range_of.range.count) (c.read_into-count.ensures.reads plain.files.tree (holders others plain.files) held.tree) c.args.procs.now c.args.place.pid c.requires.kept range.space numbers others plain account stands held c.args.addr (range.begins (some_count _ (sym c.is_empty.ensures ∙ c.if-is_empty.false)).1)
    script (call.Read c.args.on.now.fd c.args.addr c.args.n) _ c.read_into-count.result (c.read_into-count.ensures.count plain.files.tree (holders others plain.files) held.tree) refl c.move_to.new.heap c.in-Some.found.key c.in-Inode.node c.in-Some.found.desc _ (is_there c.args.heap.now c.args.procs.now c.args.place.pid c.args.on.now c.requires.opened c.in-Some.found c.in-Some.is) c.in-Inode.is c.move_to.ensures.moved
    (λ directory. absurd (let both : true ≡ false = sym directory ∙ (sym (c.is_directory.ensures plain.files.tree c.in-Inode.node (c.stat_node-info.ensures.value plain.files.tree (holders others plain.files) hold.tree)) ∙ c.if-is_directory.false) in cc))
    (read_goes script numbers plain c.args.place.pid c.args.on.now.fd c.args.addr c.args.n c.in-Some.found (as_found c.args.heap.now c.args.procs.now c.args.place.pid c.args.on.now c.requires.opened numbers plain.files hold.opened (Some c.in-Some.found) c.in-Some.is) c.in-Inode.node c.in-Inode.is (sym c.is_readable.ensures ∙ c.if-not-is_readable.false) (sym (c.is_directory.ensures plain.files.tree c.in-Inode.node (c.stat_node-info.ensures.value plain.files.tree (holders others plain.files) hold.tree)) ∙ c.if-is_directory.false) (as_mapped c.args.heap.now c.args.procs.now plain.table c.args.place.pid _ c.args.addr _ c.args.n _ true (to_z-of_z w64 c.args.addr c.ranges.addr) (to_z-of_z w64 c.args.n c.ranges.n) c.range_of.ensures.tells stands.table (ap is_some c.in-Some-range_of.is)) (λ none. (some_count _ (sym c.is_empty.ensures ∙ c.if-is_empty.false)).0 (range.counted ∙ none))
    ∙ ap (λ m. read_file script plain c.args.place.pid (opened_in numbers c.in-Some.found) c.in-Inode.node c.args.addr m) (sym range.counted)
    ∙ ap (λ o. put script (moved_to plain (opened_in numbers c.in-Some.found) (o + length (read_node plain.files.tree c.in-Inode.node o c.in-Some-range_of.range.count))) c.args.place.pid c.args.addr (read_node plain.files.tree c.in-Inode.node o c.in-Some-range_of.range.count)) (sym c.offset_of-at.ensures)
    ∙ ap (λ k. put script (moved_to plain (opened_in numbers c.in-Some.found) (c.offset_of-at.result + k)) c.args.place.pid c.args.addr (read_node plain.files.tree c.in-Inode.node c.offset_of-at.result c.in-Some-range_of.range.count)) (sym (c.from.ensures ∙ (c.read_into-count.ensures.count plain.files.tree (holders others plain.files) held.tree))))

pub returns-clause-kept : goal.returns-clause-kept
returns-clause-kept c =
    let some = c.requires.hold in
    let there = ap (λ (d : List (Option Desc)). object d c.in-Some.found.key) (read_descs c.args.heap.now c.args.purse.now c.read_into-count.new.heap c.read_into-count.new.purse c.stat_node-info.new.self c.read_into-count.new.tree c.in-Some-range_of.range.space c.in-Some-range_of.range.start (read_node some.files.tree c.in-Inode.node c.offset_of-at.result c.in-Some-range_of.range.count) (c.read_into-count.ensures.reads some.files.tree (holders some.others some.files) (c.stat_node-info.ensures.stands some.files.tree (holders some.others some.files) some.hold.tree))) ∙ (is_there c.args.heap.now c.args.procs.now c.args.place.pid c.args.on.now c.requires.opened c.in-Some.found c.in-Some.is) in
    moved_kept c.read_into-count.new.heap c.move_to.new.heap c.in-Some.found.key c.in-Some.found.desc _ there c.move_to.ensures.moved c.args.procs.now
    (read_kept c.args.heap.now c.args.purse.now c.read_into-count.new.heap c.read_into-count.new.purse c.stat_node-info.new.self c.read_into-count.new.tree c.in-Some-range_of.range.space c.in-Some-range_of.range.start (read_node some.files.tree c.in-Inode.node c.offset_of-at.result c.in-Some-range_of.range.count) (c.read_into-count.ensures.reads some.files.tree (holders some.others some.files) (c.stat_node-info.ensures.stands some.files.tree (holders some.others some.files) some.hold.tree)) c.args.procs.now c.args.place.pid c.requires.kept c.in-Some-range_of.ensures.range.space)

pub returns-clause-beside : goal.returns-clause-beside
returns-clause-beside c =
    let some = c.requires.hold in
    moved_beside c.args.heap.now c.args.purse.now c.read_into-count.new.heap c.read_into-count.new.purse c.stat_node-info.new.self c.read_into-count.new.tree c.in-Some-range_of.range.space c.in-Some-range_of.range.start (read_node some.files.tree c.in-Inode.node c.offset_of-at.result c.in-Some-range_of.range.count) (c.read_into-count.ensures.reads some.files.tree (holders some.others some.files) (c.stat_node-info.ensures.stands some.files.tree (holders some.others some.files) some.hold.tree)) c.move_to.new.heap c.in-Some.found.key c.in-Some.found.desc _ c.move_to.ensures.moved

pub returns-clause-paid : goal.returns-clause-paid
returns-clause-paid c =
    let some = c.requires.hold in
    IsPaid-trans c.args.heap.now c.args.purse.now c.read_into-count.new.heap c.read_into-count.new.purse c.move_to.new.heap c.read_into-count.new.purse (read_paid c.args.heap.now c.args.purse.now c.read_into-count.new.heap c.read_into-count.new.purse c.stat_node-info.new.self c.read_into-count.new.tree c.in-Some-range_of.range.space c.in-Some-range_of.range.start (read_node some.files.tree c.in-Inode.node c.offset_of-at.result c.in-Some-range_of.range.count) (c.read_into-count.ensures.reads some.files.tree (holders some.others some.files) (c.stat_node-info.ensures.stands some.files.tree (holders some.others some.files) some.hold.tree)))
    (IsPaid-nothing c.read_into-count.new.heap c.move_to.new.heap c.read_into-count.new.purse c.read_into-count.new.purse c.move_to.ensures.takes refl refl)

pub returns-clause-reads : goal.returns-clause-reads
returns-clause-reads c =
    let some = c.requires.hold in
    let was = used_reads c.args.tree.now c.stat_node-info.new.self c.stat_node-info.ensures.used in
    let on = (c.read_into-count.ensures.reads some.files.tree (holders some.others some.files) (c.stat_node-info.ensures.stands some.files.tree (holders some.others some.files) some.hold.tree)).fetches.on.reads in
    omega (arith, was, on)

pub returns-clause-stays : goal.returns-clause-stays
returns-clause-stays c = λ numbers files have off.
    absurd (on_node numbers files c.args.place.pid c.args.on.now.fd c.in-Some.found c.in-Inode.node (as_found c.args.heap.now c.args.procs.now c.args.place.pid c.args.on.now c.requires.opened numbers files have (Some c.in-Some.found) c.in-Some.is) c.in-Inode.is off)

pub returns-in_default-clause-saved : goal.returns-in_default-clause-saved
returns-in_default-clause-saved c = λ held desc number inode named there on has cached. refl

pub returns-then-not-is_readable-clause-saved : goal.returns-then-not-is_readable-clause-saved
returns-then-not-is_readable-clause-saved c = λ held desc number inode named there on has cached. refl

pub returns-then-is_directory-clause-saved : goal.returns-then-is_directory-clause-saved
returns-then-is_directory-clause-saved c = saves_used c.args.heap.now c.args.procs.now c.args.place.pid c.args.on.now.fd c.args.tree.now c.stat_node-info.new.self c.stat_node-info.ensures.used (λ (desc : Desc). desc.offset) 0

pub returns-in_default-range_of-clause-saved : goal.returns-in_default-range_of-clause-saved
returns-in_default-range_of-clause-saved c = saves_used c.args.heap.now c.args.procs.now c.args.place.pid c.args.on.now.fd c.args.tree.now c.stat_node-info.new.self c.stat_node-info.ensures.used (λ (desc : Desc). desc.offset) 0

pub returns-then-is_empty-clause-saved : goal.returns-then-is_empty-clause-saved
returns-then-is_empty-clause-saved c = saves_used c.args.heap.now c.args.procs.now c.args.place.pid c.args.on.now.fd c.args.tree.now c.stat_node-info.new.self c.stat_node-info.ensures.used (λ (desc : Desc). desc.offset) 0

pub returns-clause-saved : goal.returns-clause-saved
returns-clause-saved c =
    saves_read c.args.heap.now c.args.procs.now c.args.place.pid c.args.on.now.fd c.args.tree.now c.stat_node-info.new.self c.stat_node-info.ensures.used c.read_into-count.new.tree c.in-Some.found c.in-Inode.node
    (is_named c.args.heap.now c.args.procs.now c.args.place.pid c.args.on.now c.requires.opened c.in-Some.found c.in-Some.is)
    (is_there c.args.heap.now c.args.procs.now c.args.place.pid c.args.on.now c.requires.opened c.in-Some.found c.in-Some.is) c.in-Inode.is (λ (desc : Desc). desc.offset) c.offset_of-at.result c.read_into-count.result c.offset_of-at.ensures
    c.read_into-count.ensures.saved

pub returns-in_default-clause-last : goal.returns-in_default-clause-last
returns-in_default-clause-last c = λ held desc number inode named there on has some. absurd (omega (arith, some))

pub returns-then-not-is_readable-clause-last : goal.returns-then-not-is_readable-clause-last
returns-then-not-is_readable-clause-last c = λ held desc number inode named there on has some. absurd (omega (arith, some))

pub returns-then-is_directory-clause-last : goal.returns-then-is_directory-clause-last
returns-then-is_directory-clause-last c = λ held desc number inode named there on has some. absurd (omega (arith, some))

pub returns-in_default-range_of-clause-last : goal.returns-in_default-range_of-clause-last
returns-in_default-range_of-clause-last c = λ held desc number inode named there on has some. absurd (omega (arith, some))

pub returns-then-is_empty-clause-last : goal.returns-then-is_empty-clause-last
returns-then-is_empty-clause-last c = λ held desc number inode named there on has some. absurd (omega (arith, some))

pub returns-clause-last : goal.returns-clause-last
returns-clause-last c =
    keeps_read c.args.heap.now c.args.procs.now c.args.place.pid c.args.on.now.fd c.args.tree.now c.stat_node-info.new.self c.stat_node-info.ensures.used c.read_into-count.new.tree c.in-Some.found c.in-Inode.node
    (is_named c.args.heap.now c.args.procs.now c.args.place.pid c.args.on.now c.requires.opened c.in-Some.found c.in-Some.is)
    (is_there c.args.heap.now c.args.procs.now c.args.place.pid c.args.on.now c.requires.opened c.in-Some.found c.in-Some.is) c.in-Inode.is (λ (desc : Desc). desc.offset) c.offset_of-at.result c.read_into-count.result c.offset_of-at.ensures
    c.read_into-count.ensures.last
