use Rattle.std.proofs.Common.{◌≡◌, ◌∙◌, ◌≤◌, ◌+◌, ap, false, true, List, None, of_z, Option, pos, refl, Some, sym, subst, to_z, w64, arith, is_some}
use Rattle.std.proofs.lemmas.Int.{to_z-of_z}
use Rattle.kabi_types.specs.Arguments.{count_of, range_fault}
use Rattle.kabi_types.specs.declared.errnos.Errno.TheVariants.{EBADF, EFAULT}
use Rattle.kabi_types.specs.declared.replies.Reply.TheVariants.{Fail, Val}
use Rattle.kheap_laws.proofs.PaidLemmas.{IsPaid-nothing, IsPaid-trans}
use Rattle.kheap_slabs.specs.Objects.{object}
use Rattle.kheap_slabs.specs.declared.objects.Desc.{Desc}
use Rattle.memfs_ops.specs.Changing.{LedTo}
use Rattle.posix_defs.specs.Calls.Writing.{wrote, write_file}
use Rattle.posix_defs.specs.Memory.{loaded}
use Rattle.posix_defs.specs.Process.{memory_of}
use Rattle.proc_table.specs.Procs.{memory_at}
use Rattle.proc_table.proofs.MemoryLemmas.{memory_at-stands}
use Rattle.proc_numbers.specs.Found.{opened_in}
use Rattle.proc_files.specs.Holders.{holders}
use Rattle.proc_files.specs.Seeking.{MovesDesc}
use Rattle.proc_files.proofs.Beside.{kept_beside, same_descs}
use Rattle.proc_files.proofs.Holding.{as_found, held_some, hold_on, on_node, only_node, open_node}
use Rattle.proc_files.proofs.Leading.{leads_nowhere}
use Rattle.proc_files.proofs.Moved.{moved_kept}
use Rattle.proc_files.proofs.OpenFiles.{holds_file, used_reads, writes_file}
use Rattle.proc_files.proofs.Ranges.{as_mapped, as_range, bytes_same, memory_here, no_count, right_moved, some_count}
use Rattle.proc_files.proofs.WriteAnswers.{write_closed, write_denied, write_goes, write_nothing, write_unmapped}
use Rattle.proc_files.proofs.WriteLeads.{unmoved_beside, write_below, writes_nothing, writes_some, written_beside}
use Rattle.posix_defs.specs.TreeChanges.{write as tree_write}
use Rattle.kabi_types.specs.declared.calls.Call.TheVariants as call
use Rattle.proc_numbers.proofs.OpenedBy.{is_there}
use Rattle.proc_files.proofs.writing.write_file.Goals as goal

pub returns-in_default-clause-leads : goal.returns-in_default-clause-leads
returns-in_default-clause-leads c = λ script numbers others plain account stands hold.
    leads_nowhere script numbers others c.args.heap.now c.args.procs.now c.args.tree.now plain account c.args.place.pid (call.Write c.args.on.now.fd c.args.addr c.args.n 0) c.requires.kept stands hold _ (Fail EBADF)
    (write_closed script numbers plain c.args.place.pid c.args.on.now.fd c.args.addr c.args.n (as_found c.args.heap.now c.args.procs.now c.args.place.pid c.args.on.now c.requires.opened numbers plain.files hold.opened None c.in_default.is)) refl

pub returns-then-not-is_writable-clause-leads : goal.returns-then-not-is_writable-clause-leads
returns-then-not-is_writable-clause-leads c = λ script numbers others plain account stands hold.
    leads_nowhere script numbers others c.args.heap.now c.args.procs.now c.args.tree.now plain account c.args.place.pid (call.Write c.args.on.now.fd c.args.addr c.args.n 0) c.requires.kept stands hold _ (Fail EBADF)
    (write_denied script numbers plain c.args.place.pid c.args.on.now.fd c.args.addr c.args.n c.in-Some.found (as_found c.args.heap.now c.args.procs.now c.args.place.pid c.args.on.now c.requires.opened numbers plain.files hold.opened (Some c.in-Some.found) c.in-Some.is) (sym c.is_writable.ensures ∙ c.if-not-is_writable.true)) refl

pub unreachable-requires : goal.unreachable-requires
unreachable-requires c =
    only_node c.args.heap.now c.args.procs.now c.args.place.pid c.args.on.now.fd c.in-Some.found c.requires.kept.listed c.requires.kept.owners (ap is_some c.requires.there)
    c.requires.hold c.requires.on (is_there c.args.heap.now c.args.procs.now c.args.place.pid c.args.on.now c.requires.opened c.in-Some.found c.in-Some.is)
    (λ numbers files have. (as_found c.args.heap.now c.args.procs.now c.args.place.pid c.args.on.now c.requires.opened numbers files have (Some c.in-Some.found) c.in-Some.is)) c.in_default-target.not-Inode

pub place_of_write-at-requires : goal.place_of_write-at-requires
place_of_write-at-requires c =
    record { held = held_some c.args.heap.now c.args.procs.now c.args.tree.now c.requires.hold c.in-Some.found.key c.in-Inode.node c.in-Some.found.desc (is_there c.args.heap.now c.args.procs.now c.args.place.pid c.args.on.now c.requires.opened c.in-Some.found c.in-Some.is) c.in-Inode.is }

pub range_of-requires-clause-right : goal.range_of-requires-clause-right
range_of-requires-clause-right c =
    let right = right_moved c.args.addr c.args.n c.requires.right in
    subst (λ z. range_fault z (count_of (to_z w64 (of_z w64 c.args.n))) ≡ None) (sym (to_z-of_z w64 c.args.addr c.ranges.addr))
    (subst (λ z. range_fault c.args.addr (count_of z) ≡ None) (sym (to_z-of_z w64 c.args.n c.ranges.n)) right.1)

pub range_of-requires-clause-few : goal.range_of-requires-clause-few
range_of-requires-clause-few c =
    let right = right_moved c.args.addr c.args.n c.requires.right in
    subst (λ z. count_of z ≤ 32767) (sym (to_z-of_z w64 c.args.n c.ranges.n)) right.0

pub returns-in_default-range_of-clause-leads : goal.returns-in_default-range_of-clause-leads
returns-in_default-range_of-clause-leads c = λ script numbers others plain account stands hold.
    leads_nowhere script numbers others c.args.heap.now c.args.procs.now c.args.tree.now plain account c.args.place.pid (call.Write c.args.on.now.fd c.args.addr c.args.n 0) c.requires.kept stands hold _ (Fail EFAULT)
    (write_unmapped script numbers plain c.args.place.pid c.args.on.now.fd c.args.addr c.args.n c.in-Some.found (as_found c.args.heap.now c.args.procs.now c.args.place.pid c.args.on.now c.requires.opened numbers plain.files hold.opened (Some c.in-Some.found) c.in-Some.is) c.in-Inode.node c.in-Inode.is (sym c.is_writable.ensures ∙ c.if-not-is_writable.false) (as_mapped c.args.heap.now c.args.procs.now plain.table c.args.place.pid _ c.args.addr _ c.args.n _ false (to_z-of_z w64 c.args.addr c.ranges.addr) (to_z-of_z w64 c.args.n c.ranges.n) c.range_of.ensures.tells stands.table (ap is_some c.in_default-range_of.is))) refl

pub returns-then-is_empty-clause-leads : goal.returns-then-is_empty-clause-leads
returns-then-is_empty-clause-leads c = λ script numbers others plain account stands hold.
    let range = (as_range c.args.heap.now c.args.procs.now c.args.place.pid _ c.args.addr _ c.args.n _ _ _ (to_z-of_z w64 c.args.addr c.ranges.addr) (to_z-of_z w64 c.args.n c.ranges.n) c.in-Some-range_of.ensures.range) in
    leads_nowhere script numbers others c.args.heap.now c.args.procs.now c.args.tree.now plain account c.args.place.pid (call.Write c.args.on.now.fd c.args.addr c.args.n 0) c.requires.kept stands hold _ (Val (pos 0))
    (write_nothing script numbers plain c.args.place.pid c.args.on.now.fd c.args.addr c.args.n c.in-Some.found (as_found c.args.heap.now c.args.procs.now c.args.place.pid c.args.on.now c.requires.opened numbers plain.files hold.opened (Some c.in-Some.found) c.in-Some.is) c.in-Inode.node c.in-Inode.is (sym c.is_writable.ensures ∙ c.if-not-is_writable.false) (as_mapped c.args.heap.now c.args.procs.now plain.table c.args.place.pid _ c.args.addr _ c.args.n _ true (to_z-of_z w64 c.args.addr c.ranges.addr) (to_z-of_z w64 c.args.n c.ranges.n) c.range_of.ensures.tells stands.table (ap is_some c.in-Some-range_of.is)) (sym range.counted ∙ no_count _ (sym c.is_empty.ensures ∙ c.if-is_empty.true))) refl

pub write_from-requires-clause-file : goal.write_from-requires-clause-file
write_from-requires-clause-file c =
    let some = c.requires.hold in
    holds_file c.args.heap.now c.args.procs.now c.args.tree.now c.place_of_write-at.new.tree some c.place_of_write-at.ensures.stands c.in-Some.found.key c.in-Inode.node c.in-Some.found.desc (is_there c.args.heap.now c.args.procs.now c.args.place.pid c.args.on.now c.requires.opened c.in-Some.found c.in-Some.is) c.in-Inode.is
    (writes_file some.files.tree _ c.in-Inode.node (open_node some.numbers some.others c.args.heap.now c.args.procs.now c.args.tree.now some.files some.hold c.in-Some.found.key c.in-Inode.node c.in-Some.found.desc (is_there c.args.heap.now c.args.procs.now c.args.place.pid c.args.on.now c.requires.opened c.in-Some.found c.in-Some.is) c.in-Inode.is) (sym c.is_writable.ensures ∙ c.if-not-is_writable.false))

pub write_from-requires-clause-owned : goal.write_from-requires-clause-owned
write_from-requires-clause-owned c = c.in-Some-range_of.ensures.range.space.owned

pub write_from-requires-clause-mapped : goal.write_from-requires-clause-mapped
write_from-requires-clause-mapped c = c.in-Some-range_of.ensures.range.mapped

pub write_from-requires-clause-within : goal.write_from-requires-clause-within
write_from-requires-clause-within c = c.in-Some-range_of.ensures.range.within

pub write_from-requires-clause-some : goal.write_from-requires-clause-some
write_from-requires-clause-some c = (some_count _ (sym c.is_empty.ensures ∙ c.if-is_empty.false)).1

pub write_from-requires-clause-few : goal.write_from-requires-clause-few
write_from-requires-clause-few c =
    let right = right_moved c.args.addr c.args.n c.requires.right in
    let range = (as_range c.args.heap.now c.args.procs.now c.args.place.pid _ c.args.addr _ c.args.n _ _ _ (to_z-of_z w64 c.args.addr c.ranges.addr) (to_z-of_z w64 c.args.n c.ranges.n) c.in-Some-range_of.ensures.range) in
    let few = right.0 in let same = range.counted in omega (arith, few, same)

pub overflow_add-at : goal.overflow_add-at
overflow_add-at c =
    let some = c.requires.hold in
    let below = write_below c.write_from.new.heap c.write_from.new.tree some.files.tree c.in-Inode.node c.place_of_write-at.result (loaded (memory_at c.args.heap.now c.in-Some-range_of.range.space) c.in-Some-range_of.range.start c.in-Some-range_of.range.count) (holders some.others some.files) c.in-Ok.count
    (subst (λ r. LedTo c.write_from.new.heap c.write_from.new.tree some.files.tree (tree_write some.files.tree c.in-Inode.node c.place_of_write-at.result (loaded (memory_at c.args.heap.now c.in-Some-range_of.range.space) c.in-Some-range_of.range.start c.in-Some-range_of.range.count)) (holders some.others some.files) r) c.in-Ok.is
    (c.write_from.ensures.answer some.files.tree (holders some.others some.files) (memory_at c.args.heap.now c.in-Some-range_of.range.space)
    (c.place_of_write-at.ensures.stands some.files.tree (holders some.others some.files) some.hold.tree) (memory_at-stands c.args.heap.now c.in-Some-range_of.range.space))) in
    let from = c.from.ensures in omega (arith, below, from)

pub move_to-requires : goal.move_to-requires
move_to-requires c = ap (λ (d : List (Option Desc)). object d c.in-Some.found.key) (same_descs c.args.heap.now c.write_from.new.heap c.write_from.ensures.pays.only) ∙ (is_there c.args.heap.now c.args.procs.now c.args.place.pid c.args.on.now c.requires.opened c.in-Some.found c.in-Some.is)

pub returns-in-Ok-clause-leads : goal.returns-in-Ok-clause-leads
returns-in-Ok-clause-leads c = λ script numbers others plain account stands hold.
    let held = (hold_on numbers others c.args.heap.now c.args.procs.now c.args.tree.now c.place_of_write-at.new.tree plain.files c.place_of_write-at.ensures.stands hold) in
    let range = (as_range c.args.heap.now c.args.procs.now c.args.place.pid _ c.args.addr _ c.args.n _ _ _ (to_z-of_z w64 c.args.addr c.ranges.addr) (to_z-of_z w64 c.args.n c.ranges.n) c.in-Some-range_of.ensures.range) in
    writes_some script numbers others c.args.heap.now c.write_from.new.heap c.args.procs.now c.place_of_write-at.new.tree c.write_from.new.tree plain account c.args.place.pid (call.Write c.args.on.now.fd c.args.addr c.args.n 0) c.requires.kept stands held c.write_from.ensures.pays.only _ c.in-Inode.node c.place_of_write-at.result (loaded (memory_of plain.table c.args.place.pid) c.in-Some-range_of.range.start c.in-Some-range_of.range.count)
    c.move_to.new.heap c.in-Some.found.key c.in-Some.found.desc c.in-Ok.count (is_there c.args.heap.now c.args.procs.now c.args.place.pid c.args.on.now c.requires.opened c.in-Some.found c.in-Some.is) c.in-Inode.is (writes_file plain.files.tree _ c.in-Inode.node (open_node numbers others c.args.heap.now c.args.procs.now c.args.tree.now plain.files hold c.in-Some.found.key c.in-Inode.node c.in-Some.found.desc (is_there c.args.heap.now c.args.procs.now c.args.place.pid c.args.on.now c.requires.opened c.in-Some.found c.in-Some.is) c.in-Inode.is) (sym c.is_writable.ensures ∙ c.if-not-is_writable.false)) (subst (λ k. MovesDesc c.write_from.new.heap c.move_to.new.heap c.in-Some.found.key c.in-Some.found.desc (c.place_of_write-at.result + k)) c.from.ensures c.move_to.ensures.moved)
    (subst (λ r. LedTo c.write_from.new.heap c.write_from.new.tree plain.files.tree (tree_write plain.files.tree c.in-Inode.node c.place_of_write-at.result (loaded (memory_of plain.table c.args.place.pid) c.in-Some-range_of.range.start c.in-Some-range_of.range.count)) (holders others plain.files) r) c.in-Ok.is (c.write_from.ensures.answer plain.files.tree (holders others plain.files) (memory_of plain.table c.args.place.pid) held.tree
    (memory_here c.args.heap.now c.args.procs.now plain.table c.args.place.pid c.in-Some-range_of.range.space range.space stands.table)))
    (write_goes script numbers plain c.args.place.pid c.args.on.now.fd c.args.addr c.args.n c.in-Some.found (as_found c.args.heap.now c.args.procs.now c.args.place.pid c.args.on.now c.requires.opened numbers plain.files hold.opened (Some c.in-Some.found) c.in-Some.is) c.in-Inode.node c.in-Inode.is (sym c.is_writable.ensures ∙ c.if-not-is_writable.false) (as_mapped c.args.heap.now c.args.procs.now plain.table c.args.place.pid _ c.args.addr _ c.args.n _ true (to_z-of_z w64 c.args.addr c.ranges.addr) (to_z-of_z w64 c.args.n c.ranges.n) c.range_of.ensures.tells stands.table (ap is_some c.in-Some-range_of.is)) (λ none. (some_count _ (sym c.is_empty.ensures ∙ c.if-is_empty.false)).0 (range.counted ∙ none))
    ∙ ap (λ b. write_file script plain c.args.place.pid (opened_in numbers c.in-Some.found) c.in-Inode.node b) (bytes_same (memory_of plain.table c.args.place.pid) c.in-Some-range_of.range.start c.in-Some-range_of.range.count (count_of c.args.addr) (count_of c.args.n) (range.begins (some_count _ (sym c.is_empty.ensures ∙ c.if-is_empty.false)).1) range.counted)
    ∙ ap (λ a. wrote script plain c.args.place.pid (opened_in numbers c.in-Some.found) a (tree_write plain.files.tree c.in-Inode.node a (loaded (memory_of plain.table c.args.place.pid) c.in-Some-range_of.range.start c.in-Some-range_of.range.count))) (sym (c.place_of_write-at.ensures.place plain.files.tree (holders others plain.files) hold.tree))) refl

pub returns-in-Ok-clause-kept : goal.returns-in-Ok-clause-kept
returns-in-Ok-clause-kept c =
    let there = ap (λ (d : List (Option Desc)). object d c.in-Some.found.key) (same_descs c.args.heap.now c.write_from.new.heap c.write_from.ensures.pays.only) ∙ (is_there c.args.heap.now c.args.procs.now c.args.place.pid c.args.on.now c.requires.opened c.in-Some.found c.in-Some.is) in
    moved_kept c.write_from.new.heap c.move_to.new.heap c.in-Some.found.key c.in-Some.found.desc _ there c.move_to.ensures.moved c.args.procs.now
    (kept_beside c.args.heap.now c.write_from.new.heap c.write_from.ensures.pays.only c.args.procs.now c.requires.kept)

pub returns-in-Ok-clause-beside : goal.returns-in-Ok-clause-beside
returns-in-Ok-clause-beside c = written_beside c.args.heap.now c.write_from.new.heap c.move_to.new.heap c.write_from.ensures.pays.only c.in-Some.found.key c.in-Some.found.desc _ c.move_to.ensures.moved

pub returns-in-Ok-clause-paid : goal.returns-in-Ok-clause-paid
returns-in-Ok-clause-paid c =
    IsPaid-trans c.args.heap.now c.args.purse.now c.write_from.new.heap c.write_from.new.purse c.move_to.new.heap c.write_from.new.purse c.write_from.ensures.pays.paid
    (IsPaid-nothing c.write_from.new.heap c.move_to.new.heap c.write_from.new.purse c.write_from.new.purse c.move_to.ensures.takes refl refl)

pub returns-in-Ok-clause-reads : goal.returns-in-Ok-clause-reads
returns-in-Ok-clause-reads c =
    let was = used_reads c.args.tree.now c.place_of_write-at.new.tree c.place_of_write-at.ensures.used in
    let on = c.write_from.ensures.pays.reads in
    omega (arith, was, on)

pub returns-in-Err-clause-leads : goal.returns-in-Err-clause-leads
returns-in-Err-clause-leads c = λ script numbers others plain account stands hold.
    let held = (hold_on numbers others c.args.heap.now c.args.procs.now c.args.tree.now c.place_of_write-at.new.tree plain.files c.place_of_write-at.ensures.stands hold) in
    let range = (as_range c.args.heap.now c.args.procs.now c.args.place.pid _ c.args.addr _ c.args.n _ _ _ (to_z-of_z w64 c.args.addr c.ranges.addr) (to_z-of_z w64 c.args.n c.ranges.n) c.in-Some-range_of.ensures.range) in
    writes_nothing script numbers others c.args.heap.now c.write_from.new.heap c.args.procs.now c.place_of_write-at.new.tree c.write_from.new.tree plain account c.args.place.pid (call.Write c.args.on.now.fd c.args.addr c.args.n 0) c.requires.kept stands held c.write_from.ensures.pays.only _ c.in-Inode.node c.place_of_write-at.result (loaded (memory_of plain.table c.args.place.pid) c.in-Some-range_of.range.start c.in-Some-range_of.range.count)
    (opened_in numbers c.in-Some.found) c.in-Err.errno
    (subst (λ r. LedTo c.write_from.new.heap c.write_from.new.tree plain.files.tree (tree_write plain.files.tree c.in-Inode.node c.place_of_write-at.result (loaded (memory_of plain.table c.args.place.pid) c.in-Some-range_of.range.start c.in-Some-range_of.range.count)) (holders others plain.files) r) c.in-Err.is (c.write_from.ensures.answer plain.files.tree (holders others plain.files) (memory_of plain.table c.args.place.pid) held.tree
    (memory_here c.args.heap.now c.args.procs.now plain.table c.args.place.pid c.in-Some-range_of.range.space range.space stands.table)))
    (write_goes script numbers plain c.args.place.pid c.args.on.now.fd c.args.addr c.args.n c.in-Some.found (as_found c.args.heap.now c.args.procs.now c.args.place.pid c.args.on.now c.requires.opened numbers plain.files hold.opened (Some c.in-Some.found) c.in-Some.is) c.in-Inode.node c.in-Inode.is (sym c.is_writable.ensures ∙ c.if-not-is_writable.false) (as_mapped c.args.heap.now c.args.procs.now plain.table c.args.place.pid _ c.args.addr _ c.args.n _ true (to_z-of_z w64 c.args.addr c.ranges.addr) (to_z-of_z w64 c.args.n c.ranges.n) c.range_of.ensures.tells stands.table (ap is_some c.in-Some-range_of.is)) (λ none. (some_count _ (sym c.is_empty.ensures ∙ c.if-is_empty.false)).0 (range.counted ∙ none))
    ∙ ap (λ b. write_file script plain c.args.place.pid (opened_in numbers c.in-Some.found) c.in-Inode.node b) (bytes_same (memory_of plain.table c.args.place.pid) c.in-Some-range_of.range.start c.in-Some-range_of.range.count (count_of c.args.addr) (count_of c.args.n) (range.begins (some_count _ (sym c.is_empty.ensures ∙ c.if-is_empty.false)).1) range.counted)
    ∙ ap (λ a. wrote script plain c.args.place.pid (opened_in numbers c.in-Some.found) a (tree_write plain.files.tree c.in-Inode.node a (loaded (memory_of plain.table c.args.place.pid) c.in-Some-range_of.range.start c.in-Some-range_of.range.count))) (sym (c.place_of_write-at.ensures.place plain.files.tree (holders others plain.files) hold.tree)))

pub returns-in-Err-clause-kept : goal.returns-in-Err-clause-kept
returns-in-Err-clause-kept c = kept_beside c.args.heap.now c.write_from.new.heap c.write_from.ensures.pays.only c.args.procs.now c.requires.kept

pub returns-in-Err-clause-beside : goal.returns-in-Err-clause-beside
returns-in-Err-clause-beside c = unmoved_beside c.args.heap.now c.write_from.new.heap c.write_from.ensures.pays.only

pub returns-in-Err-clause-paid : goal.returns-in-Err-clause-paid
returns-in-Err-clause-paid c = c.write_from.ensures.pays.paid

pub returns-in-Err-clause-reads : goal.returns-in-Err-clause-reads
returns-in-Err-clause-reads c =
    let was = used_reads c.args.tree.now c.place_of_write-at.new.tree c.place_of_write-at.ensures.used in
    let on = c.write_from.ensures.pays.reads in
    omega (arith, was, on)

pub returns-in-Ok-clause-stays : goal.returns-in-Ok-clause-stays
returns-in-Ok-clause-stays c = λ numbers files have off.
    absurd (on_node numbers files c.args.place.pid c.args.on.now.fd c.in-Some.found c.in-Inode.node (as_found c.args.heap.now c.args.procs.now c.args.place.pid c.args.on.now c.requires.opened numbers files have (Some c.in-Some.found) c.in-Some.is) c.in-Inode.is off)

pub returns-in-Err-clause-stays : goal.returns-in-Err-clause-stays
returns-in-Err-clause-stays c = λ numbers files have off.
    absurd (on_node numbers files c.args.place.pid c.args.on.now.fd c.in-Some.found c.in-Inode.node (as_found c.args.heap.now c.args.procs.now c.args.place.pid c.args.on.now c.requires.opened numbers files have (Some c.in-Some.found) c.in-Some.is) c.in-Inode.is off)
