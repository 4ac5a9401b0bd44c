use Rattle.std.proofs.Common.{◌≡◌, ◌∙◌, ◌≤◌, ap, false, true, None, of_z, pos, refl, Some, sym, subst, to_z, w64, arith, is_some}
use Rattle.std.proofs.lemmas.Int.{to_z-of_z}
use Rattle.kabi_types.specs.Arguments.{count_of, range_fault}
use Rattle.kabi_types.specs.declared.errnos.Errno.TheVariants.{EBADF, EFAULT, EISDIR, ESPIPE}
use Rattle.kabi_types.specs.declared.replies.Reply.TheVariants.{Fail, Val}
use Rattle.posix_defs.specs.Calls.Writing.{wrote_at}
use Rattle.posix_defs.specs.Memory.{loaded}
use Rattle.posix_defs.specs.Process.{memory_of}
use Rattle.proc_files.specs.Holders.{holders}
use Rattle.proc_files.proofs.Beside.{kept_beside}
use Rattle.proc_files.proofs.Holding.{as_found, held_some, hold_on, no_node, on_node}
use Rattle.proc_files.proofs.Leading.{leads_nowhere}
use Rattle.proc_files.proofs.OpenFiles.{holds_file, used_reads}
use Rattle.proc_files.proofs.Ranges.{as_mapped, as_range, bytes_same, memory_here, no_count, right_placed, some_count}
use Rattle.proc_files.proofs.WriteAnswers.{pwrite_closed, pwrite_denied, pwrite_directory, pwrite_goes, pwrite_nothing, pwrite_refused, pwrite_unmapped}
use Rattle.proc_files.proofs.WriteLeads.{pwrites}
use Rattle.posix_defs.specs.TreeChanges.{write as tree_write}
use Rattle.kabi_types.specs.declared.calls.Call.TheVariants as call
use Rattle.proc_numbers.proofs.OpenedBy.{is_there}
use Rattle.proc_files.proofs.writing.pwrite_file.Goals as goal

pub returns-in_default-clause-leads : goal.returns-in_default-clause-leads
returns-in_default-clause-leads c = λ script numbers others plain account stands hold.
    leads_nowhere script numbers others c.args.heap.now c.args.procs.now c.args.tree.now plain account c.args.place.pid (call.Pwrite c.args.on.now.fd c.args.addr c.args.n c.args.at) c.requires.kept stands hold _ (Fail EBADF)
    (pwrite_closed script numbers plain c.args.place.pid c.args.on.now.fd c.args.addr c.args.n c.args.at (as_found c.args.heap.now c.args.procs.now c.args.place.pid c.args.on.now c.requires.opened numbers plain.files hold.opened None c.in_default.is)) refl

pub returns-then-not-is_writable-clause-leads : goal.returns-then-not-is_writable-clause-leads
returns-then-not-is_writable-clause-leads c = λ script numbers others plain account stands hold.
    leads_nowhere script numbers others c.args.heap.now c.args.procs.now c.args.tree.now plain account c.args.place.pid (call.Pwrite c.args.on.now.fd c.args.addr c.args.n c.args.at) c.requires.kept stands hold _ (Fail EBADF)
    (pwrite_denied script numbers plain c.args.place.pid c.args.on.now.fd c.args.addr c.args.n c.in-Some.found (as_found c.args.heap.now c.args.procs.now c.args.place.pid c.args.on.now c.requires.opened numbers plain.files hold.opened (Some c.in-Some.found) c.in-Some.is) c.args.at (sym c.is_writable.ensures ∙ c.if-not-is_writable.true)) refl

pub returns-in_default-target-clause-leads : goal.returns-in_default-target-clause-leads
returns-in_default-target-clause-leads c = λ script numbers others plain account stands hold.
    leads_nowhere script numbers others c.args.heap.now c.args.procs.now c.args.tree.now plain account c.args.place.pid (call.Pwrite c.args.on.now.fd c.args.addr c.args.n c.args.at) c.requires.kept stands hold _ (Fail ESPIPE)
    (pwrite_refused script numbers plain c.args.place.pid c.args.on.now.fd c.args.addr c.args.n c.in-Some.found (as_found c.args.heap.now c.args.procs.now c.args.place.pid c.args.on.now c.requires.opened numbers plain.files hold.opened (Some c.in-Some.found) c.in-Some.is) c.args.at (sym c.is_writable.ensures ∙ c.if-not-is_writable.false) (no_node c.in-Some.found.desc.target c.in_default-target.not-Inode)) refl

pub stat_node-info-requires : goal.stat_node-info-requires
stat_node-info-requires c =
    held_some c.args.heap.now c.args.procs.now c.args.tree.now c.requires.hold c.in-Some.found.key c.in-Inode.node c.in-Some.found.desc (is_there c.args.heap.now c.args.procs.now c.args.place.pid c.args.on.now c.requires.opened c.in-Some.found c.in-Some.is) c.in-Inode.is

pub returns-then-is_directory-clause-leads : goal.returns-then-is_directory-clause-leads
returns-then-is_directory-clause-leads c = λ script numbers others plain account stands hold.
    leads_nowhere script numbers others c.args.heap.now c.args.procs.now c.stat_node-info.new.self plain account c.args.place.pid (call.Pwrite c.args.on.now.fd c.args.addr c.args.n c.args.at) c.requires.kept stands (hold_on numbers others c.args.heap.now c.args.procs.now c.args.tree.now c.stat_node-info.new.self plain.files c.stat_node-info.ensures.stands hold) _ (Fail EISDIR)
    (pwrite_directory script numbers plain c.args.place.pid c.args.on.now.fd c.args.addr c.args.n c.in-Some.found (as_found c.args.heap.now c.args.procs.now c.args.place.pid c.args.on.now c.requires.opened numbers plain.files hold.opened (Some c.in-Some.found) c.in-Some.is) c.in-Inode.node c.in-Inode.is c.args.at (sym c.is_writable.ensures ∙ c.if-not-is_writable.false) (sym (c.is_directory.ensures plain.files.tree c.in-Inode.node (c.stat_node-info.ensures.value plain.files.tree (holders others plain.files) hold.tree)) ∙ c.if-is_directory.true)) refl

pub returns-then-is_directory-clause-stays : goal.returns-then-is_directory-clause-stays
returns-then-is_directory-clause-stays c = λ numbers files have off.
    absurd (on_node numbers files c.args.place.pid c.args.on.now.fd c.in-Some.found c.in-Inode.node (as_found c.args.heap.now c.args.procs.now c.args.place.pid c.args.on.now c.requires.opened numbers files have (Some c.in-Some.found) c.in-Some.is) c.in-Inode.is off)

pub returns-then-is_directory-clause-reads : goal.returns-then-is_directory-clause-reads
returns-then-is_directory-clause-reads c = used_reads c.args.tree.now c.stat_node-info.new.self c.stat_node-info.ensures.used

pub range_of-requires-clause-right : goal.range_of-requires-clause-right
range_of-requires-clause-right c =
    let right = right_placed c.args.addr c.args.n c.args.at c.requires.right in
    subst (λ z. range_fault z (count_of (to_z w64 (of_z w64 c.args.n))) ≡ None) (sym (to_z-of_z w64 c.args.addr c.ranges.addr))
    (subst (λ z. range_fault c.args.addr (count_of z) ≡ None) (sym (to_z-of_z w64 c.args.n c.ranges.n)) right.1)

pub range_of-requires-clause-few : goal.range_of-requires-clause-few
range_of-requires-clause-few c =
    let right = right_placed c.args.addr c.args.n c.args.at c.requires.right in
    subst (λ z. count_of z ≤ 32767) (sym (to_z-of_z w64 c.args.n c.ranges.n)) right.0

pub returns-in_default-range_of-clause-leads : goal.returns-in_default-range_of-clause-leads
returns-in_default-range_of-clause-leads c = λ script numbers others plain account stands hold.
    leads_nowhere script numbers others c.args.heap.now c.args.procs.now c.stat_node-info.new.self plain account c.args.place.pid (call.Pwrite c.args.on.now.fd c.args.addr c.args.n c.args.at) c.requires.kept stands (hold_on numbers others c.args.heap.now c.args.procs.now c.args.tree.now c.stat_node-info.new.self plain.files c.stat_node-info.ensures.stands hold) _ (Fail EFAULT)
    (pwrite_unmapped script numbers plain c.args.place.pid c.args.on.now.fd c.args.addr c.args.n c.in-Some.found (as_found c.args.heap.now c.args.procs.now c.args.place.pid c.args.on.now c.requires.opened numbers plain.files hold.opened (Some c.in-Some.found) c.in-Some.is) c.in-Inode.node c.in-Inode.is c.args.at (sym c.is_writable.ensures ∙ c.if-not-is_writable.false) (sym (c.is_directory.ensures plain.files.tree c.in-Inode.node (c.stat_node-info.ensures.value plain.files.tree (holders others plain.files) hold.tree)) ∙ c.if-is_directory.false) (as_mapped c.args.heap.now c.args.procs.now plain.table c.args.place.pid _ c.args.addr _ c.args.n _ false (to_z-of_z w64 c.args.addr c.ranges.addr) (to_z-of_z w64 c.args.n c.ranges.n) c.range_of.ensures.tells stands.table (ap is_some c.in_default-range_of.is))) refl

pub returns-then-is_empty-clause-leads : goal.returns-then-is_empty-clause-leads
returns-then-is_empty-clause-leads c = λ script numbers others plain account stands hold.
    let range = (as_range c.args.heap.now c.args.procs.now c.args.place.pid _ c.args.addr _ c.args.n _ _ _ (to_z-of_z w64 c.args.addr c.ranges.addr) (to_z-of_z w64 c.args.n c.ranges.n) c.in-Some-range_of.ensures.range) in
    leads_nowhere script numbers others c.args.heap.now c.args.procs.now c.stat_node-info.new.self plain account c.args.place.pid (call.Pwrite c.args.on.now.fd c.args.addr c.args.n c.args.at) c.requires.kept stands (hold_on numbers others c.args.heap.now c.args.procs.now c.args.tree.now c.stat_node-info.new.self plain.files c.stat_node-info.ensures.stands hold) _ (Val (pos 0))
    (pwrite_nothing script numbers plain c.args.place.pid c.args.on.now.fd c.args.addr c.args.n c.in-Some.found (as_found c.args.heap.now c.args.procs.now c.args.place.pid c.args.on.now c.requires.opened numbers plain.files hold.opened (Some c.in-Some.found) c.in-Some.is) c.in-Inode.node c.in-Inode.is c.args.at (sym c.is_writable.ensures ∙ c.if-not-is_writable.false) (sym (c.is_directory.ensures plain.files.tree c.in-Inode.node (c.stat_node-info.ensures.value plain.files.tree (holders others plain.files) hold.tree)) ∙ c.if-is_directory.false) (as_mapped c.args.heap.now c.args.procs.now plain.table c.args.place.pid _ c.args.addr _ c.args.n _ true (to_z-of_z w64 c.args.addr c.ranges.addr) (to_z-of_z w64 c.args.n c.ranges.n) c.range_of.ensures.tells stands.table (ap is_some c.in-Some-range_of.is)) (sym range.counted ∙ no_count _ (sym c.is_empty.ensures ∙ c.if-is_empty.true))) refl

pub returns-in_default-range_of-clause-stays : goal.returns-in_default-range_of-clause-stays
returns-in_default-range_of-clause-stays c = λ numbers files have off.
    absurd (on_node numbers files c.args.place.pid c.args.on.now.fd c.in-Some.found c.in-Inode.node (as_found c.args.heap.now c.args.procs.now c.args.place.pid c.args.on.now c.requires.opened numbers files have (Some c.in-Some.found) c.in-Some.is) c.in-Inode.is off)

pub returns-in_default-range_of-clause-reads : goal.returns-in_default-range_of-clause-reads
returns-in_default-range_of-clause-reads c = used_reads c.args.tree.now c.stat_node-info.new.self c.stat_node-info.ensures.used

pub returns-then-is_empty-clause-stays : goal.returns-then-is_empty-clause-stays
returns-then-is_empty-clause-stays c = λ numbers files have off.
    absurd (on_node numbers files c.args.place.pid c.args.on.now.fd c.in-Some.found c.in-Inode.node (as_found c.args.heap.now c.args.procs.now c.args.place.pid c.args.on.now c.requires.opened numbers files have (Some c.in-Some.found) c.in-Some.is) c.in-Inode.is off)

pub returns-then-is_empty-clause-reads : goal.returns-then-is_empty-clause-reads
returns-then-is_empty-clause-reads c = used_reads c.args.tree.now c.stat_node-info.new.self c.stat_node-info.ensures.used

pub write_from-requires-clause-file : goal.write_from-requires-clause-file
write_from-requires-clause-file c =
    let some = c.requires.hold in
    holds_file c.args.heap.now c.args.procs.now c.args.tree.now c.stat_node-info.new.self some c.stat_node-info.ensures.stands c.in-Some.found.key c.in-Inode.node c.in-Some.found.desc (is_there c.args.heap.now c.args.procs.now c.args.place.pid c.args.on.now c.requires.opened c.in-Some.found c.in-Some.is) c.in-Inode.is
    (sym (c.is_directory.ensures some.files.tree c.in-Inode.node (c.stat_node-info.ensures.value some.files.tree (holders some.others some.files) some.hold.tree)) ∙ c.if-is_directory.false)

pub write_from-requires-clause-owned : goal.write_from-requires-clause-owned
write_from-requires-clause-owned c = c.in-Some-range_of.ensures.range.space.owned

pub write_from-requires-clause-mapped : goal.write_from-requires-clause-mapped
write_from-requires-clause-mapped c = c.in-Some-range_of.ensures.range.mapped

pub write_from-requires-clause-within : goal.write_from-requires-clause-within
write_from-requires-clause-within c = c.in-Some-range_of.ensures.range.within

pub write_from-requires-clause-some : goal.write_from-requires-clause-some
write_from-requires-clause-some c = (some_count _ (sym c.is_empty.ensures ∙ c.if-is_empty.false)).1

pub write_from-requires-clause-few : goal.write_from-requires-clause-few
write_from-requires-clause-few c =
    let right = right_placed c.args.addr c.args.n c.args.at c.requires.right in
    let range = (as_range c.args.heap.now c.args.procs.now c.args.place.pid _ c.args.addr _ c.args.n _ _ _ (to_z-of_z w64 c.args.addr c.ranges.addr) (to_z-of_z w64 c.args.n c.ranges.n) c.in-Some-range_of.ensures.range) in
    let few = right.0 in let same = range.counted in omega (arith, few, same)

pub returns-clause-leads : goal.returns-clause-leads
returns-clause-leads c = λ script numbers others plain account stands hold.
    let held = (hold_on numbers others c.args.heap.now c.args.procs.now c.args.tree.now c.stat_node-info.new.self plain.files c.stat_node-info.ensures.stands hold) in
    let range = (as_range c.args.heap.now c.args.procs.now c.args.place.pid _ c.args.addr _ c.args.n _ _ _ (to_z-of_z w64 c.args.addr c.ranges.addr) (to_z-of_z w64 c.args.n c.ranges.n) c.in-Some-range_of.ensures.range) in
    let at : c.count_of.result ≡ count_of c.args.at = subst (λ z. c.count_of.result ≡ count_of z) (to_z-of_z w64 c.args.at c.ranges.at) c.count_of.ensures in
    pwrites script numbers others c.args.heap.now c.write_from.new.heap c.args.procs.now c.stat_node-info.new.self c.write_from.new.tree plain account c.args.place.pid (call.Pwrite c.args.on.now.fd c.args.addr c.args.n c.args.at) c.requires.kept stands held c.write_from.ensures.pays.only _ c.in-Inode.node c.count_of.result (loaded (memory_of plain.table c.args.place.pid) c.in-Some-range_of.range.start c.in-Some-range_of.range.count)
    c.write_from.result (c.write_from.ensures.answer plain.files.tree (holders others plain.files) (memory_of plain.table c.args.place.pid) held.tree
    (memory_here c.args.heap.now c.args.procs.now plain.table c.args.place.pid c.in-Some-range_of.range.space range.space stands.table))
    (pwrite_goes script numbers plain c.args.place.pid c.args.on.now.fd c.args.addr c.args.n c.in-Some.found (as_found c.args.heap.now c.args.procs.now c.args.place.pid c.args.on.now c.requires.opened numbers plain.files hold.opened (Some c.in-Some.found) c.in-Some.is) c.in-Inode.node c.in-Inode.is c.args.at (sym c.is_writable.ensures ∙ c.if-not-is_writable.false) (sym (c.is_directory.ensures plain.files.tree c.in-Inode.node (c.stat_node-info.ensures.value plain.files.tree (holders others plain.files) hold.tree)) ∙ c.if-is_directory.false) (as_mapped c.args.heap.now c.args.procs.now plain.table c.args.place.pid _ c.args.addr _ c.args.n _ true (to_z-of_z w64 c.args.addr c.ranges.addr) (to_z-of_z w64 c.args.n c.ranges.n) c.range_of.ensures.tells stands.table (ap is_some c.in-Some-range_of.is)) (λ none. (some_count _ (sym c.is_empty.ensures ∙ c.if-is_empty.false)).0 (range.counted ∙ none))
    ∙ ap (λ b. wrote_at script plain c.args.place.pid (tree_write plain.files.tree c.in-Inode.node (count_of c.args.at) b)) (bytes_same (memory_of plain.table c.args.place.pid) c.in-Some-range_of.range.start c.in-Some-range_of.range.count (count_of c.args.addr) (count_of c.args.n) (range.begins (some_count _ (sym c.is_empty.ensures ∙ c.if-is_empty.false)).1) range.counted)
    ∙ ap (λ a. wrote_at script plain c.args.place.pid (tree_write plain.files.tree c.in-Inode.node a (loaded (memory_of plain.table c.args.place.pid) c.in-Some-range_of.range.start c.in-Some-range_of.range.count))) (sym at)) (λ count. refl)

pub returns-clause-kept : goal.returns-clause-kept
returns-clause-kept c = kept_beside c.args.heap.now c.write_from.new.heap c.write_from.ensures.pays.only c.args.procs.now c.requires.kept

pub returns-clause-beside : goal.returns-clause-beside
returns-clause-beside c = c.write_from.ensures.pays.only

pub returns-clause-paid : goal.returns-clause-paid
returns-clause-paid c = c.write_from.ensures.pays.paid

pub returns-clause-reads : goal.returns-clause-reads
returns-clause-reads c =
    let was = used_reads c.args.tree.now c.stat_node-info.new.self c.stat_node-info.ensures.used in
    let on = c.write_from.ensures.pays.reads in
    omega (arith, was, on)

pub returns-clause-stays : goal.returns-clause-stays
returns-clause-stays c = λ numbers files have off.
    absurd (on_node numbers files c.args.place.pid c.args.on.now.fd c.in-Some.found c.in-Inode.node (as_found c.args.heap.now c.args.procs.now c.args.place.pid c.args.on.now c.requires.opened numbers files have (Some c.in-Some.found) c.in-Some.is) c.in-Inode.is off)
