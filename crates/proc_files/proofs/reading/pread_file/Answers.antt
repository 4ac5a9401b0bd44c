use Rattle.std.proofs.Common.{◌≡◌, ◌∙◌, ◌≤◌, ap, false, true, None, of_z, pos, refl, Some, sym, subst, to_z, w64, arith, is_some}
use Rattle.std.proofs.lemmas.Int.{to_z-of_z}
use Rattle.kabi_types.specs.Arguments.{count_of, range_fault}
use Rattle.kabi_types.specs.declared.errnos.Errno.TheVariants.{EBADF, EFAULT, EISDIR, ESPIPE}
use Rattle.kabi_types.specs.declared.replies.Reply.TheVariants.{Fail, Val}
use Rattle.posix_defs.specs.Calls.Reading.{put}
use Rattle.posix_defs.specs.Needs.{pages_touched}
use Rattle.posix_defs.specs.PathCalls.{read_node}
use Rattle.proc_numbers.proofs.RightBytes.{touched_at}
use Rattle.proc_files.specs.Holders.{holders}
use Rattle.proc_files.proofs.Holding.{as_found, held_some, hold_on, no_node, on_node}
use Rattle.proc_files.proofs.Leading.{leads_nowhere}
use Rattle.proc_files.proofs.OpenFiles.{holds_file, used_reads}
use Rattle.proc_files.proofs.Puts.{leads_put, read_beside, read_kept, read_paid}
use Rattle.proc_files.proofs.Ranges.{as_mapped, as_range, no_count, right_placed, some_count}
use Rattle.proc_files.proofs.ReadAnswers.{pread_closed, pread_denied, pread_directory, pread_goes, pread_nothing, pread_refused, pread_unmapped}
use Rattle.kabi_types.specs.declared.calls.Call.TheVariants as call
use Rattle.proc_files.proofs.Saves.{keeps_read, saves_read, saves_used}
use Rattle.kheap_slabs.specs.declared.objects.Desc.{Desc}
use Rattle.proc_numbers.proofs.OpenedBy.{is_named, is_there}
use Rattle.proc_files.proofs.reading.pread_file.Goals as goal

pub returns-in_default-clause-leads : goal.returns-in_default-clause-leads
returns-in_default-clause-leads c = λ script numbers others plain account stands hold.
    leads_nowhere script numbers others c.args.heap.now c.args.procs.now c.args.tree.now plain account c.args.place.pid (call.Pread c.args.on.now.fd c.args.addr c.args.n c.args.at) c.requires.kept stands hold _ (Fail EBADF)
    (pread_closed script numbers plain c.args.place.pid c.args.on.now.fd c.args.addr c.args.n c.args.at (as_found c.args.heap.now c.args.procs.now c.args.place.pid c.args.on.now c.requires.opened numbers plain.files hold.opened None c.in_default.is)) refl

pub returns-then-not-is_readable-clause-leads : goal.returns-then-not-is_readable-clause-leads
returns-then-not-is_readable-clause-leads c = λ script numbers others plain account stands hold.
    leads_nowhere script numbers others c.args.heap.now c.args.procs.now c.args.tree.now plain account c.args.place.pid (call.Pread c.args.on.now.fd c.args.addr c.args.n c.args.at) c.requires.kept stands hold _ (Fail EBADF)
    (pread_denied script numbers plain c.args.place.pid c.args.on.now.fd c.args.addr c.args.n c.in-Some.found (as_found c.args.heap.now c.args.procs.now c.args.place.pid c.args.on.now c.requires.opened numbers plain.files hold.opened (Some c.in-Some.found) c.in-Some.is) c.args.at (sym c.is_readable.ensures ∙ c.if-not-is_readable.true)) refl

pub returns-in_default-target-clause-leads : goal.returns-in_default-target-clause-leads
returns-in_default-target-clause-leads c = λ script numbers others plain account stands hold.
    leads_nowhere script numbers others c.args.heap.now c.args.procs.now c.args.tree.now plain account c.args.place.pid (call.Pread c.args.on.now.fd c.args.addr c.args.n c.args.at) c.requires.kept stands hold _ (Fail ESPIPE)
    (pread_refused script numbers plain c.args.place.pid c.args.on.now.fd c.args.addr c.args.n c.in-Some.found (as_found c.args.heap.now c.args.procs.now c.args.place.pid c.args.on.now c.requires.opened numbers plain.files hold.opened (Some c.in-Some.found) c.in-Some.is) c.args.at (sym c.is_readable.ensures ∙ c.if-not-is_readable.false) (no_node c.in-Some.found.desc.target c.in_default-target.not-Inode)) refl

pub stat_node-info-requires : goal.stat_node-info-requires
stat_node-info-requires c =
    held_some c.args.heap.now c.args.procs.now c.args.tree.now c.requires.hold c.in-Some.found.key c.in-Inode.node c.in-Some.found.desc (is_there c.args.heap.now c.args.procs.now c.args.place.pid c.args.on.now c.requires.opened c.in-Some.found c.in-Some.is) c.in-Inode.is

pub returns-then-is_directory-clause-leads : goal.returns-then-is_directory-clause-leads
returns-then-is_directory-clause-leads c = λ script numbers others plain account stands hold.
    leads_nowhere script numbers others c.args.heap.now c.args.procs.now c.stat_node-info.new.self plain account c.args.place.pid (call.Pread c.args.on.now.fd c.args.addr c.args.n c.args.at) c.requires.kept stands (hold_on numbers others c.args.heap.now c.args.procs.now c.args.tree.now c.stat_node-info.new.self plain.files c.stat_node-info.ensures.stands hold) _ (Fail EISDIR)
    (pread_directory script numbers plain c.args.place.pid c.args.on.now.fd c.args.addr c.args.n c.in-Some.found (as_found c.args.heap.now c.args.procs.now c.args.place.pid c.args.on.now c.requires.opened numbers plain.files hold.opened (Some c.in-Some.found) c.in-Some.is) c.in-Inode.node c.in-Inode.is c.args.at (sym c.is_readable.ensures ∙ c.if-not-is_readable.false) (sym (c.is_directory.ensures plain.files.tree c.in-Inode.node (c.stat_node-info.ensures.value plain.files.tree (holders others plain.files) hold.tree)) ∙ c.if-is_directory.true)) refl

pub returns-then-is_directory-clause-stays : goal.returns-then-is_directory-clause-stays
returns-then-is_directory-clause-stays c = λ numbers files have off.
    absurd (on_node numbers files c.args.place.pid c.args.on.now.fd c.in-Some.found c.in-Inode.node (as_found c.args.heap.now c.args.procs.now c.args.place.pid c.args.on.now c.requires.opened numbers files have (Some c.in-Some.found) c.in-Some.is) c.in-Inode.is off)

pub returns-then-is_directory-clause-reads : goal.returns-then-is_directory-clause-reads
returns-then-is_directory-clause-reads c = used_reads c.args.tree.now c.stat_node-info.new.self c.stat_node-info.ensures.used

pub range_of-requires-clause-right : goal.range_of-requires-clause-right
range_of-requires-clause-right c =
    let right = right_placed c.args.addr c.args.n c.args.at c.requires.right in
    subst (λ z. range_fault z (count_of (to_z w64 (of_z w64 c.args.n))) ≡ None) (sym (to_z-of_z w64 c.args.addr c.ranges.addr))
    (subst (λ z. range_fault c.args.addr (count_of z) ≡ None) (sym (to_z-of_z w64 c.args.n c.ranges.n)) right.1)

pub range_of-requires-clause-few : goal.range_of-requires-clause-few
range_of-requires-clause-few c =
    let right = right_placed c.args.addr c.args.n c.args.at c.requires.right in
    subst (λ z. count_of z ≤ 32767) (sym (to_z-of_z w64 c.args.n c.ranges.n)) right.0

pub returns-in_default-range_of-clause-leads : goal.returns-in_default-range_of-clause-leads
returns-in_default-range_of-clause-leads c = λ script numbers others plain account stands hold.
    leads_nowhere script numbers others c.args.heap.now c.args.procs.now c.stat_node-info.new.self plain account c.args.place.pid (call.Pread c.args.on.now.fd c.args.addr c.args.n c.args.at) c.requires.kept stands (hold_on numbers others c.args.heap.now c.args.procs.now c.args.tree.now c.stat_node-info.new.self plain.files c.stat_node-info.ensures.stands hold) _ (Fail EFAULT)
    (pread_unmapped script numbers plain c.args.place.pid c.args.on.now.fd c.args.addr c.args.n c.in-Some.found (as_found c.args.heap.now c.args.procs.now c.args.place.pid c.args.on.now c.requires.opened numbers plain.files hold.opened (Some c.in-Some.found) c.in-Some.is) c.in-Inode.node c.in-Inode.is c.args.at (sym c.is_readable.ensures ∙ c.if-not-is_readable.false) (sym (c.is_directory.ensures plain.files.tree c.in-Inode.node (c.stat_node-info.ensures.value plain.files.tree (holders others plain.files) hold.tree)) ∙ c.if-is_directory.false) (as_mapped c.args.heap.now c.args.procs.now plain.table c.args.place.pid _ c.args.addr _ c.args.n _ false (to_z-of_z w64 c.args.addr c.ranges.addr) (to_z-of_z w64 c.args.n c.ranges.n) c.range_of.ensures.tells stands.table (ap is_some c.in_default-range_of.is))) refl

pub returns-in_default-range_of-clause-stays : goal.returns-in_default-range_of-clause-stays
returns-in_default-range_of-clause-stays c = λ numbers files have off.
    absurd (on_node numbers files c.args.place.pid c.args.on.now.fd c.in-Some.found c.in-Inode.node (as_found c.args.heap.now c.args.procs.now c.args.place.pid c.args.on.now c.requires.opened numbers files have (Some c.in-Some.found) c.in-Some.is) c.in-Inode.is off)

pub returns-in_default-range_of-clause-reads : goal.returns-in_default-range_of-clause-reads
returns-in_default-range_of-clause-reads c = used_reads c.args.tree.now c.stat_node-info.new.self c.stat_node-info.ensures.used

pub returns-then-is_empty-clause-leads : goal.returns-then-is_empty-clause-leads
returns-then-is_empty-clause-leads c = λ script numbers others plain account stands hold.
    let range = (as_range c.args.heap.now c.args.procs.now c.args.place.pid _ c.args.addr _ c.args.n _ _ _ (to_z-of_z w64 c.args.addr c.ranges.addr) (to_z-of_z w64 c.args.n c.ranges.n) c.in-Some-range_of.ensures.range) in
    leads_nowhere script numbers others c.args.heap.now c.args.procs.now c.stat_node-info.new.self plain account c.args.place.pid (call.Pread c.args.on.now.fd c.args.addr c.args.n c.args.at) c.requires.kept stands (hold_on numbers others c.args.heap.now c.args.procs.now c.args.tree.now c.stat_node-info.new.self plain.files c.stat_node-info.ensures.stands hold) _ (Val (pos 0))
    (pread_nothing script numbers plain c.args.place.pid c.args.on.now.fd c.args.addr c.args.n c.in-Some.found (as_found c.args.heap.now c.args.procs.now c.args.place.pid c.args.on.now c.requires.opened numbers plain.files hold.opened (Some c.in-Some.found) c.in-Some.is) c.in-Inode.node c.in-Inode.is c.args.at (sym c.is_readable.ensures ∙ c.if-not-is_readable.false) (sym (c.is_directory.ensures plain.files.tree c.in-Inode.node (c.stat_node-info.ensures.value plain.files.tree (holders others plain.files) hold.tree)) ∙ c.if-is_directory.false) (as_mapped c.args.heap.now c.args.procs.now plain.table c.args.place.pid _ c.args.addr _ c.args.n _ true (to_z-of_z w64 c.args.addr c.ranges.addr) (to_z-of_z w64 c.args.n c.ranges.n) c.range_of.ensures.tells stands.table (ap is_some c.in-Some-range_of.is)) (sym range.counted ∙ no_count _ (sym c.is_empty.ensures ∙ c.if-is_empty.true))) refl

pub returns-then-is_empty-clause-stays : goal.returns-then-is_empty-clause-stays
returns-then-is_empty-clause-stays c = λ numbers files have off.
    absurd (on_node numbers files c.args.place.pid c.args.on.now.fd c.in-Some.found c.in-Inode.node (as_found c.args.heap.now c.args.procs.now c.args.place.pid c.args.on.now c.requires.opened numbers files have (Some c.in-Some.found) c.in-Some.is) c.in-Inode.is off)

pub returns-then-is_empty-clause-reads : goal.returns-then-is_empty-clause-reads
returns-then-is_empty-clause-reads c = used_reads c.args.tree.now c.stat_node-info.new.self c.stat_node-info.ensures.used

pub read_into-requires-clause-file : goal.read_into-requires-clause-file
read_into-requires-clause-file c =
    let some = c.requires.hold in
    holds_file c.args.heap.now c.args.procs.now c.args.tree.now c.stat_node-info.new.self some c.stat_node-info.ensures.stands c.in-Some.found.key c.in-Inode.node c.in-Some.found.desc (is_there c.args.heap.now c.args.procs.now c.args.place.pid c.args.on.now c.requires.opened c.in-Some.found c.in-Some.is) c.in-Inode.is
    (sym (c.is_directory.ensures some.files.tree c.in-Inode.node (c.stat_node-info.ensures.value some.files.tree (holders some.others some.files) some.hold.tree)) ∙ c.if-is_directory.false)

pub read_into-requires-clause-owned : goal.read_into-requires-clause-owned
read_into-requires-clause-owned c = c.in-Some-range_of.ensures.range.space.owned

pub read_into-requires-clause-mapped : goal.read_into-requires-clause-mapped
read_into-requires-clause-mapped c = c.in-Some-range_of.ensures.range.mapped

pub read_into-requires-clause-within : goal.read_into-requires-clause-within
read_into-requires-clause-within c = c.in-Some-range_of.ensures.range.within

pub read_into-requires-clause-few : goal.read_into-requires-clause-few
read_into-requires-clause-few c =
    let right = right_placed c.args.addr c.args.n c.args.at c.requires.right in
    let range = (as_range c.args.heap.now c.args.procs.now c.args.place.pid _ c.args.addr _ c.args.n _ _ _ (to_z-of_z w64 c.args.addr c.ranges.addr) (to_z-of_z w64 c.args.n c.ranges.n) c.in-Some-range_of.ensures.range) in
    let few = right.0 in let same = range.counted in omega (arith, few, same)

pub read_into-requires-clause-left : goal.read_into-requires-clause-left
read_into-requires-clause-left c =
    let range = (as_range c.args.heap.now c.args.procs.now c.args.place.pid _ c.args.addr _ c.args.n _ _ _ (to_z-of_z w64 c.args.addr c.ranges.addr) (to_z-of_z w64 c.args.n c.ranges.n) c.in-Some-range_of.ensures.range) in
    let left = c.requires.left in
    subst (λ n. n ≤ c.args.purse.now.left.page) (sym (touched_at c.in-Some-range_of.range.start (count_of c.args.addr) c.in-Some-range_of.range.count range.begins))
    (subst (λ n. pages_touched (count_of c.args.addr) n ≤ c.args.purse.now.left.page) (sym range.counted) left)

pub returns-clause-leads : goal.returns-clause-leads
returns-clause-leads c = λ script numbers others plain account stands hold.
    let held = (hold_on numbers others c.args.heap.now c.args.procs.now c.args.tree.now c.stat_node-info.new.self plain.files c.stat_node-info.ensures.stands hold) in
    let range = (as_range c.args.heap.now c.args.procs.now c.args.place.pid _ c.args.addr _ c.args.n _ _ _ (to_z-of_z w64 c.args.addr c.ranges.addr) (to_z-of_z w64 c.args.n c.ranges.n) c.in-Some-range_of.ensures.range) in
    let at : c.count_of.result ≡ count_of c.args.at = subst (λ z. c.count_of.result ≡ count_of z) (to_z-of_z w64 c.args.at c.ranges.at) c.count_of.ensures in
    leads_put c.args.heap.now c.args.purse.now c.read_into.new.heap c.read_into.new.purse c.stat_node-info.new.self c.read_into.new.tree c.in-Some-range_of.range.space c.in-Some-range_of.range.start (read_node plain.files.tree c.in-Inode.node c.count_of.result c.in-Some-range_of.range.count) (c.read_into.ensures.reads plain.files.tree (holders others plain.files) held.tree) c.args.procs.now c.args.place.pid c.requires.kept range.space numbers others plain account stands held c.args.addr (range.begins (some_count _ (sym c.is_empty.ensures ∙ c.if-is_empty.false)).1)
    script (call.Pread c.args.on.now.fd c.args.addr c.args.n c.args.at) _ c.read_into.result (c.read_into.ensures.count plain.files.tree (holders others plain.files) held.tree) refl
    (pread_goes script numbers plain c.args.place.pid c.args.on.now.fd c.args.addr c.args.n c.in-Some.found (as_found c.args.heap.now c.args.procs.now c.args.place.pid c.args.on.now c.requires.opened numbers plain.files hold.opened (Some c.in-Some.found) c.in-Some.is) c.in-Inode.node c.in-Inode.is c.args.at (sym c.is_readable.ensures ∙ c.if-not-is_readable.false) (sym (c.is_directory.ensures plain.files.tree c.in-Inode.node (c.stat_node-info.ensures.value plain.files.tree (holders others plain.files) hold.tree)) ∙ c.if-is_directory.false) (as_mapped c.args.heap.now c.args.procs.now plain.table c.args.place.pid _ c.args.addr _ c.args.n _ true (to_z-of_z w64 c.args.addr c.ranges.addr) (to_z-of_z w64 c.args.n c.ranges.n) c.range_of.ensures.tells stands.table (ap is_some c.in-Some-range_of.is)) (λ none. (some_count _ (sym c.is_empty.ensures ∙ c.if-is_empty.false)).0 (range.counted ∙ none))
    ∙ ap (λ m. put script plain c.args.place.pid c.args.addr (read_node plain.files.tree c.in-Inode.node (count_of c.args.at) m)) (sym range.counted)
    ∙ ap (λ k. put script plain c.args.place.pid c.args.addr (read_node plain.files.tree c.in-Inode.node k c.in-Some-range_of.range.count)) (sym at))

pub returns-clause-kept : goal.returns-clause-kept
returns-clause-kept c =
    let some = c.requires.hold in
    read_kept c.args.heap.now c.args.purse.now c.read_into.new.heap c.read_into.new.purse c.stat_node-info.new.self c.read_into.new.tree c.in-Some-range_of.range.space c.in-Some-range_of.range.start (read_node some.files.tree c.in-Inode.node c.count_of.result c.in-Some-range_of.range.count) (c.read_into.ensures.reads some.files.tree (holders some.others some.files) (c.stat_node-info.ensures.stands some.files.tree (holders some.others some.files) some.hold.tree)) c.args.procs.now c.args.place.pid c.requires.kept c.in-Some-range_of.ensures.range.space

pub returns-clause-beside : goal.returns-clause-beside
returns-clause-beside c = let some = c.requires.hold in read_beside c.args.heap.now c.args.purse.now c.read_into.new.heap c.read_into.new.purse c.stat_node-info.new.self c.read_into.new.tree c.in-Some-range_of.range.space c.in-Some-range_of.range.start (read_node some.files.tree c.in-Inode.node c.count_of.result c.in-Some-range_of.range.count) (c.read_into.ensures.reads some.files.tree (holders some.others some.files) (c.stat_node-info.ensures.stands some.files.tree (holders some.others some.files) some.hold.tree))

pub returns-clause-paid : goal.returns-clause-paid
returns-clause-paid c = let some = c.requires.hold in read_paid c.args.heap.now c.args.purse.now c.read_into.new.heap c.read_into.new.purse c.stat_node-info.new.self c.read_into.new.tree c.in-Some-range_of.range.space c.in-Some-range_of.range.start (read_node some.files.tree c.in-Inode.node c.count_of.result c.in-Some-range_of.range.count) (c.read_into.ensures.reads some.files.tree (holders some.others some.files) (c.stat_node-info.ensures.stands some.files.tree (holders some.others some.files) some.hold.tree))

pub returns-clause-reads : goal.returns-clause-reads
returns-clause-reads c =
    let some = c.requires.hold in
    let was = used_reads c.args.tree.now c.stat_node-info.new.self c.stat_node-info.ensures.used in
    let on = (c.read_into.ensures.reads some.files.tree (holders some.others some.files) (c.stat_node-info.ensures.stands some.files.tree (holders some.others some.files) some.hold.tree)).fetches.on.reads in
    omega (arith, was, on)

pub returns-clause-stays : goal.returns-clause-stays
returns-clause-stays c = λ numbers files have off.
    absurd (on_node numbers files c.args.place.pid c.args.on.now.fd c.in-Some.found c.in-Inode.node (as_found c.args.heap.now c.args.procs.now c.args.place.pid c.args.on.now c.requires.opened numbers files have (Some c.in-Some.found) c.in-Some.is) c.in-Inode.is off)

pub returns-in_default-clause-saved : goal.returns-in_default-clause-saved
returns-in_default-clause-saved c = λ held desc number inode named there on has cached. refl

pub returns-then-not-is_readable-clause-saved : goal.returns-then-not-is_readable-clause-saved
returns-then-not-is_readable-clause-saved c = λ held desc number inode named there on has cached. refl

pub returns-in_default-target-clause-saved : goal.returns-in_default-target-clause-saved
returns-in_default-target-clause-saved c = λ held desc number inode named there on has cached. refl

pub returns-then-is_directory-clause-saved : goal.returns-then-is_directory-clause-saved
returns-then-is_directory-clause-saved c = saves_used c.args.heap.now c.args.procs.now c.args.place.pid c.args.on.now.fd c.args.tree.now c.stat_node-info.new.self c.stat_node-info.ensures.used (λ (desc : Desc). count_of c.args.at) 0

pub returns-in_default-range_of-clause-saved : goal.returns-in_default-range_of-clause-saved
returns-in_default-range_of-clause-saved c = saves_used c.args.heap.now c.args.procs.now c.args.place.pid c.args.on.now.fd c.args.tree.now c.stat_node-info.new.self c.stat_node-info.ensures.used (λ (desc : Desc). count_of c.args.at) 0

pub returns-then-is_empty-clause-saved : goal.returns-then-is_empty-clause-saved
returns-then-is_empty-clause-saved c = saves_used c.args.heap.now c.args.procs.now c.args.place.pid c.args.on.now.fd c.args.tree.now c.stat_node-info.new.self c.stat_node-info.ensures.used (λ (desc : Desc). count_of c.args.at) 0

pub returns-clause-saved : goal.returns-clause-saved
returns-clause-saved c =
    saves_read c.args.heap.now c.args.procs.now c.args.place.pid c.args.on.now.fd c.args.tree.now c.stat_node-info.new.self c.stat_node-info.ensures.used c.read_into.new.tree c.in-Some.found c.in-Inode.node
    (is_named c.args.heap.now c.args.procs.now c.args.place.pid c.args.on.now c.requires.opened c.in-Some.found c.in-Some.is)
    (is_there c.args.heap.now c.args.procs.now c.args.place.pid c.args.on.now c.requires.opened c.in-Some.found c.in-Some.is) c.in-Inode.is (λ (desc : Desc). count_of c.args.at) c.count_of.result c.read_into.result
    (subst (λ z. c.count_of.result ≡ count_of z) (to_z-of_z w64 c.args.at c.ranges.at) c.count_of.ensures)
    c.read_into.ensures.saved

pub returns-in_default-clause-last : goal.returns-in_default-clause-last
returns-in_default-clause-last c = λ held desc number inode named there on has some. absurd (omega (arith, some))

pub returns-then-not-is_readable-clause-last : goal.returns-then-not-is_readable-clause-last
returns-then-not-is_readable-clause-last c = λ held desc number inode named there on has some. absurd (omega (arith, some))

pub returns-in_default-target-clause-last : goal.returns-in_default-target-clause-last
returns-in_default-target-clause-last c = λ held desc number inode named there on has some. absurd (omega (arith, some))

pub returns-then-is_directory-clause-last : goal.returns-then-is_directory-clause-last
returns-then-is_directory-clause-last c = λ held desc number inode named there on has some. absurd (omega (arith, some))

pub returns-in_default-range_of-clause-last : goal.returns-in_default-range_of-clause-last
returns-in_default-range_of-clause-last c = λ held desc number inode named there on has some. absurd (omega (arith, some))

pub returns-then-is_empty-clause-last : goal.returns-then-is_empty-clause-last
returns-then-is_empty-clause-last c = λ held desc number inode named there on has some. absurd (omega (arith, some))

pub returns-clause-last : goal.returns-clause-last
returns-clause-last c =
    keeps_read c.args.heap.now c.args.procs.now c.args.place.pid c.args.on.now.fd c.args.tree.now c.stat_node-info.new.self c.stat_node-info.ensures.used c.read_into.new.tree c.in-Some.found c.in-Inode.node
    (is_named c.args.heap.now c.args.procs.now c.args.place.pid c.args.on.now c.requires.opened c.in-Some.found c.in-Some.is)
    (is_there c.args.heap.now c.args.procs.now c.args.place.pid c.args.on.now c.requires.opened c.in-Some.found c.in-Some.is) c.in-Inode.is (λ (desc : Desc). count_of c.args.at) c.count_of.result c.read_into.result
    (subst (λ z. c.count_of.result ≡ count_of z) (to_z-of_z w64 c.args.at c.ranges.at) c.count_of.ensures)
    c.read_into.ensures.last
