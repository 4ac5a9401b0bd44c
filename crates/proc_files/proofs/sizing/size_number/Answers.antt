use Rattle.std.proofs.Common.{◌≡◌, ◌∙◌, [], None, Some, sym, subst, w64}
use Rattle.std.proofs.lemmas.Int.{to_z-of_z}
use Rattle.kabi_types.specs.Arguments.{count_of}
use Rattle.memfs_ops.specs.Changing.{ChangedTo}
use Rattle.posix_defs.specs.TreeChanges.{resize}
use Rattle.proc_files.specs.Holders.{holders}
use Rattle.proc_files.proofs.Beside.{listed_beside, owners_beside}
use Rattle.proc_files.proofs.Holding.{as_found, held_some, hold_on, no_node, on_node}
use Rattle.proc_files.proofs.OpenFiles.{holds_file, used_pays}
use Rattle.proc_files.proofs.WriteAnswers.{ftruncate_closed, ftruncate_denied, ftruncate_directory, ftruncate_goes, ftruncate_refused}
use Rattle.proc_files.proofs.WriteLeads.{truncated, truncated_some}
use Rattle.proc_numbers.proofs.OpenedBy.{is_there}
use Rattle.proc_files.proofs.sizing.size_number.Goals as goal

pub returns-in_default-clause-answers : goal.returns-in_default-clause-answers
returns-in_default-clause-answers c = λ numbers others script plain hold. record {
  files = plain.files;
  replies = ftruncate_closed script numbers plain c.args.place.pid c.args.on.now.fd c.args.size
      (as_found c.args.heap.now c.args.procs.now c.args.place.pid c.args.on.now c.requires.opened numbers plain.files hold.opened None c.in_default.is);
  holds = hold;
}

pub returns-in_default-target-clause-answers : goal.returns-in_default-target-clause-answers
returns-in_default-target-clause-answers c = λ numbers others script plain hold. record {
  files = plain.files;
  replies = ftruncate_refused script numbers plain c.args.place.pid c.args.on.now.fd c.args.size c.in-Some.found
      (as_found c.args.heap.now c.args.procs.now c.args.place.pid c.args.on.now c.requires.opened numbers plain.files hold.opened (Some c.in-Some.found) c.in-Some.is)
      (no_node c.in-Some.found.desc.target c.in_default-target.not-Inode);
  holds = hold;
}

pub stat_node-info-requires : goal.stat_node-info-requires
stat_node-info-requires c =
    held_some c.args.heap.now c.args.procs.now c.args.tree.now c.requires.hold c.in-Some.found.key c.in-Inode.node c.in-Some.found.desc (is_there c.args.heap.now c.args.procs.now c.args.place.pid c.args.on.now c.requires.opened c.in-Some.found c.in-Some.is) c.in-Inode.is

pub returns-then-is_directory-clause-answers : goal.returns-then-is_directory-clause-answers
returns-then-is_directory-clause-answers c = λ numbers others script plain hold. record {
  files = plain.files;
  replies = ftruncate_directory script numbers plain c.args.place.pid c.args.on.now.fd c.args.size c.in-Some.found
      (as_found c.args.heap.now c.args.procs.now c.args.place.pid c.args.on.now c.requires.opened numbers plain.files hold.opened (Some c.in-Some.found) c.in-Some.is)
      c.in-Inode.node c.in-Inode.is
      (sym (c.is_directory.ensures plain.files.tree c.in-Inode.node (c.stat_node-info.ensures.value plain.files.tree (holders others plain.files) hold.tree)) ∙ c.if-is_directory.true);
  holds = hold_on numbers others c.args.heap.now c.args.procs.now c.args.tree.now c.stat_node-info.new.self plain.files c.stat_node-info.ensures.stands hold;
}

pub returns-then-is_directory-clause-stays : goal.returns-then-is_directory-clause-stays
returns-then-is_directory-clause-stays c = λ numbers files have off.
    absurd (on_node numbers files c.args.place.pid c.args.on.now.fd c.in-Some.found c.in-Inode.node
    (as_found c.args.heap.now c.args.procs.now c.args.place.pid c.args.on.now c.requires.opened numbers files have (Some c.in-Some.found) c.in-Some.is) c.in-Inode.is off)

pub returns-then-not-is_writable-clause-answers : goal.returns-then-not-is_writable-clause-answers
returns-then-not-is_writable-clause-answers c = λ numbers others script plain hold. record {
  files = plain.files;
  replies = ftruncate_denied script numbers plain c.args.place.pid c.args.on.now.fd c.args.size c.in-Some.found
      (as_found c.args.heap.now c.args.procs.now c.args.place.pid c.args.on.now c.requires.opened numbers plain.files hold.opened (Some c.in-Some.found) c.in-Some.is)
      c.in-Inode.node c.in-Inode.is
      (sym (c.is_directory.ensures plain.files.tree c.in-Inode.node (c.stat_node-info.ensures.value plain.files.tree (holders others plain.files) hold.tree)) ∙ c.if-is_directory.false)
      (sym c.is_writable.ensures ∙ c.if-not-is_writable.true);
  holds = hold_on numbers others c.args.heap.now c.args.procs.now c.args.tree.now c.stat_node-info.new.self plain.files c.stat_node-info.ensures.stands hold;
}

pub returns-then-not-is_writable-clause-stays : goal.returns-then-not-is_writable-clause-stays
returns-then-not-is_writable-clause-stays c = λ numbers files have off.
    absurd (on_node numbers files c.args.place.pid c.args.on.now.fd c.in-Some.found c.in-Inode.node
    (as_found c.args.heap.now c.args.procs.now c.args.place.pid c.args.on.now c.requires.opened numbers files have (Some c.in-Some.found) c.in-Some.is) c.in-Inode.is off)

pub size_node-requires-clause-stands : goal.size_node-requires-clause-stands
size_node-requires-clause-stands c =
    let some = c.requires.hold in
    let it = holds_file c.args.heap.now c.args.procs.now c.args.tree.now c.stat_node-info.new.self some c.stat_node-info.ensures.stands c.in-Some.found.key c.in-Inode.node c.in-Some.found.desc (is_there c.args.heap.now c.args.procs.now c.args.place.pid c.args.on.now c.requires.opened c.in-Some.found c.in-Some.is) c.in-Inode.is
    (sym (c.is_directory.ensures some.files.tree c.in-Inode.node (c.stat_node-info.ensures.value some.files.tree (holders some.others some.files) some.hold.tree)) ∙ c.if-is_directory.false) in
    (it.tree, it.pins, it.stands, it.held, it.is_file)

pub returns-clause-answers : goal.returns-clause-answers
returns-clause-answers c = λ numbers others script plain hold.
    let size : c.count_of.result ≡ count_of c.args.size = subst (λ z. c.count_of.result ≡ count_of z) (to_z-of_z w64 c.args.size c.ranges.size) c.count_of.ensures in
    let held = hold_on numbers others c.args.heap.now c.args.procs.now c.args.tree.now c.stat_node-info.new.self plain.files c.stat_node-info.ensures.stands hold in
    truncated script numbers others c.args.heap.now c.size_node.new.heap c.args.procs.now c.stat_node-info.new.self c.size_node.new.self plain c.args.place.pid c.in-Inode.node (count_of c.args.size)
    c.size_node.ensures.pays.only held _ c.size_node.result
    (subst (λ n. ChangedTo c.size_node.new.heap c.size_node.new.self plain.files.tree (resize plain.files.tree c.in-Inode.node n) (holders others plain.files) c.size_node.result) size
    (c.size_node.ensures.answer plain.files.tree (holders others plain.files) held.tree))
    (ftruncate_goes script numbers plain c.args.place.pid c.args.on.now.fd c.args.size c.in-Some.found
    (as_found c.args.heap.now c.args.procs.now c.args.place.pid c.args.on.now c.requires.opened numbers plain.files hold.opened (Some c.in-Some.found) c.in-Some.is)
    c.in-Inode.node c.in-Inode.is
    (sym (c.is_directory.ensures plain.files.tree c.in-Inode.node (c.stat_node-info.ensures.value plain.files.tree (holders others plain.files) hold.tree)) ∙ c.if-is_directory.false)
    (sym c.is_writable.ensures ∙ c.if-not-is_writable.false))

pub returns-clause-listed : goal.returns-clause-listed
returns-clause-listed c = listed_beside c.args.heap.now c.size_node.new.heap c.size_node.ensures.pays.only c.args.procs.now c.requires.listed

pub returns-clause-owners : goal.returns-clause-owners
returns-clause-owners c = owners_beside c.args.heap.now c.size_node.new.heap c.size_node.ensures.pays.only [] c.requires.owners

pub returns-clause-hold : goal.returns-clause-hold
returns-clause-hold c =
    truncated_some c.args.heap.now c.size_node.new.heap c.args.procs.now c.args.tree.now c.stat_node-info.new.self c.size_node.new.self c.in-Inode.node c.count_of.result c.size_node.result
    c.size_node.ensures.pays.only c.requires.hold c.stat_node-info.ensures.stands c.size_node.ensures.answer

pub returns-clause-pays : goal.returns-clause-pays
returns-clause-pays c =
    used_pays c.args.heap.now c.size_node.new.heap c.args.purse.now c.size_node.new.purse c.args.tree.now c.stat_node-info.new.self c.size_node.new.self c.stat_node-info.ensures.used c.size_node.ensures.pays

pub returns-clause-stays : goal.returns-clause-stays
returns-clause-stays c = λ numbers files have off.
    absurd (on_node numbers files c.args.place.pid c.args.on.now.fd c.in-Some.found c.in-Inode.node
    (as_found c.args.heap.now c.args.procs.now c.args.place.pid c.args.on.now c.requires.opened numbers files have (Some c.in-Some.found) c.in-Some.is) c.in-Inode.is off)
