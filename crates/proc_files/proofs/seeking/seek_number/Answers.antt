use Rattle.std.proofs.Common.{◌≡◌, ◌∙◌, [], ap, subst, of_z, to_z, w64}
use Rattle.std.specs.Option.{option_map}
use Rattle.std.proofs.lemmas.Int.{to_z-of_z}
use Rattle.proc_numbers.specs.Found.{opened_in}
use Rattle.proc_files.specs.Seeking.{sought}
use Rattle.proc_files.proofs.Holding.{held_some, hold_on, no_node, on_node}
use Rattle.proc_files.proofs.SeekAnswers.{lseek_bad, lseek_refused, seek_beside, seek_holds, seek_listed, seek_owners, seek_some}
use Rattle.proc_numbers.proofs.OpenedBy.{is_there, opened_is}
use Rattle.proc_files.proofs.seeking.seek_number.Goals as goal

pub returns-in_default-clause-answers : goal.returns-in_default-clause-answers
returns-in_default-clause-answers c = λ numbers others script plain hold. record {
  files = plain.files;
  replies = lseek_bad script numbers plain c.args.place.pid c.args.on.now.fd c.args.offset c.args.whence
      (opened_is c.args.heap.now c.args.procs.now c.args.place.pid c.args.on.now c.requires.opened numbers plain.files hold.opened ∙ ap (option_map (opened_in numbers)) c.in_default.is);
  holds = hold;
}

pub returns-in_default-target-clause-answers : goal.returns-in_default-target-clause-answers
returns-in_default-target-clause-answers c = λ numbers others script plain hold. record {
  files = plain.files;
  replies = lseek_refused script numbers plain c.args.place.pid c.args.on.now.fd c.in-Some.found
      (opened_is c.args.heap.now c.args.procs.now c.args.place.pid c.args.on.now c.requires.opened numbers plain.files hold.opened ∙ ap (option_map (opened_in numbers)) c.in-Some.is)
      c.args.offset c.args.whence (no_node c.in-Some.found.desc.target c.in_default-target.not-Inode);
  holds = hold;
}

pub seek_node-requires-clause-held : goal.seek_node-requires-clause-held
seek_node-requires-clause-held c =
    held_some c.args.heap.now c.args.procs.now c.args.tree.now c.requires.hold c.in-Some.found.key c.in-Inode.node c.in-Some.found.desc (is_there c.args.heap.now c.args.procs.now c.args.place.pid c.args.on.now c.requires.opened c.in-Some.found c.in-Some.is) c.in-Inode.is

pub returns-clause-answers : goal.returns-clause-answers
returns-clause-answers c = λ numbers others script plain hold.
    let offset = to_z-of_z w64 c.args.offset c.ranges.offset in
    let whence = to_z-of_z w64 c.args.whence c.ranges.whence in
    seek_holds numbers others c.args.heap.now c.seek_node.new.heap c.args.procs.now c.args.tree.now c.seek_node.new.tree script plain c.args.place.pid c.args.on.now.fd c.args.offset c.args.whence
    c.in-Some.found c.in-Inode.node (hold_on numbers others c.args.heap.now c.args.procs.now c.args.tree.now c.seek_node.new.tree plain.files c.seek_node.ensures.stands hold)
    (opened_is c.args.heap.now c.args.procs.now c.args.place.pid c.args.on.now c.requires.opened numbers plain.files hold.opened ∙ ap (option_map (opened_in numbers)) c.in-Some.is)
    (is_there c.args.heap.now c.args.procs.now c.args.place.pid c.args.on.now c.requires.opened c.in-Some.found c.in-Some.is) c.in-Inode.is c.seek_node.result
    (subst (λ z. c.seek_node.result ≡ sought plain.files.tree c.in-Inode.node c.in-Some.found.desc.offset c.args.offset z) whence
    (subst (λ z. c.seek_node.result ≡ sought plain.files.tree c.in-Inode.node c.in-Some.found.desc.offset z (to_z w64 (of_z w64 c.args.whence))) offset
    (c.seek_node.ensures.value plain.files.tree _ hold.tree)))
    c.seek_node.ensures.moved c.seek_node.ensures.unchanged

pub returns-clause-listed : goal.returns-clause-listed
returns-clause-listed c =
    seek_listed c.args.heap.now c.seek_node.new.heap c.in-Some.found c.args.procs.now c.seek_node.result (is_there c.args.heap.now c.args.procs.now c.args.place.pid c.args.on.now c.requires.opened c.in-Some.found c.in-Some.is) c.seek_node.ensures.moved c.seek_node.ensures.unchanged c.requires.listed

pub returns-clause-owners : goal.returns-clause-owners
returns-clause-owners c =
    seek_owners c.args.heap.now c.seek_node.new.heap c.in-Some.found c.seek_node.result (is_there c.args.heap.now c.args.procs.now c.args.place.pid c.args.on.now c.requires.opened c.in-Some.found c.in-Some.is) c.seek_node.ensures.moved c.seek_node.ensures.unchanged [] c.requires.owners

pub returns-clause-beside : goal.returns-clause-beside
returns-clause-beside c =
    seek_beside c.args.heap.now c.seek_node.new.heap c.in-Some.found c.seek_node.result (is_there c.args.heap.now c.args.procs.now c.args.place.pid c.args.on.now c.requires.opened c.in-Some.found c.in-Some.is) c.seek_node.ensures.moved c.seek_node.ensures.unchanged

pub returns-clause-hold : goal.returns-clause-hold
returns-clause-hold c =
    let some = c.requires.hold in
    seek_some c.args.heap.now c.seek_node.new.heap c.in-Some.found c.args.procs.now c.args.tree.now c.seek_node.new.tree c.in-Inode.node some c.seek_node.ensures.stands (is_there c.args.heap.now c.args.procs.now c.args.place.pid c.args.on.now c.requires.opened c.in-Some.found c.in-Some.is) c.in-Inode.is
    c.seek_node.result (to_z w64 (of_z w64 c.args.offset)) (to_z w64 (of_z w64 c.args.whence)) (c.seek_node.ensures.value some.files.tree _ some.hold.tree) c.seek_node.ensures.moved c.seek_node.ensures.unchanged

pub returns-clause-stays : goal.returns-clause-stays
returns-clause-stays c = λ numbers files have off.
    absurd (on_node numbers files c.args.place.pid c.args.on.now.fd c.in-Some.found c.in-Inode.node
    (opened_is c.args.heap.now c.args.procs.now c.args.place.pid c.args.on.now c.requires.opened numbers files have ∙ ap (option_map (opened_in numbers)) c.in-Some.is) c.in-Inode.is off)
