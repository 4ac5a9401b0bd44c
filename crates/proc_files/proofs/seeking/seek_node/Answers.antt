use Rattle.std.proofs.Common.{◌≡◌, ◌∙◌, ◌+ℤ◌, ap, pos, sym, subst, w64}
use Rattle.std.proofs.lemmas.Int.{to_z-of_z}
use Rattle.kabi_types.specs.Arguments.{count_of}
use Rattle.posix_defs.specs.Tree.{is_directory}
use Rattle.proc_files.specs.Seeking.{between_entries, offset_at, origin_in}
use Rattle.proc_files.proofs.SeekAnswers.{sought_is}
use Rattle.proc_files.proofs.seeking.seek_node.Goals as goal

pub returns-in-Ok-clause-value : goal.returns-in-Ok-clause-value
returns-in-Ok-clause-value c = λ plain pins stands.
    let offset = to_z-of_z w64 c.args.offset c.ranges.offset in
    let whence = to_z-of_z w64 c.args.whence c.ranges.whence in
    let told = c.stat_node-info.ensures.value plain pins stands in
    c.move_between.ensures.value plain c.args.node told
    ∙ sym (sought_is plain c.args.node c.args.found.now.desc.offset c.args.offset c.args.whence c.stat_node-info.result c.origin_of-origin.result c.offset_from.result told
    (subst (λ z. c.origin_of-origin.result ≡ origin_in (count_of z) c.args.found.now.desc.offset c.stat_node-info.result.size) whence c.origin_of-origin.ensures)
    (subst (λ z. c.offset_from.result ≡ offset_at (pos c.origin_of-origin.result +ℤ z)) offset c.offset_from.ensures)
    ∙ ap (between_entries (is_directory plain c.args.node)) c.in-Ok.is)

pub returns-in-Err-clause-value : goal.returns-in-Err-clause-value
returns-in-Err-clause-value c = λ plain pins stands.
    let offset = to_z-of_z w64 c.args.offset c.ranges.offset in
    let whence = to_z-of_z w64 c.args.whence c.ranges.whence in
    let told = c.stat_node-info.ensures.value plain pins stands in
    sym (sought_is plain c.args.node c.args.found.now.desc.offset c.args.offset c.args.whence c.stat_node-info.result c.origin_of-origin.result c.offset_from.result told
    (subst (λ z. c.origin_of-origin.result ≡ origin_in (count_of z) c.args.found.now.desc.offset c.stat_node-info.result.size) whence c.origin_of-origin.ensures)
    (subst (λ z. c.offset_from.result ≡ offset_at (pos c.origin_of-origin.result +ℤ z)) offset c.offset_from.ensures)
    ∙ ap (between_entries (is_directory plain c.args.node)) c.in-Err.is)
