use Rattle.std.proofs.Common.{◌∙◌, ap, cond, sym}
use Rattle.kabi_types.specs.declared.replies.StatInfo.{StatInfo}
use Rattle.posix_defs.specs.Tree.{size_at}
use Rattle.proc_files.proofs.writing.place_of_write.Goals as goal

pub returns-then-desc-clause-place : goal.returns-then-desc-clause-place
returns-then-desc-clause-place c = λ plain pins stands.
    c.from.ensures ∙ ap (λ (i : StatInfo). i.size) (c.stat_node.ensures.value plain pins stands)
    ∙ sym (ap (λ b. cond b (size_at plain c.args.node) c.args.desc.now.offset) c.if-desc.true)
