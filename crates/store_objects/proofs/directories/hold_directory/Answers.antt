use Rattle.std.proofs.Common.{cond, subst, sym}
use Rattle.memfs_ops.specs.FileTree.{one_more}
use Rattle.memfs_ops.specs.FileTree.{Stands}
use Rattle.posix_defs.specs.Plain.{root}
use Rattle.proc_table.proofs.PlaceLemmas.{eqb_other}
use Rattle.store_objects.proofs.directories.hold_directory.Goals as goal

pub returns-then-directory-ne-ROOT-clause-stands : goal.returns-then-directory-ne-ROOT-clause-stands
returns-then-directory-ne-ROOT-clause-stands c = λ tree pins stands.
    subst (λ b. Stands c.pin_node.new.heap c.pin_node.new.self tree (cond b pins (one_more pins c.args.directory))) (sym (eqb_other c.args.directory root c.if-directory-ne-ROOT.true))
    (c.pin_node.ensures.stands tree pins stands)
