use Rattle.std.proofs.Common.{◌<◌, cond, subst, sym}
use Rattle.memfs_ops.specs.Closing.{one_less}
use Rattle.memfs_ops.specs.FileTree.{Stands, one_more}
use Rattle.posix_defs.specs.Plain.{root}
use Rattle.proc_table.proofs.PlaceLemmas.{eqb_other, eqb_same}
use Rattle.store_objects.proofs.Moving.{one_back, some_once}
use Rattle.store_objects.proofs.TreesOn.{same_pins}
use Rattle.store_objects.proofs.directories.hold_once.Goals as goal

pub release-requires : goal.release-requires
release-requires c =
    let held = c.requires.held in
    record {
      stands = (
        held.0,
        one_more held.1 c.args.directory,
        held.2,
        some_once held.1 c.args.directory,
        subst (λ n. 0 < n) (sym (one_back held.1 c.args.directory root)) held.3,
      );
    }

pub returns-then-directory-eq-ROOT-clause-stands : goal.returns-then-directory-eq-ROOT-clause-stands
returns-then-directory-eq-ROOT-clause-stands c = λ tree pins stands.
    subst (λ b. Stands c.release.new.heap c.release.new.self tree (cond b pins (one_more pins c.args.directory))) (sym (eqb_same c.args.directory root c.if-directory-eq-ROOT.true))
    (same_pins c.release.new.heap c.release.new.self tree (one_less (one_more pins c.args.directory) c.args.directory) pins (one_back pins c.args.directory)
    (c.release.ensures.stands tree (one_more pins c.args.directory) stands))

pub returns-else-directory-eq-ROOT-clause-stands : goal.returns-else-directory-eq-ROOT-clause-stands
returns-else-directory-eq-ROOT-clause-stands c = λ tree pins stands.
    subst (λ b. Stands c.args.objects.now.heap c.args.objects.now.tree tree (cond b pins (one_more pins c.args.directory))) (sym (eqb_other c.args.directory root c.if-directory-eq-ROOT.false))
    stands
