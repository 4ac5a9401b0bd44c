use Rattle.std.proofs.Common.{◌≡◌, ℕ, Bool, not, ◌&&◌, eqb, Option, None, Result, Ok, Err, refl, sym, ◌∙◌, subst}
use Rattle.std.proofs.lemmas.Bool.{cond-true, eq-eqb}
use Rattle.kabi_types.specs.declared.errnos.Errno.{Errno}
use Rattle.kabi_types.specs.declared.errnos.Errno.TheVariants.{EBUSY, EINVAL, EISDIR, ENOTDIR, ENOTEMPTY}
use Rattle.posix_defs.specs.PathCalls as calls
use Rattle.posix_defs.specs.Tree.{Tree, is_directory}
use Rattle.posix_defs.specs.TreeChanges.{rename_over}
use Rattle.posix_defs.proofs.TreeNodes.{found_in_directory}
use Rattle.tree_laws.proofs.TreeFacts.{found_in_use}
use Rattle.blk_map.proofs.Taken.{preferred_then, unchanged_preferred}
use Rattle.memfs_ops.specs.Removing.{ToldTo, is_held}
use Rattle.memfs_ops.proofs.LookLemmas.{pays_of, pays_trans}
use Rattle.memfs_ops.proofs.RenameLemmas.{off_way}
use Rattle.memfs_ops.proofs.file_tree.FileTree.rename_onto.Goals as goal

pub goes_below-requires-clause-stands : goal.goes_below-requires-clause-stands
goes_below-requires-clause-stands g c =
    let r = c.requires.stands in
    (r.0, r.1, r.2, found_in_use r.0 c.args.dir c.args.name.now c.args.number r.2.is_tree r.3, found_in_directory r.0 c.args.to c.args.new.now c.args.replaced r.4)

pub returns-then-goes_below-clause-answer : goal.returns-then-goes_below-clause-answer
returns-then-goes_below-clause-answer g c = λ tree pins stands.
    let b = c.goes_below in
    let rest : Result (Option ℕ × Tree) Errno = calls.rename_onto tree (is_held pins) (is_held pins) c.args.dir c.args.name.now c.args.number c.args.to c.args.new.now c.args.replaced in
    subst (λ (x : Bool). ToldTo b.new.heap b.new.self tree (calls.unless x EINVAL rest) pins (Err EINVAL)) (sym (sym (b.ensures.value tree pins stands) ∙ c.if-goes_below.true)) (refl, b.ensures.looks.stands tree pins stands)

pub returns-then-goes_below-clause-pays : goal.returns-then-goes_below-clause-pays
returns-then-goes_below-clause-pays g c = pays_of c.args.heap.now c.goes_below.new.heap c.args.purse.now c.goes_below.new.purse c.args.self.now c.goes_below.new.self c.goes_below.ensures.looks

pub returns-then-number-replaced-clause-answer : goal.returns-then-number-replaced-clause-answer
returns-then-number-replaced-clause-answer g c = λ tree pins stands.
    let b = c.goes_below in
    let rest : Result (Option ℕ × Tree) Errno = (calls.unless (is_directory tree c.args.replaced && not (is_directory tree c.args.number)) EISDIR
    (calls.unless (is_directory tree c.args.number && not (is_directory tree c.args.replaced)) ENOTDIR
    (calls.unless (is_directory tree c.args.replaced && not (calls.is_empty tree c.args.replaced)) ENOTEMPTY
    (calls.unless (is_directory tree c.args.replaced && is_held pins c.args.replaced) EBUSY
    (Ok (calls.freed_by tree c.args.replaced, rename_over tree c.args.dir c.args.name.now c.args.number c.args.to c.args.new.now c.args.replaced (calls.is_held tree (is_held pins) c.args.replaced))))))) in
    let is : calls.rename_onto tree (is_held pins) (is_held pins) c.args.dir c.args.name.now c.args.number c.args.to c.args.new.now c.args.replaced ≡ Ok (None, tree) = cond-true (eqb c.args.number c.args.replaced) (Ok (None, tree)) rest (eq-eqb c.args.number c.args.replaced c.if-number-replaced.true) in
    subst (λ (x : Bool). ToldTo b.new.heap b.new.self tree (calls.unless x EINVAL (calls.rename_onto tree (is_held pins) (is_held pins) c.args.dir c.args.name.now c.args.number c.args.to c.args.new.now c.args.replaced)) pins (Ok None)) (sym (sym (b.ensures.value tree pins stands) ∙ c.if-goes_below.false))
    (subst (λ (l : Result (Option ℕ × Tree) Errno). ToldTo b.new.heap b.new.self tree l pins (Ok None)) (sym is) (refl, b.ensures.looks.stands tree pins stands))

pub returns-then-number-replaced-clause-pays : goal.returns-then-number-replaced-clause-pays
returns-then-number-replaced-clause-pays g c = pays_of c.args.heap.now c.goes_below.new.heap c.args.purse.now c.goes_below.new.purse c.args.self.now c.goes_below.new.self c.goes_below.ensures.looks

pub replace-requires-clause-stands : goal.replace-requires-clause-stands
replace-requires-clause-stands g c =
    let r = c.requires.stands in
    let fine = sym (c.goes_below.ensures.value r.0 r.1 r.2) ∙ c.if-goes_below.false in
    (r.0, r.1, c.goes_below.ensures.looks.stands r.0 r.1 r.2, r.3, r.4, r.5, r.6, off_way r.0 c.args.number c.args.to r.2.is_tree (found_in_directory r.0 c.args.to c.args.new.now c.args.replaced r.4) fine)

pub replace-requires-clause-may : goal.replace-requires-clause-may
replace-requires-clause-may g c = c.goes_below.ensures.looks.may

pub returns-clause-answer : goal.returns-clause-answer
returns-clause-answer g c = λ tree pins stands.
    let b = c.goes_below in
    let m = c.replace in
    subst (λ (x : Bool). ToldTo m.new.heap m.new.self tree (calls.unless x EINVAL (calls.rename_onto tree (is_held pins) (is_held pins) c.args.dir c.args.name.now c.args.number c.args.to c.args.new.now c.args.replaced)) pins m.result) (sym (sym (b.ensures.value tree pins stands) ∙ c.if-goes_below.false)) (m.ensures.answer tree pins (b.ensures.looks.stands tree pins stands))

pub returns-clause-pays : goal.returns-clause-pays
returns-clause-pays g c =
    let b = c.goes_below in
    let m = c.replace in
    pays_trans c.args.heap.now b.new.heap m.new.heap c.args.purse.now b.new.purse m.new.purse c.args.self.now b.new.self m.new.self b.ensures.looks m.ensures.pays

pub returns-then-goes_below-clause-lowest : goal.returns-then-goes_below-clause-lowest
returns-then-goes_below-clause-lowest g c = unchanged_preferred c.args.self.now.disk.blocks c.goes_below.new.self.disk.blocks (c.goes_below.ensures.looks.on.bytes)

pub returns-then-number-replaced-clause-lowest : goal.returns-then-number-replaced-clause-lowest
returns-then-number-replaced-clause-lowest g c = unchanged_preferred c.args.self.now.disk.blocks c.goes_below.new.self.disk.blocks (c.goes_below.ensures.looks.on.bytes)

pub returns-clause-lowest : goal.returns-clause-lowest
returns-clause-lowest g c = preferred_then c.args.self.now.disk.blocks c.goes_below.new.self.disk.blocks c.replace.new.self.disk.blocks (c.goes_below.ensures.looks.on.bytes) c.replace.ensures.lowest
