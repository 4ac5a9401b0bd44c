use Rattle.std.proofs.Common.{◌≡◌, Some, IfSome, refl, sym, ap, subst, ◌∙◌, arith}
use Rattle.kabi_types.specs.declared.classes.Class.TheVariants as class
use Rattle.kheap_slabs.specs.Heap.{Heap}
use Rattle.kheap_slabs.specs.Leaves.{row_at, row_of}
use Rattle.kheap_slabs.specs.Objects.{InUse, object, put}
use Rattle.kheap_slabs.specs.Purse.{Purse}
use Rattle.kheap_slabs.proofs.ObjectLemmas.{put-within}
use Rattle.kheap_laws.proofs.PaidLemmas.{CanPay-kept, IsPaid-nothing, IsPaid-refl, IsPaid-spend, IsPaid-trans}
use Rattle.open_laws.specs.Open.{AreOpen}
use Rattle.open_laws.specs.Sharing.{CanShare, after_shares, share_all}
use Rattle.desc_table.specs.Copying.{CopiesLeaf}
use Rattle.desc_table.proofs.CopyLemmas.{leaf_open, leaf_owned}
use Rattle.desc_table.proofs.leaves.copy_leaf.Goals as goal

-- ---- there is none

pub returns-in_err-key-clause-copies : goal.returns-in_err-key-clause-copies
returns-in_err-key-clause-copies c = subst (λ o. CopiesLeaf c.args.heap.now.leaves c.args.heap.now.leaves o c.from_residual.result) (sym c.in_err-key.was) (refl, c.from_residual.ensures)

pub returns-in_err-key-clause-descs : goal.returns-in_err-key-clause-descs
returns-in_err-key-clause-descs c = ap (λ o. share_all c.args.heap.now.descs (row_at c.args.heap.now.leaves o)) (sym c.in_err-key.was)

pub returns-in_err-key-clause-opened : goal.returns-in_err-key-clause-opened
returns-in_err-key-clause-opened c = λ numbers list files are.
    subst (λ o. AreOpen numbers c.args.heap.now (after_shares numbers.descs list (row_at c.args.heap.now.leaves o)) files) (sym c.in_err-key.was) are

pub returns-in_err-key-clause-paid : goal.returns-in_err-key-clause-paid
returns-in_err-key-clause-paid c = IsPaid-refl c.args.heap.now c.args.purse.now

-- ---- one

pub get_leaf-requires : goal.get_leaf-requires
get_leaf-requires c = subst (λ o. IfSome o (InUse c.args.heap.now.leaves)) c.in_ok-key.was c.requires.used

pub share_descs-requires : goal.share_descs-requires
share_descs-requires c =
    record { can = subst (CanShare c.args.heap.now.descs) (ap (row_at c.args.heap.now.leaves) c.in_ok-key.was ∙ ap row_of c.get_leaf.ensures) c.requires.can }

pub insert_leaf-requires : goal.insert_leaf-requires
insert_leaf-requires c =
    let pays = CanPay-kept c.args.heap.now c.share_descs.new.heap c.args.purse.now c.args.purse.now
    (IsPaid-nothing c.args.heap.now c.share_descs.new.heap c.args.purse.now c.args.purse.now c.share_descs.ensures.takes refl refl) c.requires.pays in
    let left = c.requires.left in
    omega (arith, pays, left)

pub returns-clause-copies : goal.returns-clause-copies
returns-clause-copies c =
    let same = ap (λ (h : Heap). h.leaves) c.share_descs.ensures.kept in
    let after = ap (λ (h : Heap). h.leaves) c.insert_leaf.ensures.kept ∙ ap (λ l. put l c.insert_leaf.result c.get_leaf.result.now) same in
    subst (λ o. CopiesLeaf c.args.heap.now.leaves c.insert_leaf.new.self.leaves o (Some c.insert_leaf.result)) (sym c.in_ok-key.was)
    (c.insert_leaf.result, c.get_leaf.result.now, refl, c.get_leaf.ensures, ap (λ l. object l c.insert_leaf.result) (sym same) ∙ c.insert_leaf.ensures.vacant, after, c.insert_leaf.ensures.stored)

pub returns-clause-descs : goal.returns-clause-descs
returns-clause-descs c =
    ap (λ (h : Heap). h.descs) c.insert_leaf.ensures.kept
    ∙ (ap (λ (h : Heap). h.descs) c.share_descs.ensures.kept
    ∙ ap (share_all c.args.heap.now.descs) (sym (ap (row_at c.args.heap.now.leaves) c.in_ok-key.was ∙ ap row_of c.get_leaf.ensures)))

pub returns-clause-opened : goal.returns-clause-opened
returns-clause-opened c = λ numbers list files are.
    subst (λ row. AreOpen numbers c.insert_leaf.new.self (after_shares numbers.descs list row) files) (sym (ap (row_at c.args.heap.now.leaves) c.in_ok-key.was ∙ ap row_of c.get_leaf.ensures))
    (leaf_open numbers c.share_descs.new.heap c.insert_leaf.new.self (after_shares numbers.descs list c.get_leaf.result.now.descriptors) files c.insert_leaf.ensures.kept (c.share_descs.ensures.opened numbers list files are))

pub returns-clause-owners : goal.returns-clause-owners
returns-clause-owners c = λ hand owners.
    leaf_owned c.share_descs.new.heap c.insert_leaf.new.self hand c.insert_leaf.result c.get_leaf.result.now c.insert_leaf.ensures.kept
    (put-within c.share_descs.new.heap.leaves c.insert_leaf.result c.get_leaf.result.now (ap (λ (h : Heap). object h.leaves c.insert_leaf.result) (sym c.insert_leaf.ensures.kept) ∙ c.insert_leaf.ensures.stored))
    c.insert_leaf.ensures.vacant (c.share_descs.ensures.owners hand owners)

pub returns-clause-kept : goal.returns-clause-kept
returns-clause-kept c =
    let both = c.insert_leaf.ensures.kept ∙ ap (λ (h : Heap). record h { leaves = put h.leaves c.insert_leaf.result c.get_leaf.result.now; high = c.insert_leaf.new.self.high }) c.share_descs.ensures.kept in
    subst (λ (h : Heap). h ≡ record c.args.heap.now { descs = h.descs; leaves = h.leaves; high = h.high }) (sym both) refl

pub returns-clause-paid : goal.returns-clause-paid
returns-clause-paid c =
    IsPaid-trans c.args.heap.now c.args.purse.now c.share_descs.new.heap c.args.purse.now c.insert_leaf.new.self c.spend.new.self
    (IsPaid-nothing c.args.heap.now c.share_descs.new.heap c.args.purse.now c.args.purse.now c.share_descs.ensures.takes refl refl)
    (IsPaid-spend class.Leaf c.share_descs.new.heap c.insert_leaf.new.self c.args.purse.now c.spend.new.self c.insert_leaf.ensures.makes c.requires.left
    (ap (λ (p : Purse). p.left) c.spend.ensures.kept) (ap (λ (p : Purse). p.need) c.spend.ensures.kept))

pub returns-clause-pays : goal.returns-clause-pays
returns-clause-pays c =
    CanPay-kept c.args.heap.now c.insert_leaf.new.self c.args.purse.now c.spend.new.self
    (IsPaid-trans c.args.heap.now c.args.purse.now c.share_descs.new.heap c.args.purse.now c.insert_leaf.new.self c.spend.new.self
    (IsPaid-nothing c.args.heap.now c.share_descs.new.heap c.args.purse.now c.args.purse.now c.share_descs.ensures.takes refl refl)
    (IsPaid-spend class.Leaf c.share_descs.new.heap c.insert_leaf.new.self c.args.purse.now c.spend.new.self c.insert_leaf.ensures.makes c.requires.left
    (ap (λ (p : Purse). p.left) c.spend.ensures.kept) (ap (λ (p : Purse). p.need) c.spend.ensures.kept))) c.requires.pays

pub returns-clause-spent : goal.returns-clause-spent
returns-clause-spent c =
    subst (λ (p : Purse). p ≡ record c.args.purse.now { left = record c.args.purse.now.left { leaf = p.left.leaf } }) (sym c.spend.ensures.kept) refl

pub returns-clause-one : goal.returns-clause-one
returns-clause-one c =
    let less = ap (λ (p : Purse). p.left.leaf) c.spend.ensures.kept in
    omega (arith, less)
