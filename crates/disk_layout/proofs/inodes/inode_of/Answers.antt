use Rattle.std.proofs.Common.{rules, ◌≡◌, Ok, Err, sym, subst, ◌∙◌}
use Rattle.kabi_types.specs.declared.inodes.Inode.{Inode}
use Rattle.posix_defs.specs.DiskFormat.{IsOfKind, IsInode, inode_bytes}
use Rattle.disk_layout.specs.Faults.{IsFault}
use Rattle.disk_layout.specs.declared.faults.BadInode.TheVariants.{BadKind, BadPointer}
use Rattle.disk_laws.proofs.DiskSpelling.{same_inode}
use Rattle.disk_layout.proofs.InodeBytes.{no_other}
use Rattle.disk_layout.proofs.inodes.inode_of.Goals as goal

pub returns-then-not-is_of_kind-clause-fault : goal.returns-then-not-is_of_kind-clause-fault
returns-then-not-is_of_kind-clause-fault c = λ inode fits kind e.
    let was = c.in-Some.ensures.spelled in
    let same : inode ≡ c.in-Some.inode = same_inode inode c.in-Some.inode fits was.0 (sym e ∙ was.1) in
    let this : IsOfKind c.in-Some.inode = subst (λ (x : Inode). IsOfKind x) same kind in
    search rules

pub returns-then-not-is_of_kind-clause-only : goal.returns-then-not-is_of_kind-clause-only
returns-then-not-is_of_kind-clause-only c = no_other c.args.blocks c.args.bytes.now (Err BadKind) tt (returns-then-not-is_of_kind-clause-fault c)

pub returns-then-not-has_pointers-clause-only : goal.returns-then-not-has_pointers-clause-only
returns-then-not-has_pointers-clause-only c =
    let fault : IsFault c.args.blocks c.args.bytes.now BadPointer = search rules in
    no_other c.args.blocks c.args.bytes.now (Err BadPointer) tt fault

pub returns-clause-only : goal.returns-clause-only
returns-clause-only c =
    let found : IsInode c.args.blocks c.in-Some.inode × (c.args.bytes.now ≡ inode_bytes c.in-Some.inode) = search rules in
    no_other c.args.blocks c.args.bytes.now (Ok c.in-Some.inode) found tt
