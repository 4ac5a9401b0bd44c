use Rattle.std.proofs.Common.{◌∙◌, subst, sym}
use Rattle.kheap_laws.proofs.PaidLemmas.{TakesNothing-refl}
use Rattle.lock_table.specs.Chain.{HoldsLocks}
use Rattle.lock_table.proofs.Tables.{none_held}
use Rattle.posix_defs.specs.Files.State.{let_go}
use Rattle.posix_defs.specs.Locks.{without}
use Rattle.proc_files.proofs.Unlocking.{is_empty, lets_nothing_go, none_let_go}
use Rattle.open_laws.specs.Described.{inode_in}
use Rattle.proc_files.proofs.closing.unlock.Goals as goal

pub returns-then-is_empty-clause-locks : goal.returns-then-is_empty-clause-locks
returns-then-is_empty-clause-locks c = λ held has.
    subst (HoldsLocks c.args.heap.now.locks c.args.locks.now)
    (sym (none_let_go held c.args.place.pid (inode_in c.args.target) ((none_held c.args.heap.now.locks c.args.locks.now held has).0 (is_empty c.args.locks.now (sym c.is_empty.ensures ∙ c.if-is_empty.true))))) has

pub returns-then-is_empty-clause-takes : goal.returns-then-is_empty-clause-takes
returns-then-is_empty-clause-takes c = TakesNothing-refl c.args.heap.now

pub returns-in_default-clause-locks : goal.returns-in_default-clause-locks
returns-in_default-clause-locks c = λ held has.
    subst (HoldsLocks c.args.heap.now.locks c.args.locks.now) (sym (lets_nothing_go held c.args.place.pid c.args.target c.in_default.not-Inode)) has

pub returns-in_default-clause-takes : goal.returns-in_default-clause-takes
returns-in_default-clause-takes c = TakesNothing-refl c.args.heap.now

pub returns-clause-locks : goal.returns-clause-locks
returns-clause-locks c = λ held has.
    subst (λ what. HoldsLocks c.drop_of.new.heap.locks c.drop_of.new.self (let_go held c.args.place.pid (inode_in what))) (sym c.in-Inode.is) (c.drop_of.ensures.holds held has)

pub returns-clause-locked : goal.returns-clause-locked
returns-clause-locked c =
    (without c.requires.0 c.args.place.pid c.in-Inode.node, c.drop_of.ensures.holds c.requires.0 c.requires.1)

pub returns-clause-beside : goal.returns-clause-beside
returns-clause-beside c = c.drop_of.ensures.kept
