use Rattle.std.proofs.Common.{Ok, Err, refl, ap, sym, ◌∙◌, subst}
use Rattle.kheap_laws.proofs.PaidLemmas.{IsPaid-nothing}
use Rattle.memfs_ops.specs.FileTree.{TreeView}
use Rattle.posix_defs.specs.Calls.OnLocks.{kind_asked}
use Rattle.proc_files.specs.Holding.{HoldFiles}
use Rattle.store_objects.proofs.Keeping.{listed_in}
use Rattle.store_objects.specs.declared.objects.Objects.{Objects}
use Rattle.store_objects.proofs.CallingOpens.{holds_some, takes_none}
use Rattle.lock_calls.proofs.Beside.{hold_so}
use Rattle.lock_calls.proofs.Locking.{claimed_so}
use Rattle.lock_calls.proofs.setting.set_claimed.Goals as goal

pub claimed-file-requires-clause-listed : goal.claimed-file-requires-clause-listed
claimed-file-requires-clause-listed c = let some = c.requires.stands in listed_in some.0 c.args.objects.now some.2.kept

pub claimed-file-requires-clause-owners : goal.claimed-file-requires-clause-owners
claimed-file-requires-clause-owners c = let some = c.requires.stands in some.2.kept.owners

pub claimed-file-requires-clause-hold : goal.claimed-file-requires-clause-hold
claimed-file-requires-clause-hold c = let some = c.requires.stands in holds_some some.0 c.args.objects.now some.1 some.2 some.3 c.heap_is_well_formed.ensures

pub set_if_clear-requires-clause-table : goal.set_if_clear-requires-clause-table
set_if_clear-requires-clause-table c = let some = c.requires.stands in some.2.kept.locked

-- ---- a file may be claimed

pub returns-in-Ok-clause-tries : goal.returns-in-Ok-clause-tries
returns-in-Ok-clause-tries c = λ script world stands sound. (
  c.in-Ok.node,
  claimed_so script c.args.objects.now world c.heap_is_well_formed.ensures stands sound (kind_asked c.args.range.now.kind) c.args.caller.now.place.pid c.args.on.now.fd c.claimed-file.result
      c.claimed-file.ensures.file (Ok c.in-Ok.node) c.in-Ok.is,
  c.set_if_clear.ensures.clear world.plain.files.locks stands.locks,
  c.set_if_clear.ensures.locks world.plain.files.locks stands.locks,
)

pub returns-in-Ok-clause-holds : goal.returns-in-Ok-clause-holds
returns-in-Ok-clause-holds c = λ numbers others files hold.
    subst (λ (fs : TreeView). HoldFiles numbers others c.set_if_clear.new.objects.heap c.args.objects.now.procs fs files) (sym (ap (λ (o : Objects). o.tree) c.set_if_clear.ensures.same))
    (hold_so c.args.objects.now.heap c.set_if_clear.new.objects.heap c.set_if_clear.ensures.heap numbers others c.args.objects.now.procs c.claimed-file.new.tree files (c.claimed-file.ensures.holds numbers others files hold))

pub returns-in-Ok-clause-beside : goal.returns-in-Ok-clause-beside
returns-in-Ok-clause-beside c = record {
  heap = c.set_if_clear.ensures.heap;
  beside = c.set_if_clear.ensures.same
      ∙ ap (λ (fs : TreeView). record c.args.objects.now { heap = c.set_if_clear.new.objects.heap; tree = fs; locks = c.set_if_clear.new.objects.locks })
      (sym (ap (λ (o : Objects). o.tree) c.set_if_clear.ensures.same));
}

pub returns-in-Ok-clause-stays : goal.returns-in-Ok-clause-stays
returns-in-Ok-clause-stays c = λ numbers files have off.
    ap (λ (o : Objects). o.tree) c.set_if_clear.ensures.same ∙ c.claimed-file.ensures.stays numbers files have off

-- ---- or may not

pub returns-in-Err-clause-tries : goal.returns-in-Err-clause-tries
returns-in-Err-clause-tries c = λ script world stands sound. (
  claimed_so script c.args.objects.now world c.heap_is_well_formed.ensures stands sound (kind_asked c.args.range.now.kind) c.args.caller.now.place.pid c.args.on.now.fd c.claimed-file.result
      c.claimed-file.ensures.file (Err c.in-Err.errno) c.in-Err.is,
  stands.locks,
)

pub returns-in-Err-clause-beside : goal.returns-in-Err-clause-beside
returns-in-Err-clause-beside c = record { heap = refl; beside = refl }

pub returns-in-Err-clause-paid : goal.returns-in-Err-clause-paid
returns-in-Err-clause-paid c = IsPaid-nothing _ _ _ _ (takes_none c.args.objects.now.heap) refl refl
