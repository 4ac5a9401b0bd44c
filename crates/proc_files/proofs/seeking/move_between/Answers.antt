use Rattle.std.proofs.Common.{◌∙◌, ap, cond, sym}
use Rattle.std.specs.Prelude.{Err, Ok}
use Rattle.kabi_types.specs.declared.errnos.Errno.TheVariants.{EINVAL}
use Rattle.proc_files.proofs.seeking.move_between.Goals as goal

pub returns-then-is_within_entry-clause-value : goal.returns-then-is_within_entry-clause-value
returns-then-is_within_entry-clause-value c = λ plain node told.
    sym (ap (λ b. cond b (Err EINVAL) (Ok c.args.place)) (sym (c.is_within_entry.ensures plain node told) ∙ c.if-is_within_entry.true))

pub returns-clause-value : goal.returns-clause-value
returns-clause-value c = λ plain node told.
    sym (ap (λ b. cond b (Err EINVAL) (Ok c.args.place)) (sym (c.is_within_entry.ensures plain node told) ∙ c.if-is_within_entry.false))
