use Rattle.std.proofs.Common.{◌≡◌, ◌∙◌, ap, not, subst, sym, w64}
use Rattle.std.proofs.lemmas.Int.{to_z-of_z}
use Rattle.posix_defs.specs.Waiting.{is_nohang}
use Rattle.proc_table.specs.Changes.{reaped_of}
use Rattle.store_objects.specs.Objects.{procs_of}
use Rattle.process_calls.proofs.Sleeping.{blocks_as_told, not_nobody, sleeps}
use Rattle.process_calls.proofs.children.would_sleep.Goals as goal

pub answer-requires : goal.answer-requires
answer-requires c = c.requires.stored

pub returns-in-Nobody : goal.returns-in-Nobody
unfolding sleeps
returns-in-Nobody c = λ script world stands.
    let told : c.answer.result ≡ reaped_of c.args.pid c.args.which (procs_of c.args.objects.now) =
    subst (λ z. c.answer.result ≡ reaped_of c.args.pid z (procs_of c.args.objects.now)) (to_z-of_z w64 c.args.which c.ranges.which) c.answer.ensures in
    let hang : c.is_nohang.result ≡ is_nohang c.args.options =
    subst (λ z. c.is_nohang.result ≡ is_nohang z) (to_z-of_z w64 c.args.options c.ranges.options) c.is_nohang.ensures in
    ap not hang ∙ sym (blocks_as_told script c.args.objects.now world.plain c.args.pid c.args.which c.args.options _ stands.processes (sym told ∙ c.in-Nobody.is))

pub returns-in_default : goal.returns-in_default
returns-in_default c = λ script world stands.
    let told : c.answer.result ≡ reaped_of c.args.pid c.args.which (procs_of c.args.objects.now) =
    subst (λ z. c.answer.result ≡ reaped_of c.args.pid z (procs_of c.args.objects.now)) (to_z-of_z w64 c.args.which c.ranges.which) c.answer.ensures in
    sym (blocks_as_told script c.args.objects.now world.plain c.args.pid c.args.which c.args.options c.answer.result stands.processes (sym told)
    ∙ not_nobody c.answer.result c.args.options c.in_default.not-Nobody)
