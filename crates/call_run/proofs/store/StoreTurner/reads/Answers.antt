use Rattle.std.proofs.Common.{◌∙◌, ap, sym}
use Rattle.call_run.proofs.store.StoreTurner.reads.Goals as goal

pub returns : goal.returns
returns g c = λ world stands.
    c.reads.ensures ∙ ap (λ store. store.objects.tree.disk.reads) c.self.view_is ∙ sym stands.objects.stands.tree.reads
