use Rattle.std.proofs.Common.{◌/◌, arith}
use Rattle.std.proofs.lemmas.Bool.{MatchBool-at_true}
use Rattle.page_space.proofs.MapLemmas.{range_mapped}
use Rattle.page_space.proofs.spaces.Space.mapped.Goals as goal

pub returns-else-n-eq0-clause-memory : goal.returns-else-n-eq0-clause-memory
returns-else-n-eq0-clause-memory c =
    λ memory stands. range_mapped c.args.heap.now c.args.self.now memory c.args.addr c.args.n c.requires.owned.1.pages stands c.requires.within c.if-n-eq0.false
    c.is_mapped_run.result c.is_mapped_run.ensures

pub returns-else-n-eq0-clause-pages : goal.returns-else-n-eq0-clause-pages
returns-else-n-eq0-clause-pages c = λ yes byte above below.
    let all = MatchBool-at_true _ _ yes c.is_mapped_run.ensures in
    all (byte / 4096) (omega arith) (omega arith)
