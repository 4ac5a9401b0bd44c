use Rattle.std.proofs.Common.{refl, sym, subst, ◌∙◌}
use Rattle.fifo_nodes.proofs.ChainLemmas.{used_at}
use Rattle.fifo_nodes.proofs.OpenLemmas.{ends_as}
use Rattle.pipe_ends.specs.Standing.{StandsFor}
use Rattle.fifo_nodes.proofs.table.FifoTable.ends.Goals as goal

pub get_pipe-requires : goal.get_pipe-requires
get_pipe-requires c = let found = c.in-Some.ensures.some in used_at c.args.heap.now c.in-Some.key found.link found.there

pub returns-in-Some : goal.returns-in-Some
returns-in-Some c =
    let found = c.in-Some.ensures.some in record {
      had = λ key pipe at is stands.
          let same = c.requires.alone key c.in-Some.key is.link found.link is.there found.there (is.same ∙ sym found.same) in
          let here = subst (λ k. StandsFor c.args.heap.now k pipe at) same stands in
          c.ends_of.ensures ∙ ends_as c.args.heap.now c.in-Some.key c.get_pipe.result.now pipe at c.args.writing c.get_pipe.ensures here;
      none = λ no. absurd (no c.in-Some.key found);
    }

pub returns-in-None : goal.returns-in-None
returns-in-None c = record { had = λ key pipe at is stands. absurd (c.key_of.ensures.none c.in-None.is key is); none = λ no. refl }
