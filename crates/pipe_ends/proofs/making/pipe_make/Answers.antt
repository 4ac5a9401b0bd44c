use Rattle.std.proofs.Common.{refl}
use Rattle.kheap_laws.proofs.TableLemmas.{OwnsItsObjects-pipe_comes}
use Rattle.pipe_ends.proofs.LinkLemmas.{links_made}
use Rattle.pipe_ends.proofs.StandingLemmas.{others_made}
use Rattle.pipe_ends.proofs.making.pipe_make.Goals as goal

pub returns-clause-owned : goal.returns-clause-owned
returns-clause-owned c =
    OwnsItsObjects-pipe_comes c.args.heap.now c.insert_pipe.new.self c.insert_pipe.result _ c.insert_pipe.ensures.vacant c.insert_pipe.ensures.stored refl c.insert_pipe.ensures.kept c.requires.owned

pub returns-clause-links : goal.returns-clause-links
returns-clause-links c =
    links_made c.args.heap.now c.insert_pipe.new.self c.insert_pipe.result _ c.insert_pipe.ensures.vacant c.insert_pipe.ensures.stored refl
    (others_made c.args.heap.now c.insert_pipe.new.self c.insert_pipe.result _ c.insert_pipe.ensures.kept)
