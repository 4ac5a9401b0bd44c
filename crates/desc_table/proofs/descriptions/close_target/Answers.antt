use Rattle.std.proofs.Common.{sym, ap, subst, ◌∙◌}
use Rattle.pipe_ends.specs.Standing.{HasEndAt}
use Rattle.pipe_ends.specs.Links.{ClosesLink}
use Rattle.open_laws.specs.Closing.{ClosesLinks, EndCloses, IsClosable, TargetCloses}
use Rattle.open_laws.specs.Described.{node_in}
use Rattle.open_laws.proofs.CloseLemmas.{change_by_pipe, change_by_socket, descs_by_pipe, descs_by_socket, links_by_socket, others_by_pipe, others_by_socket}
use Rattle.open_laws.proofs.RelinkedLemmas.{node_stands}
use Rattle.desc_table.proofs.descriptions.close_target.Goals as goal

-- ---- the end of a pipe

pub close_end-requires : goal.close_end-requires
close_end-requires c = record {
  owned = c.requires.owned;
  end = subst (HasEndAt c.args.heap.now c.in-Pipe.key) (sym c.may_write.ensures) (subst (IsClosable c.args.heap.now c.args.access) c.in-Pipe.is c.requires.there);
}

pub returns-in-Pipe-clause-closes : goal.returns-in-Pipe-clause-closes
returns-in-Pipe-clause-closes c =
    subst (TargetCloses c.args.heap.now c.close_end.new.heap c.args.access) (sym c.in-Pipe.is)
    (subst (EndCloses c.args.heap.now c.close_end.new.heap c.in-Pipe.key) c.may_write.ensures (record {
      gone = c.close_end.ensures.gone;
      stands = c.close_end.ensures.stands;
      others = others_by_pipe c.args.heap.now c.close_end.new.heap c.in-Pipe.key c.close_end.ensures.others;
    }))

pub returns-in-Pipe-clause-descs : goal.returns-in-Pipe-clause-descs
returns-in-Pipe-clause-descs c = descs_by_pipe c.args.heap.now c.close_end.new.heap c.in-Pipe.key c.close_end.ensures.others

pub returns-in-Pipe-clause-kept : goal.returns-in-Pipe-clause-kept
returns-in-Pipe-clause-kept c = change_by_pipe c.args.heap.now c.close_end.new.heap c.in-Pipe.key c.close_end.ensures.others c.close_end.ensures.takes.high

pub returns-in-Pipe-clause-node : goal.returns-in-Pipe-clause-node
returns-in-Pipe-clause-node c =
    let end = subst (IsClosable c.args.heap.now c.args.access) c.in-Pipe.is c.requires.there in
    c.pipe_fifo-fifo.ensures end.0 end.1 end.2
    ∙ (sym (node_stands c.args.heap.now c.in-Pipe.key end.0 end.1 end.2) ∙ ap (node_in c.args.heap.now.pipes) (sym c.in-Pipe.is))

pub returns-in-Pipe-clause-links : goal.returns-in-Pipe-clause-links
returns-in-Pipe-clause-links c =
    subst (ClosesLinks c.args.heap.now c.close_end.new.heap c.args.access) (sym c.in-Pipe.is)
    (subst (ClosesLink c.args.heap.now c.close_end.new.heap c.in-Pipe.key) c.may_write.ensures c.close_end.ensures.link)

-- ---- a socket

pub returns-in-Sock-clause-links : goal.returns-in-Sock-clause-links
returns-in-Sock-clause-links c =
    subst (ClosesLinks c.args.heap.now c.close_sock.new.heap c.args.access) (sym c.in-Sock.is)
    (links_by_socket c.args.heap.now c.close_sock.new.heap c.close_sock.ensures.others)

pub close_sock-requires : goal.close_sock-requires
close_sock-requires c = record {
  owned = c.requires.owned;
  there = subst (IsClosable c.args.heap.now c.args.access) c.in-Sock.is c.requires.there;
}

pub returns-in-Sock-clause-closes : goal.returns-in-Sock-clause-closes
returns-in-Sock-clause-closes c =
    subst (TargetCloses c.args.heap.now c.close_sock.new.heap c.args.access) (sym c.in-Sock.is) (record {
      stands = c.close_sock.ensures.stands;
      held = c.close_sock.ensures.held;
      others = others_by_socket c.args.heap.now c.close_sock.new.heap c.close_sock.ensures.others;
      queues = c.close_sock.ensures.queues;
    })

pub returns-in-Sock-clause-descs : goal.returns-in-Sock-clause-descs
returns-in-Sock-clause-descs c = descs_by_socket c.args.heap.now c.close_sock.new.heap c.close_sock.ensures.others

pub returns-in-Sock-clause-kept : goal.returns-in-Sock-clause-kept
returns-in-Sock-clause-kept c = change_by_socket c.args.heap.now c.close_sock.new.heap c.close_sock.ensures.others c.close_sock.ensures.takes.high
