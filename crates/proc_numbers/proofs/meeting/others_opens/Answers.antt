use Rattle.std.proofs.Common.{not, ap, subst, sym, ◌∙◌}
use Rattle.open_laws.specs.Described.{access_in, counted_in, target_in}
use Rattle.open_laws.specs.Polled.{IsTargetIn}
use Rattle.posix_defs.specs.Calls.OnFiles.{others_opens}
use Rattle.posix_defs.specs.Files.Descriptions.{may_write}
use Rattle.posix_defs.specs.Pipe.{opens_of}
use Rattle.proc_numbers.proofs.OtherSides.{pipe_is}
use Rattle.proc_numbers.proofs.meeting.others_opens.Goals as goal

pub pipe_opens-requires : goal.pipe_opens-requires
pipe_opens-requires c = subst (IsTargetIn c.args.heap.now) c.in-Pipe.is c.requires

pub returns-in-Pipe : goal.returns-in-Pipe
returns-in-Pipe c = λ numbers files are.
    let is = subst (IsTargetIn c.args.heap.now) c.in-Pipe.is c.requires in
    c.pipe_opens.ensures is.0 is.1 is.2
    ∙ (ap (λ b. opens_of is.0 (not b)) c.may_write.ensures
    ∙ (ap (λ pipe. opens_of pipe (not (may_write (access_in c.args.desc.now.access)))) (pipe_is numbers c.args.heap.now files c.in-Pipe.key is are)
    ∙ ap (λ what. others_opens files (counted_in numbers c.args.desc.now).is (target_in numbers what)) (sym c.in-Pipe.is)))
