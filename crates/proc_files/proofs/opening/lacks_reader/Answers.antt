use Rattle.std.proofs.Common.{◌≡◌, ◌==◌, ◌&&◌, ◌∙◌, ap, false, refl, sym, true, w64}
use Rattle.std.proofs.lemmas.Int.{to_z-of_z}
use Rattle.posix_defs.specs.Calls.OnFiles.{fifo_pipe}
use Rattle.posix_defs.specs.Files.Descriptions.{access_of, has_flag, may_write, o_nonblock}
use Rattle.posix_defs.specs.Pipe.{Pipe, ends_of}
use Rattle.proc_files.proofs.FifoFound.{tells_of}
use Rattle.proc_files.proofs.opening.lacks_reader.Goals as goal

pub returns-then-not-is_to_write : goal.returns-then-not-is_to_write
returns-then-not-is_to_write c = λ numbers files are.
    let flags = to_z-of_z w64 c.args.flags c.ranges.flags in
    let off : may_write (access_of c.args.flags) ≡ false = sym (ap (λ z. may_write (access_of z)) flags) ∙ sym c.is_to_write.ensures ∙ c.if-not-is_to_write.true in
    sym (ap (λ b. b && has_flag c.args.flags o_nonblock && ((fifo_pipe files c.args.node).readers == 0)) off)

pub returns-then-not-has_flag : goal.returns-then-not-has_flag
returns-then-not-has_flag c = λ numbers files are.
    let flags = to_z-of_z w64 c.args.flags c.ranges.flags in
    let on : may_write (access_of c.args.flags) ≡ true = sym (ap (λ z. may_write (access_of z)) flags) ∙ sym c.is_to_write.ensures ∙ c.if-not-is_to_write.false in
    let off : has_flag c.args.flags o_nonblock ≡ false = sym (ap (λ z. has_flag z o_nonblock) flags) ∙ sym c.has_flag.ensures ∙ c.if-not-has_flag.true in
    sym (ap (λ b. b && has_flag c.args.flags o_nonblock && ((fifo_pipe files c.args.node).readers == 0)) on ∙ ap (λ b. b && ((fifo_pipe files c.args.node).readers == 0)) off)

pub returns : goal.returns
returns c = λ numbers files are.
    let flags = to_z-of_z w64 c.args.flags c.ranges.flags in
    let on : may_write (access_of c.args.flags) ≡ true = sym (ap (λ z. may_write (access_of z)) flags) ∙ sym c.is_to_write.ensures ∙ c.if-not-is_to_write.false in
    let unwaiting : has_flag c.args.flags o_nonblock ≡ true = sym (ap (λ z. has_flag z o_nonblock) flags) ∙ sym c.has_flag.ensures ∙ c.if-not-has_flag.false in
    ap (λ n. n == 0) (tells_of numbers c.args.heap.now files c.args.node c.requires.node are (λ (pipe : Pipe). ends_of pipe false) c.ends.result refl c.ends.ensures)
    ∙ sym (ap (λ b. b && has_flag c.args.flags o_nonblock && ((fifo_pipe files c.args.node).readers == 0)) on ∙ ap (λ b. b && ((fifo_pipe files c.args.node).readers == 0)) unwaiting)
