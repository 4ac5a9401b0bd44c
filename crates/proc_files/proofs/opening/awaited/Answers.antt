use Rattle.std.proofs.Common.{ℕ, ◌≡◌, ◌≢◌, ◌==◌, ◌&&◌, ◌∙◌, None, Some, ap, cond, not, sym, w64}
use Rattle.std.proofs.lemmas.Int.{to_z-of_z}
use Rattle.posix_defs.specs.Calls.OnFiles.{fifo_pipe}
use Rattle.posix_defs.specs.Files.Descriptions.{access_of, has_flag, may_write, o_nonblock}
use Rattle.posix_defs.specs.Pipe.{Pipe, ends_of, opens_of}
use Rattle.proc_files.proofs.FifoFound.{tells_of}
use Rattle.proc_files.proofs.FifoFaults.{none_ended, none_opened, waits_for, waits_not}
use Rattle.proc_files.proofs.opening.awaited.Goals as goal

pub returns-then-has_flag : goal.returns-then-has_flag
returns-then-has_flag c = λ numbers files are.
    let flags = to_z-of_z w64 c.args.flags c.ranges.flags in
    let pipe = fifo_pipe files c.args.node in
    sym (ap (λ b. cond (not b && (ends_of pipe (not (may_write (access_of c.args.flags))) == 0)) (Some (opens_of pipe (not (may_write (access_of c.args.flags))))) None)
    (sym (ap (λ z. has_flag z o_nonblock) flags) ∙ sym c.has_flag.ensures ∙ c.if-has_flag.true))

pub returns-then-ends-ne0 : goal.returns-then-ends-ne0
returns-then-ends-ne0 c = λ numbers files are.
    let flags = to_z-of_z w64 c.args.flags c.ranges.flags in
    let pipe = fifo_pipe files c.args.node in
    let writing = ap not (c.is_to_write-other.ensures ∙ ap (λ z. may_write (access_of z)) flags) in
    let told = tells_of numbers c.args.heap.now files c.args.node c.requires.node are (λ (p : Pipe). ends_of p (not c.is_to_write-other.result)) c.ends.result (none_ended c.args.node (not c.is_to_write-other.result)) c.ends.ensures in
    sym (waits_not pipe c.args.flags (ends_apart c.ends.result (ends_of pipe (not (may_write (access_of c.args.flags)))) (told ∙ ap (ends_of pipe) writing) c.if-ends-ne0.true))
  where
    ends_apart : (told ends : ℕ) → told ≡ ends → told ≢ 0 → ends ≢ 0
    ends_apart told ends same apart none = apart (same ∙ none)

pub returns : goal.returns
returns c = λ numbers files are.
    let flags = to_z-of_z w64 c.args.flags c.ranges.flags in
    let pipe = fifo_pipe files c.args.node in
    let writing = ap not (c.is_to_write-other.ensures ∙ ap (λ z. may_write (access_of z)) flags) in
    let told = tells_of numbers c.args.heap.now files c.args.node c.requires.node are (λ (p : Pipe). ends_of p (not c.is_to_write-other.result)) c.ends.result (none_ended c.args.node (not c.is_to_write-other.result)) c.ends.ensures in
    let opens = tells_of numbers c.args.heap.now files c.args.node c.requires.node are (λ (p : Pipe). opens_of p (not c.is_to_write-other.result)) c.begun.result (none_opened c.args.node (not c.is_to_write-other.result)) c.begun.ensures in
    ap (λ n. Some n) (opens ∙ ap (opens_of pipe) writing)
    ∙ sym (waits_for pipe c.args.flags (sym (ap (λ z. has_flag z o_nonblock) flags) ∙ sym c.has_flag.ensures ∙ c.if-has_flag.false)
    (sym (told ∙ ap (ends_of pipe) writing) ∙ c.if-ends-ne0.false))
