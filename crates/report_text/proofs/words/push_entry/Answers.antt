use Rattle.std.proofs.Common.{◌++◌, sym, ap, codes, decimal, string_bytes}
use Rattle.std.proofs.lemmas.Result.{IfOk-equal}
use Rattle.posix_defs.specs.Lines.{pid_text}
use Rattle.report_text.proofs.Pieces.{pieces_joined}
use Rattle.report_text.proofs.words.push_entry.Goals as goal

pub returns-in-Killed : goal.returns-in-Killed
returns-in-Killed c =
    let k = c.in-Killed in
    let joined = pieces_joined (pid_text k.pid) (codes " killed for ") (pid_text k.waiter) (codes " need ") (decimal k.need) (codes " live ") (decimal k.live) in
    IfOk-equal _ _ _ _ c.write.ensures.bytes (rw k.is (ap (λ text. string_bytes c.args.out.now ++ text) (sym joined)))
