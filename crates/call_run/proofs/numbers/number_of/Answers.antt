use Rattle.call_run.proofs.Numbering.{no_number}
use Rattle.call_run.proofs.numbers.number_of.Goals as goal

pub returns-in_default : goal.returns-in_default
returns-in_default c =
    let n = c.in_default in
    no_number c.args.call.now n.not-Close n.not-Dup n.not-Dup2 n.not-Fcntl n.not-Read n.not-Write n.not-Pread n.not-Pwrite n.not-Lseek n.not-Readdir n.not-Ftruncate n.not-Fstat n.not-Bind n.not-Listen n.not-Connect n.not-Accept n.not-Shutdown n.not-Setlk n.not-Setlkw n.not-Getlk
