use Rattle.std.proofs.Common.{subst, sym}
use Rattle.prog_ctl.specs.Runnable.{MovesBytes, TakesDescriptor, TakesLock, TakesMore, TakesSocket}
use Rattle.prog_ctl.proofs.made.made_on_files.Goals as goal

pub returns-in-Close : goal.returns-in-Close
returns-in-Close c = λ _. c.made_on_descriptor.ensures c.args.texts.now c.args.control.now.done (subst TakesDescriptor (sym c.in-Close.is) tt)

pub returns-in-Dup : goal.returns-in-Dup
returns-in-Dup c = λ _. c.made_on_descriptor-in-Dup.ensures c.args.texts.now c.args.control.now.done (subst TakesDescriptor (sym c.in-Dup.is) tt)

pub returns-in-Dup2 : goal.returns-in-Dup2
returns-in-Dup2 c = λ _. c.made_on_descriptor-in-Dup2.ensures c.args.texts.now c.args.control.now.done (subst TakesDescriptor (sym c.in-Dup2.is) tt)

pub returns-in-Fcntl : goal.returns-in-Fcntl
returns-in-Fcntl c = λ _. c.made_on_descriptor-in-Fcntl.ensures c.args.texts.now c.args.control.now.done (subst TakesDescriptor (sym c.in-Fcntl.is) tt)

pub returns-in-Pread : goal.returns-in-Pread
returns-in-Pread c = λ _. c.made_of_bytes.ensures c.args.texts.now (subst MovesBytes (sym c.in-Pread.is) tt)

pub returns-in-Pwrite : goal.returns-in-Pwrite
returns-in-Pwrite c = λ _. c.made_of_bytes-in-Pwrite.ensures c.args.texts.now (subst MovesBytes (sym c.in-Pwrite.is) tt)

pub returns-in-Lseek : goal.returns-in-Lseek
returns-in-Lseek c = λ _. c.made_on_descriptor-in-Lseek.ensures c.args.texts.now c.args.control.now.done (subst TakesDescriptor (sym c.in-Lseek.is) tt)

pub returns-in-Readdir : goal.returns-in-Readdir
returns-in-Readdir c = λ _. c.made_of_bytes-in-Readdir.ensures c.args.texts.now (subst MovesBytes (sym c.in-Readdir.is) tt)

pub returns-in-Ftruncate : goal.returns-in-Ftruncate
returns-in-Ftruncate c = λ _. c.made_on_descriptor-in-Ftruncate.ensures c.args.texts.now c.args.control.now.done (subst TakesDescriptor (sym c.in-Ftruncate.is) tt)

pub returns-in-Fstat : goal.returns-in-Fstat
returns-in-Fstat c = λ _. c.made_on_descriptor-in-Fstat.ensures c.args.texts.now c.args.control.now.done (subst TakesDescriptor (sym c.in-Fstat.is) tt)

pub returns-in-Socket : goal.returns-in-Socket
returns-in-Socket c = λ _. c.made_on_socket.ensures c.args.control.now.done (subst TakesSocket (sym c.in-Socket.is) tt)

pub returns-in-Socketpair : goal.returns-in-Socketpair
returns-in-Socketpair c = λ _. c.made_on_socket-in-Socketpair.ensures c.args.control.now.done (subst TakesSocket (sym c.in-Socketpair.is) tt)

pub returns-in-Bind : goal.returns-in-Bind
returns-in-Bind c = λ _. c.made_on_socket-in-Bind.ensures c.args.control.now.done (subst TakesSocket (sym c.in-Bind.is) tt)

pub returns-in-Listen : goal.returns-in-Listen
returns-in-Listen c = λ _. c.made_on_socket-in-Listen.ensures c.args.control.now.done (subst TakesSocket (sym c.in-Listen.is) tt)

pub returns-in-Connect : goal.returns-in-Connect
returns-in-Connect c = λ _. c.made_on_socket-in-Connect.ensures c.args.control.now.done (subst TakesSocket (sym c.in-Connect.is) tt)

pub returns-in-Accept : goal.returns-in-Accept
returns-in-Accept c = λ _. c.made_on_socket-in-Accept.ensures c.args.control.now.done (subst TakesSocket (sym c.in-Accept.is) tt)

pub returns-in-Shutdown : goal.returns-in-Shutdown
returns-in-Shutdown c = λ _. c.made_on_socket-in-Shutdown.ensures c.args.control.now.done (subst TakesSocket (sym c.in-Shutdown.is) tt)

pub returns-in-Poll : goal.returns-in-Poll
returns-in-Poll c = λ _. c.made_with_texts.ensures c.args.control.now.done (subst TakesMore (sym c.in-Poll.is) tt)

pub returns-in-Setlk : goal.returns-in-Setlk
returns-in-Setlk c = λ _. c.made_on_lock.ensures c.args.texts.now c.args.control.now.done (subst TakesLock (sym c.in-Setlk.is) tt)

pub returns-in-Setlkw : goal.returns-in-Setlkw
returns-in-Setlkw c = λ _. c.made_on_lock-in-Setlkw.ensures c.args.texts.now c.args.control.now.done (subst TakesLock (sym c.in-Setlkw.is) tt)

pub returns-in-Getlk : goal.returns-in-Getlk
returns-in-Getlk c = λ _. c.made_on_lock-in-Getlk.ensures c.args.texts.now c.args.control.now.done (subst TakesLock (sym c.in-Getlk.is) tt)
