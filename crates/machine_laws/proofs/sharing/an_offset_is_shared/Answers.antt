use Rattle.machine_laws.proofs.SharedOffsets.{inherits, read_on, shares, shares_from, sought}
use Rattle.machine_laws.proofs.sharing.an_offset_is_shared.Goals as goal

pub returns-clause-dup : goal.returns-clause-dup
returns-clause-dup c = shares

pub returns-clause-fcntl : goal.returns-clause-fcntl
returns-clause-fcntl c = λ script plain pid fd from opened named. shares_from script plain pid fd opened named from

pub returns-clause-fork : goal.returns-clause-fork
returns-clause-fork c = inherits

pub returns-clause-sought : goal.returns-clause-sought
returns-clause-sought c = λ script plain pid other fd to offset whence opened named also. sought script plain pid other fd to opened named also offset whence

pub returns-clause-read : goal.returns-clause-read
returns-clause-read c = λ script plain pid other fd to addr n number opened named on also. read_on script plain pid other fd to opened named also addr n number on
