use Rattle.std.proofs.Common.{refl, lit<}
use Rattle.std.specs.List.{Contains}
use Rattle.kabi_types.specs.Call.{all_kinds}
use Rattle.kabi_types.specs.declared.calls.CallKind.{CallKind}
use Rattle.kabi_types.specs.declared.calls.CallKind.TheVariants as kind
use Rattle.kabi_types.proofs.laws.every_call_is_listed.Goals as goal

-- where each call stands
listed : (which : CallKind) → Contains all_kinds which
listed kind.Getpid = (0, lit< tt, refl)
listed kind.Getppid = (1, lit< tt, refl)
listed kind.SchedYield = (2, lit< tt, refl)
listed kind.Fork = (3, lit< tt, refl)
listed kind.Exec = (4, lit< tt, refl)
listed kind.Exit = (5, lit< tt, refl)
listed kind.Waitpid = (6, lit< tt, refl)
listed kind.Kill = (7, lit< tt, refl)
listed kind.Mmap = (8, lit< tt, refl)
listed kind.Munmap = (9, lit< tt, refl)
listed kind.Store = (10, lit< tt, refl)
listed kind.Load = (11, lit< tt, refl)
listed kind.OpenFile = (12, lit< tt, refl)
listed kind.Close = (13, lit< tt, refl)
listed kind.Dup = (14, lit< tt, refl)
listed kind.Dup2 = (15, lit< tt, refl)
listed kind.Fcntl = (16, lit< tt, refl)
listed kind.Read = (17, lit< tt, refl)
listed kind.Write = (18, lit< tt, refl)
listed kind.Pread = (19, lit< tt, refl)
listed kind.Pwrite = (20, lit< tt, refl)
listed kind.Lseek = (21, lit< tt, refl)
listed kind.Readdir = (22, lit< tt, refl)
listed kind.Ftruncate = (23, lit< tt, refl)
listed kind.Fstat = (24, lit< tt, refl)
listed kind.Stat = (25, lit< tt, refl)
listed kind.Chdir = (26, lit< tt, refl)
listed kind.Mkdir = (27, lit< tt, refl)
listed kind.Rmdir = (28, lit< tt, refl)
listed kind.Unlink = (29, lit< tt, refl)
listed kind.Link = (30, lit< tt, refl)
listed kind.Rename = (31, lit< tt, refl)
listed kind.Pipe = (32, lit< tt, refl)
listed kind.Socket = (33, lit< tt, refl)
listed kind.Socketpair = (34, lit< tt, refl)
listed kind.Bind = (35, lit< tt, refl)
listed kind.Listen = (36, lit< tt, refl)
listed kind.Connect = (37, lit< tt, refl)
listed kind.Accept = (38, lit< tt, refl)
listed kind.Shutdown = (39, lit< tt, refl)
listed kind.Poll = (40, lit< tt, refl)
listed kind.Signal = (41, lit< tt, refl)
listed kind.Mkfifo = (42, lit< tt, refl)
listed kind.Setlk = (43, lit< tt, refl)
listed kind.Setlkw = (44, lit< tt, refl)
listed kind.Getlk = (45, lit< tt, refl)

pub returns-clause-listed : goal.returns-clause-listed
returns-clause-listed c = listed
