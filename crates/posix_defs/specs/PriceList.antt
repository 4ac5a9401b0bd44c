-- The price list: what each call may use of the kernel heap, in bytes.
use Rattle.kabi_types.specs.declared.calls.CallKind.{CallKind}
use Rattle.kabi_types.specs.declared.calls.CallKind.TheVariants as kind
use Rattle.posix_defs.specs.declared.prices.Price.{Price}
use Rattle.posix_defs.specs.declared.prices.Price.TheVariants.{Always, Mapped, Touched, Moved, Copied}

-- what a call of this kind may use of the kernel heap; to close and to end costs nothing, since two blocks are kept back for it
abbrev pub price_of : CallKind → Price
price_of kind.Getpid = Always 0
price_of kind.Getppid = Always 0
price_of kind.SchedYield = Always 0
price_of kind.Fork = Always 3328
price_of kind.Exec = Always 2560
price_of kind.Exit = Always 0
price_of kind.Waitpid = Always 0
price_of kind.Kill = Always 0
price_of kind.Mmap = Mapped 512
price_of kind.Munmap = Always 0
price_of kind.Store = Touched 4096 0
price_of kind.Load = Always 0
price_of kind.OpenFile = Always 3008
price_of kind.Close = Always 0
price_of kind.Dup = Always 256
price_of kind.Dup2 = Always 256
price_of kind.Fcntl = Copied 256
price_of kind.Read = Touched 4096 2176
price_of kind.Write = Moved 2176 576
price_of kind.Pread = Touched 4096 2176
price_of kind.Pwrite = Moved 2176 576
price_of kind.Lseek = Always 0
price_of kind.Readdir = Touched 4096 2176
price_of kind.Ftruncate = Always 2176
price_of kind.Fstat = Always 0
price_of kind.Stat = Always 2560
price_of kind.Chdir = Always 2560
price_of kind.Mkdir = Always 2560
price_of kind.Rmdir = Always 2560
price_of kind.Unlink = Always 2560
price_of kind.Link = Always 2944
price_of kind.Rename = Always 2944
price_of kind.Pipe = Always 512
price_of kind.Socket = Always 448
price_of kind.Socketpair = Always 640
price_of kind.Bind = Always 2560
price_of kind.Listen = Always 0
price_of kind.Connect = Always 2688
price_of kind.Accept = Always 320
price_of kind.Shutdown = Always 0
price_of kind.Poll = Always 0
price_of kind.Signal = Always 0
price_of kind.Mkfifo = Always 2560
price_of kind.Setlk = Always 128
price_of kind.Setlkw = Always 128
price_of kind.Getlk = Always 0
