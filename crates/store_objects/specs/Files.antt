-- What is open in the objects of a store, and in the world that they stand for.
use Rattle.std.specs.Prelude.{◌≡◌}
use Rattle.open_laws.specs.Open.{HaveFronts}
use Rattle.open_laws.specs.Placed.{Numbers}
use Rattle.posix_defs.specs.Account.{Account, fronts_after, pipe_lengths, socket_lengths}
use Rattle.posix_defs.specs.Files.State.{Files}
use Rattle.proc_numbers.specs.Having.{HaveOpen}
use Rattle.store_objects.specs.declared.objects.Objects.{Objects}

-- The account has a front for each queue that was made, which is 0 where that is empty: it stays while the lengths stay.
pub record AreSettled (files : Files) (account : Account) : Type 0 where
  pub pipes : fronts_after (pipe_lengths files) (pipe_lengths files) account.pipes ≡ account.pipes
  pub sockets : fronts_after (socket_lengths files) (socket_lengths files) account.sockets ≡ account.sockets

-- Processes have open what the machine says, by one numbering of descriptions, pipes and sockets, by which the account has the
-- fronts of their queues too.
pub record HaveFiles (objects : Objects) (files : Files) (account : Account) : Type 0 where
  pub numbers : Numbers
  pub opened : HaveOpen numbers objects.heap objects.procs files
  pub fronts : HaveFronts numbers objects.heap account
  pub settled : AreSettled files account
