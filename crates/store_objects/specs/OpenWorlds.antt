-- The worlds that a store stands for once what is open has changed.
use Rattle.std.specs.Prelude.{ℕ, ◌≡◌}
use Rattle.kabi_types.specs.declared.replies.Reply.{Reply}
use Rattle.kabi_types.specs.declared.scripts.Script.{Script}
use Rattle.open_laws.specs.Open.{HaveFronts}
use Rattle.open_laws.specs.Placed.{Numbers}
use Rattle.posix_defs.specs.Account.{Account}
use Rattle.posix_defs.specs.Answer.{Answer, replied}
use Rattle.posix_defs.specs.Family.{IsFamily}
use Rattle.posix_defs.specs.Files.State.{Files, opened_nodes}
use Rattle.posix_defs.specs.Plain.{Plain, with_files}
use Rattle.posix_defs.specs.World.{World, directories_of}
use Rattle.proc_numbers.specs.Having.{HaveOpen}
use Rattle.proc_numbers.specs.Queues.{fronts_on}
use Rattle.proc_table.specs.Accounting.{HasAccount}
use Rattle.proc_table.specs.Standing.{IsTable}
use Rattle.store_objects.specs.declared.objects.Objects.{Objects}
use Rattle.store_objects.specs.Files.{HaveFiles}

-- files have become others, and the account has gone on with their queues
abbrev pub opened_in : World → Files → World
opened_in world files = record world { plain = with_files world.plain files; account = fronts_on world.plain.files files world.account }

-- The objects have of a world what a call on what is open may change of it: processes with their memory, and files. All else it has
-- of the world before: everybody stands where he stood, and what is cached and how much was read are as they were.
pub record HasReached (new : Objects) (world next : World) : Type 0 where
  pub table : IsTable new.heap new.procs next.plain.table
  pub memory : HasAccount new.heap new.procs next.account.frames
  pub files : HaveFiles new next.plain.files next.account
  pub tree : next.plain.files.tree ≡ world.plain.files.tree
  pub opens : opened_nodes next.plain.files ≡ opened_nodes world.plain.files
  pub family : IsFamily next.plain.table
  pub works : directories_of next.plain.table ≡ directories_of world.plain.table
  pub controls : next.plain.controls ≡ world.plain.controls
  pub kept : next.kept ≡ world.kept
  pub reads : next.reads ≡ world.reads

-- The objects have these files open, which others have become, and the account that has gone on with them has the fronts of their
-- queues. The tree is the same, and so is which nodes are open.
pub record HaveBecome (new : Objects) (files now : Files) (account : Account) : Type 0 where
  pub numbers : Numbers
  pub opened : HaveOpen numbers new.heap new.procs now
  pub fronts : HaveFronts numbers new.heap (fronts_on files now account)
  pub tree : now.tree ≡ files.tree
  pub opens : opened_nodes now ≡ opened_nodes files

-- The machine's answer is this reply, where its files have become others, which the objects have.
pub record RepliesOn (new : Objects) (script : Script) (plain : Plain) (account : Account) (pid : ℕ) (answer : Answer) (said : Reply) : Type 0 where
  pub files : Files
  pub replies : answer ≡ replied script (with_files plain files) pid said
  pub become : HaveBecome new plain.files files account
