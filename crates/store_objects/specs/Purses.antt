-- What a purse has, by what its call moves bytes of.
use Rattle.std.specs.Prelude.{[]}
use Rattle.kabi_types.specs.declared.classes.Need.{Need}
use Rattle.kheap_slabs.specs.Purse.{Purse}
use Rattle.posix_defs.specs.Sizes.{no_need}
use Rattle.store_objects.specs.declared.purses.Target.{Target}
use Rattle.store_objects.specs.declared.purses.Target.TheVariants.{File, Queue}

-- a need counts blocks for a file and chunks for a queue, and a call moves bytes of one of them: a file takes no chunks, a
-- queue takes no blocks
abbrev pub need_for : Target → Need → Need
need_for File need = record need { chunk = 0 }
need_for Queue need = record need { block = 0 }

-- a purse of this need of which nothing is spent, and through which nothing was filled
abbrev pub unspent : Need → Purse
unspent need = record { need = need; left = need; vnodes = []; names = []; blocks = [] }

-- what all that is closed in one call or at one end may ask for together
abbrev pub closing_need : Need
closing_need = record no_need { block = 2 }
