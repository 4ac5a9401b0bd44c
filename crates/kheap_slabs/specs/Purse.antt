-- What a call may still make, and what it filled.
use Rattle.std.specs.Prelude.{ℕ, List, []}
use Rattle.kabi_types.specs.declared.classes.Class.{Class}
use Rattle.kabi_types.specs.declared.classes.Class.TheVariants as class
use Rattle.kabi_types.specs.declared.classes.Need.{Need}
use Rattle.kabi_types.specs.Counts.{need_bytes}

-- how many objects of each class a call may make in all, how many it still may, and the keys of each cached
-- class that were filled, the first one first
pub record Purse : Type 0 where
  pub need : Need
  pub left : Need
  pub vnodes : List ℕ
  pub names : List ℕ
  pub blocks : List ℕ

-- the bytes of what the purse has left
abbrev pub left_bytes : Purse → ℕ
left_bytes purse = need_bytes purse.left

-- the classes whose objects are filled from the disk
abbrev pub IsCached : Class → Type 0
IsCached class.Vnode = Unit {0}
IsCached class.Name = Unit {0}
IsCached class.Block = Unit {0}
IsCached _ = ⊥

-- the keys of a class that were filled, the first one first
abbrev pub fills_of : Purse → Class → List ℕ
fills_of purse class.Vnode = purse.vnodes
fills_of purse class.Name = purse.names
fills_of purse class.Block = purse.blocks
fills_of purse _ = []

-- the same purse, with other keys for a class that is filled
abbrev pub with_fills : Purse → Class → List ℕ → Purse
with_fills purse class.Vnode keys = record purse { vnodes = keys }
with_fills purse class.Name keys = record purse { names = keys }
with_fills purse class.Block keys = record purse { blocks = keys }
with_fills purse _ keys = purse
