-- What the kernel heap holds from the start, what is kept back, and what a call may use.
use Rattle.std.specs.Prelude.{ℕ, ◌+◌, ◌-◌, ◌*◌}
use Rattle.kabi_types.specs.Class.{size}
use Rattle.kabi_types.specs.declared.classes.Class.TheVariants as class
use Rattle.kabi_types.specs.declared.classes.Need.{Need}

-- two blocks, which closing and ending may always use
abbrev pub reserve : ℕ
reserve = 2 * size class.Block

-- what is charged at boot: the first process, the root's vnode, and the reserve
abbrev pub fixed : ℕ
fixed = size class.Proc + size class.Vnode + reserve

-- the greatest bound of a call that can ever be admitted
abbrev pub room : ℕ → ℕ
room heap = heap - fixed

-- no objects
abbrev pub no_need : Need
no_need = record { proc = 0; node = 0; page = 0; desc = 0; vnode = 0; name = 0; block = 0; pipe = 0; chunk = 0; sock = 0; leaf = 0; lock = 0 }
