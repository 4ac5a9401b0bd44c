-- How many objects of each class, and the bytes that they take.
use Rattle.std.specs.Prelude.{ℕ, ◌*◌}
use Rattle.std.specs.List.{sum_by}
use Rattle.kabi_types.specs.Class.{all_classes, size}
use Rattle.kabi_types.specs.declared.classes.Class.{Class}
use Rattle.kabi_types.specs.declared.classes.Class.TheVariants as class
use Rattle.kabi_types.specs.declared.classes.Need.{Need}

-- the count of a class
abbrev pub counted : Need → Class → ℕ
counted need class.Proc = need.proc
counted need class.Node = need.node
counted need class.Page = need.page
counted need class.Desc = need.desc
counted need class.Vnode = need.vnode
counted need class.Name = need.name
counted need class.Block = need.block
counted need class.Pipe = need.pipe
counted need class.Chunk = need.chunk
counted need class.Sock = need.sock
counted need class.Leaf = need.leaf
counted need class.Lock = need.lock

-- the same counts, with another one for a class
abbrev pub with_count : Need → Class → ℕ → Need
with_count need class.Proc count = record need { proc = count }
with_count need class.Node count = record need { node = count }
with_count need class.Page count = record need { page = count }
with_count need class.Desc count = record need { desc = count }
with_count need class.Vnode count = record need { vnode = count }
with_count need class.Name count = record need { name = count }
with_count need class.Block count = record need { block = count }
with_count need class.Pipe count = record need { pipe = count }
with_count need class.Chunk count = record need { chunk = count }
with_count need class.Sock count = record need { sock = count }
with_count need class.Leaf count = record need { leaf = count }
with_count need class.Lock count = record need { lock = count }

-- the bytes that so many objects of a class take
abbrev pub class_bytes : Need → Class → ℕ
class_bytes need class = counted need class * size class

-- the bytes of all objects that are counted
abbrev pub need_bytes : Need → ℕ
need_bytes need = sum_by (class_bytes need) all_classes
