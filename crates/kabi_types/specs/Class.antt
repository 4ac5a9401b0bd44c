-- The classes of kernel objects, and their sizes.
use Rattle.std.specs.Prelude.{ℕ, List, [], ◌∷◌}
use Rattle.kabi_types.specs.declared.classes.Class.{Class}
use Rattle.kabi_types.specs.declared.classes.Class.TheVariants as class

-- all classes, in the order in which the price list has them
abbrev pub all_classes : List Class
all_classes =
    class.Proc ∷ class.Node ∷ class.Page ∷ class.Desc ∷ class.Vnode ∷ class.Name ∷ class.Block ∷ class.Pipe ∷ class.Chunk ∷ class.Sock
    ∷ class.Leaf ∷ class.Lock ∷ []

-- how many bytes of kernel heap an object of a class takes
abbrev pub size : Class → ℕ
size class.Proc = 512
size class.Node = 512
size class.Page = 4096
size class.Desc = 64
size class.Vnode = 128
size class.Name = 64
size class.Block = 1088
size class.Pipe = 128
size class.Chunk = 576
size class.Sock = 128
size class.Leaf = 256
size class.Lock = 64
