-- The price list as it is printed.
use Rattle.std.specs.Prelude.{ℕ, ◌==◌, if◌then◌else◌, List, ◌++◌, codes, decimal}
use Rattle.std.specs.List.{flat_map}
use Rattle.kabi_types.specs.Call.{all_kinds}
use Rattle.kabi_types.specs.Class.{all_classes, size}
use Rattle.kabi_types.specs.Words.{word_of}
use Rattle.kabi_types.specs.declared.calls.CallKind.{CallKind}
use Rattle.kabi_types.specs.declared.classes.Class.{Class}
use Rattle.kabi_types.specs.declared.classes.Class.TheVariants as class
use Rattle.posix_defs.specs.Lines.{newline, blank}
use Rattle.posix_defs.specs.PriceList.{price_of}
use Rattle.posix_defs.specs.Sizes.{fixed, reserve}
use Rattle.posix_defs.specs.declared.prices.Price.{Price}
use Rattle.posix_defs.specs.declared.prices.Price.TheVariants.{Always, Mapped, Touched, Moved, Copied}

-- the name of a class of heap objects, with a capital
abbrev pub class_name : Class → List ℕ
class_name class.Proc = codes "Proc"
class_name class.Node = codes "Node"
class_name class.Page = codes "Page"
class_name class.Desc = codes "Desc"
class_name class.Vnode = codes "Vnode"
class_name class.Name = codes "Name"
class_name class.Block = codes "Block"
class_name class.Pipe = codes "Pipe"
class_name class.Chunk = codes "Chunk"
class_name class.Sock = codes "Sock"
class_name class.Leaf = codes "Leaf"
class_name class.Lock = codes "Lock"

-- a class and the size of its objects
abbrev pub class_line : Class → List ℕ
class_line class = codes "class " ++ class_name class ++ blank ++ decimal (size class) ++ newline

-- a number, or what it is computed from: p pages that are mapped, pages that are touched, m bytes that are left to move
abbrev pub price_text : Price → List ℕ
price_text (Always bytes) = decimal bytes
price_text (Mapped node) = decimal node ++ codes "*min(4,(p+62)/64+1)"
price_text (Touched page more) = if more == 0 then decimal page ++ codes "*pages" else decimal page ++ codes "*pages+" ++ decimal more
price_text (Moved file chunk) = codes "max(" ++ decimal file ++ codes "," ++ decimal chunk ++ codes "*ceil(min(m,4096)/512))"
price_text (Copied bytes) = decimal bytes ++ codes " for F_DUPFD, else 0"

-- a call by its word, and its price
abbrev pub price_line : CallKind → List ℕ
price_line kind = codes "bound " ++ word_of kind ++ blank ++ price_text (price_of kind) ++ newline

-- the sizes of all classes, what is kept back and what is charged at boot, and the price of each call
abbrev pub table_text : List ℕ
table_text =
    flat_map class_line all_classes ++ (codes "permanent " ++ decimal reserve ++ newline) ++ (codes "fixed " ++ decimal fixed ++ newline)
    ++ flat_map price_line all_kinds
