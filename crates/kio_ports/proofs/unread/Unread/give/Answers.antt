use Rattle.std.proofs.Common.{arith}
use Rattle.kio_ports.proofs.Given.{left_is_given-rest}
use Rattle.kio_ports.proofs.unread.Unread.give.Goals as goal

pub returns-clause-moved : goal.returns-clause-moved
returns-clause-moved c =
    let same = c.deref.ensures.value in
    let copied = rw same at c.copy_from_slice.ensures.after in
    rw (← c.self.view_is) (left_is_given-rest c.self.inside.bytes.items c.copy_from_slice.new.self _ c.self.inside.given c.min-count.result copied (omega arith))
