use Rattle.std.proofs.Common.{◌≡◌, false, List, ℕ, ◌+◌, ◌/◌, sym, Result, Ok, Err, OnOk, is_err}
use Rattle.std.proofs.lemmas.Bool.{false≢true}
use Rattle.kabi_types.specs.declared.errnos.Errno.{Errno}
use Rattle.memfs_dir.proofs.Resized.{added, frees_none, in_use, takes_lowest}
use Rattle.memfs_dir.proofs.adding.dir_add.Goals as goal

ok_part : (answer : Result (Unit {0}) Errno) (Fact : Type 0) → is_err answer ≡ false → OnOk answer Fact → Fact
ok_part (Ok done) Fact is fact = fact
ok_part (Err _) Fact is fact = absurd (false≢true (sym is))

pub returns-clause-ok : goal.returns-clause-ok
returns-clause-ok g c =
    let grown = ok_part c.grow.result _ (sym c.if-is_err.ensures.value) c.grow.ensures.ok in
    let before : List (List ℕ) = g.B.Blocks.blocks c.args.b.now in
    let between : List (List ℕ) = g.B.Blocks.blocks c.grow.new.b in
    let old = c.args.dir.now in
    let new = c.grow.new.inode in
    let node = in_use c.args.number before old (old.size + 32) between new c.requires.node.1 grown.resizes in
    added c.args.number before between (g.B.Blocks.blocks c.put_last.new.b) old new c.args.entry.now c.requires.node grown.resizes (c.put_last.ensures.puts c.args.number node) c.requires.entry

pub returns-clause-lowest : goal.returns-clause-lowest
returns-clause-lowest g c =
    let grown = ok_part c.grow.result _ (sym c.if-is_err.ensures.value) c.grow.ensures.ok in
    let before : List (List ℕ) = g.B.Blocks.blocks c.args.b.now in
    let between : List (List ℕ) = g.B.Blocks.blocks c.grow.new.b in
    let old = c.args.dir.now in
    let new = c.grow.new.inode in
    let node = in_use c.args.number before old (old.size + 32) between new c.requires.node.1 grown.resizes in
    takes_lowest c.args.number before between (g.B.Blocks.blocks c.put_last.new.b) old new (old.size / 32) c.args.entry.now grown (c.put_last.ensures.puts c.args.number node)

pub returns-clause-frees_none : goal.returns-clause-frees_none
returns-clause-frees_none g c =
    let grown = ok_part c.grow.result _ (sym c.if-is_err.ensures.value) c.grow.ensures.ok in
    let before : List (List ℕ) = g.B.Blocks.blocks c.args.b.now in
    let between : List (List ℕ) = g.B.Blocks.blocks c.grow.new.b in
    let old = c.args.dir.now in
    let new = c.grow.new.inode in
    let node = in_use c.args.number before old (old.size + 32) between new c.requires.node.1 grown.resizes in
    frees_none c.args.number before between (g.B.Blocks.blocks c.put_last.new.b) new (old.size / 32) c.args.entry.now c.grow.ensures.frees_none (c.put_last.ensures.puts c.args.number node)
