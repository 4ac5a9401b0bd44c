use Rattle.std.proofs.Common.{ℕ, List, Result, OnOk, subst, arith}
use Rattle.kabi_types.specs.declared.errnos.Errno.{Errno}
use Rattle.posix_defs.specs.NodeChange.{Grows}
use Rattle.memfs_node.proofs.Dots.{puts}
use Rattle.memfs_node.proofs.making.put_dots.Goals as goal

pub returns-clause-puts : goal.returns-clause-puts
returns-clause-puts g c =
    let before : List (List ℕ) = g.B.Blocks.blocks c.args.b.now in
    let grown : List (List ℕ) = g.B.Blocks.blocks c.grow.new.b in
    let Grown : Result (Unit {0}) Errno → Type 0 = λ r. OnOk r (Grows c.args.number before c.args.inode.now 64 grown c.grow.new.inode) in
    let grows : Grows c.args.number before c.args.inode.now 64 grown c.grow.new.inode = subst Grown c.unwrap.ensures c.grow.ensures.ok in
    puts (
    record {
      number = c.args.number;
      before = before;
      old = c.args.inode.now;
      parent = c.args.parent;
      grown = grown;
      new = c.grow.new.inode;
      block = c.dots.result;
      after = g.B.Blocks.blocks c.set.new.self;
      kind = c.requires.kind;
      empty = c.requires.empty;
      pos = c.requires.node.0.number.0;
      pos_parent = c.requires.parent;
      fits = omega (arith, c.ranges.number);
      fits_parent = omega (arith, c.ranges.parent);
      grows = grows;
      dots = c.dots.ensures;
      is_set = c.set.ensures.after;
    }
    )
