use Rattle.std.proofs.Common.{◌≡◌, map, rules, subst, sym}
use Rattle.posix_defs.specs.Control.{value_of}
use Rattle.kabi_types.specs.declared.calls.CallKind.{CallKind}
use Rattle.posix_defs.specs.Made as spec
use Rattle.prog_ctl.specs.Runnable.{IsMadeOnPath, MovesBytes, TakesMore}
use Rattle.prog_ctl.proofs.made.made.Goals as goal

pub returns-in-Exec : goal.returns-in-Exec
returns-in-Exec c = c.made_on_path.ensures (map (value_of c.args.control.now) c.args.operands.now) c.args.control.now.done (subst IsMadeOnPath (sym c.in-Exec.is) tt)

pub returns-in-Store : goal.returns-in-Store
returns-in-Store c = c.made_with_texts.ensures c.args.control.now.done (subst TakesMore (sym c.in-Store.is) tt)

pub returns-in-Read : goal.returns-in-Read
returns-in-Read c = c.made_of_bytes.ensures c.args.texts.now (subst MovesBytes (sym c.in-Read.is) tt)

pub returns-in-Write : goal.returns-in-Write
returns-in-Write c = c.made_of_bytes-in-Write.ensures c.args.texts.now (subst MovesBytes (sym c.in-Write.is) tt)

pub returns-in-Stat : goal.returns-in-Stat
returns-in-Stat c = c.made_on_path-in-Stat.ensures (map (value_of c.args.control.now) c.args.operands.now) c.args.control.now.done (subst IsMadeOnPath (sym c.in-Stat.is) tt)

pub returns-in-Chdir : goal.returns-in-Chdir
returns-in-Chdir c = c.made_on_path-in-Chdir.ensures (map (value_of c.args.control.now) c.args.operands.now) c.args.control.now.done (subst IsMadeOnPath (sym c.in-Chdir.is) tt)

pub returns-in-Mkdir : goal.returns-in-Mkdir
returns-in-Mkdir c = c.made_on_path-in-Mkdir.ensures (map (value_of c.args.control.now) c.args.operands.now) c.args.control.now.done (subst IsMadeOnPath (sym c.in-Mkdir.is) tt)

pub returns-in-Rmdir : goal.returns-in-Rmdir
returns-in-Rmdir c = c.made_on_path-in-Rmdir.ensures (map (value_of c.args.control.now) c.args.operands.now) c.args.control.now.done (subst IsMadeOnPath (sym c.in-Rmdir.is) tt)

pub returns-in-Unlink : goal.returns-in-Unlink
returns-in-Unlink c = c.made_on_path-in-Unlink.ensures (map (value_of c.args.control.now) c.args.operands.now) c.args.control.now.done (subst IsMadeOnPath (sym c.in-Unlink.is) tt)

pub returns-in-Mkfifo : goal.returns-in-Mkfifo
returns-in-Mkfifo c =
    let numbers = map (value_of c.args.control.now) c.args.operands.now in
    let done = c.args.control.now.done in
    subst (λ (which : CallKind). c.made_mkfifo.result ≡ spec.made which numbers c.args.texts.now done) (sym c.in-Mkfifo.is) (c.made_mkfifo.ensures numbers done)

pub returns-in-OpenFile : goal.returns-in-OpenFile
returns-in-OpenFile c = c.made_with_texts-in-OpenFile.ensures c.args.control.now.done (subst TakesMore (sym c.in-OpenFile.is) tt)

pub returns-in-Link : goal.returns-in-Link
returns-in-Link c = c.made_with_texts-in-Link.ensures c.args.control.now.done (subst TakesMore (sym c.in-Link.is) tt)

pub returns-in-Rename : goal.returns-in-Rename
returns-in-Rename c = c.made_with_texts-in-Rename.ensures c.args.control.now.done (subst TakesMore (sym c.in-Rename.is) tt)

pub returns-in_default : goal.returns-in_default
returns-in_default c = c.made_on_files.ensures (search rules)
