use Rattle.std.proofs.Common.{◌-◌, ◌++◌, ap, ◌∙◌, sym, refl, arith, length, set}
use Rattle.std.proofs.lemmas.List.{set-append_left, set-append_right}
use Rattle.disk_layout.specs.Disk.{Disk}
use Rattle.disk_layout.proofs.disks.RamDisk.write.Goals as goal

pub returns-then-number-first-clause-after : goal.returns-then-number-first-clause-after
returns-then-number-first-clause-after c =
    ap (λ x. x ++ c.self.inside.contents) c.write.ensures
    ∙ sym (set-append_left c.self.inside.table c.self.inside.contents c.args.number c.args.bytes.now (omega (arith, c.if-number-first.true, c.count-first.ensures)))
    ∙ ap (λ (disk : Disk). set disk.blocks c.args.number c.args.bytes.now) c.self.view_is

pub returns-else-number-first-clause-after : goal.returns-else-number-first-clause-after
returns-else-number-first-clause-after c =
    ap (λ x. c.self.inside.table ++ x) c.write-else-number-first.ensures
    ∙ ap (λ n. c.self.inside.table ++ set c.self.inside.contents (c.args.number - n) c.args.bytes.now) c.count-first.ensures
    ∙ sym (set-append_right c.self.inside.table c.self.inside.contents (length c.self.inside.table) c.args.number c.args.bytes.now refl (omega (arith, c.if-number-first.false, c.count-first.ensures)))
    ∙ ap (λ (disk : Disk). set disk.blocks c.args.number c.args.bytes.now) c.self.view_is
