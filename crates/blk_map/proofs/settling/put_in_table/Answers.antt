use Rattle.std.proofs.Common.{◌≡◌, ◌≢◌, ℕ, List, set, sym, ap, ◌∙◌, arith}
use Rattle.posix_defs.specs.SoundDisk.{block_bytes, table_block, table_slot, slot_bytes}
use Rattle.blk_map.proofs.Blocks.{got, slot_put, slots_stay}
use Rattle.blk_map.proofs.settling.put_in_table.Goals as goal

pub returns-clause-slot : goal.returns-clause-slot
returns-clause-slot g c =
    slot_put (g.B.Blocks.blocks c.args.b.now) (g.B.Blocks.blocks c.set.new.self) c.args.number c.put_inode.new.block c.args.inode.now (omega (arith, c.requires)) (c.set.ensures.after ∙ ap (λ (disk : List (List ℕ)). set disk (table_block c.args.number) c.put_inode.new.block) c.get-bytes.ensures.kept) c.put_inode.ensures.this

pub returns-clause-slots : goal.returns-clause-slots
returns-clause-slots g c =
    let before : List (List ℕ) = g.B.Blocks.blocks c.args.b.now in
    let was : block_bytes before (table_block c.args.number) ≡ c.get-bytes.result = got before (table_block c.args.number) c.get-bytes.result c.get-bytes.ensures.value in
    let others : (other : ℕ) → other ≢ table_slot c.args.number → slot_bytes c.put_inode.new.block other ≡ slot_bytes (block_bytes before (table_block c.args.number)) other = λ other apart.
    c.put_inode.ensures.others other apart ∙ ap (λ (bytes : List ℕ). slot_bytes bytes other) (sym was)
    in
    slots_stay before (g.B.Blocks.blocks c.set.new.self) c.args.number c.put_inode.new.block (omega (arith, c.requires)) (c.set.ensures.after ∙ ap (λ (disk : List (List ℕ)). set disk (table_block c.args.number) c.put_inode.new.block) c.get-bytes.ensures.kept) others (omega (arith, c.requires))
