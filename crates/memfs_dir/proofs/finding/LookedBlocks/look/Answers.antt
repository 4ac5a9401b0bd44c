use Rattle.std.proofs.Common.{◌≡◌, ℕ, List, sym, subst}
use Rattle.blk_map.proofs.Blocks.{got}
use Rattle.kabi_types.specs.declared.inodes.DirEntry.{DirEntry}
use Rattle.posix_defs.specs.SoundDisk.{block_bytes}
use Rattle.memfs_dir.specs.Slots.{Spells}
use Rattle.memfs_dir.specs.Looking.{FoundIn}
use Rattle.memfs_dir.proofs.finding.LookedBlocks.look.Goals as goal

pub look_in-requires-clause-spelled : goal.look_in-requires-clause-spelled
look_in-requires-clause-spelled g c = λ slot lt.
    let disk : List (List ℕ) = g.Self.Blocks.blocks c.args.self.now in
    let is : block_bytes disk c.args.block ≡ c.get.result = got disk c.args.block c.get.result c.get.ensures.value in
    let has = c.requires.spelled slot lt in
    (has.0, subst (λ bytes. Spells bytes slot has.0) is has.1)

pub returns-clause-value : goal.returns-clause-value
returns-clause-value g c =
    let disk : List (List ℕ) = g.Self.Blocks.blocks c.args.self.now in
    let is : block_bytes disk c.args.block ≡ c.get.result = got disk c.args.block c.get.result c.get.ensures.value in
    let e = c.look_in.ensures in
    subst (λ bytes. FoundIn bytes c.args.count c.args.name.now c.look_in.result) (sym is) (record { found = e.found; node = e.node; first = e.first; none = e.none })
