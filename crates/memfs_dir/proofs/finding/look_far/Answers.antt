use Rattle.std.proofs.Common.{◌≡◌, ℕ, suc, ◌+◌, ◌*◌, ◌/◌, ◌<◌, List, length, get_or, Some, refl, sym, ap, subst, ◌∙◌, arith}
use Rattle.kabi_types.specs.declared.inodes.DirEntry.{DirEntry}
use Rattle.posix_defs.specs.Asking.{AskedInTurn}
use Rattle.posix_defs.specs.SoundDisk.{block_bytes}
use Rattle.posix_defs.specs.DiskContents.{data_block}
use Rattle.posix_defs.specs.TreeChanges.{no_entry}
use Rattle.disk_laws.proofs.DirectoryEntries.{size_of_entries}
use Rattle.memfs_dir.specs.Looking.{HasDouble, HasRun, IsLookOf, asked_to_find, blocks_at, entered, found_place}
use Rattle.memfs_dir.specs.declared.finding.FoundEntry.{FoundEntry}
use Rattle.memfs_dir.proofs.DirectoryBytes.{block_is}
use Rattle.memfs_dir.proofs.Found.{none_called, look_found, missing_on, spelled_in, asked_further}
use Rattle.memfs_dir.proofs.finding.look_far.Goals as goal

pub look-requires-clause-spelled : goal.look-requires-clause-spelled
look-requires-clause-spelled g c = λ slot lt.
    let disk : List (List ℕ) = g.B.Blocks.blocks c.args.b.now in
    let dir = c.args.dir.now in
    let index : ℕ = c.loop-index.index in
    let entries : List DirEntry = c.requires.entries.0 in
    let has = c.requires.entries.1 in
    let same : g.B.Blocks.blocks c.loop-index.b ≡ disk = c.loop-index.invariant.kept in
    let number : c.block_in_turn-block.result ≡ data_block disk dir index = c.block_in_turn-block.ensures.value ∙ ap (λ (d : List (List ℕ)). data_block d dir index) same in
    let bytes : List ℕ = block_bytes (g.B.Blocks.blocks c.block_in_turn-block.new.b) c.block_in_turn-block.result in
    let is = block_is disk (g.B.Blocks.blocks c.block_in_turn-block.new.b) dir index c.block_in_turn-block.result number (c.block_in_turn-block.ensures.kept ∙ same) in
    let size = size_of_entries disk dir entries has in
    let within : 32 * index + slot < length entries = omega (arith, lt, c.min-here.ensures, size) in
    (get_or entries (32 * index + slot) no_entry, spelled_in disk dir entries index slot bytes has (omega (arith, lt, c.min-here.ensures)) within is)

pub returns-in-Some-clause-value : goal.returns-in-Some-clause-value
returns-in-Some-clause-value g c = λ entries has.
    let disk : List (List ℕ) = g.B.Blocks.blocks c.args.b.now in
    let dir = c.args.dir.now in
    let index : ℕ = c.loop-index.index in
    let found = c.in-Some.found in
    let same : g.B.Blocks.blocks c.loop-index.b ≡ disk = c.loop-index.invariant.kept in
    let number : c.block_in_turn-block.result ≡ data_block disk dir index = c.block_in_turn-block.ensures.value ∙ ap (λ (d : List (List ℕ)). data_block d dir index) same in
    let bytes : List ℕ = block_bytes (g.B.Blocks.blocks c.block_in_turn-block.new.b) c.block_in_turn-block.result in
    let is = block_is disk (g.B.Blocks.blocks c.block_in_turn-block.new.b) dir index c.block_in_turn-block.result number (c.block_in_turn-block.ensures.kept ∙ same) in
    let size = size_of_entries disk dir entries has in
    let slot : found.place < 32 = omega (arith, c.in-Some.ensures.value.found.0, c.min-here.ensures) in
    let within : 32 * index + found.place < length entries = omega (arith, c.in-Some.ensures.value.found.0, c.min-here.ensures, size) in
    subst (λ (entry : FoundEntry). IsLookOf c.args.name.now entries (Some entry)) (sym c.behind.ensures)
    (look_found disk dir entries index found.place found.node bytes c.args.name.now has slot within is (c.loop-index.invariant.missing entries has) c.in-Some.ensures.value.first c.in-Some.ensures.value.found.1 c.in-Some.ensures.value.node)

pub returns-in-Some-clause-asked : goal.returns-in-Some-clause-asked
returns-in-Some-clause-asked g c =
    let disk : List (List ℕ) = g.B.Blocks.blocks c.args.b.now in
    let dir = c.args.dir.now in
    let index : ℕ = c.loop-index.index in
    let found = c.in-Some.found in
    let same : g.B.Blocks.blocks c.loop-index.b ≡ disk = c.loop-index.invariant.kept in
    let number : c.block_in_turn-block.result ≡ data_block disk dir index = c.block_in_turn-block.ensures.value ∙ ap (λ (d : List (List ℕ)). data_block d dir index) same in
    let slot : found.place < 32 = omega (arith, c.in-Some.ensures.value.found.0, c.min-here.ensures) in
    let count : (32 * index + found.place) / 32 + 1 ≡ suc index = omega (arith, slot) in
    subst (λ (entry : FoundEntry). AskedInTurn g.B.Blocks.asked c.args.b.now (asked_to_find disk dir (found_place (Some entry))) c.look.new.self) (sym c.behind.ensures)
    (asked_further g.B.Blocks.asked disk dir index c.block_in_turn-block.result ((32 * index + found.place) / 32 + 1) c.args.b.now c.loop-index.b c.block_in_turn-block.new.b c.look.new.self number count
    c.loop-index.invariant.asked (subst (λ (d : List (List ℕ)). AskedInTurn g.B.Blocks.asked c.loop-index.b (blocks_at d dir (entered index)) c.block_in_turn-block.new.b) same c.block_in_turn-block.ensures.asked) c.look.ensures.asked)

pub loop-index-preserved : goal.loop-index-preserved
loop-index-preserved g c =
    let disk : List (List ℕ) = g.B.Blocks.blocks c.args.b.now in
    let dir = c.args.dir.now in
    let index : ℕ = c.loop-index.index in
    let same : g.B.Blocks.blocks c.loop-index.b ≡ disk = c.loop-index.invariant.kept in
    let number : c.block_in_turn-block.result ≡ data_block disk dir index = c.block_in_turn-block.ensures.value ∙ ap (λ (d : List (List ℕ)). data_block d dir index) same in
    let bytes : List ℕ = block_bytes (g.B.Blocks.blocks c.block_in_turn-block.new.b) c.block_in_turn-block.result in
    let is = block_is disk (g.B.Blocks.blocks c.block_in_turn-block.new.b) dir index c.block_in_turn-block.result number (c.block_in_turn-block.ensures.kept ∙ same) in
    let trans = g.met.B.Blocks.follows_trans in
    let next : index + 1 ≡ suc index = omega arith in
    record {
      kept = c.look.ensures.kept ∙ c.block_in_turn-block.ensures.kept ∙ same;
      follows = trans c.args.b.now c.block_in_turn-block.new.b c.look.new.self (trans c.args.b.now c.loop-index.b c.block_in_turn-block.new.b c.loop-index.invariant.follows c.block_in_turn-block.ensures.follows) c.look.ensures.follows;
      pointers = subst (λ (d : List (List ℕ)). HasRun d dir c.block_in_turn-block.new.pointers (index + 1)) same c.block_in_turn-block.ensures.pointers;
      double = subst (λ (d : List (List ℕ)). HasDouble d dir c.block_in_turn-block.new.double (index + 1)) same c.block_in_turn-block.ensures.double;
      asked =
          asked_further g.B.Blocks.asked disk dir index c.block_in_turn-block.result (index + 1) c.args.b.now c.loop-index.b c.block_in_turn-block.new.b c.look.new.self number next
          c.loop-index.invariant.asked (subst (λ (d : List (List ℕ)). AskedInTurn g.B.Blocks.asked c.loop-index.b (blocks_at d dir (entered index)) c.block_in_turn-block.new.b) same c.block_in_turn-block.ensures.asked) c.look.ensures.asked;
      missing = λ entries has k k_lt below.
          let size = size_of_entries disk dir entries has in
          missing_on disk dir entries index c.min-here.result bytes c.args.name.now has (omega (arith, c.min-here.ensures)) is (c.loop-index.invariant.missing entries has)
          (c.in_default.ensures.value.none refl) k k_lt (omega (arith, c.min-here.ensures, size, k_lt, below));
    }

pub returns-clause-value : goal.returns-clause-value
returns-clause-value g c = λ entries has.
    let disk : List (List ℕ) = g.B.Blocks.blocks c.args.b.now in
    let size = size_of_entries disk c.args.dir.now entries has in
    let end = c.div_ceil-index-end.ensures in
    (sym (none_called entries c.args.name.now (λ k lt. c.loop-index.invariant.missing entries has k lt (omega (arith, lt, size, c.loop-index-test.false, end)))), tt)
