use Rattle.std.proofs.Common.{◌≡◌, ℕ, ◌+◌, ◌-◌, ◌/◌, ◌<◌, Bool, ◌||◌, List, length, min, take, drop, sym, ap, ◌∙◌, subst, refl, arith}
use Rattle.std.specs.List.{AllByRecursion}
use Rattle.kabi_types.specs.declared.inodes.Inode.{Inode}
use Rattle.kabi_types.specs.declared.scripts.Program.{Program}
use Rattle.kabi_types.specs.declared.errnos.Errno.TheVariants.{EACCES}
use Rattle.posix_defs.specs.DiskFormat.{block_size}
use Rattle.posix_defs.specs.DiskContents.{data_block, node_bytes}
use Rattle.posix_defs.specs.PathCalls as calls
use Rattle.posix_defs.specs.SoundDisk.{HasNode}
use Rattle.posix_defs.specs.Tree.{node_at, is_directory}
use Rattle.disk_laws.proofs.FormattedDisk.{one_inode}
use Rattle.memfs_file.specs.Ranges.{asked_to_read}
use Rattle.cached_disk.specs.Lent.{IsCached}
use Rattle.memfs_ops.proofs.FetchLemmas.{told_bytes, told_count}
use Rattle.memfs_ops.proofs.LookLemmas.{pays_trans}
use Rattle.memfs_ops.proofs.OpenLemmas.{is_file}
use Rattle.memfs_ops.proofs.CloseLemmas.{pays_fetched}
use Rattle.memfs_ops.proofs.ProgramLemmas.{file_tests, no_file, no_test, read_line, told_program, still_line, is_kind, other_kind}
use Rattle.memfs_ops.proofs.file_tree.FileTree.program_at.Goals as goal

pub returns-then-not-is_file-clause-value : goal.returns-then-not-is_file-clause-value
returns-then-not-is_file-clause-value c = λ tree pins stands.
    let other = no_file (is_directory tree c.args.number || calls.is_socket tree c.args.number || calls.is_fifo tree c.args.number) (sym (c.is_file.ensures.value tree c.args.number (c.inode-inode.ensures.value tree pins stands)) ∙ c.if-not-is_file.true) in
    sym (ap (λ (b : Bool). calls.unless b EACCES (calls.program_of c.args.script.now.programs (calls.bytes_in (node_at tree c.args.number)))) other)

pub read_bytes-count-requires-clause-stands : goal.read_bytes-count-requires-clause-stands
read_bytes-count-requires-clause-stands c =
    let r = c.requires.stands in
    (r.0, r.1, c.inode-inode.ensures.looks.stands r.0 r.1 r.2)

pub returns-clause-value : goal.returns-clause-value
returns-clause-value c = λ tree pins stands.
    let i = c.inode-inode in
    let b = c.read_bytes-count in
    let programs : List Program = c.args.script.now.programs in
    let bytes : List ℕ = calls.bytes_in (node_at tree c.args.number) in
    let disk : List (List ℕ) = i.new.self.disk.blocks in
    let s = i.ensures.looks.stands tree pins stands in
    let shows = i.ensures.value tree pins stands in
    let plain = sym (c.is_file.ensures.value tree c.args.number shows) ∙ c.if-not-is_file.false in
    let tests = file_tests (is_directory tree c.args.number) (calls.is_socket tree c.args.number) (calls.is_fifo tree c.args.number) plain in
    let file = is_file tree c.args.number i.result shows tests.0 tests.1 tests.2 in
    let has = subst (λ (d : List (List ℕ)). HasNode d c.args.number i.result) (sym i.ensures.looks.on.bytes) i.ensures.has in
    let front : take b.result (drop 0 (node_bytes disk i.result)) ≡ take 30 (drop 0 bytes) = told_bytes disk tree c.args.number 0 0 30 b.result i.result s.behind file has refl b.ensures.count in
    let count : b.result ≡ length (take 30 (drop 0 bytes)) = told_count disk tree c.args.number 0 0 30 b.result i.result s.behind file has refl b.ensures.count in
    let line : take b.result b.new.out ≡ take 30 (drop 0 bytes) = read_line _ b.new.out (take b.result (drop 0 (node_bytes disk i.result))) (take 30 (drop 0 bytes)) b.result b.ensures.bytes front count in
    c.program_named.ensures
    ∙ ap (λ (ps : List Program). calls.program_of ps (take b.result b.new.out)) c.items.ensures
    ∙ ap (λ (bs : List ℕ). calls.program_of programs bs) line
    ∙ told_program programs bytes c.requires.programs.names
    ∙ sym (ap (λ (x : Bool). calls.unless x EACCES (calls.program_of programs bytes)) (no_test (is_directory tree c.args.number || calls.is_socket tree c.args.number || calls.is_fifo tree c.args.number) plain))

pub returns-clause-stands : goal.returns-clause-stands
returns-clause-stands c = λ tree pins stands. c.read_bytes-count.ensures.fetches.stands tree pins (c.inode-inode.ensures.looks.stands tree pins stands)

pub returns-clause-pays : goal.returns-clause-pays
returns-clause-pays c =
    let i = c.inode-inode in
    let b = c.read_bytes-count in
    pays_trans c.args.heap.now i.new.heap b.new.heap c.args.purse.now i.new.purse b.new.purse c.args.self.now i.new.self b.new.self i.ensures.looks
    (pays_fetched i.new.heap b.new.heap i.new.purse b.new.purse i.new.self b.new.self b.ensures.fetches.on b.ensures.fetches.may)

pub returns-then-not-is_file-clause-saved : goal.returns-then-not-is_file-clause-saved
returns-then-not-is_file-clause-saved c = λ some line. (c.inode-inode.ensures.saved some).disk

pub returns-then-not-is_file-clause-line : goal.returns-then-not-is_file-clause-line
returns-then-not-is_file-clause-line c = λ inode has kind some.
    let i = c.inode-inode in
    absurd (other_kind c.args.self.now.disk.blocks c.args.number inode i.result has i.ensures.has kind c.is_file.result c.is_file.ensures.kind c.if-not-is_file.true)

pub returns-clause-saved : goal.returns-clause-saved
returns-clause-saved c = λ some line.
    let i = c.inode-inode in
    let b = c.read_bytes-count in
    let looked = i.ensures.saved some in
    let disk : List (List ℕ) = i.new.self.disk.blocks in
    let has = subst (λ (d : List (List ℕ)). HasNode d c.args.number i.result) (sym i.ensures.looks.on.bytes) i.ensures.has in
    let known = still_line c.args.self.now i.new.self c.args.number looked.disk looked.blocks line i.result has (is_kind c.is_file.result i.result c.is_file.ensures.kind c.if-not-is_file.false) in
    let count : min 30 i.result.size ≡ b.result = omega (arith, b.ensures.count) in
    b.ensures.saved (subst (λ (n : ℕ). AllByRecursion (IsCached i.new.self.blocks) (asked_to_read disk i.result 0 n)) count known) ∙ looked.disk

pub returns-clause-line : goal.returns-clause-line
returns-clause-line c = λ inode has kind some.
    let i = c.inode-inode in
    let b = c.read_bytes-count in
    let same : i.result ≡ inode = one_inode c.args.self.now.disk.blocks c.args.number i.result inode i.ensures.has.0 has.0 in
    let size : i.result.size ≡ inode.size = ap (λ (n : Inode). n.size) same in
    let some_read : 0 < b.result = omega (arith, b.ensures.count, size, some) in
    let first : (0 + b.result - 1) / block_size ≡ 0 = omega (arith, b.ensures.count) in
    let there = b.ensures.last some_read in
    let at_first = subst (λ (n : ℕ). IsCached b.new.self.blocks (data_block i.new.self.disk.blocks i.result n)) first there in
    let on_disk = subst (λ (d : List (List ℕ)). IsCached b.new.self.blocks (data_block d i.result 0)) i.ensures.looks.on.bytes at_first in
    subst (λ (n : Inode). IsCached b.new.self.blocks (data_block c.args.self.now.disk.blocks n 0)) same on_disk
