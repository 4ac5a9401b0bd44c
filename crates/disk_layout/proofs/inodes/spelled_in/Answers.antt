use Rattle.std.proofs.Common.{ℕ, ◌<◌, ◌≡◌, length, take, drop, get_or, arith}
use Rattle.std.specs.Prelude.{IsTrue}
use Rattle.disk_layout.proofs.InodeBytes.{first_zero, last_zeros, gathered}
use Rattle.disk_layout.proofs.inodes.spelled_in.Goals as goal
use Rattle.disk_layout.proofs.inodes.spelled_in.Goals.{then-bytes-ne0-via-then-bytes-ne0, then-bytes-ne0-via-else-bytes-ne0+then-not-all_zero}

pub returns-then-bytes-ne0-clause-none : goal.returns-then-bytes-ne0-clause-none
returns-then-bytes-ne0-clause-none c = λ inode fits e.
    let first : get_or c.args.bytes.now 1 0 ≡ 0 = first_zero c.args.bytes.now inode e in
    let last : (k : ℕ) → k < length (take 8 (drop 56 c.args.bytes.now)) → get_or (take 8 (drop 56 c.args.bytes.now)) k 0 ≡ 0 = last_zeros c.args.bytes.now inode fits e in
    elim c.then-bytes-ne0.branch [
      | then-bytes-ne0-via-then-bytes-ne0 w ↦ omega (arith, first)
      | then-bytes-ne0-via-else-bytes-ne0+then-not-all_zero w ↦
          let all : IsTrue w.all_zero.result = w.all_zero.ensures.1 last in absurd cc
    ]

pub returns-clause-spelled : goal.returns-clause-spelled
returns-clause-spelled c =
    let f = c.fields_of.ensures in
    let all : IsTrue c.all_zero.result = c.if-not-all_zero.false in
    (f.fits, gathered c.args.bytes.now c.fields_of.result (omega arith) f.kind (omega arith) f.nlink f.size f.direct f.indirect f.double (c.all_zero.ensures.0 all))
