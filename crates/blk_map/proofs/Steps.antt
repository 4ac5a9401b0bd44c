-- A node that gets another size in several steps.
use Rattle.std.proofs.Common.{◌≡◌, ℕ, ◌+◌, ◌-◌, ◌*◌, ◌/◌, ◌%◌, ◌<◌, ◌≤◌, min, ◌⊎◌, inl, inr, List, Result, Ok, Err, OnOk, IfErr, IsOk, Some, length, refl, sym, ap, subst, ◌∙◌, arith}
use Rattle.std.specs.Prelude.{◌↔◌, slice_get}
use Rattle.std.proofs.lemmas.Bool.{cases_lt}
use Rattle.kabi_types.specs.declared.inodes.Inode.{Inode}
use Rattle.kabi_types.specs.declared.errnos.Errno.{Errno}
use Rattle.kabi_types.specs.declared.errnos.Errno.TheVariants.{ENOSPC}
use Rattle.posix_defs.specs.DiskFormat.{block_size, data_blocks, blocks_of}
use Rattle.posix_defs.specs.SoundDisk.{block_bytes, free_in_map, HasInode, Sound, run_of}
use Rattle.posix_defs.specs.DiskContents.{data_block}
use Rattle.posix_defs.specs.DiskTree.{ChangesNode}
use Rattle.posix_defs.specs.NodeChange.{Resizes}
use Rattle.blk_map.specs.Found.{free_below}
use Rattle.blk_map.specs.Growing.{GrowsBut}
use Rattle.blk_map.specs.Named.{FreesNone, MayHaveSize}
use Rattle.blk_map.specs.Runs.{run_end, run_first}
use Rattle.blk_map.proofs.AndBack.{changes_follow}
use Rattle.blk_map.proofs.Counted.{blocks_more}
use Rattle.blk_map.proofs.Finding.{free_read}
use Rattle.blk_map.proofs.Taken.{lowest_then_lowest}

-- at first nothing is other
changes_not : (disk : List (List ℕ)) (number : ℕ) → Sound disk → ChangesNode disk disk number
changes_not disk number sound =
    record { sound = sound; blocks = refl; inodes = λ other inode apart has. has; bytes = λ other inode apart has. refl; names = λ other inode place apart has within. refl }

pub resizes_not : (number : ℕ) (disk : List (List ℕ)) (inode : Inode) → Sound disk → HasInode disk number inode → Resizes number disk inode inode.size disk inode
resizes_not number disk inode sound has =
    record { changes = changes_not disk number sound; has = has; fields = (refl, refl, refl); kept = λ index lt also. (refl, refl); free = refl }

pub grows_not : (from to number : ℕ) (disk : List (List ℕ)) (inode : Inode) → Sound disk → HasInode disk number inode → GrowsBut from to number disk inode inode.size disk inode
grows_not from to number disk inode sound has =
    record {
      resizes = resizes_not number disk inode sound has;
      zero = λ index past lt off. absurd (omega (arith, past, lt));
      lowest = λ block other free marked left. absurd (free.1 marked);
    }

-- what lies within both sizes lies within the one between
abbrev IsBetween : ℕ → ℕ → ℕ → Type 0
IsBetween old mid size = ((old ≤ mid) × (mid ≤ size)) ⊎ ((mid ≤ old) × (size ≤ mid))

within_both : (index old mid size : ℕ) → IsBetween old mid size → index < data_blocks old → index < data_blocks size → index < data_blocks mid
within_both index old mid size (inl up) lt also = omega (arith, up.0, lt)
within_both index old mid size (inr down) lt also = omega (arith, down.1, also)

pub resizes_follow : (number mid size : ℕ) (first second third : List (List ℕ)) (old between new : Inode) → IsBetween old.size mid size → Resizes number first old mid second between → Resizes number second between size third new
    → Resizes number first old size third new
resizes_follow number mid size first second third old between new order a b =
    let same : between.size ≡ mid = a.fields.2 in
    let blocks : blocks_of between.size ≡ blocks_of mid = ap blocks_of same in
    record {
      changes = changes_follow number first second third a.changes b.changes;
      has = b.has;
      fields = (b.fields.0 ∙ a.fields.0, b.fields.1 ∙ a.fields.1, b.fields.2);
      kept = λ index lt also.
          let within : index < data_blocks mid = within_both index old.size mid size order lt also in
          let one = a.kept index lt within in
          let two = b.kept index (subst (λ (n : ℕ). index < data_blocks n) (sym same) within) also in
          let block : block_bytes third (data_block first old index) ≡ block_bytes second (data_block first old index) = subst (λ (n : ℕ). block_bytes third n ≡ block_bytes second n) one.0 two.1 in
          (two.0 ∙ one.0, block ∙ one.1);
      free = omega (arith, a.free, b.free, blocks);
    }

pub grows_follow : (from to number mid size : ℕ) (first second third : List (List ℕ)) (old between new : Inode) → old.size ≤ mid → mid ≤ size
    → GrowsBut from to number first old mid second between → FreesNone second third → GrowsBut from to number second between size third new → GrowsBut from to number first old size third new
grows_follow from to number mid size first second third old between new le more a frees b =
    let same : between.size ≡ mid = a.resizes.fields.2 in
    record {
      resizes = resizes_follow number mid size first second third old between new (inl (le, more)) a.resizes b.resizes;
      zero = λ index past lt off. elim (cases_lt index (data_blocks mid)) [
        | inl early ↦
            let kept = b.resizes.kept index (subst (λ (n : ℕ). index < data_blocks n) (sym same) early) lt in
            ap (block_bytes third) kept.0 ∙ kept.1 ∙ a.zero index past early off
        | inr late ↦ b.zero index (subst (λ (n : ℕ). data_blocks n ≤ index) (sym same) late) lt off
      ];
      lowest = lowest_then_lowest first second third a.resizes.changes.blocks b.resizes.changes.blocks a.lowest frees b.lowest;
    }

pub frees_none_then : (first second third : List (List ℕ)) → FreesNone first second → FreesNone second third → FreesNone first third
frees_none_then first second third one two block is = two block (one block is)

-- ---- the sizes between

-- growing stops at the end of a run, or at the size that is wanted
pub next_in_run : (now wanted blocks in_run next : ℕ) → blocks ≡ data_blocks now → in_run ≡ block_size * run_end (run_of blocks) → next ≡ min in_run wanted → now < wanted
    → (now < next) × (next ≤ wanted) × (data_blocks next ≤ run_end (run_of (data_blocks now)))
next_in_run now wanted blocks in_run next held is stops lt = (
  omega (arith, held, is, stops, lt),
  omega (arith, stops),
  subst (λ (n : ℕ). data_blocks next ≤ run_end (run_of n)) held (omega (arith, is, stops)),
)

-- shrinking stops where a run begins
pub floor_below : (now floor : ℕ) → floor ≡ block_size * run_first (run_of (data_blocks now - 1)) → 0 < floor → floor < now
floor_below now floor is some = omega (arith, is, some)

pub floor_within : (now floor size : ℕ) → floor ≡ block_size * run_first (run_of (data_blocks now - 1)) → floor ≤ size → run_first (run_of (data_blocks now - 1)) ≤ data_blocks size
floor_within now floor size is le = units (run_first (run_of (data_blocks now - 1))) floor size is le
  where
    units : (many floor size : ℕ) → floor ≡ 1024 * many → floor ≤ size → many ≤ (size + 1023) / 1024
    units many floor size is le = omega (arith, is, le)

-- a directory keeps whole entries
pub whole_entries : (kind kind_now wanted units next : ℕ) → kind_now ≡ kind → MayHaveSize kind wanted → next ≡ min (block_size * units) wanted → MayHaveSize kind_now next
whole_entries kind kind_now wanted units next same (inl file) is = inl (same ∙ file)
whole_entries kind kind_now wanted units next same (inr directory) is = inr (same ∙ directory.0, omega (arith, directory.1, is))

pub whole_blocks : (kind kind_now wanted units : ℕ) → kind_now ≡ kind → MayHaveSize kind wanted → MayHaveSize kind_now (block_size * units)
whole_blocks kind kind_now wanted units same (inl file) = inl (same ∙ file)
whole_blocks kind kind_now wanted units same (inr directory) = inr (same ∙ directory.0, omega arith)

-- ---- what is free

-- of what was free at first so many are left as are wanted still
room_left : (old now next wanted free_then free_now : ℕ) → free_now + now ≡ free_then + old → wanted - old ≤ free_then → old ≤ wanted → next ≤ wanted → next - now ≤ free_now
room_left old now next wanted free_then free_now is enough le most = omega (arith, is, enough, le, most)

pub enough_left : (before between now : List (List ℕ)) (map : List ℕ) (blocks need found old mid next size : ℕ) → between ≡ before → slice_get before 0 ≡ Some map → blocks ≡ length between
    → need ≡ blocks_of size - blocks_of old → found ≡ min need (free_below map blocks) → need ≤ found → old ≤ size → free_in_map now + blocks_of mid ≡ free_in_map between + blocks_of old → next ≤ size
    → blocks_of next - blocks_of mid ≤ free_in_map now
enough_left before between now map blocks need found old mid next size kept read count wanted is enough le left most =
    room_left (blocks_of old) (blocks_of mid) (blocks_of next) (blocks_of size) (free_in_map between) (free_in_map now) left (
    all_wanted (blocks_of size - blocks_of old) need found (free_below map blocks) (free_in_map before) (free_in_map between) wanted is enough (free_read before between map blocks kept read count) (ap free_in_map kept)
    ) (blocks_more old size le) (blocks_more next size most)
  where
    all_wanted : (wanted need found free first then : ℕ) → need ≡ wanted → found ≡ min need free → need ≤ found → free ≡ first → then ≡ first → wanted ≤ then
    all_wanted wanted need found free first then same is enough here there = omega (arith, same, is, enough, here, there)

-- where enough is free there is no error
pub is_grown : (answer : Result (Unit {0}) Errno) (One Other : Type 0) (free wanted : ℕ) → IfErr answer (λ fault. (fault ≡ ENOSPC) × One × Other) → ((answer ≡ Err ENOSPC) ↔ (free < wanted)) → wanted ≤ free → IsOk answer
is_grown (Ok done) One Other free wanted err full enough = refl
is_grown (Err fault) One Other free wanted err full enough = let is : fault ≡ ENOSPC = err.0 in absurd (omega (arith, full.0 (ap Err is), enough))

pub grown : (answer : Result (Unit {0}) Errno) (Fact One Other : Type 0) (free wanted : ℕ) → OnOk answer Fact → IfErr answer (λ fault. (fault ≡ ENOSPC) × One × Other) → ((answer ≡ Err ENOSPC) ↔ (free < wanted)) → wanted ≤ free → Fact
grown (Ok done) Fact One Other free wanted ok err full enough = ok
grown (Err fault) Fact One Other free wanted ok err full enough = let is : fault ≡ ENOSPC = err.0 in absurd (omega (arith, full.0 (ap Err is), enough))
