-- Blocks of a node that are written one after another.
use Rattle.std.proofs.Common.{◌≡◌, ◌≢◌, ℕ, ◌+◌, ◌-◌, ◌/◌, ◌%◌, ◌<◌, ◌≤◌, ◌⊎◌, inl, inr, List, length, get_or, set, refl, sym, ap, subst, ◌∙◌, arith}
use Rattle.std.proofs.lemmas.Bool.{cases_eq, cases_lt}
use Rattle.std.proofs.lemmas.List.{get_or-set_other}
use Rattle.kabi_types.specs.declared.inodes.Inode.{Inode}
use Rattle.posix_defs.specs.DiskFormat.{block_size, data_blocks}
use Rattle.posix_defs.specs.SoundDisk.{block_bytes, HasInode, Data, Sound}
use Rattle.posix_defs.specs.DiskContents.{data_block, byte_at}
use Rattle.posix_defs.specs.DiskTree.{ChangesNode}
use Rattle.posix_defs.specs.NodeChange.{WritesBlock}
use Rattle.disk_laws.proofs.FreeBlocks.{named_is_for_files}
use Rattle.disk_laws.proofs.BlockWritten.{block_written}
use Rattle.blk_map.proofs.AndBack.{changes_follow}
use Rattle.memfs_file.specs.FileChange.{Puts, PutsPart}

pub nothing_changes : (disk : List (List ℕ)) (number : ℕ) → Sound disk → ChangesNode disk disk number
nothing_changes disk number sound = record { sound = sound; blocks = refl; inodes = λ other inode apart has. has; bytes = λ other inode apart has. refl; names = λ other inode place apart has within. refl }

-- before the first block nothing is written
pub none_put : (number : ℕ) (disk : List (List ℕ)) (inode : Inode) (at : ℕ) (bytes : List ℕ) (from : ℕ) → Sound disk → HasInode disk number inode → PutsPart number disk inode at bytes from from disk
none_put number disk inode at bytes from sound has =
    record {
      changes = nothing_changes disk number sound;
      has = has;
      names = λ place within. refl;
      map = refl;
      free = refl;
      new = λ place le lt low high. absurd (omega (arith, low, high));
      rest = λ place lt off. refl;
    }

-- a byte of another block stays
other_byte : {number : ℕ} {now : List (List ℕ)} {inode : Inode} {index : ℕ} {block : List ℕ} {after : List (List ℕ)} → WritesBlock number now inode index block after
    → (place : ℕ) → place < inode.size → place / block_size ≢ index → byte_at after inode place ≡ byte_at now inode place
other_byte {number} {now} {inode} {index} {block} {after} w place lt apart =
    let within : place / block_size < data_blocks inode.size = omega (arith, lt) in
    ap (λ (n : ℕ). get_or (block_bytes after n) (place % block_size) 0) (w.names (Data (place / block_size)) within) ∙ ap (λ (bytes : List ℕ). get_or bytes (place % block_size) 0) (w.others (place / block_size) within apart)

-- a byte of the block is the block's
this_byte : {number : ℕ} {now : List (List ℕ)} {inode : Inode} {index : ℕ} {block : List ℕ} {after : List (List ℕ)} → WritesBlock number now inode index block after
    → (place : ℕ) → index < data_blocks inode.size → place / block_size ≡ index → byte_at after inode place ≡ get_or (block_bytes after (data_block now inode index)) (place % block_size) 0
this_byte {number} {now} {inode} {index} {block} {after} w place within e =
    ap (λ (n : ℕ). get_or (block_bytes after (data_block after inode n)) (place % block_size) 0) e ∙ ap (λ (n : ℕ). get_or (block_bytes after n) (place % block_size) 0) (w.names (Data index) within)

pub record PutOne (number : ℕ) (before : List (List ℕ)) (inode : Inode) (at : ℕ) (bytes : List ℕ) (from index : ℕ) (now after : List (List ℕ)) : Type 0 where
  pub sofar : PutsPart number before inode at bytes from index now
  pub low : from ≤ index
  pub fits : at + length bytes ≤ inode.size
  pub within : index < data_blocks inode.size
  pub block : List ℕ
  pub is_set : after ≡ set now (data_block before inode index) block
  pub here : (place : ℕ) → at ≤ place → place < at + length bytes → place / block_size ≡ index → get_or (block_bytes after (data_block before inode index)) (place % block_size) 0 ≡ get_or bytes (place - at) 0
  pub off : (place : ℕ) → place / block_size ≡ index → (place < at) ⊎ (at + length bytes ≤ place)
      → get_or (block_bytes after (data_block before inode index)) (place % block_size) 0 ≡ get_or (block_bytes now (data_block before inode index)) (place % block_size) 0

module _ (number : ℕ) (before : List (List ℕ)) (inode : Inode) (at : ℕ) (bytes : List ℕ) (from index : ℕ) (now after : List (List ℕ)) (p : PutOne number before inode at bytes from index now after) where
  name : data_block now inode index ≡ data_block before inode index
  name = p.sofar.names (Data index) p.within

  written : WritesBlock number now inode index p.block after
  written =
      let is : after ≡ set now (data_block now inode index) p.block = p.is_set ∙ ap (λ (n : ℕ). set now n p.block) (sym name) in
      subst (λ (disk : List (List ℕ)). WritesBlock number now inode index p.block disk) (sym is) (block_written now number inode index p.block p.sofar.changes.sound p.sofar.has p.within)

  -- a block of a node is none of the map
  map_stays : block_bytes after 0 ≡ block_bytes now 0
  map_stays =
      let files = named_is_for_files now p.sofar.changes.sound number inode (Data index) p.sofar.has p.within in
      ap (λ (disk : List (List ℕ)). block_bytes disk 0) p.is_set ∙ get_or-set_other {A = List ℕ} now (data_block before inode index) 0 p.block _ (λ e. omega (arith, e, files.0, name))

  this : (place : ℕ) → place / block_size ≡ index → byte_at after inode place ≡ get_or (block_bytes after (data_block before inode index)) (place % block_size) 0
  this place e = this_byte written place p.within e ∙ ap (λ (n : ℕ). get_or (block_bytes after n) (place % block_size) 0) name

  was : (place : ℕ) → place / block_size ≡ index → get_or (block_bytes now (data_block before inode index)) (place % block_size) 0 ≡ byte_at now inode place
  was place e = ap (λ (n : ℕ). get_or (block_bytes now n) (place % block_size) 0) (sym name) ∙ ap (λ (n : ℕ). get_or (block_bytes now (data_block now inode n)) (place % block_size) 0) (sym e)

  new_byte : (place : ℕ) → at ≤ place → place < at + length bytes → from ≤ place / block_size → place / block_size < index + 1 → byte_at after inode place ≡ get_or bytes (place - at) 0
  new_byte place le lt first before' = elim (cases_eq (place / block_size) index) [
    | inl e ↦ this place e ∙ p.here place le lt e
    | inr apart ↦ other_byte written place (omega (arith, lt, p.fits)) apart ∙ p.sofar.new place le lt first (omega (arith, before', apart))
  ]

  rest_byte : (place : ℕ) → place < inode.size → ((place < at) ⊎ (at + length bytes ≤ place)) ⊎ ((place / block_size < from) ⊎ (index + 1 ≤ place / block_size)) → byte_at after inode place ≡ byte_at before inode place
  rest_byte place lt off = elim (cases_eq (place / block_size) index) [
    | inl e ↦
        let outside : (place < at) ⊎ (at + length bytes ≤ place) = elim off [
          | inl out ↦ out
          | inr elsewhere ↦ elim elsewhere [
            | inl early ↦ absurd (omega (arith, early, e, p.low))
            | inr later ↦ absurd (omega (arith, later, e))
          ]
        ] in
        this place e ∙ p.off place e outside ∙ was place e ∙ p.sofar.rest place lt (inr (inr (omega (arith, e))))
    | inr apart ↦
        let outside : ((place < at) ⊎ (at + length bytes ≤ place)) ⊎ ((place / block_size < from) ⊎ (index ≤ place / block_size)) = elim off [
          | inl out ↦ inl out
          | inr elsewhere ↦ elim elsewhere [
            | inl early ↦ inr (inl early)
            | inr later ↦ inr (inr (omega (arith, later)))
          ]
        ] in
        other_byte written place lt apart ∙ p.sofar.rest place lt outside
  ]

  pub put_more : PutsPart number before inode at bytes from (index + 1) after
  put_more =
      record {
        changes = changes_follow number before now after p.sofar.changes written.changes;
        has = written.has;
        names = λ place within. written.names place within ∙ p.sofar.names place within;
        map = map_stays ∙ p.sofar.map;
        free = written.free ∙ p.sofar.free;
        new = new_byte;
        rest = rest_byte;
      }

-- what is written of some blocks, and then of those behind them
pub put_then : (number : ℕ) (first second third : List (List ℕ)) (inode : Inode) (at : ℕ) (bytes : List ℕ) (from mid to : ℕ) → from ≤ mid → mid ≤ to → at + length bytes ≤ inode.size
    → PutsPart number first inode at bytes from mid second → PutsPart number second inode at bytes mid to third → PutsPart number first inode at bytes from to third
put_then number first second third inode at bytes from mid to low high fits one two =
    record {
      changes = changes_follow number first second third one.changes two.changes;
      has = two.has;
      names = λ place within. two.names place within ∙ one.names place within;
      map = two.map ∙ one.map;
      free = two.free ∙ one.free;
      new = λ place le lt begins ends. elim (cases_lt (place / block_size) mid) [
        | inl early ↦ two.rest place (omega (arith, lt, fits)) (inr (inl early)) ∙ one.new place le lt begins early
        | inr late ↦ two.new place le lt late ends
      ];
      rest = λ place lt off. elim off [
        | inl out ↦ two.rest place lt (inl out) ∙ one.rest place lt (inl out)
        | inr elsewhere ↦ elim elsewhere [
          | inl early ↦ two.rest place lt (inr (inl (omega (arith, early, low)))) ∙ one.rest place lt (inr (inl early))
          | inr late ↦ two.rest place lt (inr (inr late)) ∙ one.rest place lt (inr (inr (omega (arith, late, high))))
        ]
      ];
    }

pub all_put : (number : ℕ) (before : List (List ℕ)) (inode : Inode) (at : ℕ) (bytes : List ℕ) (from to : ℕ) (now : List (List ℕ)) → from ≡ at / block_size → to ≡ data_blocks (at + length bytes)
    → PutsPart number before inode at bytes from to now → Puts number before inode at bytes now
all_put number before inode at bytes from to now first all p =
    record {
      changes = p.changes;
      has = p.has;
      map = p.map;
      free = p.free;
      new = λ place le lt. p.new place le lt (omega (arith, le, first)) (omega (arith, lt, all));
      rest = λ place lt off. p.rest place lt (inl off);
    }
