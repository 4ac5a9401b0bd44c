-- The blocks of pointers of a node that gets another size within a run: what is named, and what is named no more.
use Rattle.std.proofs.Common.{◌≡◌, ◌≢◌, ℕ, zero, suc, ◌+◌, ◌-◌, ◌*◌, ◌<◌, ◌≤◌, ◌⊎◌, inl, inr, List, [], length, get_or, refl, sym, ap, subst, ◌∙◌, arith}
use Rattle.std.proofs.lemmas.Bool.{cases_lt, cases_eq}
use Rattle.kabi_types.specs.declared.inodes.Inode.{Inode}
use Rattle.posix_defs.specs.DiskFormat.{block_size, data_blocks, pointers_beside, pointer_blocks, leads_to, IsForFiles}
use Rattle.posix_defs.specs.SoundDisk.{block_bytes, HasInode, pointer_at, pointer_block, block_of_run, Pointers, Sound, IsFreeBlock}
use Rattle.disk_laws.proofs.FreeBlocks.{named_is_for_files}
use Rattle.disk_laws.proofs.Pointing.{unneeded}
use Rattle.blk_map.specs.Pointing.{Repoints, WritesDouble}
use Rattle.blk_map.proofs.Blocks.{free_is_for_files}
use Rattle.blk_map.proofs.Inodes.{none_needed}

-- a node of a sound disk
pub record Had : Type 0 where
  pub disk : List (List ℕ)
  pub number : ℕ
  pub old : Inode
  pub size : ℕ
  pub sound : Sound disk
  pub has : HasInode disk number old

abbrev had_blocks : Had → ℕ
had_blocks h = data_blocks h.old.size

abbrev new_blocks : Had → ℕ
new_blocks h = data_blocks h.size

-- the same inode with another block of pointers, and with another double block
abbrev pub with_indirect : Inode → ℕ → Inode
with_indirect inode block = record { kind = inode.kind; nlink = inode.nlink; size = inode.size; direct = inode.direct; indirect = block; double = inode.double }

abbrev pub with_double : Inode → ℕ → Inode
with_double inode block = record { kind = inode.kind; nlink = inode.nlink; size = inode.size; direct = inode.direct; indirect = inode.indirect; double = block }

no_indirect : (h : Had) → had_blocks h ≤ 10 → h.old.indirect ≡ 0
no_indirect h few = none_needed (length h.disk) h.old.indirect (10 * block_size) h.old.size (omega (arith, few)) h.has.valid.pointers.indirect

no_double : (h : Had) → had_blocks h ≤ 266 → h.old.double ≡ 0
no_double h few = none_needed (length h.disk) h.old.double (266 * block_size) h.old.size (omega (arith, few)) h.has.valid.pointers.double

-- a pointer of the double block that leads to no block of bytes
no_pointer : (h : Had) (at : ℕ) → 266 < had_blocks h → at < 256 → had_blocks h ≤ leads_to 1 at → pointer_at (block_bytes h.disk h.old.double) at ≡ 0
no_pointer h at far lt past = unneeded h.disk h.sound h.number h.old 1 at h.has (omega (arith, far)) lt past

-- the double block, or no block, is on the disk
pub double_on_disk : (h : Had) → h.old.double < length h.disk
double_on_disk h = elim (cases_lt 266 (had_blocks h)) [
  | inl far ↦ (named_is_for_files h.disk h.sound h.number h.old (Pointers 1) h.has (omega (arith, far))).1
  | inr near ↦ omega (arith, no_double h near, h.sound.size.0)
]

-- ---- growth

-- the blocks of pointers that the node has then are for files
pub pointer_files : (h : Had) (more : List ℕ) (after : List (List ℕ)) (new : Inode) → Repoints h.disk h.old h.size more after new → length more ≡ pointer_blocks h.size - pointer_blocks h.old.size
    → ((k : ℕ) → k < length more → IsFreeBlock h.disk (get_or more k 0)) → (block : ℕ) → block < pointer_blocks h.size → IsForFiles (length h.disk) (pointer_block after new block)
pointer_files h more after new names many free block has = elim (cases_lt block (pointer_blocks h.old.size)) [
  | inl was ↦ subst (IsForFiles (length h.disk)) (sym (names.kept block was has)) (named_is_for_files h.disk h.sound h.number h.old (Pointers block) h.has was)
  | inr past ↦
      let at : ℕ = block - pointer_blocks h.old.size in
      let within : at < length more = among block (pointer_blocks h.old.size) (pointer_blocks h.size) (length more) many past has in
      subst (IsForFiles (length h.disk)) (sym (names.added block past has)) (free_is_for_files h.disk h.sound (get_or more at 0) (free at within))
]
  where
    among : (block old size all : ℕ) → all ≡ size - old → old ≤ block → block < size → block - old < all
    among block old size all is past has = omega arith

-- and the map is as it was
pub map_stays : (h : Had) (more : List ℕ) (after : List (List ℕ)) (new : Inode) → Repoints h.disk h.old h.size more after new → length more ≡ pointer_blocks h.size - pointer_blocks h.old.size
    → ((k : ℕ) → k < length more → IsFreeBlock h.disk (get_or more k 0)) → WritesDouble h.disk h.size after new → block_bytes after 0 ≡ block_bytes h.disk 0
map_stays h more after new names many free others = others 0 (λ far e. let files = pointer_files h more after new names many free 1 (omega (arith, far)) in omega (arith, e, files.0))

-- within the near ones the inode names one block, or none
pub near_named : (h : Had) (more : List ℕ) (after : List (List ℕ)) (new : Inode) → h.old.size ≤ h.size → new_blocks h ≤ 266 → length more ≡ pointer_blocks h.size - pointer_blocks h.old.size
    → new.double ≡ h.old.double → (length more ≡ 0 → new.indirect ≡ h.old.indirect) → (0 < length more → new.indirect ≡ get_or more 0 0) → Repoints h.disk h.old h.size more after new
near_named h more after new grows near many double same named =
    record { kept = kept; added = added; none = (no_new, λ _. double ∙ no_double h (omega (arith, grows, near))); rest = λ at far lt past. absurd (omega (arith, far, near)) }
  where
    kept : (block : ℕ) → block < pointer_blocks h.old.size → block < pointer_blocks h.size → pointer_block after new block ≡ pointer_block h.disk h.old block
    kept zero was is = same (omega (arith, was, grows, near, many))
    kept (suc block) was is = absurd (omega (arith, is, near))

    added : (block : ℕ) → pointer_blocks h.old.size ≤ block → block < pointer_blocks h.size → pointer_block after new block ≡ get_or more (block - pointer_blocks h.old.size) 0
    added zero past is = let none : 0 - pointer_blocks h.old.size ≡ 0 = omega arith in named (omega (arith, past, is, many)) ∙ ap (λ (n : ℕ). get_or more n 0) (sym none)
    added (suc block) past is = absurd (omega (arith, is, near))

    no_new : new_blocks h ≤ 10 → new.indirect ≡ 0
    no_new few = same (omega (arith, few, many)) ∙ no_indirect h (omega (arith, few, grows))

-- where a node has the block of a further run already nothing is named
pub far_same : (h : Had) (more : List ℕ) → h.old.size ≤ h.size → 266 ≤ had_blocks h → pointer_blocks h.size - pointer_blocks h.old.size ≡ 0 → Repoints h.disk h.old h.size more h.disk h.old
far_same h more grows far same =
    record {
      kept = λ block was is. refl;
      added = λ block past is. absurd (omega (arith, past, is, same));
      none = (λ few. absurd (omega (arith, few, far, grows)), λ near. no_double h (omega (arith, near, grows)));
      rest = λ at large lt past. elim (cases_lt 266 (had_blocks h)) [
        | inl was ↦ no_pointer h at was lt (omega (arith, past, grows))
        | inr few ↦ absurd (omega (arith, few, far, large, same))
      ];
    }

-- with the second run the double block comes, and names the run's block first
pub double_named : (h : Had) (more : List ℕ) (after : List (List ℕ)) (new : Inode) → had_blocks h ≡ 266 → 266 < new_blocks h → new_blocks h ≤ 522 → length more ≡ 2 → new.indirect ≡ h.old.indirect → new.double ≡ get_or more 0 0
    → pointer_at (block_bytes after new.double) 0 ≡ get_or more 1 0 → ((at : ℕ) → 0 < at → at < 256 → pointer_at (block_bytes after new.double) at ≡ 0) → Repoints h.disk h.old h.size more after new
double_named h more after new was far within many indirect double first others =
    record { kept = kept; added = added; none = (λ few. absurd (omega (arith, few, far)), λ near. absurd (omega (arith, near, far))); rest = rest }
  where
    kept : (block : ℕ) → block < pointer_blocks h.old.size → block < pointer_blocks h.size → pointer_block after new block ≡ pointer_block h.disk h.old block
    kept zero lt is = indirect
    kept (suc block) lt is = absurd (omega (arith, lt, was))

    added : (block : ℕ) → pointer_blocks h.old.size ≤ block → block < pointer_blocks h.size → pointer_block after new block ≡ get_or more (block - pointer_blocks h.old.size) 0
    added zero past is = absurd (omega (arith, past, was))
    added (suc zero) past is = let none : 1 - pointer_blocks h.old.size ≡ 0 = omega (arith, was) in double ∙ ap (λ (n : ℕ). get_or more n 0) (sym none)
    added (suc (suc zero)) past is = let one : 2 - pointer_blocks h.old.size ≡ 1 = omega (arith, was) in first ∙ ap (λ (n : ℕ). get_or more n 0) (sym one)
    added (suc (suc (suc block))) past is = absurd (omega (arith, is, within))

    rest : (at : ℕ) → 266 < new_blocks h → at < 256 → new_blocks h ≤ leads_to 1 at → pointer_at (block_bytes after new.double) at ≡ 0
    rest at large lt past = others at (omega (arith, past, far)) lt

-- with every other the double block names one more
pub run_named : (h : Had) (run : ℕ) (more : List ℕ) (after : List (List ℕ)) (new : Inode) → had_blocks h ≡ 10 + 256 * suc (suc run) → had_blocks h < new_blocks h → new_blocks h ≤ 10 + 256 * (suc (suc run) + 1) → length more ≡ 1
    → new.indirect ≡ h.old.indirect → new.double ≡ h.old.double → pointer_at (block_bytes after h.old.double) (suc run) ≡ get_or more 0 0
    → ((at : ℕ) → at < 256 → at ≢ suc run → pointer_at (block_bytes after h.old.double) at ≡ pointer_at (block_bytes h.disk h.old.double) at) → Repoints h.disk h.old h.size more after new
run_named h run more after new was grows within many indirect double this others =
    record { kept = kept; added = added; none = (λ few. absurd (omega (arith, few, was, grows)), λ near. absurd (omega (arith, near, was, grows))); rest = rest }
  where
    there : (at : ℕ) → pointer_at (block_bytes after new.double) at ≡ pointer_at (block_bytes after h.old.double) at
    there at = ap (λ (n : ℕ). pointer_at (block_bytes after n) at) double

    kept : (block : ℕ) → block < pointer_blocks h.old.size → block < pointer_blocks h.size → pointer_block after new block ≡ pointer_block h.disk h.old block
    kept zero lt is = indirect
    kept (suc zero) lt is = double
    kept (suc (suc block)) lt is = there block ∙ others block (omega (arith, lt, was, h.has.valid.kind.size)) (λ e. omega (arith, e, lt, was))

    added : (block : ℕ) → pointer_blocks h.old.size ≤ block → block < pointer_blocks h.size → pointer_block after new block ≡ get_or more (block - pointer_blocks h.old.size) 0
    added zero past is = absurd (omega (arith, past, was))
    added (suc zero) past is = absurd (omega (arith, past, was))
    added (suc (suc block)) past is =
        let at : block ≡ suc run = omega (arith, past, is, was, grows, within) in
        let none : suc (suc block) - pointer_blocks h.old.size ≡ 0 = omega (arith, past, is, was, grows, within) in
        there block ∙ ap (λ (n : ℕ). pointer_at (block_bytes after h.old.double) n) at ∙ this ∙ ap (λ (n : ℕ). get_or more n 0) (sym none)

    rest : (at : ℕ) → 266 < new_blocks h → at < 256 → new_blocks h ≤ leads_to 1 at → pointer_at (block_bytes after new.double) at ≡ 0
    rest at large lt past = there at ∙ others at lt (λ e. omega (arith, e, past, was, grows)) ∙ no_pointer h at (omega (arith, was)) lt (omega (arith, past, grows))

-- the same, as the run is counted
pub run_named_at : (h : Had) (run : ℕ) (more : List ℕ) (after : List (List ℕ)) (new : Inode) → 1 < run → had_blocks h ≡ 10 + 256 * run → had_blocks h < new_blocks h → new_blocks h ≤ 10 + 256 * (run + 1) → length more ≡ 1
    → new.indirect ≡ h.old.indirect → new.double ≡ h.old.double → pointer_at (block_bytes after h.old.double) (run - 1) ≡ get_or more 0 0
    → ((at : ℕ) → at < 256 → at ≢ run - 1 → pointer_at (block_bytes after h.old.double) at ≡ pointer_at (block_bytes h.disk h.old.double) at) → Repoints h.disk h.old h.size more after new
run_named_at h zero more after new far was grows within many indirect double this others = absurd (omega (arith, far))
run_named_at h (suc zero) more after new far was grows within many indirect double this others = absurd (omega (arith, far))
run_named_at h (suc (suc run)) more after new far was grows within many indirect double this others =
    let at : suc (suc run) - 1 ≡ suc run = omega arith in
    run_named h run more after new was grows within many indirect double (ap (pointer_at (block_bytes after h.old.double)) (sym at) ∙ this) (λ place lt apart. others place lt (λ e. apart (e ∙ at)))

-- ---- shrinking

-- where the node keeps the block of the run, or never had it, nothing is forgotten
pub none_forgotten : (h : Had) (run : ℕ) → h.size ≤ h.old.size → had_blocks h ≤ 10 + 256 * (run + 1) → (10 + 256 * run < new_blocks h) ⊎ ((run ≡ 0) × (had_blocks h ≤ 10)) → Repoints h.disk h.old h.size [] h.disk h.old
none_forgotten h run shrinks within why =
    record {
      kept = λ block was is. refl;
      added = λ block past is. absurd (none_more block (pointer_blocks h.size) (pointer_blocks h.old.size) is past (fewer h shrinks));
      none = (
        λ few. elim why [ inl large ↦ absurd (omega (arith, few, large)) | inr small ↦ no_indirect h small.1 ],
        λ near. elim why [
          | inl large ↦ no_double h (in_first run large within near)
          | inr small ↦ no_double h (omega (arith, small.1))
        ],
      );
      rest = λ at far lt past. elim why [
        | inl large ↦ no_pointer h at (omega (arith, far, shrinks)) lt (omega (arith, large, within, past))
        | inr small ↦ absurd (omega (arith, far, shrinks, small.1))
      ];
    }
  where
    none_more : (block new old : ℕ) → block < new → old ≤ block → new ≤ old → ⊥
    none_more block new old is past le = omega (arith, is, past, le)

    fewer : (h : Had) → h.size ≤ h.old.size → pointer_blocks h.size ≤ pointer_blocks h.old.size
    fewer h shrinks = omega (arith, shrinks)

    in_first : (run : ℕ) → 10 + 256 * run < new_blocks h → had_blocks h ≤ 10 + 256 * (run + 1) → new_blocks h ≤ 266 → had_blocks h ≤ 266
    in_first zero large within near = omega (arith, within)
    in_first (suc run) large within near = absurd (omega (arith, large, near))

-- with the first run the inode's block goes
pub near_forgotten : (h : Had) (after : List (List ℕ)) (new : Inode) → h.size ≤ h.old.size → new_blocks h ≤ 10 → had_blocks h ≤ 266 → new.indirect ≡ 0 → new.double ≡ h.old.double → Repoints h.disk h.old h.size [] after new
near_forgotten h after new shrinks few near indirect double =
    record {
      kept = λ block was is. absurd (omega (arith, is, few));
      added = λ block past is. absurd (omega (arith, is, few));
      none = (λ _. indirect, λ _. double ∙ no_double h near);
      rest = λ at far lt past. absurd (omega (arith, far, few));
    }

-- with the second the double block goes too
pub double_forgotten : (h : Had) (after : List (List ℕ)) (new : Inode) → h.size ≤ h.old.size → new_blocks h ≡ 266 → new.indirect ≡ h.old.indirect → new.double ≡ 0 → Repoints h.disk h.old h.size [] after new
double_forgotten h after new shrinks left indirect double =
    record { kept = kept; added = λ block past is. absurd (omega (arith, past, is, left, shrinks)); none = (λ few. absurd (omega (arith, few, left)), λ _. double); rest = λ at far lt past. absurd (omega (arith, far, left)) }
  where
    kept : (block : ℕ) → block < pointer_blocks h.old.size → block < pointer_blocks h.size → pointer_block after new block ≡ pointer_block h.disk h.old block
    kept zero lt is = indirect
    kept (suc block) lt is = absurd (omega (arith, is, left))

-- with every other the double block names one less
pub run_forgotten : (h : Had) (run : ℕ) (after : List (List ℕ)) (new : Inode) → h.size ≤ h.old.size → new_blocks h ≡ 10 + 256 * suc (suc run) → had_blocks h ≤ 10 + 256 * (suc (suc run) + 1) → new.indirect ≡ h.old.indirect → new.double ≡ h.old.double
    → pointer_at (block_bytes after h.old.double) (suc run) ≡ 0 → ((at : ℕ) → at < 256 → at ≢ suc run → pointer_at (block_bytes after h.old.double) at ≡ pointer_at (block_bytes h.disk h.old.double) at)
    → Repoints h.disk h.old h.size [] after new
run_forgotten h run after new shrinks left within indirect double this others =
    record {
      kept = kept;
      added = λ block past is. absurd (omega (arith, past, is, left, shrinks));
      none = (λ few. absurd (omega (arith, few, left)), λ near. absurd (omega (arith, near, left)));
      rest = rest;
    }
  where
    there : (at : ℕ) → pointer_at (block_bytes after new.double) at ≡ pointer_at (block_bytes after h.old.double) at
    there at = ap (λ (n : ℕ). pointer_at (block_bytes after n) at) double

    kept : (block : ℕ) → block < pointer_blocks h.old.size → block < pointer_blocks h.size → pointer_block after new block ≡ pointer_block h.disk h.old block
    kept zero lt is = indirect
    kept (suc zero) lt is = double
    kept (suc (suc block)) lt is = there block ∙ others block (omega (arith, lt, within, h.has.valid.kind.size)) (λ e. omega (arith, e, is, left))

    rest : (at : ℕ) → 266 < new_blocks h → at < 256 → new_blocks h ≤ leads_to 1 at → pointer_at (block_bytes after new.double) at ≡ 0
    rest at large lt past = elim (cases_eq at (suc run)) [
      | inl e ↦ there at ∙ ap (λ (n : ℕ). pointer_at (block_bytes after h.old.double) n) e ∙ this
      | inr apart ↦ there at ∙ others at lt apart ∙ no_pointer h at (omega (arith, left, shrinks)) lt (omega (arith, past, left, within, apart))
    ]

pub run_forgotten_at : (h : Had) (run : ℕ) (after : List (List ℕ)) (new : Inode) → 1 < run → h.size ≤ h.old.size → new_blocks h ≡ 10 + 256 * run → had_blocks h ≤ 10 + 256 * (run + 1) → new.indirect ≡ h.old.indirect → new.double ≡ h.old.double
    → pointer_at (block_bytes after h.old.double) (run - 1) ≡ 0 → ((at : ℕ) → at < 256 → at ≢ run - 1 → pointer_at (block_bytes after h.old.double) at ≡ pointer_at (block_bytes h.disk h.old.double) at)
    → Repoints h.disk h.old h.size [] after new
run_forgotten_at h zero after new far shrinks left within indirect double this others = absurd (omega (arith, far))
run_forgotten_at h (suc zero) after new far shrinks left within indirect double this others = absurd (omega (arith, far))
run_forgotten_at h (suc (suc run)) after new far shrinks left within indirect double this others =
    let at : suc (suc run) - 1 ≡ suc run = omega arith in
    run_forgotten h run after new shrinks left within indirect double (ap (pointer_at (block_bytes after h.old.double)) (sym at) ∙ this) (λ place lt apart. others place lt (λ e. apart (e ∙ at)))
