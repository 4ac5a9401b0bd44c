-- What one node took stays taken where another one changes.
use Rattle.std.proofs.Common.{◌≡◌, ◌≢◌, ℕ, ◌<◌, ◌≤◌, inl, inr, List, length, sym, ap, subst, ◌∙◌, arith}
use Rattle.std.proofs.lemmas.Bool.{cases_eq}
use Rattle.kabi_types.specs.declared.inodes.Inode.{Inode}
use Rattle.posix_defs.specs.DiskFormat.{table_end, table_nodes}
use Rattle.posix_defs.specs.DiskTree.{ChangesNode}
use Rattle.posix_defs.specs.SoundDisk.{HasInode, HasPlace, IsFreeBlock, IsMarked, IsNamed, Sound, named_at}
use Rattle.disk_laws.proofs.FormattedDisk.{one_inode}

module _ (old mid new : List (List ℕ)) (one other : ℕ) (apart : one ≢ other) (sound : Sound old) (first : ChangesNode old mid one) (second : ChangesNode mid new other) where
  -- a block that a node names which didn't change at first was in use then
  named_before : (block : ℕ) → block < length old → (named : IsNamed mid block) → named.node ≡ other → IsMarked old block
  named_before block lt named is =
      let has : HasInode mid other named.inode = subst (λ (n : ℕ). HasInode mid n named.inode) is named.has in
      let was = sound.table other has.number.0 (subst (λ (n : ℕ). other ≤ table_nodes n) first.blocks has.number.1) in
      let off : other ≢ one = λ e. apart (sym e) in
      let same : named.inode ≡ was.0 = one_inode mid other named.inode was.0 has (first.inodes other was.0 off was.1) in
      let within : HasPlace was.0.size named.place = subst (λ (i : Inode). HasPlace i.size named.place) same named.within in
      let at : block ≡ named_at old was.0 named.place = named.same ∙ ap (λ (i : Inode). named_at mid i named.place) same ∙ first.names other was.0 named.place off was.1 within in
      (sound.map block lt).1 (inr (record { node = other; inode = was.0; place = named.place; has = was.1; within = within; same = at }))

  pub what_is_taken_stays : (block : ℕ) → IsFreeBlock old block → IsMarked mid block → IsMarked new block
  what_is_taken_stays block free marked =
      let here : block < length mid = omega (arith, free.0, first.blocks) in
      let there : block < length new = omega (arith, here, second.blocks) in
      elim ((first.sound.map block here).0 marked) [
        | inl low ↦ absurd (free.1 ((sound.map block free.0).1 (inl (subst (λ (n : ℕ). block ≤ table_end n) first.blocks low))))
        | inr named ↦ elim (cases_eq named.node other) [
          | inl is ↦ absurd (free.1 (named_before block free.0 named is))
          | inr off ↦
              let at : block ≡ named_at new named.inode named.place = named.same ∙ sym (second.names named.node named.inode named.place off named.has named.within) in
              (second.sound.map block there).1 (inr (record { node = named.node; inode = named.inode; place = named.place; has = second.inodes named.node named.inode off named.has; within = named.within; same = at }))
        ]
      ]
