use Rattle.std.proofs.Common.{◌≡◌, List, ℕ, ◌+◌, ◌-◌, ◌*◌, length, take, drop, refl, sym, ap, ◌∙◌, arith}
use Rattle.std.specs.Str.{bytes_eq}
use Rattle.std.proofs.lemmas.Slice.Eq.{bytes_eq-Decides}
use Rattle.kabi_types.specs.declared.inodes.DirEntry.{DirEntry}
use Rattle.memfs_dir.specs.Slots.{Spells}
use Rattle.memfs_dir.proofs.SlotBytes.{name_shown, one_entry}
use Rattle.memfs_dir.proofs.slots.is_called.Goals as goal

pub returns : goal.returns
returns c =
    let block : List ℕ = c.args.block.now in
    let name : List ℕ = c.args.name.now in
    let start : ℕ = 32 * c.args.slot + 5 in
    let entry : DirEntry = c.requires.spelled.0 in
    let spells : Spells block c.args.slot entry = c.requires.spelled.1 in
    let shown : take (length name) (drop start block) ≡ entry.name = name_shown block c.args.slot (length name) entry c.told-block c.requires.slot spells (c.looks_like.ensures.length c.if-not-looks_like.false).1 in
    let many : start + length name - start ≡ length name = omega arith in
    let test : c.are_same.result ≡ bytes_eq (take (length name) (drop start block)) name = c.are_same.ensures ∙ ap (λ (n : ℕ). bytes_eq (take n (drop start block)) name) many in (
      λ is. record { entry = entry; spells = spells; called = sym shown ∙ (bytes_eq-Decides (take (length name) (drop start block)) name).0 (sym test ∙ is) },
      λ is.
          let same : entry ≡ is.entry = one_entry block c.args.slot entry is.entry spells is.spells in
          test ∙ (bytes_eq-Decides (take (length name) (drop start block)) name).1 (shown ∙ ap (λ (e : DirEntry). e.name) same ∙ is.called),
    )
