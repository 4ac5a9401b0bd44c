use Rattle.std.proofs.Common.{◌≡◌, ℕ, List, ◌-◌, ◌+◌, ◌*◌, inl, inr, length, get_or, ap, ◌∙◌, arith}
use Rattle.posix_defs.specs.DiskFormat.{entry_bytes}
use Rattle.disk_laws.proofs.DiskSpelling.{length-entry_bytes}
use Rattle.memfs_dir.proofs.SlotBytes.{put_here, put_elsewhere}
use Rattle.memfs_dir.proofs.slots.put_entry.Goals as goal

pub returns-clause-this : goal.returns-clause-this
returns-clause-this c = λ j lt.
    let at : ℕ = 32 * c.args.slot in
    let is : c.copy_from_slice.new.self ≡ entry_bytes c.args.entry.now = c.copy_from_slice.ensures.after ∙ c.bytes_of_entry.ensures in
    let len : length c.copy_from_slice.new.self ≡ at + 32 - at = omega (arith, ap length is, length-entry_bytes c.args.entry.now c.requires.entry) in
    put_here c.args.block.now c.copy_from_slice.new.self at (at + 32 - at) j len (omega (arith, c.told-block, c.requires.slot)) (omega (arith, lt))
    ∙ ap (λ (bytes : List ℕ). get_or bytes j 0) is

pub returns-clause-others : goal.returns-clause-others
returns-clause-others c = λ k aside.
    let at : ℕ = 32 * c.args.slot in
    let is : c.copy_from_slice.new.self ≡ entry_bytes c.args.entry.now = c.copy_from_slice.ensures.after ∙ c.bytes_of_entry.ensures in
    let len : length c.copy_from_slice.new.self ≡ at + 32 - at = omega (arith, ap length is, length-entry_bytes c.args.entry.now c.requires.entry) in
    put_elsewhere c.args.block.now c.copy_from_slice.new.self at (at + 32 - at) k len (omega (arith, c.told-block, c.requires.slot))
    (elim aside [ inl before ↦ inl (omega (arith, before)) | inr behind ↦ inr (omega (arith, behind)) ])
