use Rattle.std.proofs.Common.{◌≡◌, ℕ, ◌+◌, ◌*◌, ◌<◌, List, Some, get_or, slice_get, refl, sym, ap, ◌∙◌}
use Rattle.std.proofs.lemmas.Option.{same_Some, slice_get-get_or}
use Rattle.kabi_types.specs.declared.inodes.DirEntry.{DirEntry}
use Rattle.posix_defs.specs.DiskFormat.{entry_bytes}
use Rattle.posix_defs.specs.TreeChanges.{no_entry}
use Rattle.memfs_dir.proofs.DirectoryBytes.{begins, place_within}
use Rattle.memfs_dir.proofs.removing.fill_place.Goals as goal

pub returns-then-place-at-clause-puts : goal.returns-then-place-at-clause-puts
returns-then-place-at-clause-puts g c = λ number node.
    let disk : List (List ℕ) = g.B.Blocks.blocks c.args.b.now in
    let entries : List DirEntry = c.requires.entries.0 in
    let has = c.requires.entries.1 in
    let lt = place_within disk c.args.dir.now entries c.args.place has c.requires.within in
    let there : slice_get entries c.args.place ≡ Some c.args.last.now = ap (λ (n : ℕ). slice_get entries n) c.if-place-at.true ∙ c.requires.last entries has in
    let is : get_or entries c.args.place no_entry ≡ c.args.last.now = same_Some (get_or entries c.args.place no_entry) c.args.last.now (sym (slice_get-get_or entries c.args.place no_entry lt) ∙ there) in
    record {
      changes = record { sound = c.requires.sound; blocks = refl; inodes = λ other inode apart has_it. has_it; bytes = λ other inode apart has_it. refl; names = λ other inode place apart has_it within. refl };
      has = node;
      map = refl;
      free = refl;
      this = λ j within. (begins disk c.args.dir.now entries has).bytes c.args.place j lt within ∙ ap (λ (entry : DirEntry). get_or (entry_bytes entry) j 0) is;
      others = λ at within aside. refl;
    }
