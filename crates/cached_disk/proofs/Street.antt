-- Directories of one letter.
use Rattle.std.proofs.Common.{◌≡◌, ◌≢◌, ℕ, zero, suc, ◌<◌, ◌≤◌, true, List, [], ◌∷◌, Option, Some, None, length, refl, sym, ap, ◌∙◌, arith}
use Rattle.std.specs.Prelude.{slice_index}
use Rattle.kabi_types.specs.declared.inodes.Inode.{Inode}
use Rattle.posix_defs.specs.DiskFormat.{IsName}
use Rattle.posix_defs.specs.DiskContents.{own_name, parent_name}
use Rattle.posix_defs.specs.IsTree.{IsEntryName}
use Rattle.posix_defs.specs.Tree.{Content, File, Directory, SocketName, Fifo, Node, Tree, IsInodeAt, IsInodeIn, node_at, is_directory, is_directory_in, is_directory_content, kind_of}

letter_fits : (letter : ℕ) → letter < 256 → (k : ℕ) → slice_index (letter ∷ []) k < 256
letter_fits letter fits zero = fits
letter_fits letter fits (suc k) = omega arith

letter_char : (letter : ℕ) → letter ≢ 0 → letter ≢ 47 → (k : ℕ) → k < 1 → (slice_index (letter ∷ []) k ≢ 0) × (slice_index (letter ∷ []) k ≢ 47)
letter_char letter zero_not slash_not zero within = (zero_not, slash_not)
letter_char letter zero_not slash_not (suc k) within = absurd (omega arith)

-- one letter is a name
pub letter_name : (letter : ℕ) → letter < 256 → letter ≢ 0 → letter ≢ 46 → letter ≢ 47 → IsEntryName (letter ∷ [])
letter_name letter fits zero_not dot_not slash_not = record {
  valid = record { len = (omega arith, omega arith); fits = letter_fits letter fits; chars = letter_char letter zero_not slash_not };
  own = λ same. dot_not (ap (λ (l : List ℕ). slice_index l 0) same);
  parent = λ same. let long : length (letter ∷ []) ≡ length parent_name = ap length same in absurd (omega (arith, long));
}

directory_content : (content : Content) → kind_of content ≡ 2 → is_directory_content content ≡ true
directory_content (File bytes) is = absurd (omega (arith, is))
directory_content (Directory parent entries) is = refl
directory_content SocketName is = absurd (omega (arith, is))
directory_content Fifo is = absurd (omega (arith, is))

directory_node : (there : Option Node) (inode : Inode) → IsInodeIn there inode → inode.kind ≡ 2 → is_directory_in there ≡ true
directory_node None inode is kind = absurd is
directory_node (Some node) inode is kind = directory_content node.content (sym is.kind ∙ kind)

-- a node with a directory's inode is one
pub shown_directory : (tree : Tree) (number : ℕ) (inode : Inode) → IsInodeAt tree number inode → inode.kind ≡ 2 → is_directory tree number ≡ true
shown_directory tree number inode is kind = directory_node (node_at tree number) inode is kind
