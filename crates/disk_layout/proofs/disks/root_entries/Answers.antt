use Rattle.std.proofs.Common.{◌≡◌, List, ℕ, ◌++◌, ◌-◌, ◌+◌, length, take, drop, ap, sym, ◌∙◌}
use Rattle.posix_defs.specs.DiskFormat.{entry_bytes}
use Rattle.posix_defs.specs.DiskContents.{zeros, entry_for, own_name, parent_name}
use Rattle.disk_layout.proofs.WordBytes.{put_on}
use Rattle.disk_layout.proofs.NewDisk.{drop-zeros, length-own_entry, length-parent_entry}
use Rattle.disk_layout.proofs.disks.root_entries.Goals as goal

pub returns : goal.returns
returns c =
    let dot : List ℕ = entry_bytes (entry_for 1 own_name) in
    let two : List ℕ = entry_bytes (entry_for 1 parent_name) in
    let e1 : c.bytes_of_entry.result ≡ dot = c.bytes_of_entry.ensures ∙ ap entry_bytes c.entry_for_root.ensures in
    let e2 : c.bytes_of_entry-2.result ≡ two = c.bytes_of_entry-2.ensures ∙ ap entry_bytes c.entry_for_root-2.ensures in
    let before : c.block_of-block.result ≡ dot ++ drop 32 (zeros 1024) =
    c.block_of-block.ensures ∙ ap (λ (x : List ℕ). x ++ zeros (1024 - length x)) e1 ∙ ap (λ (n : ℕ). dot ++ zeros (1024 - n)) length-own_entry ∙ ap (λ (x : List ℕ). dot ++ x) (sym (drop-zeros 32 1024)) in
    let len : length c.bytes_of_entry-2.result ≡ 32 = ap length e2 ∙ length-parent_entry in
    let put = c.put.ensures ∙ ap (λ (n : ℕ). take 32 c.block_of-block.result ++ (c.bytes_of_entry-2.result ++ drop (32 + n) c.block_of-block.result)) len in
    let after = put_on dot (zeros 1024) c.bytes_of_entry-2.result c.block_of-block.result c.put.new.out 32 32 length-own_entry len before put in
    after ∙ ap (λ (x : List ℕ). (dot ++ x) ++ drop 64 (zeros 1024)) e2 ∙ ap (λ (x : List ℕ). (dot ++ two) ++ x) (drop-zeros 64 1024)
