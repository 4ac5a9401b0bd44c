use Rattle.std.proofs.Common.{◌≡◌, List, ℕ, ◌++◌, ◌-◌, length, drop, ap, ◌∙◌, zero-add}
use Rattle.posix_defs.specs.DiskContents.{zeros}
use Rattle.disk_layout.proofs.NewDisk.{drop-zeros}
use Rattle.disk_layout.proofs.disks.block_of.Goals as goal

pub returns : goal.returns
returns c =
    let front : List ℕ = c.args.front.now in
    let behind : drop (length front) c.zero_block-block.result ≡ zeros (1024 - length front) = ap (drop (length front)) c.zero_block-block.ensures ∙ drop-zeros (length front) 1024 in
    c.put.ensures ∙ ap (λ (n : ℕ). front ++ drop n c.zero_block-block.result) (zero-add (length front)) ∙ ap (λ (x : List ℕ). front ++ x) behind
