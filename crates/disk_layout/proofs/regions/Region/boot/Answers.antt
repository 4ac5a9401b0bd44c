use Rattle.std.proofs.Common.{◌≡◌, ◌-◌, ap, ◌∙◌, replicate, arith}
use Rattle.posix_defs.specs.DiskContents.{zeros}
use Rattle.disk_layout.specs.Disk.{all_blocks}
use Rattle.disk_layout.proofs.regions.Region.boot.Goals as goal

pub returns : goal.returns
returns c =
    let all : c.args.count - 0 ≡ c.args.count = omega arith in
    ap (all_blocks c.args.count) c.in_ok-written.ensures.items ∙ ap (λ n. replicate n (zeros 1024)) all
