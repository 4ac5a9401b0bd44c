use Rattle.std.proofs.Common.{◌≡◌, ◌-◌, ◌++◌, ap, ◌∙◌, arith, length, replicate}
use Rattle.posix_defs.specs.DiskContents.{zeros}
use Rattle.disk_layout.proofs.regions.reach.Goals as goal

pub returns-clause-blocks : goal.returns-clause-blocks
returns-clause-blocks c =
    let old = c.args.written.now.items in
    let all : c.loop.counter - length old ≡ c.args.place - length old = omega (arith, c.len-counter.ensures, c.loop.auto.counter, c.loop.invariant.most, c.loop-test.false) in
    c.loop.invariant.blocks ∙ ap (λ n. old ++ replicate n (zeros 1024)) all
