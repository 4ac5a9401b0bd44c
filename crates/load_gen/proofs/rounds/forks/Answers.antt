use Rattle.std.proofs.Common.{◌≡◌, ◌++◌, drop, take, length, ap, ◌∙◌, append_assoc, arith}
use Rattle.std.proofs.lemmas.Result.{IfOk-equal}
use Rattle.posix_defs.specs.Generated.{forks}
use Rattle.load_gen.proofs.rounds.forks.Goals as goal

pub returns : goal.returns
returns c =
    let at = c.len-at.result in
    let said = forks c.args.i c.args.q at in
    let here : at ≡ length c.args.body.now.items = omega (arith, c.len-at.ensures, c.args.body.now.ok.0) in
    IfOk-equal _ _ _ _ (c.writes_and_exits.ensures at)
    (ap (λ items. items ++ drop 4 said) (c.in_ok-waits.ensures c.args.i c.args.q)
    ∙ append_assoc c.args.body.now.items (take 4 said) (drop 4 said)
    ∙ ap (λ n. c.args.body.now.items ++ forks c.args.i c.args.q n) here)
