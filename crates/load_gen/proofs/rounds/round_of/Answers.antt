use Rattle.std.proofs.Common.{◌≡◌, ◌++◌, OnOk, length, sym, subst}
use Rattle.posix_defs.specs.Generated.{round_of}
use Rattle.load_gen.proofs.rounds.round_of.Goals as goal

pub returns-in-5 : goal.returns-in-5
returns-in-5 c =
    subst (λ kind. OnOk c.forks.result (c.forks.new.body.items ≡ c.args.body.now.items ++ round_of kind c.args.i c.args.q c.args.w (length c.args.body.now.items)))
    (sym c.in-5.is) c.forks.ensures
