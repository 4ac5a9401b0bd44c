use Rattle.std.proofs.Common.{◌≡◌, Bool, true, false, not, [], refl, sym, subst, inl, inr}
use Rattle.posix_defs.specs.Machine.{would_block}
use Rattle.call_run.specs.Sleepers.{AreMinded}
use Rattle.call_run.proofs.Minding.{alive_some, doubted_minded, lain_minded, part_lives}
use Rattle.call_run.proofs.Telling.{names_all, names_then}
use Rattle.call_run.proofs.sleepers.Sleepers.go_on_in_part.Goals as goal

pub goes_on-requires-clause-stands : goal.goes_on-requires-clause-stands
goes_on-requires-clause-stands c =
    let b = c.requires.behind in
    (b.1, (let behind = b.3 in behind.stands), part_lives c.args.script.now c.args.objects.now b.0 b.1 c.args.pid c.args.call.now b.2 _ _ b.3 b.4)

pub lie_down-requires-clause-some : goal.lie_down-requires-clause-some
lie_down-requires-clause-some c =
    let b = c.requires.behind in
    alive_some b.1.plain c.args.pid (part_lives c.args.script.now c.args.objects.now b.0 b.1 c.args.pid c.args.call.now b.2 _ _ b.3 b.4)

other_way : (a b : Bool) → a ≡ not b → b ≡ not a
other_way true true e = cc
other_way true false e = refl
other_way false true e = refl
other_way false false e = cc

pub returns-clause-minded : goal.returns-clause-minded
returns-clause-minded c = λ old new told behind came.
    let script = c.args.script.now in
    let before = c.go_on.ensures.minded old new told behind came in
    let alive = part_lives script c.args.objects.now old new c.args.pid c.args.call.now told _ _ behind came in
    let blocks : would_block script new.plain c.args.pid ≡ not c.goes_on.result = other_way _ _ (c.goes_on.ensures.goes new behind.stands behind.reaches alive) in
    elim c.lie_down.ensures.told [
      | inl lain ↦
          subst (λ ts. AreMinded script new.plain ts c.lie_down.new.self.channels) (sym lain)
          (lain_minded script new.plain c.go_on.new.self.told c.go_on.new.self.channels c.lie_down.new.self.channels before c.lie_down.ensures.channels c.args.pid (not c.goes_on.result) alive blocks)
      | inr same ↦
          subst (λ ts. AreMinded script new.plain ts c.lie_down.new.self.channels) (sym same)
          (doubted_minded script new.plain c.go_on.new.self.told c.go_on.new.self.channels c.lie_down.new.self.channels before c.lie_down.ensures.channels)
    ]

pub returns-clause-named : goal.returns-clause-named
returns-clause-named c = names_all _ _ [] _ refl (names_then _ _ _ [] _ _ c.go_on.ensures.named c.lie_down.ensures.named)
