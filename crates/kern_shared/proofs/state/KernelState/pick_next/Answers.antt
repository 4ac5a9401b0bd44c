use Rattle.std.proofs.Common.{◌≡◌, ap, ◌∙◌, subst, arith}
use Rattle.posix_defs.specs.Needs.{bound}
use Rattle.posix_defs.specs.Plain.{call_of}
use Rattle.kern_shared.specs.Picks.{IsLowestFree, IsOverAs}
use Rattle.kern_shared.proofs.Picking.{at_past, call_is, free_alive, given_now, lives_in_world, may_give, room_for_one}
use Rattle.kern_shared.proofs.state.KernelState.pick_next.Goals as goal

pub push_reserved-requires : goal.push_reserved-requires
push_reserved-requires g c =
    let s = c.requires.1 in
    let over = subst (IsOverAs g.L.RunName.script g.L.RunName.steps c.requires.0 s.past) c.in_default.is (c.over.ensures c.requires.0 s.past s s.shared) in
    let room = room_for_one g.T.Turner.stands g.T.Turner.script g.T.Turner.beside _ _ _ _ _ s over in
    omega (arith, room, c.args.self.now.held.ok.0)

pub returns-clause-picks : goal.returns-clause-picks
returns-clause-picks g c = λ items past s shared.
    let over = subst (IsOverAs g.L.RunName.script g.L.RunName.steps items past) c.in_default.is (c.over.ensures items past s shared) in
    let lowest = subst (IsLowestFree g.L.RunName.script items past) c.in-Some-lowest_free.is (c.lowest_free.ensures items past s shared) in
    let here = subst (IsLowestFree g.L.RunName.script items s.past) c.in-Some-lowest_free.is (c.lowest_free.ensures items s.past s s.shared) in
    let alive = lives_in_world g.T.Turner.stands g.T.Turner.script g.T.Turner.beside _ _ _ _ items s c.in-Some-lowest_free.pid (free_alive g.L.RunName.script items s.past _ here.0) in (
      may_give g.L.RunName.script g.L.RunName.steps items past c.in-Some-lowest_free.pid over lowest,
      at_past g.T.Turner.stands g.T.Turner.script g.T.Turner.beside _ _ _ _ items s past shared (λ p. c.next-call.result ≡ call_of g.L.RunName.script p.plain c.in-Some-lowest_free.pid)
          (call_is g.T.Turner.stands g.T.Turner.script g.T.Turner.beside _ _ _ _ items s _ _ (c.next-call.ensures s.world s.stands alive)),
    )

pub returns-clause-stands : goal.returns-clause-stands
returns-clause-stands g c = λ items s.
    let over = subst (IsOverAs g.L.RunName.script g.L.RunName.steps items s.past) c.in_default.is (c.over.ensures items s.past s s.shared) in
    let lowest = subst (IsLowestFree g.L.RunName.script items s.past) c.in-Some-lowest_free.is (c.lowest_free.ensures items s.past s s.shared) in
    let alive = lives_in_world g.T.Turner.stands g.T.Turner.script g.T.Turner.beside _ _ _ _ items s c.in-Some-lowest_free.pid (free_alive g.L.RunName.script items s.past _ lowest.0) in
    given_now g.T.Turner.stands g.T.Turner.script g.T.Turner.beside _ _ _ _ (record { pid = c.in-Some-lowest_free.pid; bound = c.bound.result }) _ _ c.push_reserved.ensures.items c.push_reserved.ensures.capacity items s
    (may_give g.L.RunName.script g.L.RunName.steps items s.past c.in-Some-lowest_free.pid over lowest)
    (c.bound.ensures.value ∙ ap bound (call_is g.T.Turner.stands g.T.Turner.script g.T.Turner.beside _ _ _ _ items s _ _ (c.next-call.ensures s.world s.stands alive)))
