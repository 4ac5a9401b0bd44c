use Rattle.std.proofs.Common.{◌≡◌, ◌+◌, refl, ap, sym, ◌∙◌, subst}
use Rattle.kern_events.specs.declared.reliefs.Relief.TheVariants as relief
use Rattle.posix_defs.specs.Needs.{bound}
use Rattle.posix_defs.specs.Plain.{call_of}
use Rattle.turn_words.specs.declared.items.Item.TheVariants.{Live, Quiet}
use Rattle.kern_shared.specs.Relieves.{IsFirst, IsStuck, Relieves, WaitsInVain}
use Rattle.kern_shared.proofs.Picking.{at_past, below_noted, call_is, lives_in_world}
use Rattle.kern_shared.proofs.Relieving.{alive_found, frees_relieves, in_vain, is_stuck, live_told, lowest_fits, lowest_waits, nobody_waits, within_found, word_within}
use Rattle.kern_shared.proofs.state.KernelState.relieve_now.Goals as goal

pub returns-in_default-clause-relieves : goal.returns-in_default-clause-relieves
returns-in_default-clause-relieves g c = λ items past s shared.
    let found = alive_found g.T.Turner.stands g.T.Turner.script g.T.Turner.beside _ _ _ _ items s c.saturating_sub-ever.result c.as_slice.result.now c.lowest_alive.result c.as_slice.ensures.value c.lowest_alive.ensures in
    let told : Relieves g.L.RunName.script g.L.RunName.steps items s.past c.charged-charged.new.seat.known.last relief.NoneWaiting Quiet =
    (below_noted g.T.Turner.stands g.T.Turner.script g.T.Turner.beside _ _ _ _ items s (sym c.is_spent.ensures ∙ c.if-is_spent.false), nobody_waits g.T.Turner.stands g.T.Turner.script g.T.Turner.beside _ _ _ _ items s c.saturating_sub-ever.result c.lowest_alive.result c.saturating_sub-ever.ensures found c.in_default.is, refl) in
    at_past g.T.Turner.stands g.T.Turner.script g.T.Turner.beside _ _ _ _ items s past shared (λ p. Relieves g.L.RunName.script g.L.RunName.steps items p c.charged-charged.new.seat.known.last relief.NoneWaiting Quiet) told

pub returns-in-Some-lowest_within-clause-relieves : goal.returns-in-Some-lowest_within-clause-relieves
returns-in-Some-lowest_within-clause-relieves g c = λ items past s shared.
    let found = alive_found g.T.Turner.stands g.T.Turner.script g.T.Turner.beside _ _ _ _ items s c.saturating_sub-ever.result c.as_slice.result.now c.lowest_alive.result c.as_slice.ensures.value c.lowest_alive.ensures in
    let first : IsFirst g.L.RunName.script items s.past c.in-Some.waiter = lowest_waits g.T.Turner.stands g.T.Turner.script g.T.Turner.beside _ _ _ _ items s c.saturating_sub-ever.result c.lowest_alive.result c.in-Some.waiter c.saturating_sub-ever.ensures found c.in-Some.is in
    let within = word_within g.T.Turner.stands g.T.Turner.script g.T.Turner.beside _ _ _ _ items s c.charged-charged.result c.args.word.now.heap c.charged-charged.ensures.within (ap (λ w. w.heap) c.requires.word) in
    let fits = within_found g.T.Turner.stands g.T.Turner.script g.T.Turner.beside _ _ _ _ items s c.lesser-most.result c.as_slice-2.result.now c.lowest_within.result c.as_slice-2.ensures.value c.lowest_within.ensures in
    let lowest = lowest_fits g.T.Turner.stands g.T.Turner.script g.T.Turner.beside _ _ _ _ items s c.saturating_sub-ever.result c.charged-charged.result c.lesser-most.result c.lowest_within.result c.in-Some-lowest_within.pid
    c.saturating_sub-ever.ensures within c.lesser-most.ensures.least c.lesser-most.ensures.one fits c.in-Some-lowest_within.is in
    let told : Relieves g.L.RunName.script g.L.RunName.steps items s.past c.charged-charged.result (relief.Fits c.in-Some-lowest_within.pid) Quiet = (below_noted g.T.Turner.stands g.T.Turner.script g.T.Turner.beside _ _ _ _ items s (sym c.is_spent.ensures ∙ c.if-is_spent.false), (c.in-Some.waiter, first.0), lowest.0, lowest.1, refl) in
    let word_is : c.charged-charged.new.seat.known.last ≡ c.charged-charged.result = ap (λ seat. seat.known.last) c.charged-charged.ensures.seat in
    at_past g.T.Turner.stands g.T.Turner.script g.T.Turner.beside _ _ _ _ items s past shared (λ p. Relieves g.L.RunName.script g.L.RunName.steps items p c.charged-charged.new.seat.known.last (relief.Fits c.in-Some-lowest_within.pid) Quiet)
    (subst (λ w. Relieves g.L.RunName.script g.L.RunName.steps items s.past w (relief.Fits c.in-Some-lowest_within.pid) Quiet) (sym word_is) told)

pub returns-then-not-is_all_live-clause-stands : goal.returns-then-not-is_all_live-clause-stands
returns-then-not-is_all_live-clause-stands g c = λ items s. live_told g.T.Turner.stands g.T.Turner.script g.T.Turner.beside _ _ _ _ items s c.live-live.result (c.live-live.ensures.bytes s.world s.stands)

pub returns-then-not-is_all_live-clause-relieves : goal.returns-then-not-is_all_live-clause-relieves
returns-then-not-is_all_live-clause-relieves g c = λ items past s shared.
    let found = alive_found g.T.Turner.stands g.T.Turner.script g.T.Turner.beside _ _ _ _ items s c.saturating_sub-ever.result c.as_slice.result.now c.lowest_alive.result c.as_slice.ensures.value c.lowest_alive.ensures in
    let below = below_noted g.T.Turner.stands g.T.Turner.script g.T.Turner.beside _ _ _ _ items s (sym c.is_spent.ensures ∙ c.if-is_spent.false) in
    let within = word_within g.T.Turner.stands g.T.Turner.script g.T.Turner.beside _ _ _ _ items s c.charged-charged.result c.args.word.now.heap c.charged-charged.ensures.within (ap (λ w. w.heap) c.requires.word) in
    let fits = within_found g.T.Turner.stands g.T.Turner.script g.T.Turner.beside _ _ _ _ items s c.lesser-most.result c.as_slice-2.result.now c.lowest_within.result c.as_slice-2.ensures.value c.lowest_within.ensures in
    let stuck : IsStuck g.L.RunName.script g.L.RunName.steps items s.past c.charged-charged.result = is_stuck g.T.Turner.stands g.T.Turner.script g.T.Turner.beside _ _ _ _ items s c.saturating_sub-ever.result c.charged-charged.result c.lesser-most.result c.lowest_alive.result c.lowest_within.result c.in-Some.waiter below c.saturating_sub-ever.ensures within c.lesser-most.ensures.least c.lesser-most.ensures.one found c.in-Some.is fits c.in_default-lowest_within.is in
    let told : Relieves g.L.RunName.script g.L.RunName.steps items s.past c.charged-charged.result (relief.Outstanding c.charged-charged.result c.live-live.result) (Live c.live-live.result) =
    (stuck, refl, c.is_all_live.ensures.more c.if-not-is_all_live.true, refl) in
    let word_is : c.charged-charged.new.seat.known.last ≡ c.charged-charged.result = ap (λ seat. seat.known.last) c.charged-charged.ensures.seat in
    at_past g.T.Turner.stands g.T.Turner.script g.T.Turner.beside _ _ _ _ items s past shared (λ p. Relieves g.L.RunName.script g.L.RunName.steps items p c.charged-charged.new.seat.known.last (relief.Outstanding c.charged-charged.result c.live-live.result) (Live c.live-live.result))
    (subst (λ w. Relieves g.L.RunName.script g.L.RunName.steps items s.past w (relief.Outstanding c.charged-charged.result c.live-live.result) (Live c.live-live.result)) (sym word_is) told)

pub next-requires : goal.next-requires
next-requires g c =
    let items = c.requires.stands.0 in
    let s = c.requires.stands.1 in
    let found = alive_found g.T.Turner.stands g.T.Turner.script g.T.Turner.beside _ _ _ _ items s c.saturating_sub-ever.result c.as_slice.result.now c.lowest_alive.result c.as_slice.ensures.value c.lowest_alive.ensures in
    let first : IsFirst g.L.RunName.script items s.past c.in-Some.waiter = lowest_waits g.T.Turner.stands g.T.Turner.script g.T.Turner.beside _ _ _ _ items s c.saturating_sub-ever.result c.lowest_alive.result c.in-Some.waiter c.saturating_sub-ever.ensures found c.in-Some.is in
    (s.world, s.stands, lives_in_world g.T.Turner.stands g.T.Turner.script g.T.Turner.beside _ _ _ _ items s c.in-Some.waiter first.0.1)

pub free-requires-clause-may : goal.free-requires-clause-may
free-requires-clause-may g c =
    let items = c.requires.stands.0 in
    let s = c.requires.stands.1 in
    let found = alive_found g.T.Turner.stands g.T.Turner.script g.T.Turner.beside _ _ _ _ items s c.saturating_sub-ever.result c.as_slice.result.now c.lowest_alive.result c.as_slice.ensures.value c.lowest_alive.ensures in
    let first : IsFirst g.L.RunName.script items s.past c.in-Some.waiter = lowest_waits g.T.Turner.stands g.T.Turner.script g.T.Turner.beside _ _ _ _ items s c.saturating_sub-ever.result c.lowest_alive.result c.in-Some.waiter c.saturating_sub-ever.ensures found c.in-Some.is in
    let below = below_noted g.T.Turner.stands g.T.Turner.script g.T.Turner.beside _ _ _ _ items s (sym c.is_spent.ensures ∙ c.if-is_spent.false) in
    let within = word_within g.T.Turner.stands g.T.Turner.script g.T.Turner.beside _ _ _ _ items s c.charged-charged.result c.args.word.now.heap c.charged-charged.ensures.within (ap (λ w. w.heap) c.requires.word) in
    let fits = within_found g.T.Turner.stands g.T.Turner.script g.T.Turner.beside _ _ _ _ items s c.lesser-most.result c.as_slice-2.result.now c.lowest_within.result c.as_slice-2.ensures.value c.lowest_within.ensures in
    let stuck : IsStuck g.L.RunName.script g.L.RunName.steps items s.past c.charged-charged.result = is_stuck g.T.Turner.stands g.T.Turner.script g.T.Turner.beside _ _ _ _ items s c.saturating_sub-ever.result c.charged-charged.result c.lesser-most.result c.lowest_alive.result c.lowest_within.result c.in-Some.waiter below c.saturating_sub-ever.ensures within c.lesser-most.ensures.least c.lesser-most.ensures.one found c.in-Some.is fits c.in_default-lowest_within.is in
    let asked : c.bound-need.result ≡ bound (call_of g.L.RunName.script s.past.plain c.in-Some.waiter) =
    c.bound-need.ensures.value ∙ ap bound (call_is g.T.Turner.stands g.T.Turner.script g.T.Turner.beside _ _ _ _ items s c.in-Some.waiter c.next.result (c.next.ensures s.world s.stands (lives_in_world g.T.Turner.stands g.T.Turner.script g.T.Turner.beside _ _ _ _ items s c.in-Some.waiter first.0.1))) in
    let all : c.charged-charged.result ≡ c.live-live.result + 2176 = c.is_all_live.ensures.all c.if-not-is_all_live.false in
    let vain : WaitsInVain g.L.RunName.script g.L.RunName.steps items s.past c.in-Some.waiter c.bound-need.result c.live-live.result =
    in_vain g.T.Turner.stands g.T.Turner.script g.T.Turner.beside _ _ _ _ items s c.charged-charged.result c.in-Some.waiter c.bound-need.result c.live-live.result stuck first all asked in
    (items, s.past, s, s.shared, vain)

pub returns-clause-stands : goal.returns-clause-stands
returns-clause-stands g c = λ items s.
    let found = alive_found g.T.Turner.stands g.T.Turner.script g.T.Turner.beside _ _ _ _ items s c.saturating_sub-ever.result c.as_slice.result.now c.lowest_alive.result c.as_slice.ensures.value c.lowest_alive.ensures in
    let first : IsFirst g.L.RunName.script items s.past c.in-Some.waiter = lowest_waits g.T.Turner.stands g.T.Turner.script g.T.Turner.beside _ _ _ _ items s c.saturating_sub-ever.result c.lowest_alive.result c.in-Some.waiter c.saturating_sub-ever.ensures found c.in-Some.is in
    let below = below_noted g.T.Turner.stands g.T.Turner.script g.T.Turner.beside _ _ _ _ items s (sym c.is_spent.ensures ∙ c.if-is_spent.false) in
    let within = word_within g.T.Turner.stands g.T.Turner.script g.T.Turner.beside _ _ _ _ items s c.charged-charged.result c.args.word.now.heap c.charged-charged.ensures.within (ap (λ w. w.heap) c.requires.word) in
    let fits = within_found g.T.Turner.stands g.T.Turner.script g.T.Turner.beside _ _ _ _ items s c.lesser-most.result c.as_slice-2.result.now c.lowest_within.result c.as_slice-2.ensures.value c.lowest_within.ensures in
    let stuck : IsStuck g.L.RunName.script g.L.RunName.steps items s.past c.charged-charged.result = is_stuck g.T.Turner.stands g.T.Turner.script g.T.Turner.beside _ _ _ _ items s c.saturating_sub-ever.result c.charged-charged.result c.lesser-most.result c.lowest_alive.result c.lowest_within.result c.in-Some.waiter below c.saturating_sub-ever.ensures within c.lesser-most.ensures.least c.lesser-most.ensures.one found c.in-Some.is fits c.in_default-lowest_within.is in
    let asked : c.bound-need.result ≡ bound (call_of g.L.RunName.script s.past.plain c.in-Some.waiter) =
    c.bound-need.ensures.value ∙ ap bound (call_is g.T.Turner.stands g.T.Turner.script g.T.Turner.beside _ _ _ _ items s c.in-Some.waiter c.next.result (c.next.ensures s.world s.stands (lives_in_world g.T.Turner.stands g.T.Turner.script g.T.Turner.beside _ _ _ _ items s c.in-Some.waiter first.0.1))) in
    let all : c.charged-charged.result ≡ c.live-live.result + 2176 = c.is_all_live.ensures.all c.if-not-is_all_live.false in
    let vain : WaitsInVain g.L.RunName.script g.L.RunName.steps items s.past c.in-Some.waiter c.bound-need.result c.live-live.result =
    in_vain g.T.Turner.stands g.T.Turner.script g.T.Turner.beside _ _ _ _ items s c.charged-charged.result c.in-Some.waiter c.bound-need.result c.live-live.result stuck first all asked in
    c.free.ensures.stands items s.past s s.shared vain

pub returns-clause-relieves : goal.returns-clause-relieves
returns-clause-relieves g c = λ items past s shared.
    let found = alive_found g.T.Turner.stands g.T.Turner.script g.T.Turner.beside _ _ _ _ items s c.saturating_sub-ever.result c.as_slice.result.now c.lowest_alive.result c.as_slice.ensures.value c.lowest_alive.ensures in
    let first : IsFirst g.L.RunName.script items s.past c.in-Some.waiter = lowest_waits g.T.Turner.stands g.T.Turner.script g.T.Turner.beside _ _ _ _ items s c.saturating_sub-ever.result c.lowest_alive.result c.in-Some.waiter c.saturating_sub-ever.ensures found c.in-Some.is in
    let below = below_noted g.T.Turner.stands g.T.Turner.script g.T.Turner.beside _ _ _ _ items s (sym c.is_spent.ensures ∙ c.if-is_spent.false) in
    let within = word_within g.T.Turner.stands g.T.Turner.script g.T.Turner.beside _ _ _ _ items s c.charged-charged.result c.args.word.now.heap c.charged-charged.ensures.within (ap (λ w. w.heap) c.requires.word) in
    let fits = within_found g.T.Turner.stands g.T.Turner.script g.T.Turner.beside _ _ _ _ items s c.lesser-most.result c.as_slice-2.result.now c.lowest_within.result c.as_slice-2.ensures.value c.lowest_within.ensures in
    let stuck : IsStuck g.L.RunName.script g.L.RunName.steps items s.past c.charged-charged.result = is_stuck g.T.Turner.stands g.T.Turner.script g.T.Turner.beside _ _ _ _ items s c.saturating_sub-ever.result c.charged-charged.result c.lesser-most.result c.lowest_alive.result c.lowest_within.result c.in-Some.waiter below c.saturating_sub-ever.ensures within c.lesser-most.ensures.least c.lesser-most.ensures.one found c.in-Some.is fits c.in_default-lowest_within.is in
    let asked : c.bound-need.result ≡ bound (call_of g.L.RunName.script s.past.plain c.in-Some.waiter) =
    c.bound-need.ensures.value ∙ ap bound (call_is g.T.Turner.stands g.T.Turner.script g.T.Turner.beside _ _ _ _ items s c.in-Some.waiter c.next.result (c.next.ensures s.world s.stands (lives_in_world g.T.Turner.stands g.T.Turner.script g.T.Turner.beside _ _ _ _ items s c.in-Some.waiter first.0.1))) in
    let all : c.charged-charged.result ≡ c.live-live.result + 2176 = c.is_all_live.ensures.all c.if-not-is_all_live.false in
    let vain : WaitsInVain g.L.RunName.script g.L.RunName.steps items s.past c.in-Some.waiter c.bound-need.result c.live-live.result =
    in_vain g.T.Turner.stands g.T.Turner.script g.T.Turner.beside _ _ _ _ items s c.charged-charged.result c.in-Some.waiter c.bound-need.result c.live-live.result stuck first all asked in
    let told : Relieves g.L.RunName.script g.L.RunName.steps items s.past c.charged-charged.result c.free.result.0 c.free.result.1 =
    frees_relieves g.L.RunName.script g.L.RunName.steps items s.past c.charged-charged.result c.in-Some.waiter c.bound-need.result c.live-live.result c.free.result.0 c.free.result.1 stuck first all
    (c.free.ensures.told items s.past s s.shared vain) in
    let word_is : c.charged-charged.new.seat.known.last ≡ c.charged-charged.result = ap (λ seat. seat.known.last) c.charged-charged.ensures.seat in
    at_past g.T.Turner.stands g.T.Turner.script g.T.Turner.beside _ _ _ _ items s past shared (λ p. Relieves g.L.RunName.script g.L.RunName.steps items p c.charged-charged.new.seat.known.last c.free.result.0 c.free.result.1)
    (subst (λ w. Relieves g.L.RunName.script g.L.RunName.steps items s.past w c.free.result.0 c.free.result.1) (sym word_is) told)
