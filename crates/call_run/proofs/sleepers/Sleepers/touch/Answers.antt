use Rattle.std.proofs.Common.{◌≡◌, ◌<◌, true, not, Option, Some, List, [], ◌∷◌, length, slice_set, refl, rules, sym, ap, subst, w64, ◌∙◌, arith}
use Rattle.std.proofs.lemmas.Int.{to_z-of_z}
use mir.Val.{of_z, to_z}
use Rattle.posix_defs.specs.Process.{is_alive}
use Rattle.call_run.specs.declared.sleepers.Channel.{Channel}
use Rattle.call_run.specs.declared.sleepers.Sleeper.{Sleeper}
use Rattle.call_run.specs.declared.sleepers.Stirs.TheVariants.{Through}
use Rattle.call_run.specs.Sleepers.{AreMinded, IsPassed, NamesMore, channel_at}
use Rattle.call_run.specs.Stores.{SleepersView}
use Rattle.call_run.proofs.Asking.{same_fewer}
use Rattle.call_run.proofs.Channels.{channel_is}
use Rattle.call_run.proofs.Minding.{begun_same, near_same, sleepers_live, touched_lives, touched_near, touched_passed}
use Rattle.call_run.proofs.NoLock.{free_behind}
use Rattle.call_run.proofs.Telling.{names_begun, names_then}
use Rattle.call_run.proofs.sleepers.Sleepers.touch.Goals as goal

some_first : (ts : List Sleeper) → 0 < length ts → (first : Sleeper) × (rest : List Sleeper) × (ts ≡ first ∷ rest)
some_first [] some = absurd (omega arith)
some_first (first ∷ rest) some = (first, rest, refl)

pub ask_all-requires-clause-stands : goal.ask_all-requires-clause-stands
ask_all-requires-clause-stands c = let b = c.requires.behind in (b.1, let behind = b.4 in behind.stands)

pub returns-then-len-le-FEW-clause-minded : goal.returns-then-len-le-FEW-clause-minded
returns-then-len-le-FEW-clause-minded c = λ old new call told behind stirs. c.ask_all.ensures.minded new behind.stands behind.reaches

pub returns-then-is_passed-clause-minded : goal.returns-then-is_passed-clause-minded
returns-then-is_passed-clause-minded c = λ old new call told behind stirs.
    let fd : to_z w64 (of_z w64 c.args.fd) ≡ c.args.fd = search (rules, to_z-of_z) in
    let sleepers = c.args.self.now.told in
    let channels = c.args.self.now.channels in
    let view : c.self.inside.channels ≡ channels = ap (λ (s : SleepersView). s.channels) c.self.view_is in
    let place = c.channel_of-place.result in
    touched_passed c.args.script.now c.args.objects.now old new c.args.pid call told sleepers channels behind c.requires.up c.args.fd stirs (free_behind c.args.script.now c.args.objects.now new behind.stands c.requires.free) place
    (subst (IsPassed (channel_at channels place) c.args.pid) fd
    (subst (λ it. IsPassed it c.args.pid (to_z w64 (of_z w64 c.args.fd))) (channel_is c.self.inside.channels place ∙ ap (λ list. channel_at list place) view) (c.is_passed.ensures c.if-is_passed.true)))

pub ask_there-requires-clause-alive : goal.ask_there-requires-clause-alive
ask_there-requires-clause-alive c =
    let b = c.requires.behind in
    let script = c.args.script.now in
    let objects = c.args.objects.now in (
      b.1,
      (let behind = b.4 in behind.stands),
      begun_same (λ n. is_alive b.1.plain.table n ≡ true) _ c.args.pid (to_z w64 (of_z w64 c.args.fd)) _ _ _ c.begin.ensures.told
          (sleepers_live script objects b.0 b.1 c.args.pid b.2 b.3 _ _ b.4 c.requires.up c.args.fd b.5),
      touched_lives script objects b.0 b.1 c.args.pid b.2 b.3 _ _ b.4 c.requires.up c.args.fd b.5,
    )

pub returns-clause-minded : goal.returns-clause-minded
returns-clause-minded c = λ old new call told behind stirs.
    let fd : to_z w64 (of_z w64 c.args.fd) ≡ c.args.fd = search (rules, to_z-of_z) in
    let near = c.ask_there.ensures.near in
    let view : c.self.inside.told.items ≡ c.args.self.now.told = ap (λ (s : SleepersView). s.told) c.self.view_is in
    let counted = ap length view in
    let many : 0 < length c.args.self.now.told = omega (arith, counted, c.len.ensures.value) in
    let some = some_first c.args.self.now.told many in
    let same : c.begin.new.self.channels ≡ c.args.self.now.channels = ap (λ (s : SleepersView). s.channels) c.begin.ensures.same in
    let long : length c.args.self.now.channels ≡ 32 = (let counts : length c.self.inside.channels ≡ 32 = search rules in sym (ap (λ (s : SleepersView). length s.channels) c.self.view_is) ∙ counts) in
    let opened : Option Channel = Some (record { pid = c.args.pid; fd = to_z w64 (of_z w64 c.args.fd); all_apart = not near.0 }) in
    subst (AreMinded c.args.script.now new.plain c.ask_there.new.self.told) (sym (near.2 ∙ ap (λ channels. slice_set channels c.channel_of-place.result opened) same))
    (touched_near c.args.script.now c.args.objects.now old new c.args.pid call told c.args.self.now.told c.args.self.now.channels behind c.requires.up (to_z w64 (of_z w64 c.args.fd))
    (stirs ∙ ap Through (sym fd)) (free_behind c.args.script.now c.args.objects.now new behind.stands c.requires.free) c.channel_of-place.result near.0
    some.0 some.1 some.2 c.begin.new.self.told c.ask_there.new.self.told c.begin.ensures.told near.1
    (subst (λ n. c.channel_of-place.result < n) (sym long) c.channel_of-place.ensures))

pub returns-clause-up : goal.returns-clause-up
returns-clause-up c =
    let near = c.ask_there.ensures.near in
    same_fewer c.args.self.now.told c.ask_there.new.self.told c.args.pid c.requires.up
    (λ P all. near_same P c.args.script.now c.args.objects.now c.args.pid (to_z w64 (of_z w64 c.args.fd)) c.channel_of-place.result near.0 c.begin.new.self.told c.ask_there.new.self.told near.1
    (begun_same P _ c.args.pid (to_z w64 (of_z w64 c.args.fd)) c.channel_of-place.result _ _ c.begin.ensures.told all))

pub returns-clause-named : goal.returns-clause-named
returns-clause-named c =
    let same : c.begin.new.self.stirred ≡ c.args.self.now.stirred = ap (λ (s : SleepersView). s.stirred) c.begin.ensures.same in
    names_then c.args.self.now.told c.begin.new.self.told c.ask_there.new.self.told c.args.self.now.stirred c.begin.new.self.stirred c.ask_there.new.self.stirred
    (subst (NamesMore c.args.self.now.told c.args.self.now.stirred c.begin.new.self.told) (sym same) (names_begun _ _ _ _ c.args.self.now.told c.begin.new.self.told c.args.self.now.stirred c.begin.ensures.told))
    c.ask_there.ensures.named
