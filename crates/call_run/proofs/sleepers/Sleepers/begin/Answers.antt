use Rattle.std.proofs.Common.{◌≡◌, ◌∙◌, map, ap, sym, subst, rules, w64}
use Rattle.std.proofs.lemmas.Int.{to_z-of_z}
use mir.Val.{of_z, to_z}
use Rattle.call_run.specs.Sleepers.{AreRising, HasBegun, IsOf, begun, channel_at, has_stood, is_anew}
use Rattle.call_run.specs.Stores.{SleepersView}
use Rattle.call_run.proofs.Channels.{channel_is}
use Rattle.call_run.proofs.Telling.{begun_all, begun_rising}
use Rattle.call_run.proofs.sleepers.Sleepers.begin.Goals as goal

pub invariant_of-self : goal.invariant_of-self
invariant_of-self c = record {
  rising =
      subst (AreRising 0)
      (sym (begun_all c.args.place c.self.inside.told.items c.as_mut_slice.result.now c.begin_channel.new.told c.as_mut_slice.ensures.value c.begin_channel.ensures))
      (begun_rising c.args.place 0 c.self.inside.told.items c.self.invariant.rising);
  closed = c.self.invariant.closed;
}

pub returns-then-not-is_of-clause-told : goal.returns-then-not-is_of-clause-told
returns-then-not-is_of-clause-told c =
    let told : c.self.inside.told.items ≡ c.args.self.now.told = ap (λ (s : SleepersView). s.told) c.self.view_is in
    subst (HasBegun (channel_at c.args.self.now.channels c.args.place) c.args.pid c.args.fd c.args.place c.args.self.now.told)
    (sym (begun_all c.args.place c.self.inside.told.items c.as_mut_slice.result.now c.begin_channel.new.told c.as_mut_slice.ensures.value c.begin_channel.ensures ∙ ap (map (begun c.args.place)) told))
    is_anew

pub returns-else-not-is_of-clause-told : goal.returns-else-not-is_of-clause-told
returns-else-not-is_of-clause-told c =
    let fd : to_z w64 (of_z w64 c.args.fd) ≡ c.args.fd = search (rules, to_z-of_z) in
    let channels : c.self.inside.channels ≡ c.args.self.now.channels = ap (λ (s : SleepersView). s.channels) c.self.view_is in
    has_stood
    (subst (IsOf (channel_at c.args.self.now.channels c.args.place) c.args.pid) fd
    (subst (λ it. IsOf it c.args.pid (to_z w64 (of_z w64 c.args.fd))) (channel_is c.self.inside.channels c.args.place ∙ ap (λ list. channel_at list c.args.place) channels) (c.is_of.ensures c.if-not-is_of.false)))
