use Rattle.std.proofs.Common.{◌≡◌, ◌∙◌, Some, length, not, slice_set, true, false, ap, rules, subst, w64}
use Rattle.std.specs.List.{refill}
use Rattle.std.proofs.lemmas.Int.{to_z-of_z}
use mir.Val.{of_z, to_z}
use Rattle.call_run.specs.Sleepers.{AreNear, NamesMore}
use Rattle.call_run.specs.Stores.{SleepersView}
use Rattle.call_run.proofs.Asking.{named_written, near_rising, near_written}
use Rattle.call_run.proofs.sleepers.Sleepers.ask_there.Goals as goal

never : {X : Type 0} → true ≡ false → X
never e = cc

pub invariant_of-self : goal.invariant_of-self
invariant_of-self c =
    let script = c.args.script.now in
    let objects = c.args.objects.now in
    let fd = to_z w64 (of_z w64 c.args.fd) in
    let near =
    near_written script objects c.args.pid fd c.args.place c.self.inside.told.items c.as_mut_slice-told.result.now c.ask_near-near.new.told c.ask_near-near.result
    c.as_mut_slice-told.ensures.value c.ask_near-near.ensures.near in
    record { rising = near_rising script objects c.args.pid fd c.args.place 0 _ _ _ near c.self.invariant.rising; closed = λ e. never e }

pub returns-clause-near : goal.returns-clause-near
returns-clause-near c =
    let script = c.args.script.now in
    let objects = c.args.objects.now in
    let fd : to_z w64 (of_z w64 c.args.fd) ≡ c.args.fd = search (rules, to_z-of_z) in
    let told : c.self.inside.told.items ≡ c.args.self.now.told = ap (λ (s : SleepersView). s.told) c.self.view_is in
    let channels : c.self.inside.channels ≡ c.args.self.now.channels = ap (λ (s : SleepersView). s.channels) c.self.view_is in
    let new = refill (length c.self.inside.told.items) c.self.inside.told.items c.ask_near-near.new.told in
    let near =
    near_written script objects c.args.pid (to_z w64 (of_z w64 c.args.fd)) c.args.place c.self.inside.told.items c.as_mut_slice-told.result.now c.ask_near-near.new.told c.ask_near-near.result
    c.as_mut_slice-told.ensures.value c.ask_near-near.ensures.near in (
      c.ask_near-near.result,
      subst (λ z. AreNear script objects c.args.pid z c.args.place c.args.self.now.told new c.ask_near-near.result) fd
          (subst (λ ts. AreNear script objects c.args.pid (to_z w64 (of_z w64 c.args.fd)) c.args.place ts new c.ask_near-near.result) told near),
      ap (λ list. slice_set list c.args.place (Some (record { pid = c.args.pid; fd = to_z w64 (of_z w64 c.args.fd); all_apart = not c.ask_near-near.result }))) channels
          ∙ ap (λ z. slice_set c.args.self.now.channels c.args.place (Some (record { pid = c.args.pid; fd = z; all_apart = not c.ask_near-near.result }))) fd,
    )

pub returns-clause-named : goal.returns-clause-named
returns-clause-named c =
    let script = c.args.script.now in
    let objects = c.args.objects.now in
    let told : c.self.inside.told.items ≡ c.args.self.now.told = ap (λ (s : SleepersView). s.told) c.self.view_is in
    let stirred : c.self.inside.stirred.items ≡ c.args.self.now.stirred = ap (λ (s : SleepersView). s.stirred) c.self.view_is in
    let new = refill (length c.self.inside.told.items) c.self.inside.told.items c.ask_near-near.new.told in
    subst (λ ts. NamesMore ts c.args.self.now.stirred new c.ask_near-near.new.stirred.items) told
    (subst (λ names. NamesMore c.self.inside.told.items names new c.ask_near-near.new.stirred.items) stirred
    (named_written script objects c.args.pid (to_z w64 (of_z w64 c.args.fd)) c.args.place c.self.inside.told.items c.as_mut_slice-told.result.now c.ask_near-near.new.told c.ask_near-near.result
    c.self.inside.stirred.items c.ask_near-near.new.stirred.items c.as_mut_slice-told.ensures.value c.ask_near-near.ensures.near c.ask_near-near.ensures.named))
