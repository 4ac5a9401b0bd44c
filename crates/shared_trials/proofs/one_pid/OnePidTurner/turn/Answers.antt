use Rattle.std.proofs.Common.{◌≡◌, true, false, pos, refl, sym, subst, ◌∙◌}
use Rattle.kabi_types.specs.declared.replies.Reply.TheVariants.{Val}
use Rattle.posix_defs.specs.Process.{is_alive}
use Rattle.posix_defs.specs.Plain.{call_of}
use Rattle.posix_defs.specs.World.{World, boot_kept}
use Rattle.posix_defs.specs.declared.turner.Turned.TheVariants.{Done, Ended}
use Rattle.posix_defs.specs.Turn.{TurnsTo}
use Rattle.shared_trials.specs.Sample.{sample, world_at}
use Rattle.shared_trials.proofs.SampleSteps.{sample_asks, sample_ends, sample_since, same_world}
use Rattle.shared_trials.proofs.one_pid.OnePidTurner.turn.Goals as goal

pub returns-else-self-eq0-clause-turned : goal.returns-else-self-eq0-clause-turned
returns-else-self-eq0-clause-turned c = λ world is.
    let store = c.mark.new.self in
    let after = c.end.new.self in
    let marked : world_at c.args.self.now.place c.args.self.now.lives boot_kept ≡ world_at store.place store.lives boot_kept =
    same_world (sym c.mark.ensures.place) (sym c.mark.ensures.lives) in
    let ended : world_at store.place false boot_kept ≡ world_at after.place after.lives boot_kept = same_world (sym c.end.ensures.place) (sym c.end.ensures.lives) in
    let may = c.requires.may in
    let calls = subst (λ (w : World). is_alive w.plain.table c.args.pid ≡ true → c.args._call.now ≡ call_of sample w.plain c.args.pid) (may.1 ∙ marked) may.2 in (
      world_at after.place after.lives boot_kept,
      refl,
      subst (λ w. TurnsTo sample world c.args.pid c.args._call.now (Ended 0) w) ended
          (subst (λ w. TurnsTo sample w c.args.pid c.args._call.now (Ended 0) (world_at store.place false boot_kept)) (sym (is ∙ marked))
          (sample_ends store.place c.args.pid store.lives c.args._call.now c.if-self-eq0.false store.few
          (sym (c.alive.ensures _ refl) ∙ c.if-not-alive.false) calls)),
    )

pub returns-then-self-eq0-clause-turned : goal.returns-then-self-eq0-clause-turned
returns-then-self-eq0-clause-turned c = λ world is.
    let store = c.mark.new.self in
    let marked : world_at c.args.self.now.place c.args.self.now.lives boot_kept ≡ world_at store.place store.lives boot_kept =
    same_world (sym c.mark.ensures.place) (sym c.mark.ensures.lives) in
    let may = c.requires.may in
    let calls = subst (λ (w : World). is_alive w.plain.table c.args.pid ≡ true → c.args._call.now ≡ call_of sample w.plain c.args.pid) (may.1 ∙ marked) may.2 in (
      world_at 1 store.lives boot_kept,
      refl,
      subst (λ w. TurnsTo sample w c.args.pid c.args._call.now (Done (Val (pos 1))) (world_at 1 store.lives boot_kept)) (sym (is ∙ marked))
          (sample_asks store.place c.args.pid store.lives c.args._call.now c.if-self-eq0.true
          (sym (c.alive.ensures _ refl) ∙ c.if-not-alive.false) calls),
    )

pub returns-then-not-alive-clause-since : goal.returns-then-not-alive-clause-since
returns-then-not-alive-clause-since c = λ world is. sample_since world c.args.self.now.place c.args.self.now.lives c.mark.new.self.high is c.mark.ensures.high

pub returns-then-self-eq0-clause-since : goal.returns-then-self-eq0-clause-since
returns-then-self-eq0-clause-since c = λ world is. sample_since world c.args.self.now.place c.args.self.now.lives c.mark.new.self.high is c.mark.ensures.high

pub returns-else-self-eq0-clause-since : goal.returns-else-self-eq0-clause-since
returns-else-self-eq0-clause-since c = λ world is.
    sample_since world c.args.self.now.place c.args.self.now.lives c.end.new.self.high is (c.end.ensures.high ∙ c.mark.ensures.high)
