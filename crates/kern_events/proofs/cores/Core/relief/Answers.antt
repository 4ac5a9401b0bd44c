use Rattle.std.proofs.Common.{◌≡◌, sym, subst, ap, ◌∙◌}
use Rattle.posix_defs.specs.World.{World}
use Rattle.posix_defs.specs.Victim.{victim_of}
use Rattle.kern_laws.proofs.Sounds.{is_sound}
use Rattle.kern_events.proofs.ReliefSteps.{can_lose, evict_is_told, first_up, going_now, has_licence, kill_is_told, no_victim_no_licence, stuck}
use Rattle.kern_events.proofs.cores.Core.relief.Goals as goal

pub evict-requires : goal.evict-requires
evict-requires g c =
    let script = g.T.Turner.script c.args.self.now.store in
    let here = c.requires.goes_on in
    let none = c.requires.no_end here.state here.is_at (is_sound here.runs) in
    let is_stuck = stuck g.T.Turner.stands script _ c.args.self.now here.state _ _ _ c.self.view_is here.is_at c.as_slice.ensures.value c.some_wait.ensures c.if-not-some_wait.false c.room.ensures (sym c.first_going.ensures ∙ c.in_default.is) c.if-self-ne0.false in
    record {
      state = here.state;
      is_at = here.is_at;
      runs = here.runs;
      enabled = record {
        lives = first_up script _ _ here.state none is_stuck;
        unpinned = can_lose here.state.world _ (sym (c.first_evictable.ensures here.state here.is_at) ∙ c.in-Some-first_evictable.is);
      };
      no_end = none;
    }

pub unreachable-requires : goal.unreachable-requires
unreachable-requires g c =
    let script = g.T.Turner.script c.args.self.now.store in
    let here = c.requires.goes_on in
    let sound = is_sound here.runs in
    let none = c.requires.no_end here.state here.is_at sound in
    let is_stuck = stuck g.T.Turner.stands script _ c.args.self.now here.state _ _ _ c.self.view_is here.is_at c.as_slice.ensures.value c.some_wait.ensures c.if-not-some_wait.false c.room.ensures (sym c.first_going.ensures ∙ c.in_default.is) c.if-self-ne0.false in
    let licensed = has_licence script _ _ here.state sound none is_stuck (sym (c.first_evictable.ensures here.state here.is_at) ∙ c.in_default-first_evictable.is) in
    let victim = subst (λ core. (world : World) → g.T.Turner.stands core.store world → c.victim.result ≡ victim_of (g.T.Turner.script core.store).policy world.plain world.account) c.self.view_is c.victim.ensures in
    no_victim_no_licence script here.state licensed (sym (victim here.state.world here.is_at.stands) ∙ c.in_default-victim.is)

pub kill-requires : goal.kill-requires
kill-requires g c =
    let script = g.T.Turner.script c.args.self.now.store in
    let here = c.requires.goes_on in
    let sound = is_sound here.runs in
    let none = c.requires.no_end here.state here.is_at sound in
    let is_stuck = stuck g.T.Turner.stands script _ c.args.self.now here.state _ _ _ c.self.view_is here.is_at c.as_slice.ensures.value c.some_wait.ensures c.if-not-some_wait.false c.room.ensures (sym c.first_going.ensures ∙ c.in_default.is) c.if-self-ne0.false in
    let victim = subst (λ core. (world : World) → g.T.Turner.stands core.store world → c.victim.result ≡ victim_of (g.T.Turner.script core.store).policy world.plain world.account) c.self.view_is c.victim.ensures in
    record {
      state = here.state;
      is_at = here.is_at;
      runs = here.runs;
      enabled = record {
        licensed = has_licence script _ _ here.state sound none is_stuck (sym (c.first_evictable.ensures here.state here.is_at) ∙ c.in_default-first_evictable.is);
        victim = sym (victim here.state.world here.is_at.stands) ∙ c.in-Some-victim.is;
      };
      no_end = none;
    }

pub returns-clause-told : goal.returns-clause-told
returns-clause-told g c = λ s at sound.
    let script = g.T.Turner.script c.args.self.now.store in
    let none = c.requires.no_end s at sound in
    let is_stuck = stuck g.T.Turner.stands script _ c.args.self.now s _ _ _ c.self.view_is at c.as_slice.ensures.value c.some_wait.ensures c.if-not-some_wait.false c.room.ensures (sym c.first_going.ensures ∙ c.in_default.is) c.if-self-ne0.false in
    let lost = sym (c.first_evictable.ensures s at) ∙ c.in_default-first_evictable.is in
    let victim = subst (λ core. (world : World) → g.T.Turner.stands core.store world → c.victim.result ≡ victim_of (g.T.Turner.script core.store).policy world.plain world.account) c.self.view_is c.victim.ensures in
    kill_is_told script s _ is_stuck.waits
    (going_now g.T.Turner.stands script _ c.args.self.now s _ _ c.self.view_is at c.as_slice.ensures.value c.room.ensures ∙ sym c.first_going.ensures ∙ c.in_default.is)
    (at.reserved ∙ sym (ap (λ v. v.reserved) c.self.view_is) ∙ c.if-self-ne0.false) lost (has_licence script _ _ s sound none is_stuck lost)
    (sym (victim s.world at.stands) ∙ c.in-Some-victim.is)

pub returns-in-Some-first_evictable-clause-told : goal.returns-in-Some-first_evictable-clause-told
returns-in-Some-first_evictable-clause-told g c = λ s at sound.
    let script = g.T.Turner.script c.args.self.now.store in
    let none = c.requires.no_end s at sound in
    let is_stuck = stuck g.T.Turner.stands script _ c.args.self.now s _ _ _ c.self.view_is at c.as_slice.ensures.value c.some_wait.ensures c.if-not-some_wait.false c.room.ensures (sym c.first_going.ensures ∙ c.in_default.is) c.if-self-ne0.false in
    evict_is_told script s _ is_stuck.waits
    (going_now g.T.Turner.stands script _ c.args.self.now s _ _ c.self.view_is at c.as_slice.ensures.value c.room.ensures ∙ sym c.first_going.ensures ∙ c.in_default.is)
    (at.reserved ∙ sym (ap (λ v. v.reserved) c.self.view_is) ∙ c.if-self-ne0.false)
    (sym (c.first_evictable.ensures s at) ∙ c.in-Some-first_evictable.is)
