use Rattle.std.proofs.Common.{◌≡◌, ◌++◌, ◌∙◌, [], ◌∷◌, ap, sym, subst, inl}
use Rattle.call_run.specs.Sleepers.{AreRising, NamesMore, lain, told_of, with_sleeper}
use Rattle.call_run.specs.Stores.{SleepersView}
use Rattle.call_run.proofs.Telling.{inserted_at, named_more, names_lain, rising_with}
use Rattle.call_run.proofs.sleepers.Sleepers.lie_down.Goals as goal

pub place_of-place-requires : goal.place_of-place-requires
place_of-place-requires c = subst (AreRising 0) (sym c.as_slice.ensures.value) c.self.invariant.rising

pub invariant_of-self : goal.invariant_of-self
invariant_of-self c =
    let told : c.self.inside.told.items ≡ c.args.self.now.told = ap (λ (s : SleepersView). s.told) c.self.view_is ∙ c.doubt.ensures.told in
    record {
      rising =
          subst (AreRising 0)
          (sym (c.insert.ensures.items ∙ inserted_at c.self.inside.told.items c.as_slice.result.now (lain c.args.pid c.args.blocks) c.place_of-place.result c.as_slice.ensures.value c.place_of-place.ensures.place))
          (rising_with c.self.inside.told.items 0 (lain c.args.pid c.args.blocks) c.self.invariant.rising c.requires.some (ap (λ ts. told_of ts c.args.pid) told ∙ c.requires.apart));
      closed = c.self.invariant.closed;
    }

pub invariant_of-self-else-blocks : goal.invariant_of-self-else-blocks
invariant_of-self-else-blocks c =
    let told : c.self.inside.told.items ≡ c.args.self.now.told = ap (λ (s : SleepersView). s.told) c.self.view_is ∙ c.doubt.ensures.told in
    record {
      rising =
          subst (AreRising 0)
          (sym (c.insert.ensures.items ∙ inserted_at c.self.inside.told.items c.as_slice.result.now (lain c.args.pid c.args.blocks) c.place_of-place.result c.as_slice.ensures.value c.place_of-place.ensures.place))
          (rising_with c.self.inside.told.items 0 (lain c.args.pid c.args.blocks) c.self.invariant.rising c.requires.some (ap (λ ts. told_of ts c.args.pid) told ∙ c.requires.apart));
      closed = c.self.invariant.closed;
    }

pub returns-then-blocks-clause-told : goal.returns-then-blocks-clause-told
returns-then-blocks-clause-told c =
    let told : c.self.inside.told.items ≡ c.args.self.now.told = ap (λ (s : SleepersView). s.told) c.self.view_is ∙ c.doubt.ensures.told in
    inl
    (c.insert.ensures.items ∙ inserted_at c.self.inside.told.items c.as_slice.result.now (lain c.args.pid c.args.blocks) c.place_of-place.result c.as_slice.ensures.value c.place_of-place.ensures.place
    ∙ ap (λ ts. with_sleeper ts (lain c.args.pid c.args.blocks)) told)

pub returns-else-blocks-clause-told : goal.returns-else-blocks-clause-told
returns-else-blocks-clause-told c =
    let told : c.self.inside.told.items ≡ c.args.self.now.told = ap (λ (s : SleepersView). s.told) c.self.view_is ∙ c.doubt.ensures.told in
    inl
    (c.insert.ensures.items ∙ inserted_at c.self.inside.told.items c.as_slice.result.now (lain c.args.pid c.args.blocks) c.place_of-place.result c.as_slice.ensures.value c.place_of-place.ensures.place
    ∙ ap (λ ts. with_sleeper ts (lain c.args.pid c.args.blocks)) told)

pub returns-then-blocks-clause-named : goal.returns-then-blocks-clause-named
returns-then-blocks-clause-named c =
    let told : c.self.inside.told.items ≡ c.args.self.now.told = ap (λ (s : SleepersView). s.told) c.self.view_is ∙ c.doubt.ensures.told in
    let stirred : c.self.inside.stirred.items ≡ c.args.self.now.stirred = ap (λ (s : SleepersView). s.stirred) c.self.view_is ∙ c.doubt.ensures.stirred in
    subst (λ ts. NamesMore c.args.self.now.told c.args.self.now.stirred ts c.push.new.self.items)
    (sym
    (c.insert.ensures.items ∙ inserted_at c.self.inside.told.items c.as_slice.result.now (lain c.args.pid c.args.blocks) c.place_of-place.result c.as_slice.ensures.value c.place_of-place.ensures.place
    ∙ ap (λ ts. with_sleeper ts (lain c.args.pid c.args.blocks)) told))
    (names_lain c.args.self.now.told (lain c.args.pid c.args.blocks) c.args.self.now.stirred c.push.new.self.items c.requires.apart
    (λ who none.
    let it = named_more c.args.self.now.stirred c.push.new.self.items c.args.pid who (c.push.ensures.items ∙ ap (λ names. names ++ c.args.pid ∷ []) stirred) none in
    (it.0, (λ same. absurd (it.1 same)))))

pub returns-else-blocks-clause-named : goal.returns-else-blocks-clause-named
returns-else-blocks-clause-named c =
    let told : c.self.inside.told.items ≡ c.args.self.now.told = ap (λ (s : SleepersView). s.told) c.self.view_is ∙ c.doubt.ensures.told in
    let stirred : c.self.inside.stirred.items ≡ c.args.self.now.stirred = ap (λ (s : SleepersView). s.stirred) c.self.view_is ∙ c.doubt.ensures.stirred in
    subst (λ ts. NamesMore c.args.self.now.told c.args.self.now.stirred ts c.self.inside.stirred.items)
    (sym
    (c.insert.ensures.items ∙ inserted_at c.self.inside.told.items c.as_slice.result.now (lain c.args.pid c.args.blocks) c.place_of-place.result c.as_slice.ensures.value c.place_of-place.ensures.place
    ∙ ap (λ ts. with_sleeper ts (lain c.args.pid c.args.blocks)) told))
    (subst (λ names. NamesMore c.args.self.now.told c.args.self.now.stirred (with_sleeper c.args.self.now.told (lain c.args.pid c.args.blocks)) names) (sym stirred)
    (names_lain c.args.self.now.told (lain c.args.pid c.args.blocks) c.args.self.now.stirred c.args.self.now.stirred c.requires.apart (λ who none. (none, (λ same. c.if-blocks.false)))))
