use Rattle.std.proofs.Common.{◌≡◌, ◌<◌, ◌≤◌, if◌then◌else◌, length, insert, slice_get, remove, sym, ap, subst, ◌∙◌, arith}
use Rattle.std.proofs.lemmas.Option.{slice_get_within}
use Rattle.kern_tasks.specs.Runnable.{AreRisingFrom, below, with_place}
use Rattle.kern_tasks.proofs.Runnables.{Stands, goes_with, stands_with}
use Rattle.kern_tasks.proofs.runnable.put_place.Goals as goal

pub count_below-at-requires : goal.count_below-at-requires
count_below-at-requires c = subst (AreRisingFrom 0) (sym c.as_slice.ensures.value) c.requires.rising

pub remove-requires : goal.remove-requires
remove-requires c =
    let there = c.stands_at.ensures.stands c.if-stands_at.true in
    let within : c.count_below-at.result < length c.as_slice-2.result.now = slice_get_within _ _ _ there in
    let same : length c.as_slice-2.result.now ≡ length c.args.places.now.items = ap length c.as_slice-2.ensures.value in
    omega (arith, c.args.places.now.ok.0)

pub insert-requires : goal.insert-requires
insert-requires c =
    let within : c.count_below-at.result ≤ length c.as_slice.result.now = c.count_below-at.ensures.within in
    let same : length c.as_slice.result.now ≡ length c.args.places.now.items = ap length c.as_slice.ensures.value in
    omega (arith, c.args.places.now.ok.0)

pub returns-then-not-there-clause-items : goal.returns-then-not-there-clause-items
returns-then-not-there-clause-items c =
    let items = c.args.places.now.items in
    let at : c.count_below-at.result ≡ below items c.args.place = c.count_below-at.ensures.below ∙ ap (λ ps. below ps c.args.place) c.as_slice.ensures.value in
    let stands : Stands items (below items c.args.place) c.args.place =
    ap (slice_get items) (sym at) ∙ ap (λ ps. slice_get ps c.count_below-at.result) (sym c.as_slice-2.ensures.value) ∙ c.stands_at.ensures.stands c.if-stands_at.true in
    c.remove.ensures.items ∙ ap (remove items) at ∙ sym (stands_with items c.args.place stands).1 ∙ ap (with_place items c.args.place) (sym c.if-not-there.true)

pub returns-else-not-there-clause-items : goal.returns-else-not-there-clause-items
returns-else-not-there-clause-items c =
    let items = c.args.places.now.items in
    let at : c.count_below-at.result ≡ below items c.args.place = c.count_below-at.ensures.below ∙ ap (λ ps. below ps c.args.place) c.as_slice.ensures.value in
    let stands : Stands items (below items c.args.place) c.args.place =
    ap (slice_get items) (sym at) ∙ ap (λ ps. slice_get ps c.count_below-at.result) (sym c.as_slice-2.ensures.value) ∙ c.stands_at.ensures.stands c.if-stands_at.true in
    sym (stands_with items c.args.place stands).0 ∙ ap (with_place items c.args.place) (sym c.if-not-there.false)

pub returns-then-there-clause-items : goal.returns-then-there-clause-items
returns-then-there-clause-items c =
    let items = c.args.places.now.items in
    let at : c.count_below-at.result ≡ below items c.args.place = c.count_below-at.ensures.below ∙ ap (λ ps. below ps c.args.place) c.as_slice.ensures.value in
    c.insert.ensures.items ∙ ap (λ b. if b then insert items c.count_below-at.result c.args.place else items) (c.insert.ensures.succeeds c.requires.room)
    ∙ ap (λ n. insert items n c.args.place) at
    ∙ sym (goes_with items c.args.place (λ stands.
    c.stands_at.ensures.apart c.if-stands_at.false (ap (λ ps. slice_get ps c.count_below-at.result) c.as_slice-2.ensures.value ∙ ap (slice_get items) at ∙ stands))).0
    ∙ ap (with_place items c.args.place) (sym c.if-there.true)

pub returns-else-there-clause-items : goal.returns-else-there-clause-items
returns-else-there-clause-items c =
    let items = c.args.places.now.items in
    let at : c.count_below-at.result ≡ below items c.args.place = c.count_below-at.ensures.below ∙ ap (λ ps. below ps c.args.place) c.as_slice.ensures.value in
    sym (goes_with items c.args.place (λ stands.
    c.stands_at.ensures.apart c.if-stands_at.false (ap (λ ps. slice_get ps c.count_below-at.result) c.as_slice-2.ensures.value ∙ ap (slice_get items) at ∙ stands))).1
    ∙ ap (with_place items c.args.place) (sym c.if-there.false)
