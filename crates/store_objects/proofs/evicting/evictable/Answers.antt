use Rattle.std.proofs.Common.{◌≡◌, Bool, true, false, refl, sym}
use Rattle.store_objects.proofs.WhatGoes.{can_where, may_where}
use Rattle.store_objects.proofs.evicting.evictable.Goals as goal

-- two tests that are passed together are one
together : (a b : Bool) → (a ≡ true → b ≡ true) → (b ≡ true → a ≡ true) → a ≡ b
together true b there back = sym (there refl)
together false true there back = back refl
together false false there back = refl

pub returns : goal.returns
returns c = λ script world stands.
    together c.evictable.result _
    (λ e. can_where script c.args.objects.now world c.args.what stands (c.evictable.ensures.0 e))
    (λ e. c.evictable.ensures.1 (may_where script c.args.objects.now world c.args.what stands e))
