use Rattle.std.proofs.Common.{◌≡◌, ◌≢◌, ℕ, ◌+◌, ◌<◌, inl, inr, get_or, sym, ap, ◌∙◌, arith}
use Rattle.std.proofs.lemmas.Bool.{cases_eq}
use Rattle.blk_map.specs.Named.{pointer_to}
use Rattle.blk_map.proofs.InHand.{in_hand_still, in_hand_of}
use Rattle.blk_map.proofs.naming.name_all.Goals as goal

pub loop-k-preserved : goal.loop-k-preserved
loop-k-preserved c =
    let inv = c.loop-k.invariant in
    let from : ℕ = c.args.from in
    let k : ℕ = c.loop-k.k in
    let lt : k < c.args.count = omega arith in
    record {
      these = λ j le. elim (cases_eq j k) [
        | inl here ↦ ap (λ (n : ℕ). pointer_to c.name.new.direct c.name.new.behind (from + n)) here ∙ c.name.ensures.this ∙ ap (λ (n : ℕ). get_or c.args.blocks.now n 0) (sym here)
        | inr other ↦
            let below : j < k = omega (arith, le, other) in
            c.name.ensures.others (from + j) (in_hand_of from c.args.count j k c.requires.within (omega (arith, below, lt)) lt) (λ e. omega (arith, e, other)) ∙ inv.these j below
      ];
      others = λ index in_hand which.
          let apart : index ≢ from + k = λ e. elim which [ inl low ↦ omega (arith, e, low) | inr high ↦ omega (arith, e, high) ] in
          c.name.ensures.others index (in_hand_still from c.args.count k index c.requires.within lt in_hand) apart
          ∙ inv.others index in_hand (elim which [ inl low ↦ inl low | inr high ↦ inr (omega (arith, high)) ]);
    }
