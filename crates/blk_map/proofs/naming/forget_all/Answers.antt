use Rattle.std.proofs.Common.{◌≡◌, ◌≢◌, ℕ, ◌+◌, ◌-◌, ◌<◌, ◌≤◌, inl, inr, List, get_or, sym, ap, ◌∙◌, arith}
use Rattle.std.proofs.lemmas.Bool.{cases_eq}
use Rattle.posix_defs.specs.SoundDisk.{run_of}
use Rattle.blk_map.specs.Named.{pointer_to}
use Rattle.blk_map.proofs.InHand.{run_here, in_hand_here}
use Rattle.blk_map.proofs.naming.forget_all.Goals as goal

pub push-requires : goal.push-requires
push-requires c = omega (arith, c.loop-index.invariant.many, c.requires.room)

pub loop-index-preserved : goal.loop-index-preserved
loop-index-preserved c =
    let inv = c.loop-index.invariant in
    let from : ℕ = c.args.from in
    let here : ℕ = c.loop-index.index in
    let first : ℕ = c.args.dropped.now.count in
    let le : from ≤ here = omega arith in
    let lt : here < c.args.to = omega arith in
    let run_is : run_of here ≡ c.args.run = run_here c.args.run here (omega (arith, c.requires.within.0, le)) (omega (arith, c.requires.within.1, lt)) in
    let before : List ℕ = c.loop-index.direct in
    let behind : List ℕ = c.loop-index.behind in
    record {
      many = omega (arith, inv.many, c.push.ensures.count, le);
      kept = λ k low. c.push.ensures.kept k (omega (arith, low, inv.many)) ∙ inv.kept k low;
      each = λ k within. elim (cases_eq k (here - from)) [
        | inl last ↦
            let place : first + k ≡ c.loop-index.dropped.count = omega (arith, last, inv.many) in
            let index : here ≡ from + k = omega (arith, last, le) in
            ap (λ (n : ℕ). get_or c.push.new.self.blocks n 0) place ∙ c.push.ensures.here ∙ c.pointer_of.ensures ∙ inv.others here (inr run_is) (inr (omega arith))
            ∙ ap (pointer_to c.args.direct.now c.args.behind.now) index
        | inr other ↦ c.push.ensures.kept (first + k) (omega (arith, inv.many, within, other)) ∙ inv.each k (omega (arith, within, other))
      ];
      these = λ index low below. elim (cases_eq index here) [
        | inl e ↦ ap (pointer_to c.name.new.direct c.name.new.behind) e ∙ c.name.ensures.this
        | inr other ↦
            let high : index < c.args.to = omega (arith, below, lt) in
            let same : run_of index ≡ c.args.run = run_here c.args.run index (omega (arith, c.requires.within.0, low)) (omega (arith, c.requires.within.1, high)) in
            c.name.ensures.others index (inr (same ∙ sym run_is)) other ∙ inv.these index low (omega (arith, below, other))
      ];
      others = λ index in_hand which.
          let apart : index ≢ here = λ e. elim which [ inl low ↦ omega (arith, e, low, le) | inr high ↦ omega (arith, e, high) ] in
          c.name.ensures.others index (in_hand_here c.args.run here index run_is in_hand) apart
          ∙ inv.others index in_hand (elim which [ inl low ↦ inl low | inr high ↦ inr (omega (arith, high)) ]);
    }
