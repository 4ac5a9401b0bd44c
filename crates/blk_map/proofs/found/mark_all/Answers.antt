use Rattle.std.proofs.Common.{ℕ, get_or, inl, inr, sym, ap, ◌∙◌, arith}
use Rattle.std.proofs.lemmas.Bool.{cases_eq}
use Rattle.posix_defs.specs.SoundDisk.{bit_of}
use Rattle.blk_map.proofs.found.mark_all.Goals as goal

pub loop-block-preserved : goal.loop-block-preserved
loop-block-preserved c =
    let inv = c.loop-block.invariant in
    let i : ℕ = c.loop-block.block-index in
    let this : ℕ = get_or c.args.blocks.now i 0 in
    record {
      these = λ k lt. elim (cases_eq (get_or c.args.blocks.now k 0) this) [
        | inl same ↦ ap (bit_of c.mark.new.map) same ∙ c.mark.ensures.this
        | inr apart ↦ c.mark.ensures.others _ apart ∙ inv.these k (elim (cases_eq k i) [ inl e ↦ absurd (apart (ap (λ (j : ℕ). get_or c.args.blocks.now j 0) e)) | inr other ↦ omega (arith, lt, other) ])
      ];
      others = λ block none. c.mark.ensures.others block (λ e. none i (omega arith) (sym e)) ∙ inv.others block (λ k lt. none k (omega (arith, lt)));
      stays = λ block is. elim (cases_eq block this) [
        | inl e ↦ ap (bit_of c.mark.new.map) e ∙ c.mark.ensures.this
        | inr apart ↦ c.mark.ensures.others block apart ∙ inv.stays block is
      ];
      only = λ block is. elim (cases_eq block this) [
        | inl e ↦ inr (i, omega arith, sym e)
        | inr apart ↦ elim (inv.only block (sym (c.mark.ensures.others block apart) ∙ is)) [
          | inl was ↦ inl was
          | inr at ↦ inr (at.0, omega (arith, at.1), at.2)
        ]
      ];
    }
