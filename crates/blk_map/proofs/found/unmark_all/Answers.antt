use Rattle.std.proofs.Common.{◌≡◌, ℕ, get_or, inl, inr, sym, ap, ◌∙◌, arith}
use Rattle.std.proofs.lemmas.Bool.{cases_eq}
use Rattle.posix_defs.specs.SoundDisk.{bit_of}
use Rattle.blk_map.proofs.found.unmark_all.Goals as goal

pub loop-k-preserved : goal.loop-k-preserved
loop-k-preserved c =
    let inv = c.loop-k.invariant in
    let i : ℕ = c.loop-k.k in
    let this : ℕ = get_or c.args.blocks.now i 0 in
    record {
      these = λ j lt. elim (cases_eq (get_or c.args.blocks.now j 0) this) [
        | inl same ↦ ap (bit_of c.unmark.new.map) same ∙ c.unmark.ensures.this
        | inr apart ↦ c.unmark.ensures.others _ apart ∙ inv.these j (elim (cases_eq j i) [ inl e ↦ absurd (apart (ap (λ (n : ℕ). get_or c.args.blocks.now n 0) e)) | inr other ↦ omega (arith, lt, other) ])
      ];
      others = λ block none. c.unmark.ensures.others block (λ e. none i (omega arith) (sym e)) ∙ inv.others block (λ j lt. none j (omega (arith, lt)));
      only = λ block is. elim (cases_eq block this) [
        | inl e ↦ absurd (let gone : bit_of c.unmark.new.map block ≡ 0 = ap (bit_of c.unmark.new.map) e ∙ c.unmark.ensures.this in cc)
        | inr apart ↦ inv.only block (sym (c.unmark.ensures.others block apart) ∙ is)
      ];
    }
