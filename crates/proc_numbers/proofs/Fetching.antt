-- Bytes of memory that are taken piece by piece, as many at a time as one likes.
use Rattle.std.proofs.Common.{◌≡◌, ℕ, ◌+◌, ◌-◌, ◌≤◌, List, ◌++◌, Option, length, take, drop, sym, ap, ◌∙◌, arith}
use Rattle.std.proofs.lemmas.List.{length-take-le, length-drop, take_at, drop_at, drop-drop, append_assoc}
use borrow.Rule.Slice.PartMut.{mid_of, put_mid, same_len_mid}
use Rattle.std.proofs.lemmas.List.FromFn.{length-map-range_with_len}
use Rattle.posix_defs.specs.Memory.{Memory, byte_at, loaded}
use Rattle.kheap_slabs.specs.Heap.{Heap}
use Rattle.page_space.specs.Contents.{StandsFor}
use Rattle.page_space.proofs.StoreLemmas.{loaded-more}
use Rattle.page_space.proofs.TakeLemmas.{IsTaking}

-- the bytes up to `end` are taken, where those in front of `done` were
pub fetched_more : (h : Heap) (space : List (Option ℕ)) (addr at : ℕ) (before now piece : List ℕ) (done end : ℕ) → IsTaking h space addr before now done
    → at ≡ addr + done → done ≤ end → end ≤ length before → length piece ≡ length (mid_of done (end - done) now)
    → ((memory : Memory) → StandsFor h space memory → piece ≡ loaded memory at (length (mid_of done (end - done) now)))
    → IsTaking h space addr before (put_mid done (end - done) now piece) end
fetched_more h space addr at before now piece done end taking place up fits long taken = record {
  taken = λ memory stands.
      let had : now ≡ loaded memory addr done ++ drop done before = taking.taken memory stands in
      let front_long : length (loaded memory addr done) ≡ done = length-map-range_with_len (byte_at memory) addr done in
      let front : take done now ≡ loaded memory addr done = ap (take done) had ∙ take_at (loaded memory addr done) (drop done before) done front_long in
      let back : drop done now ≡ drop done before = ap (drop done) had ∙ drop_at (loaded memory addr done) (drop done before) done front_long in
      let here : piece ≡ loaded memory (addr + done) count = taken memory stands ∙ (ap (loaded memory at) counted ∙ ap (λ (a : ℕ). loaded memory a count) place) in
      let rest : drop count (drop done now) ≡ drop end before = ap (drop count) back ∙ (drop-drop count done before ∙ ap (λ (n : ℕ). drop n before) whole) in
      ap (λ l. l ++ (piece ++ drop count (drop done now))) front
      ∙ (ap (λ l. loaded memory addr done ++ (l ++ drop count (drop done now))) here
      ∙ (ap (λ l. loaded memory addr done ++ (loaded memory (addr + done) count ++ l)) rest
      ∙ (sym (append_assoc (loaded memory addr done) (loaded memory (addr + done) count) (drop end before))
      ∙ (ap (λ l. l ++ drop end before) (sym (loaded-more done memory addr count))
      ∙ ap (λ (n : ℕ). loaded memory addr n ++ drop end before) whole))));
  within = fits;
  same = same_len_mid done count now piece long ∙ taking.same;
}
  where
    count : ℕ
    count = end - done

    whole : done + count ≡ end
    whole = omega (arith, up)

    counted : length (mid_of done count now) ≡ count
    counted = length-take-le count (drop done now) (omega (arith, length-drop done now, taking.same, fits))
