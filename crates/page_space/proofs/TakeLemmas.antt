-- Bytes that are taken from a space, page by page.
use Rattle.std.proofs.Common.{◌≡◌, ℕ, ◌+◌, ◌-◌, ◌/◌, ◌%◌, ◌<◌, ◌≤◌, List, ◌++◌, Option, Some, length, min, take, drop, replicate, refl, sym, ap, ◌∙◌, arith}
use Rattle.std.specs.Option.{option_map}
use Rattle.std.proofs.lemmas.List.{take-replicate, drop-replicate, length-drop, take_at, drop_at, drop-drop, drop_all, take_rest, append-nil, append_assoc}
use borrow.Rule.Slice.PartMut.{mid_of, put_mid, same_len_mid}
use Rattle.std.proofs.lemmas.List.FromFn.{length-map-range_with_len}
use Rattle.posix_defs.specs.Memory.{Memory, zero_page, byte_at, loaded}
use Rattle.kheap_slabs.specs.Objects.{object}
use Rattle.kheap_slabs.specs.declared.objects.Page.{Page}
use Rattle.kheap_slabs.specs.declared.objects.PageEntry.TheVariants as entry
use Rattle.kheap_slabs.specs.Heap.{Heap, IsWellFormed}
use Rattle.page_space.specs.Contents.{content_of, StandsFor}
use Rattle.page_space.specs.Entries.{entry_at}
use Rattle.page_space.proofs.StoreLemmas.{loaded-more, loaded-piece}
use Rattle.page_space.proofs.WriteLemmas.{zero_page_is, zero_long}

-- of a page that has zeros
pub taken_zero : (h : Heap) (space : List (Option ℕ)) (memory : Memory) (addr n : ℕ) → StandsFor h space memory → addr / 4096 < 256
    → entry_at h.nodes space (addr / 4096) ≡ entry.Zero → addr % 4096 + n ≤ 4096 → loaded memory addr n ≡ replicate n 0
taken_zero h space memory addr n stands below is within =
    let at : ℕ = addr % 4096 in
    let rest : 4096 - at ≡ n + (4096 - at - n) = omega arith in
    loaded-piece n memory (addr / 4096) at addr zero_page (omega arith) within zero_long (sym (stands (addr / 4096) below) ∙ ap (content_of h.pages) is)
    ∙ (ap (λ l. take n (drop at l)) zero_page_is
    ∙ (ap (take n) (drop-replicate {X = ℕ} at 4096 0)
    ∙ take-replicate {X = ℕ} n (4096 - at) 0 (omega arith)))

-- of a frame
pub taken_frame : (h : Heap) (space : List (Option ℕ)) (memory : Memory) (addr n key : ℕ) (page : Page) → IsWellFormed h → StandsFor h space memory → addr / 4096 < 256
    → entry_at h.nodes space (addr / 4096) ≡ entry.Frame key → object h.pages key ≡ Some page → addr % 4096 + n ≤ 4096
    → loaded memory addr n ≡ take n (drop (addr % 4096) page.bytes)
taken_frame h space memory addr n key page well stands below is there within =
    loaded-piece n memory (addr / 4096) (addr % 4096) addr page.bytes (omega arith) within (well.page_bytes key page there)
    (sym (stands (addr / 4096) below) ∙ (ap (content_of h.pages) is ∙ ap (option_map (λ p. p.bytes)) there))

-- So far the bytes in front are those of memory, and the others are what they were.
pub record IsTaking (h : Heap) (space : List (Option ℕ)) (addr : ℕ) (before now : List ℕ) (done : ℕ) : Type 0 where
  pub taken : (memory : Memory) → StandsFor h space memory → now ≡ loaded memory addr done ++ drop done before
  pub within : done ≤ length before
  pub same : length now ≡ length before

pub IsTaking-none : (h : Heap) (space : List (Option ℕ)) (addr : ℕ) (out : List ℕ) → IsTaking h space addr out out 0
IsTaking-none h space addr out = record { taken = λ memory stands. refl; within = omega arith; same = refl }

pub IsTaking-more : (h : Heap) (space : List (Option ℕ)) (addr at : ℕ) (before now piece : List ℕ) (done count : ℕ) → IsTaking h space addr before now done
    → at ≡ addr + done → done < length before → count ≡ min (4096 - at % 4096) (length (mid_of done (length now - done) now)) → length piece ≡ length (mid_of done (length now - done) now)
    → ((memory : Memory) → StandsFor h space memory → piece ≡ loaded memory at count ++ drop count (mid_of done (length now - done) now))
    → IsTaking h space addr before (put_mid done (length now - done) now piece) (done + count)
IsTaking-more h space addr at before now piece done count taking place some count_is long taken = record {
  taken = λ memory stands.
      let had : now ≡ loaded memory addr done ++ drop done before = taking.taken memory stands in
      let front_long : length (loaded memory addr done) ≡ done = length-loaded memory addr done in
      let front : take done now ≡ loaded memory addr done = ap (take done) had ∙ take_at (loaded memory addr done) (drop done before) done front_long in
      let back : drop done now ≡ drop done before = ap (drop done) had ∙ drop_at (loaded memory addr done) (drop done before) done front_long in
      put_rest
      ∙ (ap (λ l. l ++ piece) front
      ∙ (ap (λ l. loaded memory addr done ++ l) (taken memory stands ∙ (ap (λ l. loaded memory at count ++ drop count l) rest_is ∙ (ap (λ (a : ℕ). loaded memory a count ++ drop count (drop done now)) place
      ∙ ap (λ l. loaded memory (addr + done) count ++ l) (ap (drop count) back ∙ drop-drop count done before))))
      ∙ (sym (append_assoc (loaded memory addr done) (loaded memory (addr + done) count) (drop (done + count) before))
      ∙ ap (λ l. l ++ drop (done + count) before) (sym (loaded-more done memory addr count)))));
  within = omega (arith, count_is, ap length rest_is, length-drop done now, taking.same);
  same = same_len_mid done (length now - done) now piece long ∙ taking.same;
}
  where
    rest_is : mid_of done (length now - done) now ≡ drop done now
    rest_is = take_rest now done

    put_rest : put_mid done (length now - done) now piece ≡ take done now ++ piece
    put_rest = ap (λ l. take done now ++ (piece ++ l)) (drop_all (length now - done) (drop done now) (omega (arith, length-drop done now)))
        ∙ ap (λ l. take done now ++ l) (append-nil piece)

    length-loaded : (memory : Memory) (addr n : ℕ) → length (loaded memory addr n) ≡ n
    length-loaded memory addr n = length-map-range_with_len (byte_at memory) addr n
