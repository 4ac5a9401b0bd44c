-- A pointer in hand is written.
use Rattle.std.proofs.Common.{◌≡◌, ◌≢◌, ℕ, ◌+◌, ◌-◌, ◌*◌, ◌/◌, ◌%◌, ◌<◌, ◌≤◌, inl, inr, List, length, get_or, set, sym, ap, ◌∙◌, arith}
use Rattle.std.proofs.lemmas.Bool.{cases_lt}
use Rattle.std.proofs.lemmas.List.{get_or-set_same, get_or-set_other}
use Rattle.posix_defs.specs.SoundDisk.{run_of}
use Rattle.blk_map.specs.Named.{IsInHand, pointer_to}
use Rattle.blk_map.specs.Runs.{run_end, run_first}
use Rattle.blk_map.proofs.Inodes.{pointer_direct, pointer_behind}

pub first_set : (direct behind : List ℕ) (index block : ℕ) → index < 10 → index < length direct → pointer_to (set direct index block) behind index ≡ block
first_set direct behind index block first within = pointer_direct (set direct index block) behind index first ∙ get_or-set_same direct index block 0 within

pub first_set_other : (direct behind : List ℕ) (index block other : ℕ) → other ≢ index → pointer_to (set direct index block) behind other ≡ pointer_to direct behind other
first_set_other direct behind index block other apart = elim (cases_lt other 10) [
  | inl first ↦ pointer_direct (set direct index block) behind other first ∙ get_or-set_other direct index other block 0 apart ∙ sym (pointer_direct direct behind other first)
  | inr past ↦ pointer_behind (set direct index block) behind other past ∙ sym (pointer_behind direct behind other past)
]

pub behind_set : (direct behind : List ℕ) (index place block : ℕ) → 10 ≤ index → place ≡ (index - 10) % 256 → length behind ≡ 256 → pointer_to direct (set behind place block) index ≡ block
behind_set direct behind index place block past at long =
    pointer_behind direct (set behind place block) index past ∙ ap (λ (n : ℕ). get_or (set behind place block) n 0) (sym at) ∙ get_or-set_same behind place block 0 (omega (arith, at, long))

-- of those in hand with the same run another one stands at another place
pub behind_set_other : (direct behind : List ℕ) (index place block other : ℕ) → 10 ≤ index → place ≡ (index - 10) % 256 → IsInHand (run_of index) other → other ≢ index
    → pointer_to direct (set behind place block) other ≡ pointer_to direct behind other
behind_set_other direct behind index place block other past at in_hand apart = elim (cases_lt other 10) [
  | inl first ↦ pointer_direct direct (set behind place block) other first ∙ sym (pointer_direct direct behind other first)
  | inr also ↦
      let here : run_of other ≡ run_of index = elim in_hand [ inl first ↦ absurd (omega (arith, first, also)) | inr is ↦ is ] in
      let elsewhere : (other - 10) % 256 ≢ place = λ e. apart (omega (arith, e, at, here, past, also)) in
      pointer_behind direct (set behind place block) other also ∙ get_or-set_other behind place ((other - 10) % 256) block 0 elsewhere ∙ sym (pointer_behind direct behind other also)
]

-- blocks one after another in a run
pub same_run_still : (from count k : ℕ) → from + count ≤ 10 + 256 * (run_of from + 1) → k < count → run_of (from + k) ≡ run_of from
same_run_still from count k within lt = omega (arith, within, lt)

pub in_hand_still : (from count k index : ℕ) → from + count ≤ 10 + 256 * (run_of from + 1) → k < count → IsInHand (run_of from) index → IsInHand (run_of (from + k)) index
in_hand_still from count k index within lt (inl first) = inl first
in_hand_still from count k index within lt (inr is) = inr (is ∙ sym (same_run_still from count k within lt))

pub in_hand_of : (from count j k : ℕ) → from + count ≤ 10 + 256 * (run_of from + 1) → j < count → k < count → IsInHand (run_of (from + k)) (from + j)
in_hand_of from count j k within lt also = inr (same_run_still from count j within lt ∙ sym (same_run_still from count k within also))

-- the blocks of a run, the first ten among those of the first
pub run_here : (run index : ℕ) → run_first run ≤ index → index < run_end run → run_of index ≡ run
run_here run index past within = omega (arith, past, within)

pub in_hand_here : (run here index : ℕ) → run_of here ≡ run → IsInHand run index → IsInHand (run_of here) index
in_hand_here run here index is (inl first) = inl first
in_hand_here run here index is (inr same) = inr (same ∙ sym is)

-- with a node's last block those that go are in hand
pub in_hand_last : (run held left index : ℕ) → run ≡ run_of (held - 1) → run_first run ≤ left → left ≤ index → index < held → IsInHand run index
in_hand_last run held left index is past le lt = inr (run_here run index (omega (arith, past, le)) (omega (arith, is, lt)))
