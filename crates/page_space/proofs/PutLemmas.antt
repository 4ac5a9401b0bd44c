-- Bytes that are put in a space, page by page.
use Rattle.std.proofs.Common.{◌≡◌, ◌≢◌, ℕ, ◌+◌, ◌-◌, ◌/◌, ◌%◌, ◌<◌, ◌≤◌, true, is_some, List, [], ◌++◌, Option, None, Some, length, min, set, take, drop, refl, sym, ap, ◌∙◌, subst, ⊎_elim, arith}
use Rattle.std.proofs.lemmas.Bool.{cases_eq, false≢true}
use Rattle.std.proofs.lemmas.List.{get_or-set_same, get_or-set_other, length-append, length-take-le, length-drop, take-take, drop-take, take-append-drop}
use Rattle.posix_defs.specs.Memory.{Memory, Frames, page_at, stored, after_put, written_at, written_from}
use Rattle.posix_defs.specs.Needs.{pages_touched}
use Rattle.kabi_types.specs.declared.classes.Class.TheVariants as class
use Rattle.kabi_types.specs.Counts.{with_count}
use Rattle.kheap_slabs.specs.Objects.{object, put}
use Rattle.kheap_slabs.specs.Purse.{Purse}
use Rattle.kheap_slabs.specs.Pages.{with_bytes}
use Rattle.kheap_slabs.specs.declared.objects.Page.{Page}
use Rattle.kheap_slabs.specs.declared.objects.PageEntry.TheVariants as entry
use Rattle.kheap_slabs.specs.Heap.{Heap, IsWellFormed}
use Rattle.kheap_slabs.specs.Owners.{Owners, with_space, IsOwned}
use Rattle.kheap_slabs.specs.Paid.{IsPaid, TakesNothing}
use Rattle.kheap_slabs.specs.Spaces.{is_mapped, count_at}
use Rattle.kheap_laws.proofs.PaidLemmas.{IsPaid-refl, IsPaid-trans, IsPaid-nothing}
use Rattle.page_space.specs.Accounts.{AccountFollows, AccountMoves}
use Rattle.page_space.specs.Changes.{OwnChanges}
use Rattle.page_space.specs.Contents.{content_at, StandsFor, SpaceMoves}
use Rattle.page_space.specs.Entries.{entry_at, is_mapped_at}
use Rattle.page_space.specs.Putting.{with_piece, PaysForFrames, PutsPiece, Puts}
use Rattle.page_space.proofs.AccountLemmas.{AccountFollows-refl, AccountFollows-trans}
use Rattle.page_space.proofs.ChangeLemmas.{OwnChanges-refl, OwnChanges-trans}
use Rattle.page_space.proofs.MapLemmas.{content_mapped}
use Rattle.page_space.proofs.MoveLemmas.{SpaceMoves-refl, SpaceMoves-trans}
use Rattle.page_space.proofs.StoreLemmas.{stored-append, length-stored, stored-piece, touched-more, touched-next, written_from-more}
use Rattle.page_space.proofs.WriteLemmas.{write-moves, write-stays, write-had, write-put, write-own, write-account, content_long, PaysForFrames-none}

some_same : (a b : List ℕ) → Some a ≡ Some b → a ≡ b
some_same a b same = cc

-- a page's frame is its own, and then bytes are written in it
pub PutsPiece-written : (old mid new : Heap) (before after : Purse) (space : List (Option ℕ)) (addr key : ℕ) (was : Page) (bytes : List ℕ) (others : Owners)
    → IsOwned old (with_space space others) → IsWellFormed mid → addr / 4096 < 256 → is_mapped_at old.nodes space (addr / 4096) ≡ true
    → entry_at mid.nodes space (addr / 4096) ≡ entry.Frame key → count_at mid.pages key ≡ 1
    → ((other : ℕ) → content_at mid space other ≡ content_at old space other)
    → ((other : ℕ) → other ≢ addr / 4096 → entry_at mid.nodes space other ≡ entry_at old.nodes space other)
    → SpaceMoves old mid space space → OwnChanges old mid space space → AccountFollows old mid space space (λ frames pid. written_at frames pid (addr / 4096))
    → IsPaid old before mid after → PaysForFrames old before after space (λ frames pid. written_at frames pid (addr / 4096)) → before.left.page ≤ after.left.page + 1
    → object mid.pages key ≡ Some was → new ≡ record mid { pages = put mid.pages key (with_bytes was (addr % 4096) bytes) } → TakesNothing mid new
    → PutsPiece old before new after space addr bytes
PutsPiece-written old mid new before after space addr key was bytes others owned well below mapped is one stays entries moves own account paid pays at_most there written takes =
    let page : ℕ = addr / 4096 in
    let owned_mid : IsOwned mid (with_space space others) = moves.owners others owned in
    let nodes_are : new.nodes ≡ mid.nodes = ap (λ h. h.nodes) written in
    let writes : SpaceMoves mid new space space = write-moves mid new space page key (addr % 4096) was bytes others owned_mid well.entries below is one there written in
    record {
      moves = SpaceMoves-trans old mid new space space space moves writes;
      own = OwnChanges-trans old mid new space space space own (write-own mid new space page key (addr % 4096) was bytes others owned_mid well.entries below is one there written);
      mapped = λ at. ap (λ nodes. is_mapped_at nodes space at) nodes_are ∙ ⊎_elim
          (λ here. ap (is_mapped_at mid.nodes space) here ∙ (ap is_mapped is ∙ (sym mapped ∙ ap (is_mapped_at old.nodes space) (sym here))))
          (λ apart. ap is_mapped (entries at apart))
          (cases_eq at page);
      long = λ had had_is. content_long mid space page had well (stays page ∙ had_is);
      put = λ had had_is.
          let same : was.bytes ≡ had = some_same was.bytes had (sym (write-had mid new space page key (addr % 4096) was bytes others owned_mid well.entries below is one there written) ∙ (stays page ∙ had_is)) in
          write-put mid new space page key (addr % 4096) was bytes others owned_mid well.entries below is one there written
          ∙ ap (λ l. Some (with_piece l (addr % 4096) bytes)) same;
      stays = λ other apart. write-stays mid new space page key (addr % 4096) was bytes others owned_mid well.entries below is one there written other apart ∙ stays other;
      account = AccountFollows-trans old mid new space space space (λ frames pid. written_at frames pid page) (λ frames pid. frames) moves account
          (write-account mid new space page key (addr % 4096) was bytes others owned_mid well.entries below is one there written);
      paid = IsPaid-trans old before mid after new after paid (IsPaid-nothing mid new after after takes refl refl);
      pays = pays;
      at_most = at_most;
    }

-- nothing is put yet
pub Puts-none : (h : Heap) (purse : Purse) (space : List (Option ℕ)) (addr : ℕ) → Puts h purse h purse space addr []
Puts-none h purse space addr = record {
  moves = SpaceMoves-refl h space;
  own = OwnChanges-refl h space;
  mapped = λ page. refl;
  memory = λ memory long stands. stands;
  account = AccountFollows-refl h space;
  paid = IsPaid-refl h purse;
  pays = PaysForFrames-none h purse space (λ frames pid. after_put frames pid addr 0) (λ number frames pid accounted. refl);
  at_most = omega arith;
}

-- the memory after one piece more
piece_stands : (old : Heap) (before : Purse) (new : Heap) (after : Purse) (space : List (Option ℕ)) (addr : ℕ) (bytes : List ℕ) (memory : Memory) (others : Owners)
    → PutsPiece old before new after space addr bytes → IsOwned old (with_space space others) → is_mapped_at old.nodes space (addr / 4096) ≡ true
    → addr / 4096 < 256 → addr % 4096 + length bytes ≤ 4096 → length memory ≡ 256 → StandsFor old space memory → StandsFor new space (stored memory addr bytes)
piece_stands old before new after space addr bytes memory others puts owned mapped below within long stands =
    by (content_at old space (addr / 4096)) refl
  where
    by : (had : Option (List ℕ)) → content_at old space (addr / 4096) ≡ had → StandsFor new space (stored memory addr bytes)
    by None none at low = absurd (false≢true (sym (ap is_some none) ∙ (content_mapped old space (addr / 4096) owned.pages ∙ mapped)))
    by (Some had) is at low =
        let page : ℕ = addr / 4096 in
        let piece : Option (List ℕ) = Some (with_piece had (addr % 4096) bytes) in
        let result : stored memory addr bytes ≡ set memory page piece =
        stored-piece bytes memory page (addr % 4096) addr had (omega arith) within (omega (arith, long)) (puts.long had is) (sym (stands page below) ∙ is) in
        ⊎_elim
        (λ here. ap (content_at new space) here ∙ (puts.put had is ∙ (sym (get_or-set_same memory page piece None (omega (arith, long)))
        ∙ (ap (λ m. page_at m page) (sym result) ∙ ap (page_at (stored memory addr bytes)) (sym here)))))
        (λ apart. puts.stays at apart ∙ (stands at low ∙ (sym (get_or-set_other memory page at piece None apart) ∙ ap (λ m. page_at m at) (sym result))))
        (cases_eq at page)

-- one piece more is put
pub Puts-more : (old : Heap) (before : Purse) (mid : Heap) (between : Purse) (new : Heap) (after : Purse) (space : List (Option ℕ)) (addr at : ℕ) (so_far piece : List ℕ) (others : Owners)
    → Puts old before mid between space addr so_far → PutsPiece mid between new after space at piece → at ≡ addr + length so_far
    → IsOwned old (with_space space others) → is_mapped_at mid.nodes space (at / 4096) ≡ true
    → at / 4096 < 256 → addr / 4096 + pages_touched addr (length so_far) ≡ at / 4096 → at % 4096 + length piece ≤ 4096 → 0 < length piece
    → Puts old before new after space addr (so_far ++ piece)
Puts-more old before mid between new after space addr at so_far piece others puts more place owned mapped below next within some = record {
  moves = SpaceMoves-trans old mid new space space space puts.moves more.moves;
  own = OwnChanges-trans old mid new space space space puts.own more.own;
  mapped = λ page. more.mapped page ∙ puts.mapped page;
  memory = λ memory long stands.
      let moves = puts.moves in
      let both : stored (stored memory addr so_far) at piece ≡ stored memory addr (so_far ++ piece) =
      ap (λ (a : ℕ). stored (stored memory addr so_far) a piece) place ∙ sym (stored-append memory addr so_far piece) in
      subst (StandsFor new space) both
      (piece_stands mid between new after space at piece (stored memory addr so_far) others more (moves.owners others owned) mapped below within
      (length-stored memory addr so_far ∙ long) (puts.memory memory long stands));
  account = λ number frames pid accounted.
      subst (λ changed. AccountMoves old new space space number frames changed pid) (account_is frames pid)
      (AccountFollows-trans old mid new space space space (λ f p. after_put f p addr (length so_far)) (λ f p. written_at f p (at / 4096)) puts.moves puts.account more.account number frames pid accounted);
  paid = IsPaid-trans old before mid between new after puts.paid more.paid;
  pays = record {
    pages_alone = (let pays = more.pays in pays.pages_alone)
        ∙ ap (λ (p : Purse). record p { left = with_count p.left class.Page after.left.page }) (let pays = puts.pays in pays.pages_alone);
    each = λ number frames pid accounted.
        let one = puts.pays in
        let other = more.pays in
        let moved = puts.account number frames pid accounted in
        omega (
          arith,
          one.each number frames pid accounted,
          other.each moved.renumbered (after_put frames pid addr (length so_far)) pid moved.accounted,
          ap (λ (f : Frames). f.made) (account_is frames pid),
        );
  };
  at_most = omega (arith, puts.at_most, more.at_most, touched);
}
  where
    touched : pages_touched addr (length (so_far ++ piece)) ≡ pages_touched addr (length so_far) + 1
    touched = ap (pages_touched addr) (length-append so_far piece)
        ∙ touched-more addr (length so_far) (length piece) (next ∙ ap (λ (a : ℕ). a / 4096) place) (subst (λ a. a % 4096 + length piece ≤ 4096) place within) some

    account_is : (frames : Frames) (pid : ℕ) → written_at (after_put frames pid addr (length so_far)) pid (at / 4096) ≡ after_put frames pid addr (length (so_far ++ piece))
    account_is frames pid =
        ap (written_at (after_put frames pid addr (length so_far)) pid) (sym next)
        ∙ (sym (written_from-more (pages_touched addr (length so_far)) frames pid (addr / 4096))
        ∙ ap (written_from frames pid (addr / 4096)) (sym touched))

-- So far these bytes are put. If more are left, the next one is the first in its page.
pub record IsPutting (old : Heap) (before : Purse) (new : Heap) (after : Purse) (space : List (Option ℕ)) (addr : ℕ) (bytes : List ℕ) (done : ℕ) : Type 0 where
  pub puts : Puts old before new after space addr (take done bytes)
  pub within : done ≤ length bytes
  pub next : done < length bytes → addr / 4096 + pages_touched addr done ≡ (addr + done) / 4096

pub IsPutting-none : (h : Heap) (purse : Purse) (space : List (Option ℕ)) (addr : ℕ) (bytes : List ℕ) → IsPutting h purse h purse space addr bytes 0
IsPutting-none h purse space addr bytes = record {
  puts = Puts-none h purse space addr;
  within = omega arith;
  next = λ some. omega arith;
}

pub IsPutting-more : (old : Heap) (before : Purse) (mid : Heap) (between : Purse) (new : Heap) (after : Purse) (space : List (Option ℕ)) (addr at : ℕ) (bytes : List ℕ) (done count : ℕ) (others : Owners) (rest : List ℕ)
    → IsPutting old before mid between space addr bytes done → done < length bytes → at ≡ addr + done → addr + length bytes ≤ 1048576
    → rest ≡ drop done bytes → count ≡ min (4096 - at % 4096) (length rest)
    → PutsPiece mid between new after space at (take count rest)
    → IsOwned old (with_space space others) → is_mapped_at mid.nodes space (at / 4096) ≡ true
    → IsPutting old before new after space addr bytes (done + count)
IsPutting-more old before mid between new after space addr at bytes done count others rest putting some place within rest_is count_is puts owned mapped = record {
  puts = subst (Puts old before new after space addr) joined
      (Puts-more old before mid between new after space addr at (take done bytes) (take count (drop done bytes)) others putting.puts (subst (λ l. PutsPiece mid between new after space at (take count l)) rest_is puts)
      (place ∙ ap (λ (n : ℕ). addr + n) (sym front)) owned mapped (omega arith)
      (ap (λ (n : ℕ). addr / 4096 + pages_touched addr n) front ∙ (putting.next some ∙ ap (λ (a : ℕ). a / 4096) (sym place)))
      (omega (arith, piece, left, count_is)) (omega (arith, piece, left, count_is)));
  within = omega (arith, left, count_is);
  next = λ more. touched-next addr done count (putting.next some) (omega (arith, left, count_is, ap (λ (a : ℕ). a % 4096) place)) (omega (arith, left, count_is));
}
  where
    front : length (take done bytes) ≡ done
    front = length-take-le done bytes (omega arith)

    left : length rest ≡ length bytes - done
    left = ap length rest_is ∙ length-drop done bytes

    piece : length (take count (drop done bytes)) ≡ count
    piece = length-take-le count (drop done bytes) (omega (arith, count_is, ap length rest_is))

    joined : take done bytes ++ take count (drop done bytes) ≡ take (done + count) bytes
    joined = ap (λ l. l ++ take count (drop done bytes)) (sym (take-take done (done + count) bytes (omega arith)))
        ∙ (ap (λ l. take done (take (done + count) bytes) ++ l) (sym (drop-take done count bytes)) ∙ take-append-drop done (take (done + count) bytes))
