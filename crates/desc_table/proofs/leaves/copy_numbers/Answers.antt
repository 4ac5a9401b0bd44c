use Rattle.std.proofs.Common.{◌≡◌, [], ◌∷◌, length, get_or, None, IfSome, refl, sym, ap, subst, ◌∙◌, rules}
use Rattle.kheap_slabs.specs.Heap.{Heap}
use Rattle.kheap_slabs.specs.Leaves.{row_at}
use Rattle.kheap_slabs.specs.Objects.{InUse}
use Rattle.kheap_laws.proofs.KeyPlaces.{key_there}
use Rattle.kheap_laws.proofs.PaidLemmas.{CanPay-kept, IsPaid-nothing, IsPaid-trans}
use Rattle.open_laws.specs.Open.{AreOpen}
use Rattle.open_laws.specs.Sharing.{CanShare, after_shares, hand_with, share_all}
use Rattle.desc_table.proofs.CopyLemmas.{Copied, after_steps, can_last, can_one, can_places, can_two, copied_more, copied_namings, copied_none, copied_numbers, kept_then, row_stays, share_steps, spends_then, used_stays}
use Rattle.desc_table.proofs.NumberLemmas.{leaf_used}
use Rattle.desc_table.proofs.leaves.copy_numbers.Goals as goal

pub share_descs-requires : goal.share_descs-requires
share_descs-requires c =
    let three : length c.args.leaves.now ≡ 3 = search rules in
    record { can = can_places c.args.heap.now.leaves c.args.places.now c.args.leaves.now three c.args.heap.now.descs c.requires.can }

pub copy_leaf-requires-clause-used : goal.copy_leaf-requires-clause-used
copy_leaf-requires-clause-used c =
    let same = ap (λ (h : Heap). h.leaves) c.share_descs.ensures.kept in
    subst (λ l. IfSome (get_or c.args.leaves.now 0 None) (InUse l)) (sym same) (leaf_used c.args.heap.now.leaves c.args.leaves.now 0 c.requires.owns)

pub copy_leaf-requires-clause-can : goal.copy_leaf-requires-clause-can
copy_leaf-requires-clause-can c =
    let three : length c.args.leaves.now ≡ 3 = search rules in
    let same = ap (λ (h : Heap). h.leaves) c.share_descs.ensures.kept in
    subst (λ l. CanShare c.share_descs.new.heap.descs (row_at l (get_or c.args.leaves.now 0 None))) (sym same) (subst (λ d. CanShare d (row_at c.args.heap.now.leaves (get_or c.args.leaves.now 0 None))) (sym (ap (λ (h : Heap). h.descs) c.share_descs.ensures.kept)) (can_one c.args.heap.now.leaves c.args.places.now c.args.leaves.now three c.args.heap.now.descs c.requires.can))

pub copy_leaf-requires-clause-pays : goal.copy_leaf-requires-clause-pays
copy_leaf-requires-clause-pays c =
    CanPay-kept c.args.heap.now c.share_descs.new.heap c.args.purse.now c.args.purse.now (IsPaid-nothing c.args.heap.now c.share_descs.new.heap c.args.purse.now c.args.purse.now c.share_descs.ensures.takes refl refl) c.requires.pays

pub copy_leaf-requires-2-clause-used : goal.copy_leaf-requires-2-clause-used
copy_leaf-requires-2-clause-used c =
    let same = ap (λ (h : Heap). h.leaves) c.share_descs.ensures.kept in
    let begun : Copied c.args.heap.now.leaves c.share_descs.new.heap.leaves [] [] = subst (λ l. Copied c.args.heap.now.leaves l [] []) (sym same) (copied_none c.args.heap.now.leaves) in
    let one = copied_more c.args.heap.now.leaves c.share_descs.new.heap.leaves c.copy_leaf.new.heap.leaves [] [] (get_or c.args.leaves.now 0 None) c.copy_leaf.result begun c.copy_leaf.ensures.copies (leaf_used c.args.heap.now.leaves c.args.leaves.now 0 c.requires.owns) (λ k leaf named is. c.requires.owns.filled k leaf (key_there c.args.leaves.now 0 k named) is) in
    used_stays c.args.heap.now.leaves c.copy_leaf.new.heap.leaves (get_or c.args.leaves.now 1 None) (leaf_used c.args.heap.now.leaves c.args.leaves.now 1 c.requires.owns) one.stays

pub copy_leaf-requires-2-clause-can : goal.copy_leaf-requires-2-clause-can
copy_leaf-requires-2-clause-can c =
    let three : length c.args.leaves.now ≡ 3 = search rules in
    let same = ap (λ (h : Heap). h.leaves) c.share_descs.ensures.kept in
    let begun : Copied c.args.heap.now.leaves c.share_descs.new.heap.leaves [] [] = subst (λ l. Copied c.args.heap.now.leaves l [] []) (sym same) (copied_none c.args.heap.now.leaves) in
    let one = copied_more c.args.heap.now.leaves c.share_descs.new.heap.leaves c.copy_leaf.new.heap.leaves [] [] (get_or c.args.leaves.now 0 None) c.copy_leaf.result begun c.copy_leaf.ensures.copies (leaf_used c.args.heap.now.leaves c.args.leaves.now 0 c.requires.owns) (λ k leaf named is. c.requires.owns.filled k leaf (key_there c.args.leaves.now 0 k named) is) in
    let descs = (c.copy_leaf.ensures.descs ∙ (ap (λ row. share_all c.share_descs.new.heap.descs row) (row_stays c.args.heap.now.leaves c.share_descs.new.heap.leaves (get_or c.args.leaves.now 0 None) (leaf_used c.args.heap.now.leaves c.args.leaves.now 0 c.requires.owns) begun.stays) ∙ ap (λ d. share_all d (row_at c.args.heap.now.leaves (get_or c.args.leaves.now 0 None))) (ap (λ (h : Heap). h.descs) c.share_descs.ensures.kept))) in
    subst (CanShare c.copy_leaf.new.heap.descs) (sym (row_stays c.args.heap.now.leaves c.copy_leaf.new.heap.leaves (get_or c.args.leaves.now 1 None) (leaf_used c.args.heap.now.leaves c.args.leaves.now 1 c.requires.owns) one.stays)) (subst (λ d. CanShare d (row_at c.args.heap.now.leaves (get_or c.args.leaves.now 1 None))) (sym descs) (can_two c.args.heap.now.leaves c.args.places.now c.args.leaves.now three c.args.heap.now.descs c.requires.can))

pub copy_leaf-requires-3-clause-used : goal.copy_leaf-requires-3-clause-used
copy_leaf-requires-3-clause-used c =
    let same = ap (λ (h : Heap). h.leaves) c.share_descs.ensures.kept in
    let begun : Copied c.args.heap.now.leaves c.share_descs.new.heap.leaves [] [] = subst (λ l. Copied c.args.heap.now.leaves l [] []) (sym same) (copied_none c.args.heap.now.leaves) in
    let one = copied_more c.args.heap.now.leaves c.share_descs.new.heap.leaves c.copy_leaf.new.heap.leaves [] [] (get_or c.args.leaves.now 0 None) c.copy_leaf.result begun c.copy_leaf.ensures.copies (leaf_used c.args.heap.now.leaves c.args.leaves.now 0 c.requires.owns) (λ k leaf named is. c.requires.owns.filled k leaf (key_there c.args.leaves.now 0 k named) is) in
    let two = copied_more c.args.heap.now.leaves c.copy_leaf.new.heap.leaves c.copy_leaf-2.new.heap.leaves ((get_or c.args.leaves.now 0 None) ∷ []) (c.copy_leaf.result ∷ []) (get_or c.args.leaves.now 1 None) c.copy_leaf-2.result one c.copy_leaf-2.ensures.copies (leaf_used c.args.heap.now.leaves c.args.leaves.now 1 c.requires.owns) (λ k leaf named is. c.requires.owns.filled k leaf (key_there c.args.leaves.now 1 k named) is) in
    used_stays c.args.heap.now.leaves c.copy_leaf-2.new.heap.leaves (get_or c.args.leaves.now 2 None) (leaf_used c.args.heap.now.leaves c.args.leaves.now 2 c.requires.owns) two.stays

pub copy_leaf-requires-3-clause-can : goal.copy_leaf-requires-3-clause-can
copy_leaf-requires-3-clause-can c =
    let three : length c.args.leaves.now ≡ 3 = search rules in
    let same = ap (λ (h : Heap). h.leaves) c.share_descs.ensures.kept in
    let begun : Copied c.args.heap.now.leaves c.share_descs.new.heap.leaves [] [] = subst (λ l. Copied c.args.heap.now.leaves l [] []) (sym same) (copied_none c.args.heap.now.leaves) in
    let one = copied_more c.args.heap.now.leaves c.share_descs.new.heap.leaves c.copy_leaf.new.heap.leaves [] [] (get_or c.args.leaves.now 0 None) c.copy_leaf.result begun c.copy_leaf.ensures.copies (leaf_used c.args.heap.now.leaves c.args.leaves.now 0 c.requires.owns) (λ k leaf named is. c.requires.owns.filled k leaf (key_there c.args.leaves.now 0 k named) is) in
    let two = copied_more c.args.heap.now.leaves c.copy_leaf.new.heap.leaves c.copy_leaf-2.new.heap.leaves ((get_or c.args.leaves.now 0 None) ∷ []) (c.copy_leaf.result ∷ []) (get_or c.args.leaves.now 1 None) c.copy_leaf-2.result one c.copy_leaf-2.ensures.copies (leaf_used c.args.heap.now.leaves c.args.leaves.now 1 c.requires.owns) (λ k leaf named is. c.requires.owns.filled k leaf (key_there c.args.leaves.now 1 k named) is) in
    let descs = (c.copy_leaf-2.ensures.descs ∙ (ap (λ row. share_all c.copy_leaf.new.heap.descs row) (row_stays c.args.heap.now.leaves c.copy_leaf.new.heap.leaves (get_or c.args.leaves.now 1 None) (leaf_used c.args.heap.now.leaves c.args.leaves.now 1 c.requires.owns) one.stays) ∙ ap (λ d. share_all d (row_at c.args.heap.now.leaves (get_or c.args.leaves.now 1 None))) (c.copy_leaf.ensures.descs ∙ (ap (λ row. share_all c.share_descs.new.heap.descs row) (row_stays c.args.heap.now.leaves c.share_descs.new.heap.leaves (get_or c.args.leaves.now 0 None) (leaf_used c.args.heap.now.leaves c.args.leaves.now 0 c.requires.owns) begun.stays) ∙ ap (λ d. share_all d (row_at c.args.heap.now.leaves (get_or c.args.leaves.now 0 None))) (ap (λ (h : Heap). h.descs) c.share_descs.ensures.kept))))) in
    subst (CanShare c.copy_leaf-2.new.heap.descs) (sym (row_stays c.args.heap.now.leaves c.copy_leaf-2.new.heap.leaves (get_or c.args.leaves.now 2 None) (leaf_used c.args.heap.now.leaves c.args.leaves.now 2 c.requires.owns) two.stays)) (subst (λ d. CanShare d (row_at c.args.heap.now.leaves (get_or c.args.leaves.now 2 None))) (sym descs) (can_last c.args.heap.now.leaves c.args.places.now c.args.leaves.now three c.args.heap.now.descs c.requires.can))

pub returns-clause-numbers : goal.returns-clause-numbers
returns-clause-numbers c =
    let three : length c.args.leaves.now ≡ 3 = search rules in
    let same = ap (λ (h : Heap). h.leaves) c.share_descs.ensures.kept in
    let begun : Copied c.args.heap.now.leaves c.share_descs.new.heap.leaves [] [] = subst (λ l. Copied c.args.heap.now.leaves l [] []) (sym same) (copied_none c.args.heap.now.leaves) in
    let one = copied_more c.args.heap.now.leaves c.share_descs.new.heap.leaves c.copy_leaf.new.heap.leaves [] [] (get_or c.args.leaves.now 0 None) c.copy_leaf.result begun c.copy_leaf.ensures.copies (leaf_used c.args.heap.now.leaves c.args.leaves.now 0 c.requires.owns) (λ k leaf named is. c.requires.owns.filled k leaf (key_there c.args.leaves.now 0 k named) is) in
    let two = copied_more c.args.heap.now.leaves c.copy_leaf.new.heap.leaves c.copy_leaf-2.new.heap.leaves ((get_or c.args.leaves.now 0 None) ∷ []) (c.copy_leaf.result ∷ []) (get_or c.args.leaves.now 1 None) c.copy_leaf-2.result one c.copy_leaf-2.ensures.copies (leaf_used c.args.heap.now.leaves c.args.leaves.now 1 c.requires.owns) (λ k leaf named is. c.requires.owns.filled k leaf (key_there c.args.leaves.now 1 k named) is) in
    let all = copied_more c.args.heap.now.leaves c.copy_leaf-2.new.heap.leaves c.copy_leaf-3.new.heap.leaves ((get_or c.args.leaves.now 0 None) ∷ (get_or c.args.leaves.now 1 None) ∷ []) (c.copy_leaf.result ∷ c.copy_leaf-2.result ∷ []) (get_or c.args.leaves.now 2 None) c.copy_leaf-3.result two c.copy_leaf-3.ensures.copies (leaf_used c.args.heap.now.leaves c.args.leaves.now 2 c.requires.owns) (λ k leaf named is. c.requires.owns.filled k leaf (key_there c.args.leaves.now 2 k named) is) in
    copied_numbers c.args.heap.now.leaves c.copy_leaf-3.new.heap.leaves c.args.places.now c.args.leaves.now c.copy_leaf.result c.copy_leaf-2.result c.copy_leaf-3.result three all

pub returns-clause-leaves : goal.returns-clause-leaves
returns-clause-leaves c =
    let same = ap (λ (h : Heap). h.leaves) c.share_descs.ensures.kept in
    let begun : Copied c.args.heap.now.leaves c.share_descs.new.heap.leaves [] [] = subst (λ l. Copied c.args.heap.now.leaves l [] []) (sym same) (copied_none c.args.heap.now.leaves) in
    let one = copied_more c.args.heap.now.leaves c.share_descs.new.heap.leaves c.copy_leaf.new.heap.leaves [] [] (get_or c.args.leaves.now 0 None) c.copy_leaf.result begun c.copy_leaf.ensures.copies (leaf_used c.args.heap.now.leaves c.args.leaves.now 0 c.requires.owns) (λ k leaf named is. c.requires.owns.filled k leaf (key_there c.args.leaves.now 0 k named) is) in
    let two = copied_more c.args.heap.now.leaves c.copy_leaf.new.heap.leaves c.copy_leaf-2.new.heap.leaves ((get_or c.args.leaves.now 0 None) ∷ []) (c.copy_leaf.result ∷ []) (get_or c.args.leaves.now 1 None) c.copy_leaf-2.result one c.copy_leaf-2.ensures.copies (leaf_used c.args.heap.now.leaves c.args.leaves.now 1 c.requires.owns) (λ k leaf named is. c.requires.owns.filled k leaf (key_there c.args.leaves.now 1 k named) is) in
    let all = copied_more c.args.heap.now.leaves c.copy_leaf-2.new.heap.leaves c.copy_leaf-3.new.heap.leaves ((get_or c.args.leaves.now 0 None) ∷ (get_or c.args.leaves.now 1 None) ∷ []) (c.copy_leaf.result ∷ c.copy_leaf-2.result ∷ []) (get_or c.args.leaves.now 2 None) c.copy_leaf-3.result two c.copy_leaf-3.ensures.copies (leaf_used c.args.heap.now.leaves c.args.leaves.now 2 c.requires.owns) (λ k leaf named is. c.requires.owns.filled k leaf (key_there c.args.leaves.now 2 k named) is) in
    all.change

pub returns-clause-namings : goal.returns-clause-namings
returns-clause-namings c =
    let three : length c.args.leaves.now ≡ 3 = search rules in
    let same = ap (λ (h : Heap). h.leaves) c.share_descs.ensures.kept in
    let begun : Copied c.args.heap.now.leaves c.share_descs.new.heap.leaves [] [] = subst (λ l. Copied c.args.heap.now.leaves l [] []) (sym same) (copied_none c.args.heap.now.leaves) in
    let one = copied_more c.args.heap.now.leaves c.share_descs.new.heap.leaves c.copy_leaf.new.heap.leaves [] [] (get_or c.args.leaves.now 0 None) c.copy_leaf.result begun c.copy_leaf.ensures.copies (leaf_used c.args.heap.now.leaves c.args.leaves.now 0 c.requires.owns) (λ k leaf named is. c.requires.owns.filled k leaf (key_there c.args.leaves.now 0 k named) is) in
    let two = copied_more c.args.heap.now.leaves c.copy_leaf.new.heap.leaves c.copy_leaf-2.new.heap.leaves ((get_or c.args.leaves.now 0 None) ∷ []) (c.copy_leaf.result ∷ []) (get_or c.args.leaves.now 1 None) c.copy_leaf-2.result one c.copy_leaf-2.ensures.copies (leaf_used c.args.heap.now.leaves c.args.leaves.now 1 c.requires.owns) (λ k leaf named is. c.requires.owns.filled k leaf (key_there c.args.leaves.now 1 k named) is) in
    let all = copied_more c.args.heap.now.leaves c.copy_leaf-2.new.heap.leaves c.copy_leaf-3.new.heap.leaves ((get_or c.args.leaves.now 0 None) ∷ (get_or c.args.leaves.now 1 None) ∷ []) (c.copy_leaf.result ∷ c.copy_leaf-2.result ∷ []) (get_or c.args.leaves.now 2 None) c.copy_leaf-3.result two c.copy_leaf-3.ensures.copies (leaf_used c.args.heap.now.leaves c.args.leaves.now 2 c.requires.owns) (λ k leaf named is. c.requires.owns.filled k leaf (key_there c.args.leaves.now 2 k named) is) in
    λ key. copied_namings c.args.heap.now.leaves c.copy_leaf-3.new.heap.leaves c.args.places.now c.args.leaves.now (c.copy_leaf.result ∷ c.copy_leaf-2.result ∷ c.copy_leaf-3.result ∷ []) key three all

pub returns-clause-descs : goal.returns-clause-descs
returns-clause-descs c =
    let three : length c.args.leaves.now ≡ 3 = search rules in
    let same = ap (λ (h : Heap). h.leaves) c.share_descs.ensures.kept in
    let begun : Copied c.args.heap.now.leaves c.share_descs.new.heap.leaves [] [] = subst (λ l. Copied c.args.heap.now.leaves l [] []) (sym same) (copied_none c.args.heap.now.leaves) in
    let one = copied_more c.args.heap.now.leaves c.share_descs.new.heap.leaves c.copy_leaf.new.heap.leaves [] [] (get_or c.args.leaves.now 0 None) c.copy_leaf.result begun c.copy_leaf.ensures.copies (leaf_used c.args.heap.now.leaves c.args.leaves.now 0 c.requires.owns) (λ k leaf named is. c.requires.owns.filled k leaf (key_there c.args.leaves.now 0 k named) is) in
    let two = copied_more c.args.heap.now.leaves c.copy_leaf.new.heap.leaves c.copy_leaf-2.new.heap.leaves ((get_or c.args.leaves.now 0 None) ∷ []) (c.copy_leaf.result ∷ []) (get_or c.args.leaves.now 1 None) c.copy_leaf-2.result one c.copy_leaf-2.ensures.copies (leaf_used c.args.heap.now.leaves c.args.leaves.now 1 c.requires.owns) (λ k leaf named is. c.requires.owns.filled k leaf (key_there c.args.leaves.now 1 k named) is) in
    (c.copy_leaf-3.ensures.descs ∙ (ap (λ row. share_all c.copy_leaf-2.new.heap.descs row) (row_stays c.args.heap.now.leaves c.copy_leaf-2.new.heap.leaves (get_or c.args.leaves.now 2 None) (leaf_used c.args.heap.now.leaves c.args.leaves.now 2 c.requires.owns) two.stays) ∙ ap (λ d. share_all d (row_at c.args.heap.now.leaves (get_or c.args.leaves.now 2 None))) (c.copy_leaf-2.ensures.descs ∙ (ap (λ row. share_all c.copy_leaf.new.heap.descs row) (row_stays c.args.heap.now.leaves c.copy_leaf.new.heap.leaves (get_or c.args.leaves.now 1 None) (leaf_used c.args.heap.now.leaves c.args.leaves.now 1 c.requires.owns) one.stays) ∙ ap (λ d. share_all d (row_at c.args.heap.now.leaves (get_or c.args.leaves.now 1 None))) (c.copy_leaf.ensures.descs ∙ (ap (λ row. share_all c.share_descs.new.heap.descs row) (row_stays c.args.heap.now.leaves c.share_descs.new.heap.leaves (get_or c.args.leaves.now 0 None) (leaf_used c.args.heap.now.leaves c.args.leaves.now 0 c.requires.owns) begun.stays) ∙ ap (λ d. share_all d (row_at c.args.heap.now.leaves (get_or c.args.leaves.now 0 None))) (ap (λ (h : Heap). h.descs) c.share_descs.ensures.kept))))))) ∙ share_steps c.args.heap.now.leaves c.args.places.now c.args.leaves.now three c.args.heap.now.descs

pub returns-clause-opened : goal.returns-clause-opened
returns-clause-opened c =
    let three : length c.args.leaves.now ≡ 3 = search rules in
    let same = ap (λ (h : Heap). h.leaves) c.share_descs.ensures.kept in
    let begun : Copied c.args.heap.now.leaves c.share_descs.new.heap.leaves [] [] = subst (λ l. Copied c.args.heap.now.leaves l [] []) (sym same) (copied_none c.args.heap.now.leaves) in
    let one = copied_more c.args.heap.now.leaves c.share_descs.new.heap.leaves c.copy_leaf.new.heap.leaves [] [] (get_or c.args.leaves.now 0 None) c.copy_leaf.result begun c.copy_leaf.ensures.copies (leaf_used c.args.heap.now.leaves c.args.leaves.now 0 c.requires.owns) (λ k leaf named is. c.requires.owns.filled k leaf (key_there c.args.leaves.now 0 k named) is) in
    let two = copied_more c.args.heap.now.leaves c.copy_leaf.new.heap.leaves c.copy_leaf-2.new.heap.leaves ((get_or c.args.leaves.now 0 None) ∷ []) (c.copy_leaf.result ∷ []) (get_or c.args.leaves.now 1 None) c.copy_leaf-2.result one c.copy_leaf-2.ensures.copies (leaf_used c.args.heap.now.leaves c.args.leaves.now 1 c.requires.owns) (λ k leaf named is. c.requires.owns.filled k leaf (key_there c.args.leaves.now 1 k named) is) in
    λ numbers list files are.
    subst (λ l. AreOpen numbers c.copy_leaf-3.new.heap l files) (after_steps c.args.heap.now.leaves c.args.places.now c.args.leaves.now three numbers.descs list)
    (subst (λ row. AreOpen numbers c.copy_leaf-3.new.heap (after_shares numbers.descs (after_shares numbers.descs (after_shares numbers.descs (after_shares numbers.descs list c.args.places.now) (row_at c.args.heap.now.leaves (get_or c.args.leaves.now 0 None))) (row_at c.args.heap.now.leaves (get_or c.args.leaves.now 1 None))) row) files)
    (row_stays c.args.heap.now.leaves c.copy_leaf-2.new.heap.leaves (get_or c.args.leaves.now 2 None) (leaf_used c.args.heap.now.leaves c.args.leaves.now 2 c.requires.owns) two.stays)
    (c.copy_leaf-3.ensures.opened numbers _ files
    (subst (λ row. AreOpen numbers c.copy_leaf-2.new.heap (after_shares numbers.descs (after_shares numbers.descs (after_shares numbers.descs list c.args.places.now) (row_at c.args.heap.now.leaves (get_or c.args.leaves.now 0 None))) row) files)
    (row_stays c.args.heap.now.leaves c.copy_leaf.new.heap.leaves (get_or c.args.leaves.now 1 None) (leaf_used c.args.heap.now.leaves c.args.leaves.now 1 c.requires.owns) one.stays)
    (c.copy_leaf-2.ensures.opened numbers _ files
    (subst (λ row. AreOpen numbers c.copy_leaf.new.heap (after_shares numbers.descs (after_shares numbers.descs list c.args.places.now) row) files)
    (row_stays c.args.heap.now.leaves c.share_descs.new.heap.leaves (get_or c.args.leaves.now 0 None) (leaf_used c.args.heap.now.leaves c.args.leaves.now 0 c.requires.owns) begun.stays)
    (c.copy_leaf.ensures.opened numbers _ files (c.share_descs.ensures.opened numbers list files are)))))))

pub returns-clause-owners : goal.returns-clause-owners
returns-clause-owners c =
    λ hand owners.
    c.copy_leaf-3.ensures.owners (hand_with c.args.places.now hand) (c.copy_leaf-2.ensures.owners (hand_with c.args.places.now hand) (c.copy_leaf.ensures.owners (hand_with c.args.places.now hand) (c.share_descs.ensures.owners hand owners)))

pub returns-clause-kept : goal.returns-clause-kept
returns-clause-kept c =
    let first : c.share_descs.new.heap ≡ record c.args.heap.now { descs = c.share_descs.new.heap.descs; leaves = c.share_descs.new.heap.leaves; high = c.share_descs.new.heap.high } =
    subst (λ (h : Heap). h ≡ record c.args.heap.now { descs = h.descs; leaves = h.leaves; high = h.high }) (sym c.share_descs.ensures.kept) refl in
    kept_then c.args.heap.now c.copy_leaf-2.new.heap c.copy_leaf-3.new.heap (kept_then c.args.heap.now c.copy_leaf.new.heap c.copy_leaf-2.new.heap (kept_then c.args.heap.now c.share_descs.new.heap c.copy_leaf.new.heap first c.copy_leaf.ensures.kept) c.copy_leaf-2.ensures.kept) c.copy_leaf-3.ensures.kept

pub returns-clause-paid : goal.returns-clause-paid
returns-clause-paid c =
    IsPaid-trans c.args.heap.now c.args.purse.now c.copy_leaf-2.new.heap c.copy_leaf-2.new.purse c.copy_leaf-3.new.heap c.copy_leaf-3.new.purse
    (IsPaid-trans c.args.heap.now c.args.purse.now c.copy_leaf.new.heap c.copy_leaf.new.purse c.copy_leaf-2.new.heap c.copy_leaf-2.new.purse
    (IsPaid-trans c.args.heap.now c.args.purse.now c.share_descs.new.heap c.args.purse.now c.copy_leaf.new.heap c.copy_leaf.new.purse (IsPaid-nothing c.args.heap.now c.share_descs.new.heap c.args.purse.now c.args.purse.now c.share_descs.ensures.takes refl refl) c.copy_leaf.ensures.paid) c.copy_leaf-2.ensures.paid) c.copy_leaf-3.ensures.paid

pub returns-clause-spent : goal.returns-clause-spent
returns-clause-spent c =
    spends_then c.args.purse.now c.copy_leaf-2.new.purse c.copy_leaf-3.new.purse (spends_then c.args.purse.now c.copy_leaf.new.purse c.copy_leaf-2.new.purse c.copy_leaf.ensures.spent c.copy_leaf-2.ensures.spent) c.copy_leaf-3.ensures.spent
