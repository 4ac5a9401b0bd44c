-- A write, a change of a file's size and a further name leave a tree.
use Rattle.std.proofs.Common.{◌≡◌, ◌≢◌, ℕ, ◌+◌, ◌*◌, ◌^◌, ◌<◌, ◌≤◌, true, false, cond, inl, inr, List, length, take, eqb, ltb, leb, Option, Some, None, is_some, Result, Ok, Err, refl, sym, ap, subst, ◌∙◌, arith, length-take}
use Rattle.std.specs.Option.{option_map}
use Rattle.std.specs.List.{All, Contains}
use Rattle.std.proofs.lemmas.Bool.{cases_Bool, cases_eq, cond-true, cond-false, false≢true, ltb-false, leb-false, eqb-false}
use Rattle.std.proofs.lemmas.Option.{same_Some}
use Rattle.std.proofs.lemmas.List.Elements.{All-take, Contains-push_cases}
use Rattle.kabi_types.specs.declared.errnos.Errno.{Errno}
use Rattle.kabi_types.specs.declared.errnos.Errno.TheVariants.{EFBIG, EMLINK, ENOSPC}
use Rattle.kabi_types.specs.declared.inodes.DirEntry.{DirEntry}
use Rattle.posix_defs.specs.DiskFormat.{greatest_size, table_end, table_nodes, blocks_of}
use Rattle.posix_defs.specs.DiskContents.{entry_for}
use Rattle.posix_defs.specs.FileBytes.{resized, overwritten, capacity, fitting}
use Rattle.posix_defs.specs.Tree.{File, Node, Tree, root, node_at, with_node, is_in_use, is_directory, is_directory_in, links_at, links_in, entries_in, entries_at, parent_in, parent_at, size_at, size_in, blocks_in, used_blocks, found}
use Rattle.posix_defs.specs.TreeChanges.{entry_put, with_bytes, with_bytes_in, blocks_for, with_entries, link_added, takes_entry, most_links, write, resize, link}
use Rattle.posix_defs.specs.IsTree.{IsEntryName, IsNode, IsTree, names_of}
use Rattle.posix_defs.proofs.TreeNodes.{is_number, node_at-with_node, node_at-with_node_other, seen_same, summed, summed_same}
use Rattle.tree_laws.proofs.EntryLists.{count_of, one_at, count-put, length-put, put_are}
use Rattle.tree_laws.proofs.TreeSteps.{AreNodes, nodes-with_node, Relisted, relisted, SameDirectories, same_directories, one_here, one_off, node_of}
use Rattle.tree_laws.proofs.Climbing.{KeepsParent, climbed_same}
use Rattle.tree_laws.proofs.TreeKeeps.{entries_are, Room, room_of, same_Ok, err-ok, same_tree}
use Rattle.tree_laws.proofs.FileRoom.{length-resized, length-overwritten, bytes_resized, bytes_overwritten, capacity_fits, fits_capacity}

-- ---- other bytes

pub bytes_keep : (tree : Tree) (number links : ℕ) (old : List ℕ) (change : List ℕ → List ℕ) → IsTree tree → node_at tree number ≡ Some (record { links = links; content = File old })
    → blocks_of (length (change old)) ≤ blocks_for tree number → length (change old) ≤ greatest_size → All (λ byte. byte < 2 ^ 8) (change old) → IsTree (with_bytes tree number change)
bytes_keep tree number links old change is at fits most are =
    let node : Node = record { links = links; content = File (change old) } in
    let there : Option Node = Some node in
    let used_number : is_in_use tree number ≡ true = ap is_some at in
    let is_n = is_number tree number used_number in
    let is_with : with_bytes tree number change ≡ with_node tree number there =
    ap (λ (o : Option Node). with_node tree number (option_map {T = Node} (λ n. record n { content = with_bytes_in change n.content }) o)) at in
    let was : IsNode (record { links = links; content = File old }) = is.nodes number _ at in
    let same = same_directories tree number there is_n (sym (ap is_directory_in at)) (sym (ap parent_in at)) (sym (ap entries_in at)) in
    let sum = summed blocks_in tree number there is_n in
    let old_blocks : blocks_in (node_at tree number) ≡ blocks_of (size_at tree number) = refl in
    subst IsTree (sym is_with) (same_tree tree (with_node tree number there) is same (seen_same links_in tree number there (sym (ap links_in at)))
    (omega (arith, is.room, sum, fits, old_blocks))
    (nodes-with_node tree number there is.nodes (λ n e. subst IsNode (same_Some node n e) (record { content = are; size = most; links = was.links; single = λ d. absurd (false≢true d); socket = λ s. absurd (false≢true s) }))))

-- a write that is answered a count
pub record Wrote (tree : Tree) (number at : ℕ) (bytes : List ℕ) (count : ℕ) (after : Tree) : Type 0 where
  pub many : count ≡ fitting (blocks_for tree number) at (length bytes)
  pub some : count ≢ 0
  pub below : at < greatest_size
  pub tree_after : after ≡ with_bytes tree number (overwritten at (take count bytes))

pub wrote : (tree : Tree) (number at : ℕ) (bytes : List ℕ) (count : ℕ) (after : Tree) → write tree number at bytes ≡ Ok (count, after) → Wrote tree number at bytes count after
wrote tree number at bytes count after is =
    let n : ℕ = fitting (blocks_for tree number) at (length bytes) in
    let made : ℕ × Tree = (n, with_bytes tree number (overwritten at (take n bytes))) in
    let rest : Result (ℕ × Tree) Errno = cond (eqb n 0) (Err ENOSPC) (Ok made) in
    elim (cases_Bool (leb greatest_size at)) [
      | inl large ↦ absurd (err-ok EFBIG (count, after) (sym (cond-true (leb greatest_size at) (Err EFBIG) rest large) ∙ is))
      | inr below ↦
          let is_rest : rest ≡ Ok (count, after) = sym (cond-false (leb greatest_size at) (Err EFBIG) rest below) ∙ is in
          elim (cases_Bool (eqb n 0)) [
            | inl none ↦ absurd (err-ok ENOSPC (count, after) (sym (cond-true (eqb n 0) (Err ENOSPC) (Ok made) none) ∙ is_rest))
            | inr some ↦
                let same = same_Ok made (count, after) (sym (cond-false (eqb n 0) (Err ENOSPC) (Ok made) some) ∙ is_rest) in
                let counted : n ≡ count = ap (λ (p : ℕ × Tree). p.0) same in
                record {
                  many = sym counted;
                  some = λ zero_count. eqb-false n 0 some (counted ∙ zero_count);
                  below = leb-false greatest_size at below;
                  tree_after = sym (ap (λ (p : ℕ × Tree). p.1) same) ∙ ap (λ (k : ℕ). with_bytes tree number (overwritten at (take k bytes))) counted;
                }
          ]
    ]

pub write_keeps : (tree : Tree) (number links at : ℕ) (old bytes : List ℕ) (count : ℕ) (after : Tree) → IsTree tree → node_at tree number ≡ Some (record { links = links; content = File old })
    → All (λ byte. byte < 2 ^ 8) bytes → write tree number at bytes ≡ Ok (count, after) → IsTree after
write_keeps tree number links at old bytes count after is there are answered =
    let done = wrote tree number at bytes count after answered in
    let new : List ℕ = take count bytes in
    let blocks : ℕ = blocks_for tree number in
    let was : IsNode (record { links = links; content = File old }) = is.nodes number _ there in
    let size : size_at tree number ≡ length old = ap size_in there in
    let taken : length new ≡ count = omega (arith, length-take count bytes, done.many) in
    let held : length old ≤ capacity blocks = fits_capacity blocks (length old) was.size (subst (λ (n : ℕ). blocks_of n ≤ blocks) size (omega arith)) in
    let long : length (overwritten at new old) ≤ capacity blocks = omega (arith, length-overwritten at new old, taken, held, done.many, done.some) in
    subst IsTree (sym done.tree_after) (bytes_keep tree number links old (overwritten at new) is there (capacity_fits blocks (length (overwritten at new old)) long)
    (omega (arith, long)) (bytes_overwritten at new old (All-take (λ byte. byte < 2 ^ 8) count bytes are) was.content))

pub resize_keeps : (tree : Tree) (number links size : ℕ) (old : List ℕ) (after : Tree) → IsTree tree → node_at tree number ≡ Some (record { links = links; content = File old })
    → resize tree number size ≡ Ok after → IsTree after
resize_keeps tree number links size old after is there answered =
    let was : IsNode (record { links = links; content = File old }) = is.nodes number _ there in
    let made : Tree = with_bytes tree number (resized size) in
    let rest : Result Tree Errno = cond (ltb (blocks_for tree number) (blocks_of size)) (Err ENOSPC) (Ok made) in
    elim (cases_Bool (ltb greatest_size size)) [
      | inl large ↦ absurd (err-ok EFBIG after (sym (cond-true (ltb greatest_size size) (Err EFBIG) rest large) ∙ answered))
      | inr most ↦
          let is_rest : rest ≡ Ok after = sym (cond-false (ltb greatest_size size) (Err EFBIG) rest most) ∙ answered in
          elim (cases_Bool (ltb (blocks_for tree number) (blocks_of size))) [
            | inl full ↦ absurd (err-ok ENOSPC after (sym (cond-true (ltb (blocks_for tree number) (blocks_of size)) (Err ENOSPC) (Ok made) full) ∙ is_rest))
            | inr fits ↦
                let same = same_Ok made after (sym (cond-false (ltb (blocks_for tree number) (blocks_of size)) (Err ENOSPC) (Ok made) fits) ∙ is_rest) in
                let long : length (resized size old) ≡ size = length-resized size old in
                subst IsTree same (bytes_keep tree number links old (resized size) is there
                (subst (λ (n : ℕ). blocks_of n ≤ blocks_for tree number) (sym long) (ltb-false (blocks_for tree number) (blocks_of size) fits))
                (omega (arith, long, ltb-false greatest_size size most)) (bytes_resized size old was.content))
          ]
    ]

-- ---- a further name

link_tree : (tree between after : Tree) (dir number : ℕ) (name : List ℕ) → IsTree tree → is_directory tree dir ≡ true → is_directory tree number ≡ false → IsEntryName name → found tree dir name ≡ None
    → Room tree dir 0 → SameDirectories tree between → ((m : ℕ) → links_at between m ≡ links_at tree m + one_at number m) → used_blocks between ≡ used_blocks tree → size_at between dir ≡ size_at tree dir
    → AreNodes between → Relisted between after dir (entry_put name number (entries_at tree dir)) → IsTree after
link_tree tree between after dir number name is is_dir not_dir valid free room same links used same_size are r =
    let entries : List DirEntry = entries_at tree dir in
    let blocks : after.blocks ≡ tree.blocks = r.blocks ∙ same.blocks in
    let len_put = length-put entries name number in
    let size_dir : size_at between dir ≡ 32 * (length entries + 2) = r.size ∙ ap (λ (es : List DirEntry). 32 * (length es + 2)) (same.entries dir) in
    let size : 32 * (length (entry_put name number entries) + 2) ≡ size_at tree dir + 32 = omega (arith, len_put, size_dir, same_size) in
    let grown : blocks_of (32 * (length (entry_put name number entries) + 2)) ≡ blocks_of (size_at tree dir + 32) = ap blocks_of size in
    let before : blocks_of (size_at between dir) ≡ blocks_of (size_at tree dir) = ap blocks_of same_size in
    let dirs : (m : ℕ) → is_directory after m ≡ is_directory tree m = λ m. r.directories m ∙ same.directories m in
    let up : (m : ℕ) → parent_at after m ≡ parent_at tree m = λ m. r.parents m ∙ same.parents m in
    let was : (m : ℕ) → is_directory after m ≡ true → is_directory tree m ≡ true = λ m at. sym (dirs m) ∙ at in
    let keeps : (m : ℕ) → is_directory after m ≡ true → KeepsParent tree after m = λ m at. record { same = up m; directory = dirs (parent_at tree m) ∙ is.parents m (was m at) } in
    record {
      enough = subst (λ (n : ℕ). 16 ≤ n) (sym blocks) is.enough;
      most = subst (λ (n : ℕ). n ≤ 4096) (sym blocks) is.most;
      count = r.count ∙ same.count ∙ is.count ∙ ap table_nodes (sym blocks);
      room = subst (λ (n : ℕ). 1 + table_end n + used_blocks after ≤ n) (sym blocks) (omega (arith, is.room, room.free, r.used, used, grown, before));
      nodes = r.nodes are (put_are entries name number (entries_are tree dir is is_dir) valid free) (omega (arith, size, room.below, size_dir, same_size));
      links = λ k.
          let names : names_of after k + count_of k entries ≡ names_of between k + count_of k (entry_put name number entries) =
          subst (λ (es : List DirEntry). names_of after k + count_of k es ≡ names_of between k + count_of k (entry_put name number entries)) (same.entries dir) (r.names k) in
          omega (arith, is.links k, links k, r.links k, same.names k, names, count-put entries name number k);
      root_directory = dirs root ∙ is.root_directory;
      root_parent = up root ∙ is.root_parent;
      parents = λ m at. subst (λ (n : ℕ). is_directory after n ≡ true) (sym (up m)) (keeps m at).directory;
      below = λ d entry among at. up entry.node ∙ elim (cases_eq d dir) [
        | inl here ↦
            elim (Contains-push_cases entries (entry_for number name) entry (subst (λ (es : List DirEntry). Contains es entry) (ap (entries_at after) here ∙ r.here) among)) [
              | inl old ↦ is.below dir entry old (was entry.node at) ∙ sym here
              | inr is_new ↦ absurd (false≢true (sym not_dir ∙ ap (is_directory tree) (ap (λ (e : DirEntry). e.node) is_new) ∙ was entry.node at))
            ]
        | inr apart ↦ is.below d entry (subst (λ (es : List DirEntry). Contains es entry) (ap entries_in (r.others d apart) ∙ same.entries d) among) (was entry.node at)
      ];
      climbs = λ m at. let way = is.climbs m (was m at) in (way.0, climbed_same tree after keeps way.0 m at ∙ way.1);
    }

pub link_keeps : (tree : Tree) (dir : ℕ) (name : List ℕ) (number : ℕ) (after : Tree) → IsTree tree → is_directory tree dir ≡ true → is_in_use tree number ≡ true → is_directory tree number ≡ false
    → IsEntryName name → found tree dir name ≡ None → link tree dir name number ≡ Ok after → IsTree after
link_keeps tree dir name number after is is_dir used not_dir valid free answered =
    let node = node_of tree number used in
    let at = node.1 in
    let is_n = is_number tree number used in
    let more : Node = record { links = node.0.links + 1; content = node.0.content } in
    let there : Option Node = Some more in
    let between : Tree = with_node tree number there in
    let is_between : link_added tree number ≡ between = ap (λ (o : Option Node). with_node tree number (option_map {T = Node} (λ n. record n { links = n.links + 1 }) o)) at in
    let was : IsNode node.0 = is.nodes number node.0 at in
    let same = same_directories tree number there is_n (sym (ap is_directory_in at)) (sym (ap parent_in at)) (sym (ap entries_in at)) in
    let made : Tree = with_entries (link_added tree number) dir (entry_put name number) in
    let rest : Result Tree Errno = cond (takes_entry tree dir 0) (Ok made) (Err ENOSPC) in
    elim (cases_Bool (eqb (links_at tree number) most_links)) [
      | inl full ↦ absurd (err-ok EMLINK after (sym (cond-true (eqb (links_at tree number) most_links) (Err EMLINK) rest full) ∙ answered))
      | inr fewer ↦
          let is_rest : rest ≡ Ok after = sym (cond-false (eqb (links_at tree number) most_links) (Err EMLINK) rest fewer) ∙ answered in
          elim (cases_Bool (takes_entry tree dir 0)) [
            | inl takes ↦
                let is_after : made ≡ after = same_Ok made after (sym (cond-true (takes_entry tree dir 0) (Ok made) (Err ENOSPC) takes) ∙ is_rest) in
                let links_was : links_at tree number ≡ node.0.links = ap links_in at in
                let few : node.0.links ≢ 127 = λ e. eqb-false (links_at tree number) most_links fewer (links_was ∙ e) in
                let links : (m : ℕ) → links_at between m ≡ links_at tree m + one_at number m = λ m. elim (cases_eq m number) [
                  | inl here ↦
                      let now : links_at between m ≡ node.0.links + 1 = ap (links_at between) here ∙ ap links_in (node_at-with_node tree number there is_n) in
                      let then_was : links_at tree m ≡ node.0.links = ap (links_at tree) here ∙ links_was in
                      omega (arith, now, then_was, one_here number m here)
                  | inr other ↦
                      let now : links_at between m ≡ links_at tree m = ap links_in (node_at-with_node_other tree number m there other) in
                      omega (arith, now, one_off number m other)
                ] in
                let are : AreNodes between = nodes-with_node tree number there is.nodes (λ n e. subst IsNode (same_Some more n e) (record {
                  content = was.content;
                  size = was.size;
                  links = omega (arith, was.links, few);
                  single = λ d. absurd (false≢true (sym not_dir ∙ ap is_directory_in at ∙ d));
                  socket = λ _. omega arith;
                })) in
                let r = relisted between dir (entry_put name number) (same.directories dir ∙ is_dir) in
                let r_old = subst (λ (es : List DirEntry). Relisted between (with_entries between dir (entry_put name number)) dir (entry_put name number es)) (same.entries dir) r in
                subst IsTree (ap (λ (t : Tree). with_entries t dir (entry_put name number)) (sym is_between) ∙ is_after)
                (link_tree tree between (with_entries between dir (entry_put name number)) dir number name is is_dir not_dir valid free (room_of tree dir 0 takes) same links
                (summed_same blocks_in tree number there is_n (sym (ap blocks_in at))) (seen_same size_in tree number there (sym (ap size_in at)) dir) are r_old)
            | inr full ↦ absurd (err-ok ENOSPC after (sym (cond-false (takes_entry tree dir 0) (Ok made) (Err ENOSPC) full) ∙ is_rest))
          ]
    ]
