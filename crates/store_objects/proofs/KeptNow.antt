-- What a tree of files keeps in its caches may be kept in the world for which it stands, and is what the heap has of them.
use Rattle.std.proofs.Common.{◌≡◌, ◌≢◌, ℕ, ◌<◌, ◌==◌, ◌||◌, Bool, true, false, cond, List, [], ◌∷◌, map, length, nat_eq, eqb-true, Option, None, Some, is_some, refl, ap, sym, ◌∙◌, subst, inl, inr}
use Rattle.std.specs.List.{AllByRecursion}
use Rattle.std.specs.Map.{keys_of, lookup}
use Rattle.std.specs.Option.{option_map}
use Rattle.std.specs.Str.{bytes_eq}
use Rattle.std.proofs.lemmas.Bool.Decides.{eqb_tells}
use Rattle.std.proofs.lemmas.Cmp.{nat_eq_equiv}
use Rattle.std.proofs.lemmas.List.{length-map}
use Rattle.std.proofs.lemmas.List.Elements.{All-get_or}
use Rattle.std.proofs.lemmas.Map.Entries.{length-keys_of}
use Rattle.std.proofs.lemmas.Option.{slice_get_within}
use Rattle.std.proofs.lemmas.Slice.Eq.{bytes_eq-Decides}
use Rattle.kabi_types.specs.PathParts.{is_dots}
use Rattle.kheap_slabs.specs.Objects.{count}
use Rattle.kheap_slabs.specs.declared.objects.Block.{Block}
use Rattle.kheap_slabs.specs.declared.objects.Name.{Name}
use Rattle.kheap_slabs.specs.declared.objects.Vnode.{Vnode}
use Rattle.kheap_slabs.specs.Heap.{Heap}
use Rattle.lru_index.specs.Keys.{same_name}
use Rattle.lru_index.specs.declared.keys.NameKey.{NameKey}
use Rattle.lru_index.specs.NameKeys.{name_key}
use Rattle.name_cache.specs.Names.{IsNameKey, key_of}
use Rattle.name_cache.proofs.KeyLemmas.{made_is_key, name_read, same_key_laws}
use Rattle.disk_laws.proofs.DiskNodes.{node_of_inode}
use Rattle.tree_laws.proofs.EntryLists.{stands_at}
use Rattle.memfs_ops.specs.FileTree.{Stands, TreeView}
use Rattle.posix_defs.specs.DiskContents.{own_name, parent_name}
use Rattle.posix_defs.specs.IsTree.{AreEntries, IsContent, IsEntryName, IsTree}
use Rattle.posix_defs.specs.Plain.{Plain}
use Rattle.posix_defs.specs.Tree.{Content, Directory, Fifo, File, Node, SocketName, Tree, entries_in, entries_of, found, found_among, is_in_use, node_at}
use Rattle.posix_defs.specs.TreeChanges.{no_entry}
use Rattle.posix_defs.specs.World.{AreOnce, IsTrueName, MayKeep, World, is_in}
use Rattle.kabi_types.specs.declared.scripts.Script.{Script}
use Rattle.store_objects.specs.declared.objects.Objects.{Objects}
use Rattle.store_objects.specs.Standing.{StandsFor}
use Rattle.store_objects.specs.Trees.{kept_by, name_in, pins_in}
use Rattle.store_objects.proofs.HeldNodes.{pinned_held}
use Rattle.store_objects.proofs.OnceKept.{each_kept, kept_once}

-- ---- names

-- a name under which something is found is one that an entry may have
entry_name : (tree : Tree) (dir : ℕ) (name : List ℕ) (node : ℕ) → IsTree tree → found tree dir name ≡ Some node → IsEntryName name
entry_name tree dir name node is there = by_node (node_at tree dir) refl there
  where
    never : None ≡ Some node → ⊥
    never e = cc

    by_content : (content : Content) → IsContent content → found_among (entries_of content) name ≡ Some node → IsEntryName name
    by_content (File bytes) whole e = absurd (never e)
    by_content SocketName whole e = absurd (never e)
    by_content Fifo whole e = absurd (never e)
    by_content (Directory parent entries) whole e =
        let are : AreEntries entries = whole in
        let at = stands_at entries name node e in
        subst IsEntryName at.called (All-get_or (λ entry. IsEntryName entry.name) entries _ no_entry at.within are.names)

    by_node : (o : Option Node) → node_at tree dir ≡ o → found_among (entries_in o) name ≡ Some node → IsEntryName name
    by_node None at e = absurd (never e)
    by_node (Some it) at e = by_content it.content (is.nodes dir it at).content e

-- which isn't `.` and isn't `..`
no_dots : (name : List ℕ) → IsEntryName name → is_dots name ≡ false
no_dots name entry = go (bytes_eq name own_name) refl (bytes_eq name parent_name) refl
  where
    go : (a : Bool) → bytes_eq name own_name ≡ a → (b : Bool) → bytes_eq name parent_name ≡ b → (a || b) ≡ false
    go true e b f = absurd (entry.own ((bytes_eq-Decides name own_name).0 e))
    go false e true f = absurd (entry.parent ((bytes_eq-Decides name parent_name).0 f))
    go false e false f = refl

-- keys that say one name are one
one_key : (a b : NameKey) → IsNameKey a → IsNameKey b → name_in a ≡ name_in b → a ≡ b
one_key a b is_a is_b e = sym is_a ∙ ap (λ (said : ℕ × List ℕ). name_key said.0 said.1) e ∙ is_b

apart_names : (key : NameKey) (keys : List NameKey) → IsNameKey key → AllByRecursion IsNameKey keys → AllByRecursion (λ other. key ≢ other) keys
    → AllByRecursion (λ other. name_in key ≢ other) (map name_in keys)
apart_names key [] is all apart = tt
apart_names key (other ∷ keys) is all apart = ((λ e. apart.0 (one_key key other is all.0 e)), apart_names key keys is all.1 apart.1)

once_names : (keys : List NameKey) → AllByRecursion IsNameKey keys → AreOnce keys → AreOnce (map name_in keys)
once_names [] all once = tt
once_names (key ∷ keys) all once = (apart_names key keys all.0 all.1 once.0, once_names keys all.1 once.1)

all_named : (P : ℕ × List ℕ → Type 0) (keys : List NameKey) → AllByRecursion (λ key. P (name_in key)) keys → AllByRecursion P (map name_in keys)
all_named P [] all = tt
all_named P (key ∷ keys) all = (all.0, all_named P keys all.1)

-- the key of a name says it
says : (name : Name) → (name.dir, name.name) ≡ name_in (key_of name)
says name = ap (λ (bytes : List ℕ). (name.dir, bytes)) (sym (name_read name.name))

-- ---- nodes

-- a node that has a slot is among those that are kept
pub is_kept : (n : ℕ) (pairs : List (ℕ × ℕ)) (slot : ℕ) → lookup (nat_eq n) pairs ≡ Some slot → is_in n (keys_of pairs) ≡ true
is_kept n [] slot e = cc
is_kept n (p ∷ pairs) slot e = elim (eqb_tells n p.0) [
  | inl same ↦ ap (λ k. (k == n) || is_in n (keys_of pairs)) (sym same.1) ∙ ap (λ b. b || is_in n (keys_of pairs)) (itself n)
  | inr apart ↦ behind (p.0 == n) (is_kept n pairs slot (sym (ap (λ b. cond b (Some p.1) (lookup (nat_eq n) pairs)) apart.0) ∙ e))
]
  where
    itself : (k : ℕ) → (k == k) ≡ true
    itself k = elim (eqb_tells k k) [ inl same ↦ same.0 | inr apart ↦ absurd (apart.1 refl) ]

    behind : (b : Bool) → is_in n (keys_of pairs) ≡ true → (b || is_in n (keys_of pairs)) ≡ true
    behind true is = refl
    behind false is = is

-- a node that is held is kept
pub held_kept : (h : Heap) (fs : TreeView) (tree : Tree) (pins : ℕ → ℕ) → Stands h fs tree pins → (number : ℕ) → 0 < pins number
    → is_in number (keys_of fs.vnodes.order.pairs) ≡ true
held_kept h fs tree pins stands number some =
    let at = stands.held.held number some in
    is_kept number fs.vnodes.order.pairs at.0 (stands.nodes.kept.only number at.0 (ap (option_map (λ (v : Vnode). v.number)) at.2 ∙ ap Some at.3))

-- as much as the heap has of them
module _ (h : Heap) (fs : TreeView) (tree : Tree) (pins : ℕ → ℕ) (stands : Stands h fs tree pins) where
  pub as_many_names : count h.names ≡ length (kept_by fs).names
  as_many_names = sym (length-map (keys_of fs.names.pairs) name_in ∙ length-keys_of fs.names.pairs ∙ stands.names.many)

  pub as_many_blocks : count h.blocks ≡ length (kept_by fs).blocks
  as_many_blocks = sym (length-keys_of fs.blocks.pairs ∙ stands.blocks.many)

  pub as_many_vnodes : count h.vnodes ≡ length (kept_by fs).vnodes
  as_many_vnodes = sym (length-keys_of fs.vnodes.order.pairs ∙ stands.nodes.kept.many)

module _ (h : Heap) (fs : TreeView) (plain : Plain) (stands : Stands h fs plain.files.tree (pins_in plain)) where
  pub named : AllByRecursion IsNameKey (keys_of fs.names.pairs)
  named = each_kept same_key_laws same_name key_of IsNameKey h.names fs.names stands.names (λ slot name is. made_is_key name.dir name.name)

  true_names : AllByRecursion (λ key. IsTrueName plain.files.tree (name_in key)) (keys_of fs.names.pairs)
  true_names = each_kept same_key_laws same_name key_of (λ key. IsTrueName plain.files.tree (name_in key)) h.names fs.names stands.names
      (λ slot name is. subst (IsTrueName plain.files.tree) (says name) (it name (stands.true_names slot name is)))
    where
      it : (name : Name) → found plain.files.tree name.dir name.name ≡ Some name.node → IsTrueName plain.files.tree (name.dir, name.name)
      it name there = record { there = ap is_some there; proper = no_dots name.name (entry_name plain.files.tree name.dir name.name name.node stands.is_tree there) }

  on_disk : AllByRecursion (λ block. block < plain.files.tree.blocks) (keys_of fs.blocks.pairs)
  on_disk = each_kept nat_eq_equiv eqb-true (λ (b : Block). b.number) (λ block. block < plain.files.tree.blocks) h.blocks fs.blocks stands.blocks
      (λ slot block is. subst (λ n. block.number < n) stands.behind.blocks (slice_get_within fs.disk.blocks block.number block.bytes (stands.true_blocks slot block is)))

  in_use : AllByRecursion (λ node. is_in_use plain.files.tree node ≡ true) (keys_of fs.vnodes.order.pairs)
  in_use = each_kept nat_eq_equiv eqb-true (λ (v : Vnode). v.number) (λ node. is_in_use plain.files.tree node ≡ true) h.vnodes fs.vnodes.order stands.nodes.kept
      (λ slot vnode is. ap is_some (node_of_inode fs.disk.blocks plain.files.tree vnode.number vnode.inode stands.behind (stands.true_nodes slot vnode is)).is)

  pub may_keep : MayKeep plain (kept_by fs)
  may_keep = record {
    names = once_names (keys_of fs.names.pairs) named (kept_once same_key_laws same_name key_of h.names fs.names stands.names);
    blocks = kept_once nat_eq_equiv eqb-true (λ (b : Block). b.number) h.blocks fs.blocks stands.blocks;
    vnodes = kept_once nat_eq_equiv eqb-true (λ (v : Vnode). v.number) h.vnodes fs.vnodes.order stands.nodes.kept;
    pinned = λ node is. held_kept h fs plain.files.tree (pins_in plain) stands node (pinned_held plain node is);
    true_names = all_named (IsTrueName plain.files.tree) (keys_of fs.names.pairs) true_names;
    on_disk = on_disk;
    in_use = in_use;
  }

-- so what is kept in a world that a store stands for may be kept there
pub may_keep_in : (script : Script) (objects : Objects) (world : World) → StandsFor script objects world → MayKeep world.plain world.kept
may_keep_in script objects world stands =
    subst (MayKeep world.plain) (sym stands.tree.kept) (may_keep objects.heap objects.tree world.plain stands.tree.stands)
