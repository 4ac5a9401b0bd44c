-- What a made, linked or freed node of the disk is in the tree.
use Rattle.std.proofs.Common.{◌≡◌, ◌≢◌, ℕ, ◌+◌, ◌-◌, ◌≤◌, Bool, true, false, cond, not, ◌&&◌, eqb, List, Option, Some, None, sym, ap, subst, ◌∙◌}
use Rattle.std.specs.Option.{option_map}
use Rattle.std.proofs.lemmas.Bool.{cond-true, cond-false, eq-eqb, ne_eqb}
use Rattle.kabi_types.specs.declared.inodes.Inode.{Inode}
use Rattle.posix_defs.specs.DiskFormat.{table_nodes}
use Rattle.posix_defs.specs.SoundDisk.{HasInode, HasNode}
use Rattle.posix_defs.specs.DiskTree.{HasContent, HasThere, StandsFor, ChangesNode}
use Rattle.posix_defs.specs.Tree.{Content, File, Directory, SocketName, Fifo, Node, Tree, node_at, with_node, links_in, IsInodeOf}
use Rattle.posix_defs.specs.TreeChanges.{closed, link_added, link_dropped, left_in}
use Rattle.posix_defs.specs.DiskContents.{node_bytes}
use Rattle.disk_laws.proofs.DiskNodes.{node_of_inode}
use Rattle.disk_laws.proofs.DiskStands.{changed_stands}
use Rattle.memfs_node.specs.NodeOnDisk.{DropsLink, Frees, Makes, Retags, new_node}

-- a change of a node, by what is there afterwards
changed : (before after : List (List ℕ)) (tree : Tree) (number : ℕ) (there : Option Node) (inode : Inode) → StandsFor before tree → ChangesNode before after number → HasInode after number inode → HasThere after number there
    → StandsFor after (with_node tree number there)
changed before after tree number there inode stands changes has is =
    let within : number ≤ table_nodes tree.blocks = subst (λ (n : ℕ). number ≤ table_nodes n) (changes.blocks ∙ stands.blocks) has.number.1 in
    changed_stands before after tree number there stands changes has.number.0 within is

pub made_in_tree : (before after : List (List ℕ)) (tree : Tree) (number : ℕ) (content : Content) (inode : Inode) → StandsFor before tree → Makes number before content after inode
    → StandsFor after (with_node tree number (Some (new_node content)))
made_in_tree before after tree number content inode stands m =
    changed before after tree number (Some (new_node content)) inode stands m.changes m.has (record { inode = inode; has = m.has; shows = m.shows; content = m.holds })

pub freed_in_tree : (before after : List (List ℕ)) (tree : Tree) (number : ℕ) (old : Inode) → StandsFor before tree → Frees number before old after → StandsFor after (with_node tree number None)
freed_in_tree before after tree number old stands f = changed before after tree number None f.gone.0 stands f.changes f.gone.1 f.gone

-- ---- links

-- what a node holds goes by its bytes, not by what else the inode says
content_stays : (before after : List (List ℕ)) (number : ℕ) (old new : Inode) (content : Content) → new.kind ≡ old.kind → node_bytes after new ≡ node_bytes before old → HasContent before number old content
    → HasContent after number new content
content_stays before after number old new (File bytes) kind same has = same ∙ has
content_stays before after number old new (Directory parent entries) kind same has = record { kind = kind ∙ has.kind; each = has.each; bytes = same ∙ has.bytes }
content_stays before after number old new SocketName kind same has = tt
content_stays before after number old new Fifo kind same has = tt

relinked : (before after : List (List ℕ)) (tree : Tree) (number links : ℕ) (old new : Inode) (node : Node) → StandsFor before tree → IsInodeOf node old → HasContent before number old node.content
    → Retags number before old old.kind links after new → StandsFor after (with_node tree number (Some (record node { links = links })))
relinked before after tree number links old new node stands shows content r =
    let kind : new.kind ≡ old.kind = ap (λ (i : Inode). i.kind) r.fields in
    changed before after tree number (Some (record node { links = links })) new stands r.changes r.has (
    record {
      inode = new;
      has = r.has;
      shows = record { kind = kind ∙ shows.kind; links = ap (λ (i : Inode). i.nlink) r.fields; size = ap (λ (i : Inode). i.size) r.fields ∙ shows.size };
      content = content_stays before after number old new node.content kind r.bytes content;
    }
    )

pub added_in_tree : (before after : List (List ℕ)) (tree : Tree) (number : ℕ) (old new : Inode) → StandsFor before tree → HasNode before number old → Retags number before old old.kind (old.nlink + 1) after new
    → StandsFor after (link_added tree number)
added_in_tree before after tree number old new stands has r =
    let is = node_of_inode before tree number old stands has in
    let links : old.nlink + 1 ≡ is.node.links + 1 = ap (λ (n : ℕ). n + 1) is.shows.links in
    let to : link_added tree number ≡ with_node tree number (Some (record is.node { links = old.nlink + 1 })) =
    ap (λ (there : Option Node). with_node tree number (option_map {T = Node} (λ node. record node { links = node.links + 1 }) there)) is.is
    ∙ ap (λ (n : ℕ). with_node tree number (Some (record is.node { links = n }))) (sym links) in
    subst (λ (t : Tree). StandsFor after t) (sym to) (relinked before after tree number (old.nlink + 1) old new is.node stands is.shows is.content r)

-- what is left of the node
left_is : (tree : Tree) (number : ℕ) (old : Inode) (node : Node) (opened freed : Bool) → node_at tree number ≡ Some node → IsInodeOf node old → freed ≡ (eqb old.nlink 1 && not opened)
    → link_dropped tree number opened ≡ with_node tree number (cond freed None (Some (record node { links = old.nlink - 1 })))
left_is tree number old node opened freed there shows is =
    ap (λ (o : Option Node). with_node tree number (left_in opened o)) there
    ∙ ap (λ (n : ℕ). with_node tree number (cond (eqb n 1 && not opened) None (Some (record node { links = n - 1 })))) (sym shows.links)
    ∙ ap (λ (b : Bool). with_node tree number (cond b None (Some (record node { links = old.nlink - 1 })))) (sym is)

dropped : (before after : List (List ℕ)) (tree : Tree) (number : ℕ) (old new : Inode) (node : Node) (freed : Bool) → StandsFor before tree → IsInodeOf node old → HasContent before number old node.content
    → DropsLink freed number before old after new → StandsFor after (with_node tree number (cond freed None (Some (record node { links = old.nlink - 1 }))))
dropped before after tree number old new node true stands shows content gone = freed_in_tree before after tree number old stands gone
dropped before after tree number old new node false stands shows content r = relinked before after tree number (old.nlink - 1) old new node stands shows content r

pub dropped_in_tree : (before after : List (List ℕ)) (tree : Tree) (number : ℕ) (old new : Inode) (opened freed : Bool) → StandsFor before tree → HasNode before number old → freed ≡ (eqb old.nlink 1 && not opened)
    → DropsLink freed number before old after new → StandsFor after (link_dropped tree number opened)
dropped_in_tree before after tree number old new opened freed stands has is drops =
    let at = node_of_inode before tree number old stands has in
    subst (λ (t : Tree). StandsFor after t) (sym (left_is tree number old at.node opened freed at.is at.shows is)) (dropped before after tree number old new at.node freed stands at.shows at.content drops)

links_are : (disk : List (List ℕ)) (tree : Tree) (number : ℕ) (old : Inode) → StandsFor disk tree → HasNode disk number old → links_in (node_at tree number) ≡ old.nlink
links_are disk tree number old stands has = let is = node_of_inode disk tree number old stands has in ap links_in is.is ∙ sym is.shows.links

pub closed_in_tree : (before after : List (List ℕ)) (tree : Tree) (number : ℕ) (old : Inode) → StandsFor before tree → HasNode before number old → old.nlink ≡ 0 → Frees number before old after → StandsFor after (closed tree number)
closed_in_tree before after tree number old stands has none frees =
    let at = links_are before tree number old stands has ∙ none in
    subst (λ (t : Tree). StandsFor after t) (sym (cond-true (eqb (links_in (node_at tree number)) 0) (with_node tree number None) tree (eq-eqb (links_in (node_at tree number)) 0 at)))
    (freed_in_tree before after tree number old stands frees)

pub stays_open : (disk : List (List ℕ)) (tree : Tree) (number : ℕ) (old : Inode) → StandsFor disk tree → HasNode disk number old → old.nlink ≢ 0 → closed tree number ≡ tree
stays_open disk tree number old stands has some =
    let at = links_are disk tree number old stands has in
    cond-false (eqb (links_in (node_at tree number)) 0) (with_node tree number None) tree (ne_eqb (links_in (node_at tree number)) 0 (λ e. some (sym at ∙ e)))
