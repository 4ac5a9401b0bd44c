-- A name that goes over to another.
use Rattle.std.proofs.Common.{◌≡◌, ◌≢◌, ℕ, zero, suc, ◌+◌, ◌-◌, ◌<◌, ◌≤◌, Bool, true, false, not, ◌&&◌, eqb, List, [], length, Option, Some, None, Result, Ok, Err, refl, sym, ap, ◌∙◌, subst, inl, inr, arith}
use Rattle.std.specs.Prelude.{MatchBool, MatchResult, ◌==◌, if◌then◌else◌}
use Rattle.std.proofs.lemmas.Bool.{cases_Bool, cases_eq, cases_lt, cond-true, cond-false, eq-eqb, ne_eqb, false≢true}
use Rattle.kabi_types.specs.declared.errnos.Errno.{Errno}
use Rattle.kabi_types.specs.declared.errnos.Errno.TheVariants.{EBUSY, EINVAL, EISDIR, ENOSPC, ENOTDIR, ENOTEMPTY}
use Rattle.kabi_types.specs.declared.inodes.DirEntry.{DirEntry}
use Rattle.kabi_types.specs.declared.inodes.Inode.{Inode}
use Rattle.kheap_slabs.specs.Purse.{Purse}
use Rattle.kheap_slabs.specs.Heap.{Heap}
use Rattle.lru_index.specs.NameKeys.{name_key}
use Rattle.posix_defs.specs.IsTree.{IsTree}
use Rattle.posix_defs.specs.DiskTree.{StandsFor}
use Rattle.posix_defs.specs.PathCalls as calls
use Rattle.posix_defs.specs.Paths.{IsLed}
use Rattle.posix_defs.specs.declared.walked.Walked.{Walked}
use Rattle.posix_defs.specs.declared.walked.Walked.TheVariants as walked
use Rattle.posix_defs.specs.PathCalls.{goes_below, is_socket, is_empty, unless}
use Rattle.posix_defs.specs.Tree.{Tree, root, found, found_among, is_directory, entries_at, parent_at, climbed, IsInodeAt}
use Rattle.posix_defs.specs.TreeChanges.{is_at_or_above, with_entries, entry_put, entry_taken, entry_renamed, entry_aimed, hung_if_directory, rename_over, rename_to, takes_entry}
use Rattle.posix_defs.proofs.TreeNodes.{found_in_directory}
use Rattle.disk_laws.proofs.DiskNodes.{one_tree}
use Rattle.tree_laws.proofs.TreeKeeps.{found_not_root}
use Rattle.tree_laws.proofs.TreeRenames.{parent_of_found, rename_over_keeps, rename_to_keeps}
use Rattle.tree_laws.proofs.OtherNodes.{over_names, to_names}
use Rattle.tree_laws.proofs.Ways.{above_decides, climbs_in_time}
use Rattle.name_cache.specs.Names.{name_slot}
use Rattle.cached_disk.specs.TreeGoing.{TreeGoesOn-refl}
use Rattle.memfs_ops.specs.FileTree.{TreeView, Stands, MayWalk, Looks, in_call}
use Rattle.memfs_ops.specs.Changing.{MidWay, ChangedTo}
use Rattle.memfs_ops.specs.Removing.{ToldTo, is_held, TellsHeld, TellsOpened, HoldsNoSocket}
use Rattle.memfs_ops.specs.Renaming.{IsOffWay, MayReplace, MayMove, unless_told}
use Rattle.memfs_ops.proofs.LookLemmas.{looks_trans}
use Rattle.memfs_ops.proofs.StepLemmas.{mid_stands}
use Rattle.memfs_ops.proofs.RemoveLemmas.{untold, no_entries, no_held, held_false, socket_false, held_is, opened_alike, empty_is, empty_is_not}
use Rattle.memfs_ops.proofs.LinkLemmas.{free_elsewhere}

-- ---- the end of a rename

pub replaced_stands : (heap : Heap) (fs : TreeView) (tree : Tree) (pins : ℕ → ℕ) (dir : ℕ) (name : List ℕ) (number to : ℕ) (new : List ℕ) (replaced : ℕ) (opened : Bool) → IsTree tree → MayReplace tree pins dir name number to new replaced opened
    → name_slot fs.names (name_key dir name) ≡ None → name_slot fs.names (name_key to new) ≡ None → MidWay heap fs tree (rename_over tree dir name number to new replaced opened) pins → Stands heap fs (rename_over tree dir name number to new replaced opened) pins
replaced_stands heap fs tree pins dir name number to new replaced opened is may none none_new mid =
    mid_stands heap fs tree (rename_over tree dir name number to new replaced opened) pins mid
    (rename_over_keeps tree dir name number to new replaced opened is may.there may.target may.other may.directory may.socket may.off)
    (λ slot n there leads. over_names tree dir name number to new replaced opened is may.there may.target may.other may.directory n.dir n.name
    (untold heap.names fs.names dir name slot n (mid 0).names none there) (untold heap.names fs.names to new slot n (mid 0).names none_new there) ∙ leads)

pub moved_stands : (heap : Heap) (fs : TreeView) (tree : Tree) (pins : ℕ → ℕ) (dir : ℕ) (name : List ℕ) (number to : ℕ) (new : List ℕ) → IsTree tree → MayMove tree dir name number to new → (dir ≢ to → takes_entry tree to 0 ≡ true)
    → name_slot fs.names (name_key dir name) ≡ None → MidWay heap fs tree (rename_to tree dir name number to new) pins → Stands heap fs (rename_to tree dir name number to new) pins
moved_stands heap fs tree pins dir name number to new is may takes none mid =
    mid_stands heap fs tree (rename_to tree dir name number to new) pins mid
    (rename_to_keeps tree dir name number to new is may.there may.directory may.free may.valid takes may.off)
    (λ slot n there leads. to_names tree dir name number to new is may.there may.directory n.dir n.name
    (untold heap.names fs.names dir name slot n (mid 0).names none there) (free_elsewhere tree to new n may.free leads) ∙ leads)

-- a rename in one directory, and one to another
pub within_is : (tree : Tree) (dir : ℕ) (name : List ℕ) (number : ℕ) (new : List ℕ) → rename_to tree dir name number dir new ≡ with_entries tree dir (entry_renamed name new number)
within_is tree dir name number new =
    cond-true (eqb dir dir) (with_entries tree dir (entry_renamed name new number)) (hung_if_directory (with_entries (with_entries tree dir (entry_put new number)) dir (entry_taken name)) number dir) (eq-eqb dir dir refl)

pub beyond_is : (tree : Tree) (dir : ℕ) (name : List ℕ) (number to : ℕ) (new : List ℕ) → dir ≢ to → rename_to tree dir name number to new ≡ hung_if_directory (with_entries (with_entries tree to (entry_put new number)) dir (entry_taken name)) number to
beyond_is tree dir name number to new apart =
    cond-false (eqb dir to) (with_entries tree dir (entry_renamed name new number)) (hung_if_directory (with_entries (with_entries tree to (entry_put new number)) dir (entry_taken name)) number to) (ne_eqb dir to apart)

-- ---- the nodes of a rename

up_itself : (tree : Tree) (number steps : ℕ) → parent_at tree number ≡ number → climbed tree steps number ≡ number
up_itself tree number zero is = refl
up_itself tree number (suc steps) is = ap (climbed tree steps) is ∙ up_itself tree number steps is

-- no directory has an entry that names it
pub not_in_itself : (tree : Tree) (dir : ℕ) (name : List ℕ) (number : ℕ) → IsTree tree → found tree dir name ≡ Some number → number ≢ dir
not_in_itself tree dir name number is there same =
    let is_dir : is_directory tree number ≡ true = ap (is_directory tree) same ∙ found_in_directory tree dir name number there in
    let up : parent_at tree number ≡ number = parent_of_found tree dir name number is there is_dir ∙ sym same in
    let way = is.climbs number is_dir in
    found_not_root tree dir name number is there (sym (up_itself tree number way.0 up) ∙ way.1)

pub same_replace : (heap : Heap) (fs : TreeView) (one other : Tree) (mine pins : ℕ → ℕ) (dir : ℕ) (name : List ℕ) (number to : ℕ) (new : List ℕ) (replaced : ℕ) (opened : Bool) → Stands heap fs one mine → Stands heap fs other pins → (opened ≡ false → pins replaced ≡ 0)
    → MayReplace one mine dir name number to new replaced opened → MayReplace other pins dir name number to new replaced opened
same_replace heap fs one other mine pins dir name number to new replaced opened s also held may =
    let same : one ≡ other = one_tree fs.disk.blocks one other s.behind also.behind in
    record {
      there = subst (λ (t : Tree). found t dir name ≡ Some number) same may.there;
      target = subst (λ (t : Tree). found t to new ≡ Some replaced) same may.target;
      other = may.other;
      directory = subst (λ (t : Tree). is_directory t replaced ≡ true → (entries_at t replaced ≡ []) × (opened ≡ false)) same may.directory;
      socket = subst (λ (t : Tree). is_socket t replaced ≡ true → opened ≡ false) same may.socket;
      held = held;
      off = subst (λ (t : Tree). IsOffWay t number to) same may.off;
    }

-- ---- the way up

either_or : (a b : Bool) → (a && b) ≡ false → a ≡ true → b ≡ false
either_or true b is holds = is
either_or false b is holds = absurd (false≢true holds)

pub off_way : (tree : Tree) (number to : ℕ) → IsTree tree → is_directory tree to ≡ true → goes_below tree number to ≡ false → IsOffWay tree number to
off_way tree number to is is_to fine dir steps way =
    let not_above : is_at_or_above tree number to ≡ false = either_or (is_directory tree number) (is_at_or_above tree number to) fine dir in
    false≢true (sym not_above ∙ (above_decides tree number to is is_to).1 (steps, way))

at_root : (tree : Tree) (steps : ℕ) → IsTree tree → climbed tree steps root ≡ root
at_root tree steps is = up_itself tree root steps is.root_parent

-- one step more
pub climbed_more : (tree : Tree) (steps m : ℕ) → climbed tree (steps + 1) m ≡ parent_at tree (climbed tree steps m)
climbed_more tree zero m = refl
climbed_more tree (suc steps) m =
    let next : suc steps + 1 ≡ suc (steps + 1) = omega arith in
    ap (λ n. climbed tree n m) next ∙ climbed_more tree steps (parent_at tree m)

climbed_on : (tree : Tree) (steps more m : ℕ) → climbed tree (steps + more) m ≡ climbed tree more (climbed tree steps m)
climbed_on tree zero more m = let none : 0 + more ≡ more = omega arith in ap (λ n. climbed tree n m) none
climbed_on tree (suc steps) more m =
    let next : suc steps + more ≡ suc (steps + more) = omega arith in
    ap (λ n. climbed tree n m) next ∙ climbed_on tree steps more (parent_at tree m)

-- so far neither the directory nor the root was met
pub record HasClimbed (tree : Tree) (dir other steps at : ℕ) : Type 0 where
  pub way : at ≡ climbed tree steps other
  pub before : (k : ℕ) → k < steps → (climbed tree k other ≢ dir) × (climbed tree k other ≢ root)

pub is_met : (tree : Tree) (dir other steps at : ℕ) → IsTree tree → is_directory tree other ≡ true → HasClimbed tree dir other steps at → at ≡ dir → true ≡ is_at_or_above tree dir other
is_met tree dir other steps at is is_other so here = sym ((above_decides tree dir other is is_other).1 (steps, sym so.way ∙ here))

-- from the root it doesn't go on
pub not_met : (tree : Tree) (dir other steps at : ℕ) → IsTree tree → is_directory tree other ≡ true → HasClimbed tree dir other steps at → at ≢ dir → at ≡ root → false ≡ is_at_or_above tree dir other
not_met tree dir other steps at is is_other so differs top = sym (elim (cases_Bool (is_at_or_above tree dir other)) [
  | inl stands ↦
      let above = (above_decides tree dir other is is_other).0 stands in
      absurd (elim (cases_lt above.0 steps) [
        | inl less ↦ (so.before above.0 less).0 above.1
        | inr more ↦
            let rest : steps + (above.0 - steps) ≡ above.0 = omega arith in
            let up : climbed tree above.0 other ≡ root = ap (λ n. climbed tree n other) (sym rest) ∙ climbed_on tree steps (above.0 - steps) other ∙ ap (climbed tree (above.0 - steps)) (sym so.way ∙ top) ∙ at_root tree (above.0 - steps) is in
            differs (top ∙ sym up ∙ above.1)
      ])
  | inr otherwise ↦ otherwise
])

-- no way up is longer than there are nodes
pub in_time : (tree : Tree) (dir other steps at : ℕ) → IsTree tree → is_directory tree other ≡ true → HasClimbed tree dir other steps at → length tree.nodes ≤ steps → at ≡ root
in_time tree dir other steps at is is_other so enough =
    let top = climbs_in_time tree other is is_other in
    let rest : length tree.nodes + (steps - length tree.nodes) ≡ steps = omega arith in
    so.way ∙ ap (λ n. climbed tree n other) (sym rest) ∙ climbed_on tree (length tree.nodes) (steps - length tree.nodes) other ∙ ap (climbed tree (steps - length tree.nodes)) top ∙ at_root tree (steps - length tree.nodes) is

pub climbs_on : (tree : Tree) (dir other steps at up : ℕ) → HasClimbed tree dir other steps at → at ≢ dir → at ≢ root → up ≡ parent_at tree at → HasClimbed tree dir other (steps + 1) up
climbs_on tree dir other steps at up so differs below is = record {
  way = is ∙ ap (parent_at tree) so.way ∙ sym (climbed_more tree steps other);
  before = λ k less. elim (cases_eq k steps) [
    | inl e ↦
        let here : climbed tree k other ≡ at = ap (λ n. climbed tree n other) e ∙ sym so.way in
        ((λ same. differs (sym here ∙ same)), (λ same. below (sym here ∙ same)))
    | inr other_step ↦ so.before k (omega (arith, less, other_step))
  ];
}

pub climbed_directory : (tree : Tree) (steps m : ℕ) → IsTree tree → is_directory tree m ≡ true → is_directory tree (climbed tree steps m) ≡ true
climbed_directory tree zero m is is_dir = is_dir
climbed_directory tree (suc steps) m is is_dir = climbed_directory tree steps (parent_at tree m) is (is.parents m is_dir)

-- A way up from a directory was begun, of which so many steps are left.
pub record Climbs (old now : Heap) (before after : Purse) (was is : TreeView) (dir other most left at : ℕ) : Type 0 where
  pub looks : Looks old now before after was is
  pub way : (tree : Tree) (pins : ℕ → ℕ) → Stands old was tree pins → HasClimbed tree dir other (most - left) at
  pub within : left ≤ most

pub climbs_none : (heap : Heap) (purse : Purse) (fs : TreeView) (dir other most : ℕ) → MayWalk heap purse → Climbs heap heap purse purse fs fs dir other most most other
climbs_none heap purse fs dir other most may = record {
  looks = record { on = TreeGoesOn-refl (in_call heap purse fs); stands = λ tree pins s. s; may = may };
  way = λ tree pins stands. subst (λ (n : ℕ). HasClimbed tree dir other n other) none (record { way = refl; before = λ k less. absurd (omega (arith, less)) });
  within = omega arith;
}
  where
    none : 0 ≡ most - most
    none = omega arith

pub climbs_more : (old now next : Heap) (before after last : Purse) (was is end : TreeView) (dir other most left at up : ℕ) → Climbs old now before after was is dir other most left at → at ≢ dir → at ≢ root → left ≢ 0
    → Looks now next after last is end → ((tree : Tree) (pins : ℕ → ℕ) → Stands now is tree pins → up ≡ parent_at tree at) → Climbs old next before last was end dir other most (left - 1) up
climbs_more old now next before after last was is end dir other most left at up so differs below some looks parent = record {
  looks = looks_trans old now next before after last was is end so.looks looks;
  way = λ tree pins stands.
      let within = so.within in
      let steps : (most - left) + 1 ≡ most - (left - 1) = omega (arith, within, some) in
      subst (λ (n : ℕ). HasClimbed tree dir other n up) steps (climbs_on tree dir other (most - left) at up (so.way tree pins stands) differs below (parent tree pins (so.looks.stands tree pins stands)));
  within = let within = so.within in omega (arith, within);
}

-- where it has ended, the last directory decides
pub decided : (disk : List (List ℕ)) (tree : Tree) (dir other most left at : ℕ) → StandsFor disk tree → IsTree tree → is_directory tree other ≡ true → most ≡ length disk → left ≡ 0 → HasClimbed tree dir other (most - left) at → eqb at dir ≡ is_at_or_above tree dir other
decided disk tree dir other most left at stands is is_other count none so = elim (cases_eq at dir) [
  | inl here ↦ eq-eqb at dir here ∙ is_met tree dir other (most - left) at is is_other so here
  | inr differs ↦ ne_eqb at dir differs ∙ not_met tree dir other (most - left) at is is_other so differs top
]
  where
    enough : length tree.nodes ≤ most - left
    enough = let nodes = stands.count in let blocks = stands.blocks in omega (arith, nodes, blocks, count, none)

    top : at ≡ root
    top = in_time tree dir other (most - left) at is is_other so enough

-- ---- the trees of a disk in the midst of a change

pub mid_tree : (heap : Heap) (fs : TreeView) (told other_told tree other : Tree) (pins other_pins : ℕ → ℕ) → MidWay heap fs told tree pins → MidWay heap fs other_told other other_pins → tree ≡ other
mid_tree heap fs told other_told tree other pins other_pins mid also = one_tree fs.disk.blocks tree other (mid 0).behind (also 0).behind

-- what doesn't go below itself is another than a directory
pub file_or_apart : (tree : Tree) (number to : ℕ) → is_directory tree to ≡ true → IsOffWay tree number to → number ≢ to
file_or_apart tree number to is_to off same = off (ap (is_directory tree) same ∙ is_to) 0 (sym same)

-- the directory of a name doesn't go
pub dir_stays : (tree : Tree) (pins : ℕ → ℕ) (dir : ℕ) (name : List ℕ) (number to : ℕ) (new : List ℕ) (replaced : ℕ) (opened : Bool) → MayReplace tree pins dir name number to new replaced opened → dir ≢ replaced
dir_stays tree pins dir name number to new replaced opened may same =
    let is_dir : is_directory tree replaced ≡ true = ap (is_directory tree) (sym same) ∙ found_in_directory tree dir name number may.there in
    let none : entries_at tree dir ≡ [] = ap (entries_at tree) same ∙ (may.directory is_dir).0 in
    let both : ◌≡◌ {A = Option ℕ} None (Some number) = sym (ap (λ (es : List DirEntry). found_among es name) none) ∙ may.there in
    absurd (cc)

-- an entry that keeps its name is aimed at another node
pub aimed_mid : (heap : Heap) (fs : TreeView) (told tree : Tree) (pins : ℕ → ℕ) (to number : ℕ) (one other new : List ℕ) → one ≡ new → other ≡ new → MidWay heap fs told (with_entries tree to (entry_renamed one other number)) pins → MidWay heap fs told (with_entries tree to (entry_aimed new number)) pins
aimed_mid heap fs told tree pins to number one other new same also mid =
    subst (λ (n : List ℕ). MidWay heap fs told (with_entries tree to (entry_renamed new n number)) pins) also (subst (λ (n : List ℕ). MidWay heap fs told (with_entries tree to (entry_renamed n other number)) pins) same mid)

pub one_of_has : (first : Bool) (result one other : Inode) (P : Inode → Type 0) → MatchBool first (result ≡ one) (result ≡ other) → (first ≡ true → P one) → (first ≡ false → P other) → P result
one_of_has true result one other P is former latter = subst P (sym is) (former refl)
one_of_has false result one other P is former latter = subst P (sym is) (latter refl)

-- ---- what a rename tells

pub replace_may : (tree : Tree) (pins : ℕ → ℕ) (dir : ℕ) (name : List ℕ) (number to : ℕ) (new : List ℕ) (replaced : ℕ) (opened : Bool) → found tree dir name ≡ Some number → found tree to new ≡ Some replaced → number ≢ replaced → HoldsNoSocket tree pins → IsOffWay tree number to
    → opened ≡ calls.is_held tree (is_held pins) replaced → (is_directory tree replaced && not (is_empty tree replaced)) ≡ false → (is_directory tree replaced && is_held pins replaced) ≡ false → MayReplace tree pins dir name number to new replaced opened
replace_may tree pins dir name number to new replaced opened there target other none off is full used = record {
  there = there;
  target = target;
  other = other;
  directory = λ yes. (no_entries (entries_at tree replaced) (is_not (is_empty tree replaced) (either_or (is_directory tree replaced) (not (is_empty tree replaced)) full yes)), is ∙ held_false (is_held pins replaced) (is_directory tree replaced) (is_socket tree replaced) yes);
  socket = λ yes. is ∙ socket_false (is_held pins replaced) (is_directory tree replaced) (is_socket tree replaced) yes;
  held = λ no. elim (cases_Bool (is_directory tree replaced)) [
    | inl dir_yes ↦ no_held (pins replaced) (either_or (is_directory tree replaced) (is_held pins replaced) used dir_yes)
    | inr file ↦ elim (cases_Bool (is_socket tree replaced)) [
      | inl socket ↦ none replaced socket
      | inr plain ↦ no_held (pins replaced) (sym (held_is (is_held pins replaced) (is_directory tree replaced) (is_socket tree replaced) file plain) ∙ sym is ∙ no)
    ]
  ];
  off = off;
}
  where
    is_not : (b : Bool) → not b ≡ false → b ≡ true
    is_not true e = refl
    is_not false e = absurd (false≢true (sym e))

-- a rename away, in one directory and to another
pub away_within : (tree : Tree) (dir : ℕ) (name : List ℕ) (number : ℕ) (new : List ℕ) (slashed : Bool) → (slashed && not (is_directory tree number)) ≡ false → calls.rename_away tree dir name number dir new slashed ≡ Ok (None, rename_to tree dir name number dir new)
away_within tree dir name number new slashed fine =
    let done : Result (Option ℕ × Tree) Errno = Ok (None, rename_to tree dir name number dir new) in
    let here : (not (eqb dir dir) && not (takes_entry tree dir 0)) ≡ false = ap (λ b. not b && not (takes_entry tree dir 0)) (eq-eqb dir dir refl) in
    cond-false (slashed && not (is_directory tree number)) (Err ENOTDIR) (unless (not (eqb dir dir) && not (takes_entry tree dir 0)) ENOSPC done) fine
    ∙ cond-false (not (eqb dir dir) && not (takes_entry tree dir 0)) (Err ENOSPC) done here

pub away_beyond : (tree : Tree) (dir : ℕ) (name : List ℕ) (number to : ℕ) (new : List ℕ) (slashed : Bool) → (slashed && not (is_directory tree number)) ≡ false → dir ≢ to
    → calls.rename_away tree dir name number to new slashed ≡ unless (not (takes_entry tree to 0)) ENOSPC (Ok (None, rename_to tree dir name number to new))
away_beyond tree dir name number to new slashed fine apart =
    let done : Result (Option ℕ × Tree) Errno = Ok (None, rename_to tree dir name number to new) in
    cond-false (slashed && not (is_directory tree number)) (Err ENOTDIR) (unless (not (eqb dir to) && not (takes_entry tree to 0)) ENOSPC done) fine
    ∙ ap (λ b. unless (not b && not (takes_entry tree to 0)) ENOSPC done) (ne_eqb dir to apart)

-- ---- tests that tell the same

-- the part of a rename over a name that rests on them
abbrev onto_with : Tree → ℕ → List ℕ → ℕ → ℕ → List ℕ → ℕ → Bool → Bool → Result (Option ℕ × Tree) Errno
onto_with tree dir name number to new replaced stays used =
    if number == replaced then Ok (None, tree)
    else unless (is_directory tree replaced && not (is_directory tree number)) EISDIR
    (unless (is_directory tree number && not (is_directory tree replaced)) ENOTDIR
    (unless (is_directory tree replaced && not (is_empty tree replaced)) ENOTEMPTY
    (unless (is_directory tree replaced && used) EBUSY
    (Ok (calls.freed_by tree replaced, rename_over tree dir name number to new replaced stays)))))

pub rename_alike : (tree : Tree) (pins : ℕ → ℕ) (opened held : ℕ → Bool) (dir : ℕ) (name : List ℕ) (number : ℕ) (w : Walked) → IsTree tree → IsLed tree w → TellsOpened tree pins opened → TellsHeld pins held
    → calls.rename_named tree (is_held pins) (is_held pins) dir name number w ≡ calls.rename_named tree opened held dir name number w
rename_alike tree pins opened held dir name number (walked.Node to) is led tells also = refl
rename_alike tree pins opened held dir name number (walked.Named to new replaced slashed) is led tells also =
    ap (λ (stays : Bool). unless (goes_below tree number to) EINVAL (onto_with tree dir name number to new replaced stays (is_held pins replaced))) (opened_alike tree pins opened replaced tells)
    ∙ ap (λ (used : Bool). unless (goes_below tree number to) EINVAL (onto_with tree dir name number to new replaced (calls.is_held tree opened replaced) used)) (sym (also replaced (found_not_root tree to new replaced is led.1)))
rename_alike tree pins opened held dir name number (walked.Free to new slashed) is led tells also = refl
rename_alike tree pins opened held dir name number (walked.Fail errno) is led tells also = refl

-- ---- the faults of a rename over a name

abbrev onto_tests : Bool → Bool → Bool → Bool → Result (Option ℕ × Tree) Errno → Result (Option ℕ × Tree) Errno
onto_tests over under full used led = unless over EISDIR (unless under ENOTDIR (unless full ENOTEMPTY (unless used EBUSY led)))

pub passes : (over under full used : Bool) (tree : Tree) → onto_tests over under full used (Ok (None, tree)) ≡ Ok (None, tree) → (full ≡ false) × (used ≡ false)
passes true under full used tree is = absurd (cc)
passes false true full used tree is = absurd (cc)
passes false false true used tree is = absurd (cc)
passes false false false true tree is = absurd (cc)
passes false false false false tree is = (refl, refl)

-- the size of a directory tells whether it has entries
pub full_alike : (tree : Tree) (number : ℕ) (inode : Inode) (dir empty : Bool) → IsInodeAt tree number inode → dir ≡ is_directory tree number → empty ≡ eqb inode.size 64 → (dir && not empty) ≡ (is_directory tree number && not (is_empty tree number))
full_alike tree number inode true empty shows dir is = elim (cases_eq inode.size 64) [
  | inl none ↦ ap (λ b. true && not b) (is ∙ eq-eqb inode.size 64 none ∙ sym (empty_is tree number inode shows (sym dir) none)) ∙ ap (λ b. b && not (is_empty tree number)) dir
  | inr some ↦ ap (λ b. true && not b) (is ∙ ne_eqb inode.size 64 some ∙ sym (empty_is_not tree number inode shows (sym dir) some)) ∙ ap (λ b. b && not (is_empty tree number)) dir
]
full_alike tree number inode false empty shows file is = ap (λ b. b && not (is_empty tree number)) file

-- what a rename over a name of another node answers
pub onto_is : (tree : Tree) (pins : ℕ → ℕ) (dir : ℕ) (name : List ℕ) (number to : ℕ) (new : List ℕ) (replaced : ℕ) (fault : Option Errno) (moves goes empty used : Bool) → number ≢ replaced → moves ≡ is_directory tree number → goes ≡ is_directory tree replaced
    → (goes && not empty) ≡ (is_directory tree replaced && not (is_empty tree replaced)) → is_held pins replaced ≡ used
    → ((led : Result (Option ℕ × Tree) Errno) → onto_tests (goes && not moves) (moves && not goes) (goes && not empty) (goes && used) led ≡ unless_told fault led)
    → calls.rename_onto tree (is_held pins) (is_held pins) dir name number to new replaced ≡ unless_told fault (Ok (calls.freed_by tree replaced, rename_over tree dir name number to new replaced (calls.is_held tree (is_held pins) replaced)))
onto_is tree pins dir name number to new replaced fault moves goes empty used other from over full held told =
    cond-false (eqb number replaced) (Ok (None, tree)) (onto_tests (is_directory tree replaced && not (is_directory tree number)) (is_directory tree number && not (is_directory tree replaced)) (is_directory tree replaced && not (is_empty tree replaced)) (is_directory tree replaced && is_held pins replaced) led) (ne_eqb number replaced other)
    ∙ ap (λ (n : Bool). onto_tests (is_directory tree replaced && not n) (n && not (is_directory tree replaced)) (is_directory tree replaced && not (is_empty tree replaced)) (is_directory tree replaced && is_held pins replaced) led) (sym from)
    ∙ ap (λ (b : Bool). onto_tests (is_directory tree replaced && not moves) (moves && not (is_directory tree replaced)) b (is_directory tree replaced && is_held pins replaced) led) (sym full)
    ∙ ap (λ (r : Bool). onto_tests (r && not moves) (moves && not r) (goes && not empty) (r && is_held pins replaced) led) (sym over)
    ∙ ap (λ (u : Bool). onto_tests (goes && not moves) (moves && not goes) (goes && not empty) (goes && u) led) held
    ∙ told led
  where
    led : Result (Option ℕ × Tree) Errno
    led = Ok (calls.freed_by tree replaced, rename_over tree dir name number to new replaced (calls.is_held tree (is_held pins) replaced))

-- where there is none, a directory that goes has no entries and no one holds it
pub no_fault : (tree : Tree) (pins : ℕ → ℕ) (replaced : ℕ) (over under empty used goes : Bool) → goes ≡ is_directory tree replaced → (goes && not empty) ≡ (is_directory tree replaced && not (is_empty tree replaced)) → is_held pins replaced ≡ used
    → ((led : Result (Option ℕ × Tree) Errno) → onto_tests over under (goes && not empty) (goes && used) led ≡ led) → ((is_directory tree replaced && not (is_empty tree replaced)) ≡ false) × ((is_directory tree replaced && is_held pins replaced) ≡ false)
no_fault tree pins replaced over under empty used goes is full held told =
    let fine = passes over under (goes && not empty) (goes && used) tree (told (Ok (None, tree))) in
    (sym full ∙ fine.0, ap (λ u. is_directory tree replaced && u) held ∙ ap (λ b. b && used) (sym is) ∙ fine.1)

-- a rename away tells of no socket's name
pub told_nothing : (heap : Heap) (fs : TreeView) (tree next : Tree) (pins : ℕ → ℕ) (takes : Bool) (moved : Result (Unit {0}) Errno) (answer : Result (Option ℕ) Errno) → ChangedTo heap fs tree (unless (not takes) ENOSPC (Ok next)) pins moved
    → MatchResult moved (λ _. answer ≡ Ok None) (λ errno. answer ≡ Err errno) → ToldTo heap fs tree (unless (not takes) ENOSPC (Ok (None, next))) pins answer
told_nothing heap fs tree next pins true moved answer is told = (subst (λ (m : Result (Unit {0}) Errno). MatchResult m (λ _. answer ≡ Ok None) (λ errno. answer ≡ Err errno)) is.0 told, is.1)
told_nothing heap fs tree next pins false moved answer is told = (subst (λ (m : Result (Unit {0}) Errno). MatchResult m (λ _. answer ≡ Ok None) (λ errno. answer ≡ Err errno)) is.0 told, is.1)
