-- The machine once a number is closed whose socket, where that goes, has lost its name before.
use Rattle.std.proofs.Common.{◌≡◌, ◌≢◌, ◌⊎◌, ℕ, ◌<◌, ◌≤◌, ◌==◌, Bool, true, false, cond, List, [], length, Option, None, Some, IsSome, refl, sym, ap, subst, ◌∙◌, arith, inl, inr, Contains}
use Rattle.std.specs.Option.{option_map}
use Rattle.std.proofs.lemmas.Bool.Decides.{eqb_tells}
use Rattle.kheap_slabs.specs.Objects.{object}
use Rattle.kheap_slabs.specs.declared.objects.Desc.{Desc}
use Rattle.kheap_slabs.specs.declared.objects.Descriptor.{Descriptor as HeldDescriptor}
use Rattle.kheap_slabs.specs.declared.objects.Leaf.{Leaf}
use Rattle.kheap_slabs.specs.declared.objects.Proc.{Proc}
use Rattle.kheap_slabs.specs.declared.objects.Target.{Target as HeldTarget}
use Rattle.kheap_slabs.specs.declared.objects.Target.TheVariants as target
use Rattle.kheap_slabs.specs.Heap.{Heap}
use Rattle.memfs_ops.specs.FileTree.{TreeView}
use Rattle.open_laws.specs.Described.{counted_in, target_in}
use Rattle.open_laws.specs.Open.{descriptor_by}
use Rattle.open_laws.specs.Owned.{HasItsOwners, sock_in, sock_of, socks_named}
use Rattle.open_laws.proofs.OwnerLemmas.{named_by as sock_named_by}
use Rattle.open_laws.specs.Socketed.{AreRenamed}
use Rattle.open_laws.proofs.SocketLemmas.{closed_renamed}
use Rattle.open_laws.specs.Placed.{Numbers}
use Rattle.posix_defs.specs.DiskFormat.{table_nodes}
use Rattle.posix_defs.specs.Files.Closing.{description_gone, gone_in, left_fifo, released, target_closed}
use Rattle.posix_defs.specs.Files.Descriptions.{Description, OnNode, OnPipe, OnSocket, Target, description_at, may_write, with_description}
use Rattle.posix_defs.specs.Files.Descriptors.{is_named}
use Rattle.posix_defs.specs.Files.State.{Files, node_of as file_node, opens, pipe_at, with_descriptions, with_open, with_pipe, with_sockets, with_tree}
use Rattle.posix_defs.specs.Pipe.{after_close as pipe_after_close}
use Rattle.posix_defs.specs.IsTree.{IsTree}
use Rattle.posix_defs.specs.PathCalls.{is_socket, is_socket_kind, kind_in}
use Rattle.posix_defs.specs.SocketLinks.{WaitsFor, WaitsNowhere}
use Rattle.posix_defs.specs.Sockets.{Sockets, after_close as sockets_after_close, sock_at, with_name}
use Rattle.posix_defs.specs.Tree.{Node, Tree, links_at, links_in, node_at, with_node}
use Rattle.posix_defs.specs.TreeChanges.{closed}
use Rattle.posix_defs.proofs.TreeNodes.{blocks-with_node}
use Rattle.tree_laws.proofs.OtherNodes.{closed_nodes}
use Rattle.socket_laws.proofs.SocketCalls.{connected_there}
use Rattle.usock_core.specs.Standing.{StandsFor as SocketsStandFor}
use Rattle.usock_core.proofs.OneTable.{nowhere_in}
use Rattle.proc_table.specs.Table.{TableView}
use Rattle.proc_numbers.specs.Closed.{without_in, without_number}
use Rattle.proc_numbers.specs.Having.{AreListed, HaveOpen, node_closed}
use Rattle.proc_numbers.specs.Naming.{named_at}
use Rattle.proc_numbers.proofs.NumberNames.{descriptor_at_is}
use Rattle.proc_numbers.proofs.NamedOpen.{described_so}
use Rattle.proc_files.specs.Closing.{CachesChange, ClosesHolding}
use Rattle.proc_files.specs.Holding.{HoldFiles}
use Rattle.proc_files.proofs.Beside.{have_beside, listed_beside, owners_beside}
use Rattle.proc_files.proofs.Closings.{Goes, closes_so, goes_with, none_names, still_named, tree_left}
use Rattle.proc_numbers.proofs.Told.{keyed_there, on_named, socket_there}
use Rattle.proc_files.specs.Names.{name_of}
use Rattle.proc_files.specs.SocketGoing.{socket_going, unnamed}
use Rattle.proc_files.specs.NameHolding.{HoldNames}
use Rattle.proc_files.proofs.GoesOn.{names_on}
use Rattle.proc_files.proofs.Gone.{close_nodes, close_waits, nodes_placed, unnamed_goes, waits_placed}
use Rattle.proc_files.proofs.Named.{named_here, waits_by_place}
use Rattle.proc_files.proofs.Placed.{placed_inside, placed_node}
use Rattle.proc_files.proofs.Tables.{node_of}
use Rattle.proc_files.proofs.Ties.{bound_on}

-- ---- the tree

-- a socket's name has a link, so it isn't closed away
pub closed_names : (tree : Tree) (number : ℕ) → IsTree tree → (other : ℕ) → is_socket tree other ≡ true → is_socket (closed tree number) other ≡ true
closed_names tree number is other named = by_links (eqb_tells (links_at tree number) 0)
  where
    by_links : (((links_at tree number == 0) ≡ true) × (links_at tree number ≡ 0)) ⊎ (((links_at tree number == 0) ≡ false) × (links_at tree number ≢ 0)) → is_socket (closed tree number) other ≡ true
    by_links (inr some) = ap (λ b. is_socket (cond b (with_node tree number None) tree) other) some.0 ∙ named
    by_links (inl none) = ap (λ (o : Option Node). is_socket_kind (kind_in o)) (closed_nodes tree number other apart) ∙ named
      where
        linked : (o : Option Node) → node_at tree other ≡ o → is_socket_kind (kind_in o) ≡ true → 0 < links_in o
        linked None at kind = cc
        linked (Some node) at kind = (is.nodes other node at).socket kind

        apart : other ≢ number
        apart same =
            let some = linked (node_at tree other) refl named in
            let zero : links_at tree other ≡ 0 = ap (links_at tree) same ∙ none.1 in omega (arith, some, zero)

pub closed_blocks : (tree : Tree) (number : ℕ) → (closed tree number).blocks ≡ tree.blocks
closed_blocks tree number = by_links (links_at tree number == 0)
  where
    by_links : (b : Bool) → (cond b (with_node tree number None) tree).blocks ≡ tree.blocks
    by_links true = blocks-with_node tree number None
    by_links false = refl

left_names : (tree : Tree) (gone : Option ℕ) (opened : ℕ → Bool) → IsTree tree → (other : ℕ) → is_socket tree other ≡ true → is_socket (tree_left tree gone opened) other ≡ true
left_names tree None opened is other named = named
left_names tree (Some number) opened is other named = by_opened (opened number)
  where
    by_opened : (b : Bool) → is_socket (cond b tree (closed tree number)) other ≡ true
    by_opened true = named
    by_opened false = closed_names tree number is other named

left_blocks : (tree : Tree) (gone : Option ℕ) (opened : ℕ → Bool) → (tree_left tree gone opened).blocks ≡ tree.blocks
left_blocks tree None opened = refl
left_blocks tree (Some number) opened = by_opened (opened number)
  where
    by_opened : (b : Bool) → (cond b tree (closed tree number)).blocks ≡ tree.blocks
    by_opened true = refl
    by_opened false = closed_blocks tree number

-- ---- a description goes

-- the files without it
abbrev rest : Files → ℕ → Files
rest files place = with_descriptions files (with_description files.descriptions place None)

gone_so : (files : Files) (place : ℕ) (description : Description) → description_at files.descriptions place ≡ Some description → description_gone files place ≡ target_closed (rest files place) description.access description.target
gone_so files place description is = ap (gone_in files place) is

-- one of a socket takes that with it
gone_socket : (files : Files) (place socket : ℕ) (description : Description) → description_at files.descriptions place ≡ Some description → description.target ≡ OnSocket socket
    → description_gone files place ≡ with_sockets (rest files place) (sockets_after_close files.sockets socket)
gone_socket files place socket description is on = gone_so files place description is ∙ ap (target_closed (rest files place) description.access) on

-- one of something else leaves sockets
gone_elsewhere : (files : Files) (place : ℕ) (description : Description) → description_at files.descriptions place ≡ Some description → ((socket : ℕ) → description.target ≡ OnSocket socket → ⊥)
    → (description_gone files place).sockets ≡ files.sockets
gone_elsewhere files place description is off = ap (λ (f : Files). f.sockets) (gone_so files place description is) ∙ by_target description.target off
  where
    by_opens : (number : ℕ) (b : Bool) → (cond b (rest files place) (with_tree (rest files place) (closed files.tree number))).sockets ≡ files.sockets
    by_opens number true = refl
    by_opens number false = refl

    left_or : (from : Files) (number : ℕ) (b : Bool) → (cond b from (with_tree from (closed from.tree number))).sockets ≡ from.sockets
    left_or from number true = refl
    left_or from number false = refl

    by_fifo : (from : Files) (o : Option ℕ) → from.sockets ≡ files.sockets → (left_fifo from o).sockets ≡ files.sockets
    by_fifo from None same = same
    by_fifo from (Some number) same = left_or from number (opens from number) ∙ same

    by_target : (what : Target) → ((socket : ℕ) → what ≡ OnSocket socket → ⊥) → (target_closed (rest files place) description.access what).sockets ≡ files.sockets
    by_target (OnNode number) never = by_opens number (opens (rest files place) number)
    by_target (OnPipe pipe) never = by_fifo (with_pipe (rest files place) pipe (pipe_after_close (pipe_at files pipe) (may_write description.access))) (file_node files (OnPipe pipe)) refl
    by_target (OnSocket socket) never = absurd (never socket refl)

-- the socket that goes with one descriptor less of a Desc is the one that it is open on, which is named
pub going_named : (h : Heap) (at : ℕ) (desc : Desc) → object h.descs at ≡ Some desc → (key : ℕ) → socket_going desc ≡ Some key → Contains (socks_named h.descs) key
going_named h at desc there key is = sock_named_by h.descs at key (ap sock_in there ∙ by_count (desc.count == 1) is)
  where
    by_count : (b : Bool) → cond b (sock_of desc.target) None ≡ Some key → sock_of desc.target ≡ Some key
    by_count true goes = goes
    by_count false goes = cc

-- ---- a number is closed

-- What a close leaves of names, where the socket that goes has none: the machine is the same as if it had kept it, nobody has
-- another name, and nobody waits anew.
pub record ClosesUnnamed (files before : Files) (pid fd : ℕ) : Type 0 where
  pub same : without_number files pid fd ≡ without_number before pid fd
  pub nodes : (place : ℕ) → node_of (without_number files pid fd).sockets place ≡ node_of files.sockets place
  pub waits : (listener place : ℕ) → WaitsFor (without_number files pid fd).sockets listener place → WaitsFor files.sockets listener place

-- sockets stay
sockets_stay : (files : Files) (pid fd : ℕ) → (without_number files pid fd).sockets ≡ files.sockets → ClosesUnnamed files files pid fd
sockets_stay files pid fd same = record {
  same = refl;
  nodes = λ place. ap (λ (sockets : Sockets). node_of sockets place) same;
  waits = λ listener place waits. subst (λ (sockets : Sockets). WaitsFor sockets listener place) same waits;
}

-- ---- by the heap

module _ (numbers : Numbers) (others : ℕ → ℕ) (old mid new : Heap) (kept : TableView) (fs now : TreeView) (names after : List (Option ℕ)) (files : Files) (pid fd : ℕ)
    (held : HeldDescriptor) (desc : Desc) (is : named_at old kept pid fd ≡ Some held) (there : object old.descs held.desc ≡ Some desc)
    (listed : AreListed old kept) (owners : HasItsOwners old []) (before : HoldNames numbers others old kept fs names files)
    (procs : mid.procs ≡ old.procs) (leaves : mid.leaves ≡ old.leaves) (descs : mid.descs ≡ old.descs) (listed_mid : AreListed mid kept) (owners_mid : HasItsOwners mid [])
    (hold : HoldNames numbers others mid kept fs after (unnamed numbers files (socket_going desc)))
    (closes : ClosesHolding mid new kept pid fd) (listed_new : AreListed new kept) (owners_new : HasItsOwners new [])
    (leads : (n : Numbers) (o : ℕ → ℕ) (f : Files) → HoldFiles n o mid kept fs f → HoldFiles n o new kept now (without_number f pid fd)) where
  abbrev going : Option ℕ
  going = socket_going desc

  abbrev first : Files
  first = unnamed numbers files going

  -- the heap before the caches changed
  back : CachesChange new closes.mid
  back =
      subst (λ (h : Heap). closes.mid ≡ record h { vnodes = closes.mid.vnodes; names = closes.mid.names; blocks = closes.mid.blocks; high = closes.mid.high }) (sym closes.caches) refl

  held_new : HoldFiles numbers others new kept now (without_number first pid fd)
  held_new = leads numbers others first hold.held

  listed_then : AreListed closes.mid kept
  listed_then = listed_beside new closes.mid back kept listed_new

  owners_then : HasItsOwners closes.mid []
  owners_then = owners_beside new closes.mid back [] owners_new

  have_then : HaveOpen numbers closes.mid kept (without_number first pid fd)
  have_then = have_beside new closes.mid back numbers kept (without_number first pid fd) (without_number first pid fd) refl refl refl refl refl held_new.opened

  -- what is named is as before
  named_mid : named_at mid kept pid fd ≡ named_at old kept pid fd
  named_mid =
      ap (λ (l : List (Option Leaf)). named_at (record old { procs = mid.procs; leaves = l }) kept pid fd) leaves
      ∙ ap (λ (p : List (Option Proc)). named_at (record old { procs = p }) kept pid fd) procs

  goes : Goes first (without_number first pid fd) (node_closed mid (named_at mid kept pid fd))
  goes =
      goes_with mid closes.mid kept pid fd listed_mid owners_mid closes.closes listed_then owners_then numbers first hold.held.opened have_then (node_closed mid (named_at mid kept pid fd)) refl

  -- ---- what goes

  abbrev place : ℕ
  place = numbers.descs held.desc

  is_mid : named_at mid kept pid fd ≡ Some held
  is_mid = named_mid ∙ is

  there_mid : object mid.descs held.desc ≡ Some desc
  there_mid = ap (λ (d : List (Option Desc)). object d held.desc) descs ∙ there

  released_so : without_number first pid fd ≡ released (with_open first pid fd None) place
  released_so = closes_so mid closes.mid kept pid fd listed_mid owners_mid closes.closes listed_then owners_then numbers first hold.held.opened have_then held desc is_mid there_mid

  -- another descriptor names the description
  other_names : desc.count ≢ 1 → (without_number first pid fd).sockets ≡ first.sockets
  other_names more =
      ap (λ (f : Files). f.sockets) (released_so
      ∙ ap (λ b. cond b (with_open first pid fd None) (description_gone (with_open first pid fd None) place))
      (still_named mid closes.mid kept pid fd listed_mid owners_mid closes.closes listed_then owners_then numbers first hold.held.opened have_then held desc is_mid there_mid more))

  -- or it was the last
  last_gone : desc.count ≡ 1 → without_number first pid fd ≡ description_gone (with_open first pid fd None) place
  last_gone last =
      released_so
      ∙ ap (λ b. cond b (with_open first pid fd None) (description_gone (with_open first pid fd None) place))
      (none_names mid closes.mid kept pid fd listed_mid owners_mid closes.closes listed_then owners_then numbers first hold.held.opened have_then held desc is_mid there_mid last)

  described : description_at first.descriptions place ≡ Some (counted_in numbers desc).is
  described = described_so numbers mid hold.held.opened.list first held.desc desc hold.held.opened.opened there_mid

  not_socket : desc.count ≡ 1 → ((key : ℕ) → desc.target ≡ target.Sock key → ⊥) → (without_number first pid fd).sockets ≡ first.sockets
  not_socket last never =
      ap (λ (f : Files). f.sockets) (last_gone last)
      ∙ gone_elsewhere (with_open first pid fd None) place (counted_in numbers desc).is described (by_target desc.target never)
    where
      by_target : (what : HeldTarget) → ((key : ℕ) → what ≡ target.Sock key → ⊥) → (socket : ℕ) → target_in numbers what ≡ OnSocket socket → ⊥
      by_target (target.Inode number) off socket e = cc
      by_target (target.Pipe pipe) off socket e = cc
      by_target (target.Sock key) off socket e = off key refl

  -- a socket goes
  module _ (last : desc.count ≡ 1) (key : ℕ) (on : desc.target ≡ target.Sock key) (first_is : first ≡ with_sockets files (with_name files.sockets (numbers.socks key) None)) where
    abbrev socket : ℕ
    socket = numbers.socks key

    abbrev table : Sockets
    table = hold.held.opened.opened.socketed.keyed

    stands_table : SocketsStandFor mid table
    stands_table = hold.held.opened.opened.socketed.stands

    renamed : AreRenamed numbers.socks table first.sockets
    renamed = hold.held.opened.opened.socketed.renamed

    named_key : Contains (socks_named mid.descs) key
    named_key = on_named mid held.desc key desc there_mid on

    key_there : IsSome (sock_at table key)
    key_there = keyed_there mid [] key owners_mid named_key table stands_table

    nowhere : WaitsNowhere table key
    nowhere =
        let so = owners_mid.held.socks in
        nowhere_in mid key table (record { sockets = so.sockets; stands = so.stands; used = (socket_there mid [] key owners_mid named_key).used; nowhere = so.held.apart key named_key }) stands_table

    -- by place
    within_before : socket ≤ length files.sockets
    within_before =
        placed_inside numbers.socks before.held.opened.opened.socketed.keyed files.sockets before.held.opened.opened.socketed.renamed key
        (keyed_there old [] key owners (on_named old held.desc key desc there on) before.held.opened.opened.socketed.keyed before.held.opened.opened.socketed.stands)

    gone_first : without_number first pid fd ≡ with_sockets (rest (with_open first pid fd None) place) (sockets_after_close first.sockets socket)
    gone_first =
        last_gone last ∙ gone_socket (with_open first pid fd None) place socket (counted_in numbers desc).is described (ap (target_in numbers) on)

    sockets_gone : (without_number first pid fd).sockets ≡ sockets_after_close first.sockets socket
    sockets_gone = ap (λ (f : Files). f.sockets) gone_first

    -- the machine that kept the name closes the same
    gone_files : without_number files pid fd ≡ with_sockets (rest (with_open files pid fd None) place) (sockets_after_close files.sockets socket)
    gone_files =
        ap (without_in files pid fd) (descriptor_at_is numbers old kept files pid before.held.opened fd ∙ ap (option_map (descriptor_by numbers.descs)) is)
        ∙ ap (λ b. cond b (with_open files pid fd None) (description_gone (with_open files pid fd None) place)) none
        ∙ gone_socket (with_open files pid fd None) place socket (counted_in numbers desc).is
        (described_so numbers old before.held.opened.list files held.desc desc before.held.opened.opened there) (ap (target_in numbers) on)
      where
        none : is_named (with_open files pid fd None).descriptors place ≡ false
        none =
            ap (λ (f : Files). is_named (with_open f pid fd None).descriptors place) (sym first_is)
            ∙ none_names mid closes.mid kept pid fd listed_mid owners_mid closes.closes listed_then owners_then numbers first hold.held.opened have_then held desc is_mid there_mid last

    same : without_number first pid fd ≡ without_number files pid fd
    same =
        gone_first
        ∙ ap (λ (f : Files). with_sockets (rest (with_open f pid fd None) place) (sockets_after_close f.sockets socket)) first_is
        ∙ ap (with_sockets (rest (with_open files pid fd None) place)) (unnamed_goes files.sockets socket within_before)
        ∙ sym gone_files

    nameless : node_of table key ≡ None
    nameless =
        sym (placed_node numbers.socks table first.sockets renamed key key_there)
        ∙ ap (λ (f : Files). node_of f.sockets socket) first_is
        ∙ named_here files.sockets socket None within_before

    nobody_waits : (other : ℕ) → WaitsFor table key other → node_of table other ≡ None
    nobody_waits other waits =
        sym (placed_node numbers.socks table first.sockets renamed other (connected_there table other (stands_table.linked.waiting key other waits)))
        ∙ hold.named.waiting socket (numbers.socks other) (waits_by_place numbers.socks table first.sockets renamed key other waits)

    closed_table : AreRenamed numbers.socks (sockets_after_close table key) (sockets_after_close first.sockets socket)
    closed_table = closed_renamed numbers.socks table first.sockets key stands_table.linked key_there nowhere renamed

    goes_so : ClosesUnnamed first files pid fd
    goes_so = record {
      same = same;
      nodes = λ at.
          ap (λ (sockets : Sockets). node_of sockets at) sockets_gone
          ∙ nodes_placed numbers.socks table (sockets_after_close table key) first.sockets (sockets_after_close first.sockets socket) renamed closed_table
          (close_nodes table key stands_table.linked key_there nowhere nameless nobody_waits) at;
      waits = λ listener at waits.
          waits_placed numbers.socks table (sockets_after_close table key) first.sockets (sockets_after_close first.sockets socket) renamed closed_table
          (close_waits table key stands_table.linked key_there nowhere) listener at
          (subst (λ (sockets : Sockets). WaitsFor sockets listener at) sockets_gone waits);
    }

  -- ---- whatever it names

  stays : going ≡ None → (without_number first pid fd).sockets ≡ first.sockets → ClosesUnnamed first files pid fd
  stays none same =
      let it : first ≡ files = ap (unnamed numbers files) none in
      subst (λ (f : Files). ClosesUnnamed f files pid fd) (sym it) (sockets_stay files pid fd (subst (λ (f : Files). (without_number f pid fd).sockets ≡ f.sockets) it same))

  so : ClosesUnnamed first files pid fd
  so = by_count (eqb_tells desc.count 1)
    where
      by_target : desc.count ≡ 1 → going ≡ sock_of desc.target → (what : HeldTarget) → desc.target ≡ what → ClosesUnnamed first files pid fd
      by_target last at (target.Sock key) on = goes_so last key on (ap (unnamed numbers files) (at ∙ ap sock_of on))
      by_target last at (target.Inode number) on = stays (at ∙ ap sock_of on) (not_socket last (λ key other. (let both = sym on ∙ other in cc)))
      by_target last at (target.Pipe pipe) on = stays (at ∙ ap sock_of on) (not_socket last (λ key other. (let both = sym on ∙ other in cc)))

      by_count : (((desc.count == 1) ≡ true) × (desc.count ≡ 1)) ⊎ (((desc.count == 1) ≡ false) × (desc.count ≢ 1)) → ClosesUnnamed first files pid fd
      by_count (inl last) = by_target last.1 (ap (λ b. cond b (sock_of desc.target) None) last.0) desc.target refl
      by_count (inr more) = stays (ap (λ b. cond b (sock_of desc.target) None) more.0) (other_names more.1)

  -- all that heap, table, tree and names stand for
  pub closed_names_hold : HoldNames numbers others new kept now after (without_number files pid fd)
  closed_names_hold = subst (λ (f : Files). HoldNames numbers others new kept now after f) so.same (record {
    held = held_new;
    bound =
        bound_on (name_of mid.socks) (name_of new.socks) after hold.bound
        (names_on numbers mid new kept first (without_number first pid fd) owners_mid hold.held.opened
        (λ n keeps have. (leads n others first (record { opened = have; tree = hold.held.tree; nodes = hold.held.nodes; beside = hold.held.beside })).opened) so.nodes);
    named = record {
      bound = λ place number is none.
          subst (λ t. is_socket t number ≡ true) (sym goes.tree)
          (left_names first.tree (node_closed mid (named_at mid kept pid fd)) (opens (without_number first pid fd)) hold.held.tree.is_tree number (hold.named.bound place number (sym (so.nodes place) ∙ is) none));
      waiting = λ listener place waits. so.nodes place ∙ hold.named.waiting listener place (so.waits listener place waits);
    };
    places =
        subst (λ n. table_nodes n < length after)
        (sym (ap (λ t. t.blocks) goes.tree ∙ left_blocks first.tree (node_closed mid (named_at mid kept pid fd)) (opens (without_number first pid fd)))) hold.places;
  })
