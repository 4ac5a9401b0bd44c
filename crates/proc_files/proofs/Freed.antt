-- What stands once a socket's name has gone from the tree, and once a socket has lost its name.
use Rattle.std.proofs.Common.{◌≡◌, ℕ, zero, suc, ◌<◌, List, [], ◌∷◌, length, Option, None, Some, IsSome, is_some, unwrap_or, refl, sym, ap, subst, ◌∙◌, arith}
use Rattle.std.specs.Prelude.{slice_set}
use Rattle.std.proofs.lemmas.List.{length-set, set-get_or}
use Rattle.kheap_slabs.specs.Objects.{object, without}
use Rattle.kheap_slabs.specs.Heap.{Heap}
use Rattle.memfs_ops.specs.FileTree.{TreeView}
use Rattle.open_laws.specs.Owned.{HasItsOwners}
use Rattle.open_laws.specs.Socketed.{AreRenamed, socket_by}
use Rattle.open_laws.proofs.SocketLemmas.{placed_there}
use Rattle.open_laws.specs.Placed.{Numbers}
use Rattle.posix_defs.specs.DiskFormat.{table_nodes}
use Rattle.posix_defs.specs.Files.SocketNames.{after_freeing}
use Rattle.posix_defs.specs.Files.State.{Files, with_sockets}
use Rattle.posix_defs.specs.Socket.{Socket, new_socket}
use Rattle.posix_defs.specs.SocketLinks.{AreNamedOnce, NamesNone}
use Rattle.posix_defs.specs.Sockets.{Sockets, sock_at, socket_at, with_name, with_socket}
use Rattle.socket_laws.proofs.ListenerLemmas.{freed_name, no_name_to_free}
use Rattle.socket_laws.proofs.SocketTable.{there_within}
use Rattle.usock_core.specs.Standing.{IsSocketIn, StandsFor as SocketsStandFor}
use Rattle.proc_table.specs.Table.{TableView}
use Rattle.proc_numbers.specs.Having.{HaveOpen}
use Rattle.proc_files.specs.Holding.{HoldFiles}
use Rattle.proc_numbers.specs.Owning.{SocketsChange}
use Rattle.proc_numbers.proofs.Told.{have_after}
use Rattle.proc_files.specs.Names.{AreBound, name_of}
use Rattle.proc_files.specs.NameHolding.{HoldNames}
use Rattle.proc_files.specs.Holders.{HaveNames, HaveNamesBut}
use Rattle.proc_files.proofs.Connected.{name_renamed}
use Rattle.proc_files.proofs.Named.{none_named, taken_names}
use Rattle.proc_files.proofs.Placed.{key_at, once_by_key, once_by_place, placed_inside, placed_node}
use Rattle.proc_files.proofs.Steps.{files_resocketed}
use Rattle.proc_files.proofs.Tables.{name_says, named_used, node_of, node_there}
use Rattle.proc_files.proofs.Ties.{bound_on, none_is}

same_number : {a b : ℕ} → Some a ≡ Some b → a ≡ b
same_number e = cc

-- nobody is bound to a node that nobody is bound to
pub unset : (names : List (Option ℕ)) (node : ℕ) → object names node ≡ None → names ≡ without names node
unset names node none = sym (ap (slice_set names node) (sym none) ∙ set-get_or names node None)

-- a socket that is there stands at its place
own_place : (sockets : Sockets) (place : ℕ) → place < length sockets → with_socket sockets place (sock_at sockets place) ≡ sockets
own_place [] place within = absurd (omega (arith, within))
own_place (first ∷ rest) zero within = refl
own_place (first ∷ rest) (suc place) within = ap (λ (list : Sockets). first ∷ list) (own_place rest place (omega (arith, within)))

-- one without a name loses none
own_name : (sockets : Sockets) (place : ℕ) (socket : Socket) → sock_at sockets place ≡ Some socket → node_of sockets place ≡ None → with_name sockets place None ≡ sockets
own_name sockets place socket is none =
    ap (λ n. with_socket sockets place (Some (record (socket_at sockets place) { node = n }))) (sym none)
    ∙ ap (with_socket sockets place) (ap (λ (o : Option Socket). Some (unwrap_or o new_socket)) is ∙ sym is)
    ∙ own_place sockets place (there_within sockets place (ap is_some is))

-- who is bound is there
pub bound_there : (h : Heap) (names : List (Option ℕ)) (key node : ℕ) → HasItsOwners h [] → AreBound (name_of h.socks) names → object names node ≡ Some key → IsSocketIn h key
bound_there h names key node owners bound at = record {
  sockets = owners.held.socks.sockets;
  stands = owners.held.socks.stands;
  used = named_used h key node (bound.bound node key at);
}

module _ (numbers : Numbers) (others : ℕ → ℕ) (old : Heap) (kept : TableView) (fs : TreeView) (names : List (Option ℕ)) (files : Files) (held : HoldFiles numbers others old kept fs files)
    (bound : AreBound (name_of old.socks) names) (places : table_nodes files.tree.blocks < length names) where
  -- no name was freed
  pub none_freed : HaveNamesBut None files → HoldNames numbers others old kept fs names files
  none_freed named = record { held = held; bound = bound; named = named; places = places }

  abbrev keyed : Sockets
  keyed = held.opened.opened.socketed.keyed

  stands_keyed : SocketsStandFor old keyed
  stands_keyed = held.opened.opened.socketed.stands

  renamed : AreRenamed numbers.socks keyed files.sockets
  renamed = held.opened.opened.socketed.renamed

  says : (key : ℕ) → name_of old.socks key ≡ node_of keyed key
  says key = name_says old keyed stands_keyed.table key

  once : AreNamedOnce files.sockets
  once =
      once_by_place numbers.socks keyed files.sockets renamed
      (once_by_key keyed names (bound_on (name_of old.socks) (node_of keyed) names bound (λ key. sym (says key))))

  -- the one that was freed was nobody's
  pub unbound_freed : (node : ℕ) → object names node ≡ None → HaveNamesBut (Some node) files
      → HoldNames numbers others old kept fs names (with_sockets files (after_freeing files.sockets (Some node)))
  unbound_freed node none named =
      subst (λ (sockets : Sockets). HoldNames numbers others old kept fs names (with_sockets files sockets)) (sym (no_name_to_free files.sockets node nobody))
      (record { held = held; bound = bound; named = none_named node files named nobody; places = places })
    where
      nobody : NamesNone files.sockets node
      nobody place is =
          let at = key_at numbers.socks keyed files.sockets renamed place node is in
          none_is (sym none ∙ bound.named at.key node (says at.key ∙ at.named))

  -- a socket has no name to lose
  pub nothing_taken : (key : ℕ) → IsSome (sock_at keyed key) → name_of old.socks key ≡ None → HaveNames files
      → HoldNames numbers others old kept fs names (with_sockets files (with_name files.sockets (numbers.socks key) None))
  nothing_taken key there none named =
      subst (λ (sockets : Sockets). HoldNames numbers others old kept fs names (with_sockets files sockets))
      (sym (own_name files.sockets (numbers.socks key) (socket_by numbers.socks (socket_at keyed key)) (placed_there numbers.socks keyed files.sockets key renamed there)
      (placed_node numbers.socks keyed files.sockets renamed key there ∙ sym (says key) ∙ none)))
      (none_freed named)

  -- a socket's
  module _ (node key : ℕ) (at : object names node ≡ Some key) (owners : HasItsOwners old []) (new : Heap) (change : SocketsChange old new [])
      (stands : (table : Sockets) → SocketsStandFor old table → SocketsStandFor new (with_name table key None)) (after : List (Option ℕ)) (bound_after : AreBound (name_of new.socks) after) (after_is : after ≡ without names node) where
    abbrev place : ℕ
    place = numbers.socks key

    key_named : node_of keyed key ≡ Some node
    key_named = sym (says key) ∙ bound.bound node key at

    key_there : IsSome (sock_at keyed key)
    key_there = node_there keyed key node key_named

    place_named : node_of files.sockets place ≡ Some node
    place_named = placed_node numbers.socks keyed files.sockets renamed key key_there ∙ key_named

    have : HaveOpen numbers new kept (with_sockets files (with_name files.sockets place None))
    have =
        have_after numbers old new kept [] change owners files held.opened (with_name keyed key None) (with_name files.sockets place None) (stands keyed stands_keyed)
        (name_renamed numbers.socks keyed files.sockets key None key_there renamed)

    -- it has no name then
    pub name_taken : (freed : Option ℕ) → HaveNamesBut freed files → ((other : ℕ) → freed ≡ Some other → other ≡ node)
        → HoldNames numbers others new kept fs after (with_sockets files (with_name files.sockets place None))
    name_taken freed named which = record {
      held = files_resocketed numbers numbers others old new kept fs files (with_name files.sockets place None) change.others have held;
      bound = bound_after;
      named = taken_names freed files place node named (placed_inside numbers.socks keyed files.sockets renamed key key_there) place_named once which;
      places = subst (λ (list : List (Option ℕ)). table_nodes files.tree.blocks < length list) (sym after_is) (let same = length-set names node None in omega (arith, same, places));
    }

    pub bound_freed : HaveNamesBut (Some node) files → HoldNames numbers others new kept fs after (with_sockets files (after_freeing files.sockets (Some node)))
    bound_freed named =
        subst (λ (sockets : Sockets). HoldNames numbers others new kept fs after (with_sockets files sockets)) (sym (freed_name files.sockets place node once place_named))
        (name_taken (Some node) named (λ other same. sym (same_number same)))
