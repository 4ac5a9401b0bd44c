-- What is kept of the tree, and of the descriptions and sockets that name its nodes.
use Rattle.std.proofs.Common.{◌≡◌, ◌≢◌, ℕ, zero, suc, ◌<◌, ◌≤◌, ◌==◌, ◌^◌, ◌%◌, Bool, true, false, cond, List, [], ◌∷◌, ◌++◌, length, Option, None, Some, IsSome, is_some, unwrap_or, slice_index_or, slice_set, refl, ap, sym, ◌∙◌, subst, ◌⊎◌, inl, inr, arith}
use Rattle.std.specs.Option.{option_map}
use Rattle.std.proofs.lemmas.Bool.Decides.{eqb_tells}
use Rattle.std.proofs.lemmas.List.{get_or-set_other}
use Rattle.std.proofs.lemmas.List.Elements.{All-nil}
use Rattle.posix_defs.specs.IsTree.{IsTree}
use Rattle.posix_defs.specs.PathCalls.{is_fifo, is_fifo_kind, is_socket, is_socket_kind, kind_in, kind_of_content}
use Rattle.posix_defs.specs.Pipe.{Pipe, after_close as after_close_pipe, fifo_of, new_pipe}
use Rattle.posix_defs.specs.Socket.{Connected, Listening, Socket, Stage, connected_to, new_socket, peer_of, waiting_of}
use Rattle.posix_defs.specs.SocketLinks.{AreLinked, AreLoose, AreNamedOnce, WaitsNowhere}
use Rattle.posix_defs.specs.Sockets.{Sockets, after_close, after_connect, all_gone, gone, sock_at, socket_at, stage_at, with_socket, with_stage}
use Rattle.posix_defs.specs.Tree.{Content, File, Directory, SocketName, Fifo, Node, Tree, is_directory, is_directory_content, is_directory_in, is_in_use, links_at, links_in, node_at, with_node}
use Rattle.posix_defs.specs.TreeChanges.{closed}
use Rattle.posix_defs.specs.Files.Descriptions.{OnNode, OnPipe, Access, ReadOnly, Description, Descriptions, description_at, may_write, with_description}
use Rattle.posix_defs.specs.Files.SocketNames.{after_freeing, none_bound_to, unnamed}
use Rattle.posix_defs.specs.Files.State.{is_number}
use Rattle.posix_defs.proofs.TreeNodes.{is_number as number_within, node_at-with_node}
use Rattle.socket_laws.proofs.ListenerLemmas.{freed_is_nobodys, freed_once}
use Rattle.socket_laws.proofs.SocketCalls.{first_loose, gone_linked, gone_parted, rest_loose, waiting_loose}
use Rattle.socket_laws.proofs.SocketLinked.{is_or_not}
use Rattle.socket_laws.proofs.SocketNames.{close_once}
use Rattle.socket_laws.proofs.SocketTable.{Changed-with, length-with}
use Rattle.tree_laws.proofs.OtherNodes.{closed_nodes}
use Rattle.tree_laws.proofs.TreeKeeps.{closed_keeps}
use Rattle.machine_laws.proofs.Places.{not_some, some_same}
use Rattle.machine_laws.specs.Bytes.{AreBytes}
use Rattle.machine_laws.proofs.Items.{changed_is, pushed_is, true_false}
use Rattle.machine_laws.proofs.NodesAfter.{Turns}
use Rattle.machine_laws.proofs.FifoPlaces.{closed_fifo, fifo_in, front_fifo, pushed_fifo, stays_fifo}
use Rattle.machine_laws.proofs.Openers.{Opener, described_opener, gone_opener, node_in, pushed_opener, repiped_opener}

-- ---- what holds of each socket

-- it holds of each that is there, and of a new one
abbrev Each : (Socket → Type 0) → Sockets → Type 0
Each P sockets = (place : ℕ) → P (socket_at sockets place)

module _ (P : Socket → Type 0) (new : P new_socket) (staged : (socket : Socket) (stage : Stage) → P socket → P (record socket { stage = stage })) where
  pub put_each : (sockets : Sockets) (place : ℕ) (socket : Socket) → place ≤ length sockets → P socket → Each P sockets → Each P (with_socket sockets place (Some socket))
  put_each sockets place socket within holds each other = let changed = Changed-with sockets place (Some socket) within in elim (eqb_tells other place) [
    | inl alike ↦ subst P (sym (ap (socket_at (with_socket sockets place (Some socket))) alike.1 ∙ changed.at)) holds
    | inr apart ↦ subst P (sym (changed.others other apart.1)) (each other)
  ]

  pub stage_each : (sockets : Sockets) (place : ℕ) (stage : Stage) → place ≤ length sockets → Each P sockets → Each P (with_stage sockets place stage)
  stage_each sockets place stage within each = put_each sockets place (record (socket_at sockets place) { stage = stage }) within (staged (socket_at sockets place) stage (each place)) each

  pub connect_each : (sockets : Sockets) (client listener made : ℕ) → P (connected_to client) → client ≤ length sockets → listener ≤ length sockets → made ≤ length sockets
      → Each P sockets → Each P (after_connect sockets client listener made)
  connect_each sockets client listener made connected client_within listener_within made_within each =
      let one = with_socket sockets made (Some (connected_to client)) in
      let longer = length-with sockets made (Some (connected_to client)) in
      let two = with_stage one client (Connected (Some made) false false) in
      let longer_too = length-with one client (Some (record (socket_at one client) { stage = Connected (Some made) false false })) in
      stage_each two listener (Listening (waiting_of (stage_at sockets listener) ++ made ∷ [])) (omega (arith, listener_within, longer, longer_too))
      (stage_each one client (Connected (Some made) false false) (omega (arith, client_within, longer)) (put_each sockets made (connected_to client) made_within connected each))

  gone_each : (sockets : Sockets) (place : ℕ) → AreLinked sockets → IsSome (sock_at sockets place) → Each P sockets → Each P (gone sockets place)
  gone_each sockets place linked there each other = let parted = gone_parted sockets place linked there in elim (eqb_tells other place) [
    | inl alike ↦ subst P (sym (ap (socket_at (gone sockets place)) alike.1 ∙ parted.gone)) new
    | inr apart ↦ elim (is_or_not (peer_of (stage_at sockets place)) other) [
      | inl is ↦ subst P (sym (parted.alone other is)) (staged (socket_at sockets other) _ (each other))
      | inr isnt ↦ subst P (sym (parted.others other apart.1 isnt)) (each other)
    ]
  ]

  all_gone_each : (sockets : Sockets) (places : List ℕ) → AreLinked sockets → AreLoose sockets places → Each P sockets → Each P (all_gone sockets places)
  all_gone_each sockets [] linked loose each = each
  all_gone_each sockets (place ∷ rest) linked loose each =
      let there = first_loose sockets place rest loose in
      all_gone_each (gone sockets place) rest (gone_linked sockets place linked there (loose.nowhere place (0, omega arith, refl))) (rest_loose sockets place rest linked loose) (gone_each sockets place linked there each)

  pub close_each : (sockets : Sockets) (place : ℕ) → AreLinked sockets → IsSome (sock_at sockets place) → WaitsNowhere sockets place → Each P sockets → Each P (after_close sockets place)
  close_each sockets place linked there nowhere each =
      all_gone_each (gone sockets place) (waiting_of (stage_at sockets place)) (gone_linked sockets place linked there nowhere) (waiting_loose sockets place linked there nowhere) (gone_each sockets place linked there each)

-- a name is taken from whoever has it
freed_each : (P Q : Socket → Type 0) (number : ℕ) → ((socket : Socket) → P socket → Q (unnamed number socket)) → (P new_socket → Q new_socket) → (sockets : Sockets) → Each P sockets → Each Q (none_bound_to sockets number)
freed_each P Q number unbound new [] each place = new (each place)
freed_each P Q number unbound new (o ∷ rest) each zero = go o (each zero)
  where
    go : (o : Option Socket) → P (unwrap_or o new_socket) → Q (unwrap_or (option_map (unnamed number) o) new_socket)
    go None holds = new holds
    go (Some socket) holds = unbound socket holds
freed_each P Q number unbound new (o ∷ rest) each (suc place) = freed_each P Q number unbound new rest (λ other. each (suc other)) place

-- ---- what is kept

-- who has a name has the name of a socket, and what it is to read are bytes
pub record IsWell (tree : Tree) (socket : Socket) : Type 0 where
  pub bound : (number : ℕ) → socket.node ≡ Some number → is_socket tree number ≡ true
  pub bytes : AreBytes socket.bytes

-- what a description opens, but for an end of a FIFO's pipe, is a file, or a directory for reading alone, in which its offset stands between two entries
pub record IsOpened (tree : Tree) (access : Access) (offset number : ℕ) : Type 0 where
  pub used : is_in_use tree number ≡ true
  pub socket : is_socket tree number ≡ false
  pub fifo : is_fifo tree number ≡ false
  pub directory : is_directory tree number ≡ true → access ≡ ReadOnly
  pub between : is_directory tree number ≡ true → offset % 32 ≡ 0

pub record Rooted (descriptions : Descriptions) (tree : Tree) (sockets : Sockets) (pipes : List (Option Pipe)) : Type 0 where
  pub tree_is : IsTree tree
  pub nodes : (place number : ℕ) (description : Description) → description_at descriptions place ≡ Some description → description.target ≡ OnNode number → IsOpened tree description.access description.offset number
  pub unlinked : (n : ℕ) → is_in_use tree n ≡ true → links_at tree n ≡ 0 → Opener descriptions pipes n
  pub wells : Each (IsWell tree) sockets
  pub alone : AreNamedOnce sockets
  -- a pipe that is a FIFO's is that of one that is there, which has no other
  pub fifos : (place number : ℕ) → fifo_in pipes place ≡ Some number → is_fifo tree number ≡ true
  pub sole : (place other number : ℕ) → fifo_in pipes place ≡ Some number → fifo_in pipes other ≡ Some number → place ≡ other

pub new_well : (tree : Tree) → IsWell tree new_socket
new_well tree = record { bound = λ number is. absurd (not_some refl is); bytes = All-nil (λ byte. byte < 2 ^ 8) }

pub staged_well : (tree : Tree) (socket : Socket) (stage : Stage) → IsWell tree socket → IsWell tree (record socket { stage = stage })
staged_well tree socket stage well = record { bound = well.bound; bytes = well.bytes }

-- ---- nodes

-- a node that is closed and has no links has gone
no_links_left : (tree : Tree) (number n : ℕ) → is_in_use tree number ≡ true → n ≡ number → is_in_use (closed tree number) n ≡ true → links_at (closed tree number) n ≡ 0 → ⊥
no_links_left tree number n used_before same used none =
    go (links_at tree number == 0) refl (sym (ap (is_in_use (closed tree number)) same) ∙ used) (sym (ap (links_at (closed tree number)) same) ∙ none)
  where
    go : (b : Bool) → (links_at tree number == 0) ≡ b → is_in_use (cond b (with_node tree number None) tree) number ≡ true → links_at (cond b (with_node tree number None) tree) number ≡ 0 → ⊥
    go true is used_now none_now = true_false (is_in_use (with_node tree number None) number) used_now (ap is_some (node_at-with_node tree number None (number_within tree number used_before)))
    go false is used_now none_now = true_false (links_at tree number == 0) (ap (λ k. k == 0) none_now) is

-- a FIFO is in use, and neither a directory nor a socket's name
fifo_used : (o : Option Node) → is_fifo_kind (kind_in o) ≡ true → is_some o ≡ true
fifo_used None e = absurd (true_false false e refl)
fifo_used (Some node) e = refl

fifo_no_directory : (o : Option Node) → is_fifo_kind (kind_in o) ≡ true → is_directory_in o ≡ false
fifo_no_directory None e = refl
fifo_no_directory (Some node) e = go node.content e
  where
    go : (content : Content) → is_fifo_kind (kind_of_content content) ≡ true → is_directory_content content ≡ false
    go (File bytes) f = refl
    go (Directory parent entries) f = absurd (true_false false f refl)
    go SocketName f = refl
    go Fifo f = refl

fifo_no_socket : (o : Option Node) → is_fifo_kind (kind_in o) ≡ true → is_socket_kind (kind_in o) ≡ false
fifo_no_socket None e = refl
fifo_no_socket (Some node) e = go node.content e
  where
    go : (content : Content) → is_fifo_kind (kind_of_content content) ≡ true → is_socket_kind (kind_of_content content) ≡ false
    go (File bytes) f = refl
    go (Directory parent entries) f = refl
    go SocketName f = absurd (true_false false f refl)
    go Fifo f = refl

-- ---- another tree

-- A call has left another tree, and maybe freed the name of a socket.
pub turned_rooted : (descriptions : Descriptions) (tree after : Tree) (sockets : Sockets) (pipes : List (Option Pipe)) (opened busy : ℕ → Bool) (freed : Option ℕ) → Rooted descriptions tree sockets pipes → IsTree after
    → Turns tree after opened busy freed → ((n : ℕ) → opened n ≡ true → Opener descriptions pipes n) → ((n : ℕ) → Opener descriptions pipes n → opened n ≡ true)
    → ((n : ℕ) → Opener descriptions pipes n → busy n ≡ true) → ((place number : ℕ) → fifo_in pipes place ≡ Some number → Opener descriptions pipes number)
    → Rooted descriptions after (after_freeing sockets freed) pipes
turned_rooted descriptions tree after sockets pipes opened busy freed rooted is turns opens_it opened_by busy_by held = record {
  tree_is = is;
  nodes = nodes;
  unlinked = λ n used none. elim (turns.unlinked n used none) [
    | inl before ↦ rooted.unlinked n before.0 before.1
    | inr is_open ↦ opens_it n is_open
  ];
  wells = freeing freed refl;
  alone = freed_alone freed;
  fifos = λ place number of. let fifo = rooted.fifos place number of in elim (turns.each number (fifo_used (node_at tree number) fifo)) [
    | inl stays ↦ stays.fifo ∙ fifo
    | inr goes ↦ absurd (true_false (opened number) (opened_by number (held place number of)) (goes.file (fifo_no_directory (node_at tree number) fifo) (fifo_no_socket (node_at tree number) fifo)))
  ];
  sole = rooted.sole;
}
  where
    nodes : (place number : ℕ) (description : Description) → description_at descriptions place ≡ Some description → description.target ≡ OnNode number → IsOpened after description.access description.offset number
    nodes place number description there on = let before = rooted.nodes place number description there on in elim (turns.each number before.used) [
      | inl stays ↦ record { used = stays.used; socket = stays.socket ∙ before.socket; fifo = stays.fifo ∙ before.fifo; directory = λ dir_is. before.directory (sym stays.directory ∙ dir_is); between = λ dir_is. before.between (sym stays.directory ∙ dir_is) }
      | inr goes ↦ absurd (elim (dir_cases (is_directory tree number)) [
        | inl dir_is ↦ true_false (busy number) (busy_by number opener) (goes.directory dir_is)
        | inr not_dir ↦ true_false (opened number) (opened_by number opener) (goes.file not_dir before.socket)
      ])
    ]
      where
        opener : Opener descriptions pipes number
        opener = record { place = place; description = description; is = there; on = ap (node_in pipes) on }

        dir_cases : (b : Bool) → (b ≡ true) ⊎ (b ≡ false)
        dir_cases true = inl refl
        dir_cases false = inr refl

    sock_used : (o : Option Node) → is_socket_kind (kind_in o) ≡ true → is_some o ≡ true
    sock_used None e = absurd (true_false false e refl)
    sock_used (Some node) e = refl

    -- the name of a socket stays, or is told
    name_stays : (number : ℕ) → is_socket tree number ≡ true → (is_socket after number ≡ true) ⊎ (freed ≡ Some number)
    name_stays number sock = elim (turns.each number (sock_used (node_at tree number) sock)) [ inl stays ↦ inl (stays.socket ∙ sock) | inr goes ↦ inr (goes.socket sock) ]

    freed_alone : (freed : Option ℕ) → AreNamedOnce (after_freeing sockets freed)
    freed_alone None = rooted.alone
    freed_alone (Some number) = freed_once sockets number rooted.alone

    freeing : (f : Option ℕ) → freed ≡ f → Each (IsWell after) (after_freeing sockets f)
    freeing None none place = let well = rooted.wells place in record {
      bound = λ number bound. elim (name_stays number (well.bound number bound)) [ inl sock ↦ sock | inr told ↦ absurd (not_some none told) ];
      bytes = well.bytes;
    }
    freeing (Some gone_one) told place = record {
      bound = λ number bound. let loose = freed_each (IsWell tree) (IsWell tree) gone_one unbound (λ well. well) sockets rooted.wells place in
          elim (name_stays number (loose.bound number bound)) [
            | inl sock ↦ sock
            | inr told_too ↦ absurd (freed_is_nobodys sockets gone_one place (bound ∙ ap Some (some_same freed number gone_one told_too told)))
          ];
      bytes = (let loose = freed_each (IsWell tree) (IsWell tree) gone_one unbound (λ well. well) sockets rooted.wells place in loose.bytes);
    }
      where
        unbound : (socket : Socket) → IsWell tree socket → IsWell tree (unnamed gone_one socket)
        unbound socket well = go (is_number gone_one socket.node)
          where
            go : (b : Bool) → IsWell tree (cond b (record socket { node = None }) socket)
            go true = record { bound = λ number bound. absurd (not_some refl bound); bytes = well.bytes }
            go false = well

-- ---- other descriptions

module _ (descriptions : Descriptions) (tree : Tree) (sockets : Sockets) (pipes : List (Option Pipe)) (rooted : Rooted descriptions tree sockets pipes) where
  pub pushed_rooted : (new : Description) → ((number : ℕ) → new.target ≡ OnNode number → IsOpened tree new.access new.offset number) → Rooted (descriptions ++ Some new ∷ []) tree sockets pipes
  pushed_rooted new is_opened = record {
    tree_is = rooted.tree_is;
    nodes = λ place number description there on. elim (pushed_is descriptions (Some new) place description there) [
      | inl old ↦ rooted.nodes place number description old on
      | inr last ↦ let same : new ≡ description = some_same (Some new) new description refl last.1 in
          subst (λ d. IsOpened tree d.access d.offset number) same (is_opened number (ap (λ d. d.target) same ∙ on))
    ];
    unlinked = λ n used none. pushed_opener descriptions pipes new n (rooted.unlinked n used none);
    wells = rooted.wells;
    alone = rooted.alone;
    fifos = rooted.fifos;
    sole = rooted.sole;
  }

  pub described_rooted : (place : ℕ) (was now : Description) → description_at descriptions place ≡ Some was → now.target ≡ was.target → now.access ≡ was.access
      → ((number : ℕ) → was.target ≡ OnNode number → is_directory tree number ≡ true → was.offset % 32 ≡ 0 → now.offset % 32 ≡ 0) → Rooted (with_description descriptions place (Some now)) tree sockets pipes
  described_rooted place was now there target access between = record {
    tree_is = rooted.tree_is;
    nodes = λ other number description is on. elim (changed_is descriptions place (Some now) other description is) [
      | inl old ↦ rooted.nodes other number description old.1 on
      | inr new ↦ let same : now ≡ description = some_same (Some now) now description refl new.1 in
          let on_it = sym target ∙ ap (λ d. d.target) same ∙ on in
          let before = rooted.nodes place number was there on_it in
          subst (λ d. IsOpened tree d.access d.offset number) same (record {
            used = before.used;
            socket = before.socket;
            fifo = before.fifo;
            directory = λ dir_is. access ∙ before.directory dir_is;
            between = λ dir_is. between number on_it dir_is (before.between dir_is);
          })
    ];
    unlinked = λ n used none. described_opener descriptions pipes place was now n there target (rooted.unlinked n used none);
    wells = rooted.wells;
    alone = rooted.alone;
    fifos = rooted.fifos;
    sole = rooted.sole;
  }

  -- other sockets
  pub resocketed_rooted : (after : Sockets) → Each (IsWell tree) after → AreNamedOnce after → Rooted descriptions tree after pipes
  resocketed_rooted after wells alone = record { tree_is = rooted.tree_is; nodes = rooted.nodes; unlinked = rooted.unlinked; wells = wells; alone = alone; fifos = rooted.fifos; sole = rooted.sole }

  -- other pipes, each of the same FIFO
  pub repiped_rooted : (after : List (Option Pipe)) → ((q : ℕ) → fifo_in after q ≡ fifo_in pipes q) → Rooted descriptions tree sockets after
  repiped_rooted after same = record {
    tree_is = rooted.tree_is;
    nodes = rooted.nodes;
    unlinked = λ n used none. repiped_opener descriptions pipes after n (λ place description p is on of. same p ∙ of) (rooted.unlinked n used none);
    wells = rooted.wells;
    alone = rooted.alone;
    fifos = λ place number of. rooted.fifos place number (sym (same place) ∙ of);
    sole = λ place other number one two. rooted.sole place other number (sym (same place) ∙ one) (sym (same other) ∙ two);
  }

  -- one more, of a FIFO that had none
  pub begun_rooted : (number : ℕ) (begun : Pipe) → fifo_of begun ≡ Some number → is_fifo tree number ≡ true → ((q : ℕ) → fifo_in pipes q ≡ Some number → ⊥) → Rooted descriptions tree sockets (pipes ++ Some begun ∷ [])
  begun_rooted number begun of fifo none_before = record {
    tree_is = rooted.tree_is;
    nodes = rooted.nodes;
    unlinked = λ n used none. repiped_opener descriptions pipes (pipes ++ Some begun ∷ []) n (λ place description p is on was. front_fifo pipes begun p n was) (rooted.unlinked n used none);
    wells = rooted.wells;
    alone = rooted.alone;
    fifos = λ place n is. elim (pushed_fifo pipes begun place n is) [
      | inl old ↦ rooted.fifos place n old
      | inr last ↦ subst (λ m. is_fifo tree m ≡ true) (some_same (fifo_of begun) number n of last.1) fifo
    ];
    sole = λ place other n one two. elim (pushed_fifo pipes begun place n one) [
      | inl old ↦ elim (pushed_fifo pipes begun other n two) [
        | inl older ↦ rooted.sole place other n old older
        | inr last ↦ absurd (none_before place (old ∙ ap Some (some_same (fifo_of begun) n number last.1 of)))
      ]
      | inr last ↦ elim (pushed_fifo pipes begun other n two) [
        | inl old ↦ absurd (none_before other (old ∙ ap Some (some_same (fifo_of begun) n number last.1 of)))
        | inr last_too ↦ last.0 ∙ sym last_too.0
      ]
    ];
  }

  -- the nodes of the descriptions that are left where one has gone
  left_nodes : (place : ℕ) → (other number : ℕ) (description : Description) → description_at (with_description descriptions place None) other ≡ Some description → description.target ≡ OnNode number
      → (other ≢ place) × IsOpened tree description.access description.offset number
  left_nodes place other number description is on = elim (changed_is descriptions place None other description is) [
    | inl old ↦ (old.0, rooted.nodes other number description old.1 on)
    | inr new ↦ absurd (not_some refl new.1)
  ]

  -- one goes that opened no node, or whose node another opens
  pub gone_rooted : (place : ℕ) (was : Description) → description_at descriptions place ≡ Some was → ((n : ℕ) → node_in pipes was.target ≡ Some n → Opener (with_description descriptions place None) pipes n)
      → Rooted (with_description descriptions place None) tree sockets pipes
  gone_rooted place was there still = record {
    tree_is = rooted.tree_is;
    nodes = λ other number description is on. (left_nodes place other number description is on).1;
    unlinked = λ n used none. opener n (rooted.unlinked n used none);
    wells = rooted.wells;
    alone = rooted.alone;
    fifos = rooted.fifos;
    sole = rooted.sole;
  }
    where
      opener : (n : ℕ) → Opener descriptions pipes n → Opener (with_description descriptions place None) pipes n
      opener n by_one = elim (eqb_tells by_one.place place) [
        | inl alike ↦ still n (ap (λ d. node_in pipes d.target) (some_same (description_at descriptions place) was by_one.description there (ap (description_at descriptions) (sym alike.1) ∙ by_one.is)) ∙ by_one.on)
        | inr apart ↦ gone_opener_apart apart.1
      ]
        where
          gone_opener_apart : by_one.place ≢ place → Opener (with_description descriptions place None) pipes n
          gone_opener_apart apart = record { place = by_one.place; description = by_one.description; is = get_or-set_other descriptions place by_one.place None None apart ∙ by_one.is; on = by_one.on }

  -- the last one that opened a node goes, and the node with it where it has no links
  pub closed_rooted : (place : ℕ) (was : Description) (number : ℕ) → description_at descriptions place ≡ Some was → was.target ≡ OnNode number
      → (Opener (with_description descriptions place None) pipes number → ⊥) → Rooted (with_description descriptions place None) (closed tree number) sockets pipes
  closed_rooted place was number there on nobody = record {
    tree_is = closed_keeps tree number rooted.tree_is opened.used;
    nodes = λ other n description is on_it. let before = left_nodes place other n description is on_it in
        let same = closed_nodes tree number n (λ e. nobody (record { place = other; description = description; is = is; on = ap (node_in pipes) on_it ∙ ap Some e })) in let node = before.1 in
        record { used = ap is_some same ∙ node.used; socket = ap (λ o. is_socket_kind (kind_in o)) same ∙ node.socket; fifo = ap (λ o. is_fifo_kind (kind_in o)) same ∙ node.fifo; directory = λ dir_is. node.directory (sym (ap is_directory_in same) ∙ dir_is); between = λ dir_is. node.between (sym (ap is_directory_in same) ∙ dir_is) };
    unlinked = λ n used none. elim (eqb_tells n number) [
      | inl alike ↦ absurd (no_links_left tree number n opened.used alike.1 used none)
      | inr apart ↦ let same = closed_nodes tree number n apart.1 in
          gone_opener descriptions pipes place was n there (λ on_it. apart.1 (same_node n on_it)) (rooted.unlinked n (sym (ap is_some same) ∙ used) (sym (ap links_in same) ∙ none))
    ];
    wells = λ at. let well = rooted.wells at in record {
      bound = λ n bound. let sock = well.bound n bound in
          ap (λ o. is_socket_kind (kind_in o)) (closed_nodes tree number n (λ e. true_false (is_socket tree number) (sym (ap (is_socket tree) e) ∙ sock) opened.socket)) ∙ sock;
      bytes = well.bytes;
    };
    alone = rooted.alone;
    fifos = λ q n of. let fifo = rooted.fifos q n of in
        ap (λ o. is_fifo_kind (kind_in o)) (closed_nodes tree number n (λ e. true_false (is_fifo tree number) (sym (ap (is_fifo tree) e) ∙ fifo) opened.fifo)) ∙ fifo;
    sole = rooted.sole;
  }
    where
      opened : IsOpened tree was.access was.offset number
      opened = rooted.nodes place number was there on

      same_node : (n : ℕ) → node_in pipes was.target ≡ Some n → n ≡ number
      same_node n on_it = some_same (node_in pipes was.target) n number on_it (ap (node_in pipes) on)

  -- no directory goes
  pub closed_directories : (place : ℕ) (was : Description) (number : ℕ) → description_at descriptions place ≡ Some was → was.target ≡ OnNode number
      → (n : ℕ) → is_directory tree n ≡ true → is_directory (closed tree number) n ≡ true
  closed_directories place was number there on n dir_is = elim (eqb_tells n number) [
    | inr apart ↦ ap is_directory_in (closed_nodes tree number n apart.1) ∙ dir_is
    | inl alike ↦ subst (λ m. is_directory (closed tree number) m ≡ true) (sym alike.1) (stays (links_at tree number == 0) refl (sym (ap (is_directory tree) alike.1) ∙ dir_is))
  ]
    where
      one_link : (o : Option Node) → node_at tree number ≡ o → is_directory_in o ≡ true → links_in o ≡ 1
      one_link None at dir = absurd (true_false false dir refl)
      one_link (Some node) at dir = let it = rooted.tree_is.nodes number node at in it.single dir

      stays : (b : Bool) → (links_at tree number == 0) ≡ b → is_directory tree number ≡ true → is_directory (cond b (with_node tree number None) tree) number ≡ true
      stays true is dir = absurd (true_false (links_at tree number == 0) is (ap (λ k. k == 0) (one_link (node_at tree number) refl dir)))
      stays false is dir = dir

  -- a socket is closed
  pub sock_closed_rooted : (place : ℕ) (was : Description) (socket : ℕ) → description_at descriptions place ≡ Some was → ((n : ℕ) → node_in pipes was.target ≡ Some n → ⊥)
      → AreLinked sockets → IsSome (sock_at sockets socket) → WaitsNowhere sockets socket → Rooted (with_description descriptions place None) tree (after_close sockets socket) pipes
  sock_closed_rooted place was socket there other linked is_there nowhere = let left = gone_rooted place was there (λ n on. absurd (other n on)) in record {
    tree_is = left.tree_is;
    nodes = left.nodes;
    unlinked = left.unlinked;
    wells = close_each (IsWell tree) (new_well tree) (staged_well tree) sockets socket linked is_there nowhere rooted.wells;
    alone = close_once sockets socket linked is_there nowhere rooted.alone;
    fifos = left.fifos;
    sole = left.sole;
  }

  -- ---- an end of a pipe is closed

  module _ (place : ℕ) (was : Description) (there : description_at descriptions place ≡ Some was) (p : ℕ) (on : was.target ≡ OnPipe p) where
    -- the pipes then
    abbrev pub pipes_left : List (Option Pipe)
    pipes_left = slice_set pipes p (after_close_pipe (unwrap_or (slice_index_or pipes p None) new_pipe) (may_write was.access))

    module _ (ends : (at q : ℕ) (description : Description) → description_at (with_description descriptions place None) at ≡ Some description → description.target ≡ OnPipe q → is_some (slice_index_or pipes_left q None) ≡ true) where
      -- who opened a node otherwise opens it still
      still_opener : (n : ℕ) (opener : Opener descriptions pipes n) → opener.place ≢ place → Opener (with_description descriptions place None) pipes_left n
      still_opener n opener apart = repiped_opener (with_description descriptions place None) pipes pipes_left n
          (λ at description q is on_it of. stays_fifo pipes p (may_write was.access) q n of (ends at q description is on_it))
          (record { place = opener.place; description = opener.description; is = get_or-set_other descriptions place opener.place None None apart ∙ opener.is; on = opener.on })

      -- what it opened itself is the FIFO of its pipe
      own_fifo : (n : ℕ) (opener : Opener descriptions pipes n) → opener.place ≡ place → fifo_in pipes p ≡ Some n
      own_fifo n opener same = ap (node_in pipes) (sym on)
          ∙ ap (λ d. node_in pipes d.target) (some_same (description_at descriptions place) was opener.description there (ap (description_at descriptions) (sym same) ∙ opener.is)) ∙ opener.on

      -- the tree stays: its pipe is of no FIFO, or of one that is open still
      pub end_gone_rooted : ((n : ℕ) → fifo_in pipes p ≡ Some n → Opener (with_description descriptions place None) pipes_left n) → Rooted (with_description descriptions place None) tree sockets pipes_left
      end_gone_rooted still = record {
        tree_is = rooted.tree_is;
        nodes = λ other number description is on_it. (left_nodes place other number description is on_it).1;
        unlinked = λ n used none. let opener = rooted.unlinked n used none in elim (eqb_tells opener.place place) [
          | inl alike ↦ still n (own_fifo n opener alike.1)
          | inr apart ↦ still_opener n opener apart.1
        ];
        wells = rooted.wells;
        alone = rooted.alone;
        fifos = λ q n of. rooted.fifos q n (closed_fifo pipes p (may_write was.access) q n of);
        sole = λ q other n one two. rooted.sole q other n (closed_fifo pipes p (may_write was.access) q n one) (closed_fifo pipes p (may_write was.access) other n two);
      }

      -- the last end of a FIFO goes, and the node with it where it has no links
      module _ (number : ℕ) (of : fifo_in pipes p ≡ Some number) where
        is_one : is_fifo tree number ≡ true
        is_one = rooted.fifos p number of

        used_one : is_in_use tree number ≡ true
        used_one = fifo_used (node_at tree number) is_one

        pub fifo_closed_rooted : (Opener (with_description descriptions place None) pipes_left number → ⊥)
            → ((q n : ℕ) → fifo_in pipes_left q ≡ Some n → Opener (with_description descriptions place None) pipes_left n) → Rooted (with_description descriptions place None) (closed tree number) sockets pipes_left
        fifo_closed_rooted nobody held = record {
          tree_is = closed_keeps tree number rooted.tree_is used_one;
          nodes = λ other n description is on_it. let node = (left_nodes place other n description is on_it).1 in
              let same = closed_nodes tree number n (λ e. true_false (is_fifo tree number) is_one (sym (ap (is_fifo tree) e) ∙ node.fifo)) in
              record { used = ap is_some same ∙ node.used; socket = ap (λ o. is_socket_kind (kind_in o)) same ∙ node.socket; fifo = ap (λ o. is_fifo_kind (kind_in o)) same ∙ node.fifo; directory = λ dir_is. node.directory (sym (ap is_directory_in same) ∙ dir_is); between = λ dir_is. node.between (sym (ap is_directory_in same) ∙ dir_is) };
          unlinked = λ n used none. elim (eqb_tells n number) [
            | inl alike ↦ absurd (no_links_left tree number n used_one alike.1 used none)
            | inr apart ↦ let same = closed_nodes tree number n apart.1 in
                let opener = rooted.unlinked n (sym (ap is_some same) ∙ used) (sym (ap links_in same) ∙ none) in elim (eqb_tells opener.place place) [
                  | inl alike ↦ absurd (apart.1 (some_same (fifo_in pipes p) n number (own_fifo n opener alike.1) of))
                  | inr other ↦ still_opener n opener other.1
                ]
          ];
          wells = λ at. let well = rooted.wells at in record {
            bound = λ n bound. let sock = well.bound n bound in
                ap (λ o. is_socket_kind (kind_in o)) (closed_nodes tree number n (λ e. true_false (is_socket tree number) (sym (ap (is_socket tree) e) ∙ sock) (fifo_no_socket (node_at tree number) is_one))) ∙ sock;
            bytes = well.bytes;
          };
          alone = rooted.alone;
          fifos = λ q n of_it. ap (λ o. is_fifo_kind (kind_in o)) (closed_nodes tree number n (λ e. nobody (subst (Opener (with_description descriptions place None) pipes_left) e (held q n of_it))))
              ∙ rooted.fifos q n (closed_fifo pipes p (may_write was.access) q n of_it);
          sole = λ q other n one two. rooted.sole q other n (closed_fifo pipes p (may_write was.access) q n one) (closed_fifo pipes p (may_write was.access) other n two);
        }

        -- no directory goes
        pub fifo_closed_directories : (n : ℕ) → is_directory tree n ≡ true → is_directory (closed tree number) n ≡ true
        fifo_closed_directories n dir_is = ap is_directory_in
            (closed_nodes tree number n (λ e. true_false (is_directory tree number) (sym (ap (is_directory tree) e) ∙ dir_is) (fifo_no_directory (node_at tree number) is_one))) ∙ dir_is
