-- What each call on a path leaves of the nodes of a tree: which stay, which go and why, and which have no link any more.
use Rattle.std.proofs.Common.{◌≡◌, ◌≢◌, ℕ, ◌+◌, ◌-◌, ◌≤◌, ◌==◌, ◌&&◌, ◌||◌, not, eqb, Bool, true, false, cond, List, [], length, Option, None, Some, is_some, Result, Ok, Err, refl, ap, sym, ◌∙◌, subst, ◌⊎◌, inl, inr, arith}
use Rattle.std.specs.Option.{option_map}
use Rattle.std.proofs.lemmas.Bool.{cases_Bool, cond-true, cond-false}
use Rattle.std.proofs.lemmas.Bool.Decides.{eqb_tells}
use Rattle.kabi_types.specs.declared.errnos.Errno.{Errno}
use Rattle.kabi_types.specs.declared.errnos.Errno.TheVariants as errnos
use Rattle.kabi_types.specs.declared.inodes.DirEntry.{DirEntry}
use Rattle.posix_defs.specs.declared.walked.Walked.{Walked}
use Rattle.posix_defs.specs.declared.walked.Walked.TheVariants as walked
use Rattle.posix_defs.specs.DiskContents.{own_name, parent_name}
use Rattle.posix_defs.specs.FileBytes.{resized}
use Rattle.posix_defs.specs.IsTree.{IsTree}
use Rattle.posix_defs.specs.Paths.{IsLed, resolve}
use Rattle.posix_defs.specs.PathCalls.{Opening, bind_led, bind_path, ends_in, freed_by, goes_below, is_empty, is_fifo, is_fifo_kind, is_held, is_socket, is_socket_kind, kind_in, kind_of_content, link_from, link_path, link_to, mkdir_led, mkdir_path, mkfifo_led, mkfifo_path, node_led, open_led, open_path, open_there, rename_away, rename_led, rename_named, rename_onto, rename_path, rename_root, rmdir_led, rmdir_path, unless, unlink_led, unlink_path}
use Rattle.posix_defs.specs.Tree.{Content, File, Directory, SocketName, Fifo, Node, Tree, is_directory, is_directory_content, is_directory_in, is_in_use, links_at, links_in, node_at, with_node}
use Rattle.posix_defs.specs.TreeChanges.{entry_aimed, entry_put, entry_renamed, entry_taken, hung, hung_if_directory, left_in, left_of, link, link_added, link_dropped, make, rename_over, rename_to, takes_entry, under, unlink, with_bytes, with_bytes_in, with_content, with_entries, with_entries_in, with_new}
use Rattle.posix_defs.proofs.TreeNodes.{IsNumber, directory_in_use, free_is, is_number, length-with_node, node_at-with_node, node_at-with_node_other, seen_same}
use Rattle.tree_laws.proofs.FoundAfter.{made_found}
use Rattle.tree_laws.proofs.OtherNodes.{link_is}
use Rattle.tree_laws.proofs.PathLeads.{path_led}
use Rattle.tree_laws.proofs.TreeFacts.{found_in_use}
use Rattle.tree_laws.proofs.TreeKeeps.{err-ok, made_is, same_Ok}
use Rattle.machine_laws.proofs.Items.{true_false}

-- ---- nodes that look the same

-- every node is what it was, with as many links
pub record Looks (old new : Tree) : Type 0 where
  pub used : (n : ℕ) → is_in_use new n ≡ is_in_use old n
  pub directories : (n : ℕ) → is_directory new n ≡ is_directory old n
  pub sockets : (n : ℕ) → is_socket new n ≡ is_socket old n
  pub fifos : (n : ℕ) → is_fifo new n ≡ is_fifo old n
  pub links : (n : ℕ) → links_at new n ≡ links_at old n

pub looks_same : (tree : Tree) → Looks tree tree
looks_same tree = record { used = λ n. refl; directories = λ n. refl; sockets = λ n. refl; fifos = λ n. refl; links = λ n. refl }

pub looks_on : (old between new : Tree) → Looks old between → Looks between new → Looks old new
looks_on old between new one two = record {
  used = λ n. two.used n ∙ one.used n;
  directories = λ n. two.directories n ∙ one.directories n;
  sockets = λ n. two.sockets n ∙ one.sockets n;
  fifos = λ n. two.fifos n ∙ one.fifos n;
  links = λ n. two.links n ∙ one.links n;
}

-- what a node holds changes, and not its kind
content_looks : (tree : Tree) (number : ℕ) (change : Content → Content) → ((content : Content) → is_directory_content (change content) ≡ is_directory_content content)
    → ((content : Content) → is_socket_kind (kind_of_content (change content)) ≡ is_socket_kind (kind_of_content content))
    → ((content : Content) → is_fifo_kind (kind_of_content (change content)) ≡ is_fifo_kind (kind_of_content content)) → Looks tree (with_content tree number change)
content_looks tree number change directory socket fifo = record {
  used = seen_same is_some tree number changed (used (node_at tree number));
  directories = seen_same is_directory_in tree number changed (directories (node_at tree number));
  sockets = seen_same (λ o. is_socket_kind (kind_in o)) tree number changed (sockets (node_at tree number));
  fifos = seen_same (λ o. is_fifo_kind (kind_in o)) tree number changed (fifos (node_at tree number));
  links = seen_same links_in tree number changed (links (node_at tree number));
}
  where
    changed : Option Node
    changed = option_map {T = Node} (λ node. record node { content = change node.content }) (node_at tree number)

    used : (o : Option Node) → is_some (option_map {T = Node} (λ node. record node { content = change node.content }) o) ≡ is_some o
    used None = refl
    used (Some node) = refl

    directories : (o : Option Node) → is_directory_in (option_map {T = Node} (λ node. record node { content = change node.content }) o) ≡ is_directory_in o
    directories None = refl
    directories (Some node) = directory node.content

    sockets : (o : Option Node) → is_socket_kind (kind_in (option_map {T = Node} (λ node. record node { content = change node.content }) o)) ≡ is_socket_kind (kind_in o)
    sockets None = refl
    sockets (Some node) = socket node.content

    fifos : (o : Option Node) → is_fifo_kind (kind_in (option_map {T = Node} (λ node. record node { content = change node.content }) o)) ≡ is_fifo_kind (kind_in o)
    fifos None = refl
    fifos (Some node) = fifo node.content

    links : (o : Option Node) → links_in (option_map {T = Node} (λ node. record node { content = change node.content }) o) ≡ links_in o
    links None = refl
    links (Some node) = refl

pub entries_look : (tree : Tree) (dir : ℕ) (change : List DirEntry → List DirEntry) → Looks tree (with_entries tree dir change)
entries_look tree dir change = content_looks tree dir (with_entries_in change) directory socket fifo
  where
    directory : (content : Content) → is_directory_content (with_entries_in change content) ≡ is_directory_content content
    directory (File bytes) = refl
    directory (Directory parent entries) = refl
    directory SocketName = refl
    directory Fifo = refl

    socket : (content : Content) → is_socket_kind (kind_of_content (with_entries_in change content)) ≡ is_socket_kind (kind_of_content content)
    socket (File bytes) = refl
    socket (Directory parent entries) = refl
    socket SocketName = refl
    socket Fifo = refl

    fifo : (content : Content) → is_fifo_kind (kind_of_content (with_entries_in change content)) ≡ is_fifo_kind (kind_of_content content)
    fifo (File bytes) = refl
    fifo (Directory parent entries) = refl
    fifo SocketName = refl
    fifo Fifo = refl

pub bytes_look : (tree : Tree) (number : ℕ) (change : List ℕ → List ℕ) → Looks tree (with_bytes tree number change)
bytes_look tree number change = content_looks tree number (with_bytes_in change) directory socket fifo
  where
    directory : (content : Content) → is_directory_content (with_bytes_in change content) ≡ is_directory_content content
    directory (File bytes) = refl
    directory (Directory parent entries) = refl
    directory SocketName = refl
    directory Fifo = refl

    socket : (content : Content) → is_socket_kind (kind_of_content (with_bytes_in change content)) ≡ is_socket_kind (kind_of_content content)
    socket (File bytes) = refl
    socket (Directory parent entries) = refl
    socket SocketName = refl
    socket Fifo = refl

    fifo : (content : Content) → is_fifo_kind (kind_of_content (with_bytes_in change content)) ≡ is_fifo_kind (kind_of_content content)
    fifo (File bytes) = refl
    fifo (Directory parent entries) = refl
    fifo SocketName = refl
    fifo Fifo = refl

hung_looks : (tree : Tree) (dir parent : ℕ) → Looks tree (hung tree dir parent)
hung_looks tree dir parent = content_looks tree dir (under parent) directory socket fifo
  where
    directory : (content : Content) → is_directory_content (under parent content) ≡ is_directory_content content
    directory (File bytes) = refl
    directory (Directory other entries) = refl
    directory SocketName = refl
    directory Fifo = refl

    socket : (content : Content) → is_socket_kind (kind_of_content (under parent content)) ≡ is_socket_kind (kind_of_content content)
    socket (File bytes) = refl
    socket (Directory other entries) = refl
    socket SocketName = refl
    socket Fifo = refl

    fifo : (content : Content) → is_fifo_kind (kind_of_content (under parent content)) ≡ is_fifo_kind (kind_of_content content)
    fifo (File bytes) = refl
    fifo (Directory other entries) = refl
    fifo SocketName = refl
    fifo Fifo = refl

pub hung_if_looks : (tree : Tree) (number parent : ℕ) → Looks tree (hung_if_directory tree number parent)
hung_if_looks tree number parent = go (is_directory tree number)
  where
    go : (b : Bool) → Looks tree (cond b (hung tree number parent) tree)
    go true = hung_looks tree number parent
    go false = looks_same tree

-- ---- nodes that go

-- A node may go: a directory where it isn't busy, a file where nobody opens it, and a socket's name where it is told.
pub record Goes (tree : Tree) (opened busy : ℕ → Bool) (freed : Option ℕ) (n : ℕ) : Type 0 where
  pub directory : is_directory tree n ≡ true → busy n ≡ false
  pub socket : is_socket tree n ≡ true → freed ≡ Some n
  pub file : is_directory tree n ≡ false → is_socket tree n ≡ false → opened n ≡ false

-- a node is what it was
pub record Stays (old new : Tree) (n : ℕ) : Type 0 where
  pub used : is_in_use new n ≡ true
  pub directory : is_directory new n ≡ is_directory old n
  pub socket : is_socket new n ≡ is_socket old n
  pub fifo : is_fifo new n ≡ is_fifo old n

-- Each node stays or may go, and who has no link any more had none before or is opened.
pub record Turns (old new : Tree) (opened busy : ℕ → Bool) (freed : Option ℕ) : Type 0 where
  pub each : (n : ℕ) → is_in_use old n ≡ true → Stays old new n ⊎ Goes old opened busy freed n
  pub unlinked : (n : ℕ) → is_in_use new n ≡ true → links_at new n ≡ 0 → ((is_in_use old n ≡ true) × (links_at old n ≡ 0)) ⊎ (opened n ≡ true)

pub turns_of : (old new : Tree) (opened busy : ℕ → Bool) (freed : Option ℕ) → Looks old new → Turns old new opened busy freed
turns_of old new opened busy freed looks = record {
  each = λ n used. inl (record { used = looks.used n ∙ used; directory = looks.directories n; socket = looks.sockets n; fifo = looks.fifos n });
  unlinked = λ n used none. inl (sym (looks.used n) ∙ used, sym (looks.links n) ∙ none);
}

looks_turn : (old between new : Tree) (opened busy : ℕ → Bool) (freed : Option ℕ) → Looks old between → Turns between new opened busy freed → Turns old new opened busy freed
looks_turn old between new opened busy freed looks turns = record {
  each = λ n used. elim (turns.each n (looks.used n ∙ used)) [
    | inl stays ↦ inl (record { used = stays.used; directory = stays.directory ∙ looks.directories n; socket = stays.socket ∙ looks.sockets n; fifo = stays.fifo ∙ looks.fifos n })
    | inr goes ↦ inr (record {
      directory = λ is. goes.directory (looks.directories n ∙ is);
      socket = λ is. goes.socket (looks.sockets n ∙ is);
      file = λ not_dir not_sock. goes.file (looks.directories n ∙ not_dir) (looks.sockets n ∙ not_sock);
    })
  ];
  unlinked = λ n used none. elim (turns.unlinked n used none) [
    | inl before ↦ inl (sym (looks.used n) ∙ before.0, sym (looks.links n) ∙ before.1)
    | inr is ↦ inr is
  ];
}

turn_looks : (old between new : Tree) (opened busy : ℕ → Bool) (freed : Option ℕ) → Turns old between opened busy freed → Looks between new → Turns old new opened busy freed
turn_looks old between new opened busy freed turns looks = record {
  each = λ n used. elim (turns.each n used) [
    | inl stays ↦ inl (record { used = looks.used n ∙ stays.used; directory = looks.directories n ∙ stays.directory; socket = looks.sockets n ∙ stays.socket; fifo = looks.fifos n ∙ stays.fifo })
    | inr goes ↦ inr goes
  ];
  unlinked = λ n used none. turns.unlinked n (sym (looks.used n) ∙ used) (sym (looks.links n) ∙ none);
}

-- what may go may go still
goes_on : (old new : Tree) (opened busy : ℕ → Bool) (freed : Option ℕ) (n : ℕ) → Looks old new → Goes old opened busy freed n → Goes new opened busy freed n
goes_on old new opened busy freed n looks goes = record {
  directory = λ is. goes.directory (sym (looks.directories n) ∙ is);
  socket = λ is. goes.socket (sym (looks.sockets n) ∙ is);
  file = λ not_dir not_sock. goes.file (sym (looks.directories n) ∙ not_dir) (sym (looks.sockets n) ∙ not_sock);
}

-- a directory is no socket's name
pub dir_or_sock : (o : Option Node) → is_directory_in o ≡ true → is_socket_kind (kind_in o) ≡ true → ⊥
dir_or_sock None dir sock = true_false false dir refl
dir_or_sock (Some node) dir sock = go node.content dir sock
  where
    go : (content : Content) → is_directory_content content ≡ true → is_socket_kind (kind_of_content content) ≡ true → ⊥
    go (File bytes) d s = true_false false d refl
    go (Directory parent entries) d s = true_false false s refl
    go SocketName d s = true_false false d refl
    go Fifo d s = true_false false d refl

-- another node than the one that changes
others_stay : (tree : Tree) (number : ℕ) (there : Option Node) (n : ℕ) → n ≢ number → is_in_use tree n ≡ true → Stays tree (with_node tree number there) n
others_stay tree number there n apart used = let same = node_at-with_node_other tree number n there apart in
    record { used = ap is_some same ∙ used; directory = ap is_directory_in same; socket = ap (λ o. is_socket_kind (kind_in o)) same; fifo = ap (λ o. is_fifo_kind (kind_in o)) same }

others_unlinked : (tree : Tree) (number : ℕ) (there : Option Node) (n : ℕ) → n ≢ number → is_in_use (with_node tree number there) n ≡ true → links_at (with_node tree number there) n ≡ 0
    → (is_in_use tree n ≡ true) × (links_at tree n ≡ 0)
others_unlinked tree number there n apart used none = let same = node_at-with_node_other tree number n there apart in (sym (ap is_some same) ∙ used, sym (ap links_in same) ∙ none)

-- a node loses a link
dropped_turns : (tree : Tree) (number : ℕ) (held : Bool) (opened busy : ℕ → Bool) (freed : Option ℕ) → is_in_use tree number ≡ true
    → (links_at tree number ≡ 1 → held ≡ false → Goes tree opened busy freed number) → (held ≡ true → opened number ≡ true) → Turns tree (link_dropped tree number held) opened busy freed
dropped_turns tree number held opened busy freed used goes kept = go (node_at tree number) refl
  where
    within : IsNumber tree number
    within = is_number tree number used

    -- it stays, with one link less
    less : (node : Node) → node_at tree number ≡ Some node → (node.links ≡ 1 → opened number ≡ true) → Turns tree (with_node tree number (Some (record node { links = node.links - 1 }))) opened busy freed
    less node is last = record {
      each = λ n n_used. inl (record {
        used = seen_same is_some tree number (Some (record node { links = node.links - 1 })) (sym (ap is_some is)) n ∙ n_used;
        directory = seen_same is_directory_in tree number (Some (record node { links = node.links - 1 })) (sym (ap is_directory_in is)) n;
        socket = seen_same (λ o. is_socket_kind (kind_in o)) tree number (Some (record node { links = node.links - 1 })) (sym (ap (λ o. is_socket_kind (kind_in o)) is)) n;
        fifo = seen_same (λ o. is_fifo_kind (kind_in o)) tree number (Some (record node { links = node.links - 1 })) (sym (ap (λ o. is_fifo_kind (kind_in o)) is)) n;
      });
      unlinked = λ n n_used none. elim (eqb_tells n number) [
        | inr apart ↦ inl (others_unlinked tree number (Some (record node { links = node.links - 1 })) n apart.1 n_used none)
        | inl alike ↦ here n alike.1 none
      ];
    }
      where
        here : (n : ℕ) → n ≡ number → links_at (with_node tree number (Some (record node { links = node.links - 1 }))) n ≡ 0
            → ((is_in_use tree n ≡ true) × (links_at tree n ≡ 0)) ⊎ (opened n ≡ true)
        here n same none = elim (eqb_tells node.links 1) [
          | inl one ↦ inr (ap opened same ∙ last one.1)
          | inr other ↦ inl (
            ap (is_in_use tree) same ∙ used,
            ap (links_at tree) same ∙ ap links_in is ∙
                (let now : links_at (with_node tree number (Some (record node { links = node.links - 1 }))) number ≡ node.links - 1 = ap links_in (node_at-with_node tree number (Some (record node { links = node.links - 1 })) within) in
                let zero_now : links_at (with_node tree number (Some (record node { links = node.links - 1 }))) number ≡ 0 = sym (ap (links_at (with_node tree number (Some (record node { links = node.links - 1 })))) same) ∙ none in
                let not_one : node.links ≢ 1 = other.1 in omega arith),
          )
        ]

    -- it goes
    gone : (node : Node) → node_at tree number ≡ Some node → Goes tree opened busy freed number → Turns tree (with_node tree number None) opened busy freed
    gone node is may = record {
      each = λ n n_used. elim (eqb_tells n number) [
        | inr apart ↦ inl (others_stay tree number None n apart.1 n_used)
        | inl alike ↦ inr (subst (Goes tree opened busy freed) (sym alike.1) may)
      ];
      unlinked = λ n n_used none. elim (eqb_tells n number) [
        | inr apart ↦ inl (others_unlinked tree number None n apart.1 n_used none)
        | inl alike ↦ absurd (true_false (is_in_use (with_node tree number None) number) (sym (ap (is_in_use (with_node tree number None)) alike.1) ∙ n_used)
            (ap is_some (node_at-with_node tree number None within)))
      ];
    }

    by : (node : Node) → node_at tree number ≡ Some node → (last : Bool) → (node.links == 1) ≡ last → (b : Bool) → held ≡ b
        → Turns tree (with_node tree number (cond (last && not b) None (Some (record node { links = node.links - 1 })))) opened busy freed
    by node is true one false free = gone node is (goes (ap links_in is ∙ one_of node.links one) free)
      where
        one_of : (n : ℕ) → (n == 1) ≡ true → n ≡ 1
        one_of n e = elim (eqb_tells n 1) [ inl alike ↦ alike.1 | inr apart ↦ absurd (true_false (n == 1) e apart.0) ]
    by node is true one true holds = less node is (λ e. kept holds)
    by node is false more b holds = less node is (λ e. absurd (true_false (node.links == 1) (ap (λ n. n == 1) e) more))

    go : (o : Option Node) → node_at tree number ≡ o → Turns tree (link_dropped tree number held) opened busy freed
    go None is = absurd (true_false (is_in_use tree number) used (ap is_some is))
    go (Some node) is = subst (λ o. Turns tree (with_node tree number o) opened busy freed) (sym left) (by node is (node.links == 1) refl held refl)
      where
        left : left_in held (node_at tree number) ≡ left_of held node
        left = ap (left_in held) is

-- ---- the changes

-- a node is made
make_turns : (tree : Tree) (dir : ℕ) (name : List ℕ) (content : Content) (number : ℕ) (after : Tree) (opened busy : ℕ → Bool) (freed : Option ℕ) → make tree dir name content ≡ Ok (number, after)
    → Turns tree after opened busy freed
make_turns tree dir name content number after opened busy freed answered =
    let made = made_is tree dir name content number after answered in
    let free = free_is tree number made.0 in
    subst (λ t. Turns tree t opened busy freed) (sym made.2)
    (turn_looks tree (with_node tree number new) (with_new tree number dir name content) opened busy freed (alone free.1) (entries_look (with_node tree number new) dir (entry_put name number)))
  where
    new : Option Node
    new = Some (record { links = 1; content = content })

    alone : node_at tree number ≡ None → Turns tree (with_node tree number new) opened busy freed
    alone none = record {
      each = λ n used. inl (others_stay tree number new n (λ same. true_false (is_in_use tree n) used (ap (is_in_use tree) same ∙ ap is_some none)) used);
      unlinked = λ n used no_link. elim (eqb_tells n number) [
        | inr apart ↦ inl (others_unlinked tree number new n apart.1 used no_link)
        | inl alike ↦ absurd (
            let there : is_in_use (with_node tree number new) number ≡ true = sym (ap (is_in_use (with_node tree number new)) alike.1) ∙ used in
            let numbered : IsNumber (with_node tree number new) number = is_number (with_node tree number new) number there in
            let within : number ≤ length (with_node tree number new).nodes = numbered.within in
            let one : links_at (with_node tree number new) number ≡ 1 = ap links_in (node_at-with_node tree number new (record { above = numbered.above; within = subst (λ k. number ≤ k) (length-with_node tree number new) within })) in
            let zero_too : links_at (with_node tree number new) number ≡ 0 = sym (ap (links_at (with_node tree number new)) alike.1) ∙ no_link in omega arith)
      ];
    }

-- a node gets a further name
link_turns : (tree : Tree) (dir : ℕ) (name : List ℕ) (number : ℕ) (after : Tree) (opened busy : ℕ → Bool) (freed : Option ℕ) → link tree dir name number ≡ Ok after → Turns tree after opened busy freed
link_turns tree dir name number after opened busy freed answered = subst (λ t. Turns tree t opened busy freed) (sym (link_is tree dir name number after answered))
    (turn_looks tree (link_added tree number) (with_entries (link_added tree number) dir (entry_put name number)) opened busy freed added (entries_look (link_added tree number) dir (entry_put name number)))
  where
    more : Option Node → Option Node
    more o = option_map {T = Node} (λ node. record node { links = node.links + 1 }) o

    used_same : (o : Option Node) → is_some (more o) ≡ is_some o
    used_same None = refl
    used_same (Some node) = refl

    directory_same : (o : Option Node) → is_directory_in (more o) ≡ is_directory_in o
    directory_same None = refl
    directory_same (Some node) = refl

    socket_same : (o : Option Node) → is_socket_kind (kind_in (more o)) ≡ is_socket_kind (kind_in o)
    socket_same None = refl
    socket_same (Some node) = refl

    fifo_same : (o : Option Node) → is_fifo_kind (kind_in (more o)) ≡ is_fifo_kind (kind_in o)
    fifo_same None = refl
    fifo_same (Some node) = refl

    some_link : (o : Option Node) → is_some o ≡ true → links_in (more o) ≡ 0 → ⊥
    some_link None used none = true_false false used refl
    some_link (Some node) used none = absurd (let e : node.links + 1 ≡ 0 = none in omega arith)

    added : Turns tree (link_added tree number) opened busy freed
    added = record {
      each = λ n used. inl (record {
        used = seen_same is_some tree number (more (node_at tree number)) (used_same (node_at tree number)) n ∙ used;
        directory = seen_same is_directory_in tree number (more (node_at tree number)) (directory_same (node_at tree number)) n;
        socket = seen_same (λ o. is_socket_kind (kind_in o)) tree number (more (node_at tree number)) (socket_same (node_at tree number)) n;
        fifo = seen_same (λ o. is_fifo_kind (kind_in o)) tree number (more (node_at tree number)) (fifo_same (node_at tree number)) n;
      });
      unlinked = λ n used none. elim (eqb_tells n number) [
        | inr apart ↦ inl (others_unlinked tree number (more (node_at tree number)) n apart.1 used none)
        | inl alike ↦ absurd (
            let before : is_in_use tree number ≡ true = sym (seen_same is_some tree number (more (node_at tree number)) (used_same (node_at tree number)) number)
            ∙ sym (ap (is_in_use (link_added tree number)) alike.1) ∙ used in
            some_link (node_at tree number) before (sym (ap links_in (node_at-with_node tree number (more (node_at tree number)) (is_number tree number before)))
            ∙ sym (ap (links_at (link_added tree number)) alike.1) ∙ none))
      ];
    }

-- a name goes
unlink_turns : (tree : Tree) (dir : ℕ) (name : List ℕ) (number : ℕ) (held : Bool) (opened busy : ℕ → Bool) (freed : Option ℕ) → is_in_use tree number ≡ true
    → (links_at tree number ≡ 1 → held ≡ false → Goes tree opened busy freed number) → (held ≡ true → opened number ≡ true) → Turns tree (unlink tree dir name number held) opened busy freed
unlink_turns tree dir name number held opened busy freed used goes kept =
    let looks = entries_look tree dir (entry_taken name) in
    looks_turn tree (with_entries tree dir (entry_taken name)) (unlink tree dir name number held) opened busy freed looks
    (dropped_turns (with_entries tree dir (entry_taken name)) number held opened busy freed (looks.used number ∙ used)
    (λ one free. goes_on tree (with_entries tree dir (entry_taken name)) opened busy freed number looks (goes (sym (looks.links number) ∙ one) free)) kept)

-- another node takes over a name
over_turns : (tree : Tree) (dir : ℕ) (name : List ℕ) (number to : ℕ) (new : List ℕ) (replaced : ℕ) (held : Bool) (opened busy : ℕ → Bool) (freed : Option ℕ) → is_in_use tree replaced ≡ true
    → (links_at tree replaced ≡ 1 → held ≡ false → Goes tree opened busy freed replaced) → (held ≡ true → opened replaced ≡ true)
    → Turns tree (rename_over tree dir name number to new replaced held) opened busy freed
over_turns tree dir name number to new replaced held opened busy freed used goes kept =
    let aimed : Tree = with_entries tree to (entry_aimed new number) in
    let looks = entries_look tree to (entry_aimed new number) in
    let dropped : Tree = link_dropped aimed replaced held in
    let taken : Tree = with_entries dropped dir (entry_taken name) in
    looks_turn tree aimed (rename_over tree dir name number to new replaced held) opened busy freed looks
    (turn_looks aimed dropped (rename_over tree dir name number to new replaced held) opened busy freed
    (dropped_turns aimed replaced held opened busy freed (looks.used replaced ∙ used)
    (λ one free. goes_on tree aimed opened busy freed replaced looks (goes (sym (looks.links replaced) ∙ one) free)) kept)
    (looks_on dropped taken (hung_if_directory taken number to) (entries_look dropped dir (entry_taken name)) (hung_if_looks taken number to)))

pub to_looks : (tree : Tree) (dir : ℕ) (name : List ℕ) (number to : ℕ) (new : List ℕ) → Looks tree (rename_to tree dir name number to new)
to_looks tree dir name number to new = go (dir == to)
  where
    put : Tree
    put = with_entries tree to (entry_put new number)

    taken : Tree
    taken = with_entries put dir (entry_taken name)

    go : (b : Bool) → Looks tree (cond b (with_entries tree dir (entry_renamed name new number)) (hung_if_directory taken number to))
    go true = entries_look tree dir (entry_renamed name new number)
    go false = looks_on tree put (hung_if_directory taken number to) (entries_look tree to (entry_put new number))
        (looks_on put taken (hung_if_directory taken number to) (entries_look put dir (entry_taken name)) (hung_if_looks taken number to))

-- ---- what passed its tests

unless_ok : {A : Type 0} (bad : Bool) (errno : Errno) (further : Result A Errno) (x : A) → unless bad errno further ≡ Ok x → (bad ≡ false) × (further ≡ Ok x)
unless_ok bad errno further x at = elim (cases_Bool bad) [
  | inl is ↦ absurd (err-ok errno x (sym (cond-true bad (Err errno) further is) ∙ at))
  | inr fine ↦ (fine, sym (cond-false bad (Err errno) further fine) ∙ at)
]

-- what isn't held, where it isn't a directory or a socket's name, nobody opens
unheld_file : (tree : Tree) (opened : ℕ → Bool) (n : ℕ) → is_held tree opened n ≡ false → is_directory tree n ≡ false → is_socket tree n ≡ false → opened n ≡ false
unheld_file tree opened n free not_dir not_sock = sym (ap (λ b. opened n && not (b || is_socket tree n)) not_dir ∙ ap (λ b. opened n && not b) not_sock ∙ and_true (opened n)) ∙ free
  where
    and_true : (b : Bool) → (b && true) ≡ b
    and_true true = refl
    and_true false = refl

held_opened : (tree : Tree) (opened : ℕ → Bool) (n : ℕ) → is_held tree opened n ≡ true → opened n ≡ true
held_opened tree opened n held = go (opened n) refl held
  where
    go : (b : Bool) → opened n ≡ b → (b && not (is_directory tree n || is_socket tree n)) ≡ true → opened n ≡ true
    go true is e = is
    go false is e = absurd (true_false false e refl)

-- a socket's name that loses its last link is told
freed_told : (tree : Tree) (n : ℕ) → is_socket tree n ≡ true → links_at tree n ≡ 1 → freed_by tree n ≡ Some n
freed_told tree n is one = ap (λ b. cond (b && (links_at tree n == 1)) (Some n) None) is ∙ ap (λ k. cond (k == 1) (Some n) None) one

-- ---- the calls

-- what is opened is there, isn't a socket's name, and is no directory where it is opened to write
pub record Opens (after : Tree) (writes : Bool) (number : ℕ) : Type 0 where
  pub used : is_in_use after number ≡ true
  pub socket : is_socket after number ≡ false
  pub directory : is_directory after number ≡ true → writes ≡ false

there_opens : (tree : Tree) (how : Opening) (node number : ℕ) (after : Tree) → is_in_use tree node ≡ true → open_there tree how node ≡ Ok (number, after) → Looks tree after × Opens after how.writes number
there_opens tree how node number after used at =
    let cut : Tree = cond how.truncates (with_bytes tree node (resized 0)) tree in
    let done : Result (ℕ × Tree) Errno = Ok (node, cut) in
    let third : Result (ℕ × Tree) Errno = unless (is_socket tree node) errnos.EOPNOTSUPP done in
    let second : Result (ℕ × Tree) Errno = unless (is_directory tree node && (how.writes || how.creates)) errnos.EISDIR third in
    let passed = unless_ok (how.creates && how.excludes) errnos.EEXIST second (number, after) at in
    let passed_dir = unless_ok (is_directory tree node && (how.writes || how.creates)) errnos.EISDIR third (number, after) passed.1 in
    let passed_sock = unless_ok (is_socket tree node) errnos.EOPNOTSUPP done (number, after) passed_dir.1 in
    let both = same_Ok (node, cut) (number, after) passed_sock.1 in
    let looks : Looks tree after = subst (Looks tree) (ap (λ (p : ℕ × Tree). p.1) both) (cut_looks how.truncates) in
    let same : node ≡ number = ap (λ (p : ℕ × Tree). p.0) both in (
      looks,
      subst (Opens after how.writes) same (record {
        used = looks.used node ∙ used;
        socket = looks.sockets node ∙ passed_sock.0;
        directory = λ is. no_writes how.writes how.creates (sym (ap (λ b. b && (how.writes || how.creates)) (sym (looks.directories node) ∙ is)) ∙ passed_dir.0);
      }),
    )
  where
    cut_looks : (b : Bool) → Looks tree (cond b (with_bytes tree node (resized 0)) tree)
    cut_looks true = bytes_look tree node (resized 0)
    cut_looks false = looks_same tree

    no_writes : (writes creates : Bool) → (writes || creates) ≡ false → writes ≡ false
    no_writes true creates e = e
    no_writes false creates e = refl

pub record Opened (tree after : Tree) (opened busy : ℕ → Bool) (writes : Bool) (number : ℕ) : Type 0 where
  pub turns : Turns tree after opened busy None
  pub opens : Opens after writes number
  -- a FIFO was there before, and there is none more
  pub fifo : is_fifo after number ≡ true → is_fifo tree number ≡ true

open_led_is : (tree : Tree) (how : Opening) (led : Walked) (number : ℕ) (after : Tree) (opened busy : ℕ → Bool) → IsTree tree → IsLed tree led → open_led tree how led ≡ Ok (number, after)
    → Opened tree after opened busy how.writes number
open_led_is tree how (walked.Node n) number after opened busy is there at = let both = there_opens tree how n number after (directory_in_use tree n there) at in
    record { turns = turns_of tree after opened busy None both.0; opens = both.1; fifo = λ is. let looks = both.0 in sym (looks.fifos number) ∙ is }
open_led_is tree how (walked.Named parent name n slashed) number after opened busy is there at = let both = there_opens tree how n number after (found_in_use tree parent name n is there.1) at in
    record { turns = turns_of tree after opened busy None both.0; opens = both.1; fifo = λ is. let looks = both.0 in sym (looks.fifos number) ∙ is }
open_led_is tree how (walked.Free dir name slashed) number after opened busy is there at =
    let made = (unless_ok (not how.creates || slashed) errnos.ENOENT (make tree dir name (File [])) (number, after) at).1 in
    let node = (made_found tree dir name (File []) number after there.0 there.1 refl made).1 in
    record {
      turns = make_turns tree dir name (File []) number after opened busy None made;
      opens = record { used = ap is_some node; socket = ap (λ o. is_socket_kind (kind_in o)) node; directory = λ dir_is. absurd (true_false (is_directory after number) dir_is (ap is_directory_in node)) };
      fifo = λ is. absurd (true_false (is_fifo after number) is (ap (λ o. is_fifo_kind (kind_in o)) node));
    }
open_led_is tree how (walked.Fail errno) number after opened busy is there at = absurd (err-ok errno (number, after) at)

pub open_is : (tree : Tree) (cwd : ℕ) (path : List ℕ) (how : Opening) (number : ℕ) (after : Tree) (opened busy : ℕ → Bool) → IsTree tree → is_directory tree cwd ≡ true
    → open_path tree cwd path how ≡ Ok (number, after) → Opened tree after opened busy how.writes number
open_is tree cwd path how number after opened busy is at answered = open_led_is tree how (resolve tree cwd path) number after opened busy is (path_led tree cwd path is at) answered

mkdir_led_turns : (tree : Tree) (led : Walked) (number : ℕ) (after : Tree) (opened busy : ℕ → Bool) → mkdir_led tree led ≡ Ok (number, after) → Turns tree after opened busy None
mkdir_led_turns tree (walked.Node n) number after opened busy at = absurd (err-ok errnos.EEXIST (number, after) at)
mkdir_led_turns tree (walked.Named parent name n slashed) number after opened busy at = absurd (err-ok errnos.EEXIST (number, after) at)
mkdir_led_turns tree (walked.Free dir name slashed) number after opened busy at = make_turns tree dir name (Directory dir []) number after opened busy None at
mkdir_led_turns tree (walked.Fail errno) number after opened busy at = absurd (err-ok errno (number, after) at)

pub mkdir_turns : (tree : Tree) (cwd : ℕ) (path : List ℕ) (number : ℕ) (after : Tree) (opened busy : ℕ → Bool) → mkdir_path tree cwd path ≡ Ok (number, after) → Turns tree after opened busy None
mkdir_turns tree cwd path number after opened busy answered = mkdir_led_turns tree (resolve tree cwd path) number after opened busy answered

mkfifo_led_turns : (tree : Tree) (led : Walked) (number : ℕ) (after : Tree) (opened busy : ℕ → Bool) → mkfifo_led tree led ≡ Ok (number, after) → Turns tree after opened busy None
mkfifo_led_turns tree (walked.Node n) number after opened busy at = absurd (err-ok errnos.EEXIST (number, after) at)
mkfifo_led_turns tree (walked.Named parent name n slashed) number after opened busy at = absurd (err-ok errnos.EEXIST (number, after) at)
mkfifo_led_turns tree (walked.Free dir name slashed) number after opened busy at =
    make_turns tree dir name Fifo number after opened busy None (unless_ok slashed errnos.ENOENT (make tree dir name Fifo) (number, after) at).1
mkfifo_led_turns tree (walked.Fail errno) number after opened busy at = absurd (err-ok errno (number, after) at)

pub mkfifo_turns : (tree : Tree) (cwd : ℕ) (path : List ℕ) (number : ℕ) (after : Tree) (opened busy : ℕ → Bool) → mkfifo_path tree cwd path ≡ Ok (number, after) → Turns tree after opened busy None
mkfifo_turns tree cwd path number after opened busy answered = mkfifo_led_turns tree (resolve tree cwd path) number after opened busy answered

-- what is bound is a new socket's name
pub record Binds (tree after : Tree) (opened busy : ℕ → Bool) (number : ℕ) : Type 0 where
  pub turns : Turns tree after opened busy None
  pub free : is_in_use tree number ≡ false
  pub socket : is_socket after number ≡ true

bind_led_is : (tree : Tree) (led : Walked) (number : ℕ) (after : Tree) (opened busy : ℕ → Bool) → IsLed tree led → bind_led tree led ≡ Ok (number, after) → Binds tree after opened busy number
bind_led_is tree (walked.Node n) number after opened busy there at = absurd (err-ok errnos.EADDRINUSE (number, after) at)
bind_led_is tree (walked.Named parent name n slashed) number after opened busy there at = absurd (err-ok errnos.EADDRINUSE (number, after) at)
bind_led_is tree (walked.Free dir name slashed) number after opened busy there at =
    let answered = (unless_ok slashed errnos.ENOENT (make tree dir name SocketName) (number, after) at).1 in
    let made = made_is tree dir name SocketName number after answered in
    let free = free_is tree number made.0 in
    let node = (made_found tree dir name SocketName number after there.0 there.1 tt answered).1 in
    record { turns = make_turns tree dir name SocketName number after opened busy None answered; free = ap is_some free.1; socket = ap (λ o. is_socket_kind (kind_in o)) node }
bind_led_is tree (walked.Fail errno) number after opened busy there at = absurd (err-ok errno (number, after) at)

pub bind_is : (tree : Tree) (cwd : ℕ) (path : List ℕ) (number : ℕ) (after : Tree) (opened busy : ℕ → Bool) → IsTree tree → is_directory tree cwd ≡ true
    → bind_path tree cwd path ≡ Ok (number, after) → Binds tree after opened busy number
bind_is tree cwd path number after opened busy is at answered = bind_led_is tree (resolve tree cwd path) number after opened busy (path_led tree cwd path is at) answered

link_to_turns : (tree : Tree) (number : ℕ) (led : Walked) (after : Tree) (opened busy : ℕ → Bool) → link_to tree number led ≡ Ok after → Turns tree after opened busy None
link_to_turns tree number (walked.Node n) after opened busy at = absurd (err-ok errnos.EEXIST after at)
link_to_turns tree number (walked.Named parent name n slashed) after opened busy at = absurd (err-ok errnos.EEXIST after at)
link_to_turns tree number (walked.Free dir name slashed) after opened busy at =
    link_turns tree dir name number after opened busy None (unless_ok slashed errnos.ENOENT (link tree dir name number) after at).1
link_to_turns tree number (walked.Fail errno) after opened busy at = absurd (err-ok errno after at)

link_from_turns : (tree : Tree) (old : Result ℕ Errno) (new : Walked) (after : Tree) (opened busy : ℕ → Bool) → link_from tree old new ≡ Ok after → Turns tree after opened busy None
link_from_turns tree (Ok number) new after opened busy at = link_to_turns tree number new after opened busy (unless_ok (is_directory tree number) errnos.EPERM (link_to tree number new) after at).1
link_from_turns tree (Err errno) new after opened busy at = absurd (err-ok errno after at)

pub link_path_turns : (tree : Tree) (cwd : ℕ) (old new : List ℕ) (after : Tree) (opened busy : ℕ → Bool) → link_path tree cwd old new ≡ Ok after → Turns tree after opened busy None
link_path_turns tree cwd old new after opened busy answered = link_from_turns tree (node_led (resolve tree cwd old)) (resolve tree cwd new) after opened busy answered

rmdir_led_turns : (tree : Tree) (busy opened : ℕ → Bool) (led : Walked) (after : Tree) → IsTree tree → IsLed tree led → rmdir_led tree busy led ≡ Ok after → Turns tree after opened busy None
rmdir_led_turns tree busy opened (walked.Node n) after is there at = absurd (err-ok errnos.EBUSY after at)
rmdir_led_turns tree busy opened (walked.Named dir name number slashed) after is there at =
    let gone : Tree = unlink tree dir name number false in
    let third : Result Tree Errno = unless (busy number) errnos.EBUSY (Ok gone) in
    let second : Result Tree Errno = unless (not (is_empty tree number)) errnos.ENOTEMPTY third in
    let passed = unless_ok (not (is_directory tree number)) errnos.ENOTDIR second after at in
    let passed_empty = unless_ok (not (is_empty tree number)) errnos.ENOTEMPTY third after passed.1 in
    let passed_busy = unless_ok (busy number) errnos.EBUSY (Ok gone) after passed_empty.1 in
    let directory : is_directory tree number ≡ true = not_not (is_directory tree number) passed.0 in
    subst (λ t. Turns tree t opened busy None) (same_Ok gone after passed_busy.1)
    (unlink_turns tree dir name number false opened busy None (found_in_use tree dir name number is there.1)
    (λ one free. record {
      directory = λ dir_is. passed_busy.0;
      socket = λ sock. absurd (dir_or_sock (node_at tree number) directory sock);
      file = λ not_dir not_sock. absurd (true_false (is_directory tree number) directory not_dir);
    }) (λ e. absurd (true_false false e refl)))
  where
    not_not : (b : Bool) → not b ≡ false → b ≡ true
    not_not true e = refl
    not_not false e = absurd (true_false true refl e)
rmdir_led_turns tree busy opened (walked.Free dir name slashed) after is there at = absurd (err-ok errnos.ENOENT after at)
rmdir_led_turns tree busy opened (walked.Fail errno) after is there at = absurd (err-ok errno after at)

pub rmdir_turns : (tree : Tree) (cwd : ℕ) (path : List ℕ) (busy opened : ℕ → Bool) (after : Tree) → IsTree tree → is_directory tree cwd ≡ true → rmdir_path tree cwd path busy ≡ Ok after → Turns tree after opened busy None
rmdir_turns tree cwd path busy opened after is at answered =
    let led : Walked = resolve tree cwd path in
    let second : Result Tree Errno = unless (ends_in parent_name path) errnos.ENOTEMPTY (rmdir_led tree busy led) in
    let p1 = unless_ok (ends_in own_name path) errnos.EINVAL second after answered in
    let p2 = unless_ok (ends_in parent_name path) errnos.ENOTEMPTY (rmdir_led tree busy led) after p1.1 in
    rmdir_led_turns tree busy opened led after is (path_led tree cwd path is at) p2.1

-- ---- unlink and rename, which tell a socket's name that was freed

-- what a name's node loses with it
file_goes : (tree : Tree) (opened busy : ℕ → Bool) (n : ℕ) → (is_directory tree n ≡ true → busy n ≡ false) → links_at tree n ≡ 1 → is_held tree opened n ≡ false → Goes tree opened busy (freed_by tree n) n
file_goes tree opened busy n directory one free = record { directory = directory; socket = λ sock. freed_told tree n sock one; file = unheld_file tree opened n free }

-- the tree of an answer, and what it tells
told : {A : Type 0} (freed other : A) (tree after : Tree) → ◌≡◌ {A = Result (A × Tree) Errno} (Ok (freed, tree)) (Ok (other, after)) → (freed ≡ other) × (tree ≡ after)
told {A} freed other tree after same = let both = same_Ok (freed, tree) (other, after) same in (ap (λ (p : A × Tree). p.0) both, ap (λ (p : A × Tree). p.1) both)

unlink_led_turns : (tree : Tree) (opened busy : ℕ → Bool) (led : Walked) (freed : Option ℕ) (after : Tree) → IsTree tree → IsLed tree led → unlink_led tree opened led ≡ Ok (freed, after) → Turns tree after opened busy freed
unlink_led_turns tree opened busy (walked.Node n) freed after is there at = absurd (err-ok errnos.EPERM (freed, after) at)
unlink_led_turns tree opened busy (walked.Named dir name number slashed) freed after is there at =
    let gone : Tree = unlink tree dir name number (is_held tree opened number) in
    let passed = unless_ok (is_directory tree number) errnos.EPERM (Ok (freed_by tree number, gone)) (freed, after) at in
    let both = told (freed_by tree number) freed gone after passed.1 in
    subst (λ f. Turns tree after opened busy f) both.0 (subst (λ t. Turns tree t opened busy (freed_by tree number)) both.1
    (unlink_turns tree dir name number (is_held tree opened number) opened busy (freed_by tree number) (found_in_use tree dir name number is there.1)
    (λ one free. file_goes tree opened busy number (λ dir_is. absurd (true_false (is_directory tree number) dir_is passed.0)) one free) (held_opened tree opened number)))
unlink_led_turns tree opened busy (walked.Free dir name slashed) freed after is there at = absurd (err-ok errnos.ENOENT (freed, after) at)
unlink_led_turns tree opened busy (walked.Fail errno) freed after is there at = absurd (err-ok errno (freed, after) at)

pub unlink_path_turns : (tree : Tree) (cwd : ℕ) (path : List ℕ) (opened busy : ℕ → Bool) (freed : Option ℕ) (after : Tree) → IsTree tree → is_directory tree cwd ≡ true
    → unlink_path tree cwd path opened ≡ Ok (freed, after) → Turns tree after opened busy freed
unlink_path_turns tree cwd path opened busy freed after is at answered = unlink_led_turns tree opened busy (resolve tree cwd path) freed after is (path_led tree cwd path is at) answered

onto_turns : (tree : Tree) (opened busy : ℕ → Bool) (dir : ℕ) (name : List ℕ) (number to : ℕ) (new : List ℕ) (replaced : ℕ) (freed : Option ℕ) (after : Tree) → is_in_use tree replaced ≡ true
    → rename_onto tree opened busy dir name number to new replaced ≡ Ok (freed, after) → Turns tree after opened busy freed
onto_turns tree opened busy dir name number to new replaced freed after used answered =
    let done : Tree = rename_over tree dir name number to new replaced (is_held tree opened replaced) in
    let fourth : Result (Option ℕ × Tree) Errno = unless (is_directory tree replaced && busy replaced) errnos.EBUSY (Ok (freed_by tree replaced, done)) in
    let third : Result (Option ℕ × Tree) Errno = unless (is_directory tree replaced && not (is_empty tree replaced)) errnos.ENOTEMPTY fourth in
    let second : Result (Option ℕ × Tree) Errno = unless (is_directory tree number && not (is_directory tree replaced)) errnos.ENOTDIR third in
    let first : Result (Option ℕ × Tree) Errno = unless (is_directory tree replaced && not (is_directory tree number)) errnos.EISDIR second in
    elim (cases_Bool (eqb number replaced)) [
      | inl one ↦ let both = told None freed tree after (sym (cond-true (eqb number replaced) (Ok (None, tree)) first one) ∙ answered) in
          subst (λ t. Turns tree t opened busy freed) both.1 (turns_of tree tree opened busy freed (looks_same tree))
      | inr two ↦
          let p1 = unless_ok (is_directory tree replaced && not (is_directory tree number)) errnos.EISDIR second (freed, after) (sym (cond-false (eqb number replaced) (Ok (None, tree)) first two) ∙ answered) in
          let p2 = unless_ok (is_directory tree number && not (is_directory tree replaced)) errnos.ENOTDIR third (freed, after) p1.1 in
          let p3 = unless_ok (is_directory tree replaced && not (is_empty tree replaced)) errnos.ENOTEMPTY fourth (freed, after) p2.1 in
          let p4 = unless_ok (is_directory tree replaced && busy replaced) errnos.EBUSY (Ok (freed_by tree replaced, done)) (freed, after) p3.1 in
          let both = told (freed_by tree replaced) freed done after p4.1 in
          subst (λ f. Turns tree after opened busy f) both.0 (subst (λ t. Turns tree t opened busy (freed_by tree replaced)) both.1
          (over_turns tree dir name number to new replaced (is_held tree opened replaced) opened busy (freed_by tree replaced) used
          (λ one free. file_goes tree opened busy replaced (λ dir_is. not_busy dir_is p4.0) one free) (held_opened tree opened replaced)))
    ]
  where
    not_busy : is_directory tree replaced ≡ true → (is_directory tree replaced && busy replaced) ≡ false → busy replaced ≡ false
    not_busy dir_is e = sym (ap (λ b. b && busy replaced) dir_is) ∙ e

away_turns : (tree : Tree) (opened busy : ℕ → Bool) (dir : ℕ) (name : List ℕ) (number to : ℕ) (new : List ℕ) (slashed : Bool) (freed : Option ℕ) (after : Tree)
    → rename_away tree dir name number to new slashed ≡ Ok (freed, after) → Turns tree after opened busy freed
away_turns tree opened busy dir name number to new slashed freed after answered =
    let done : Tree = rename_to tree dir name number to new in
    let second : Result (Option ℕ × Tree) Errno = unless (not (eqb dir to) && not (takes_entry tree to 0)) errnos.ENOSPC (Ok (None, done)) in
    let p1 = unless_ok (slashed && not (is_directory tree number)) errnos.ENOTDIR second (freed, after) answered in
    let p2 = unless_ok (not (eqb dir to) && not (takes_entry tree to 0)) errnos.ENOSPC (Ok (None, done)) (freed, after) p1.1 in
    let both = told None freed done after p2.1 in
    subst (λ t. Turns tree t opened busy freed) both.1 (turns_of tree done opened busy freed (to_looks tree dir name number to new))

named_turns : (tree : Tree) (opened busy : ℕ → Bool) (dir : ℕ) (name : List ℕ) (number : ℕ) (led : Walked) (freed : Option ℕ) (after : Tree) → IsTree tree → IsLed tree led
    → rename_named tree opened busy dir name number led ≡ Ok (freed, after) → Turns tree after opened busy freed
named_turns tree opened busy dir name number (walked.Node n) freed after is there answered = absurd (err-ok errnos.EBUSY (freed, after) answered)
named_turns tree opened busy dir name number (walked.Named to new replaced slashed) freed after is there answered =
    let passed = unless_ok (goes_below tree number to) errnos.EINVAL (rename_onto tree opened busy dir name number to new replaced) (freed, after) answered in
    onto_turns tree opened busy dir name number to new replaced freed after (found_in_use tree to new replaced is there.1) passed.1
named_turns tree opened busy dir name number (walked.Free to new slashed) freed after is there answered =
    let passed = unless_ok (goes_below tree number to) errnos.EINVAL (rename_away tree dir name number to new slashed) (freed, after) answered in
    away_turns tree opened busy dir name number to new slashed freed after passed.1
named_turns tree opened busy dir name number (walked.Fail errno) freed after is there answered = absurd (err-ok errno (freed, after) answered)

root_stays_there : (led : Walked) (freed : Option ℕ) (after : Tree) → rename_root led ≡ Ok (freed, after) → ⊥
root_stays_there (walked.Node n) freed after at = err-ok errnos.EBUSY (freed, after) at
root_stays_there (walked.Named dir name n slashed) freed after at = err-ok errnos.EBUSY (freed, after) at
root_stays_there (walked.Free dir name slashed) freed after at = err-ok errnos.EBUSY (freed, after) at
root_stays_there (walked.Fail errno) freed after at = err-ok errno (freed, after) at

rename_led_turns : (tree : Tree) (opened busy : ℕ → Bool) (old new : Walked) (freed : Option ℕ) (after : Tree) → IsTree tree → IsLed tree new → rename_led tree opened busy old new ≡ Ok (freed, after) → Turns tree after opened busy freed
rename_led_turns tree opened busy (walked.Node n) new freed after is there at = absurd (root_stays_there new freed after at)
rename_led_turns tree opened busy (walked.Named dir name number slashed) new freed after is there at = named_turns tree opened busy dir name number new freed after is there at
rename_led_turns tree opened busy (walked.Free dir name slashed) new freed after is there at = absurd (err-ok errnos.ENOENT (freed, after) at)
rename_led_turns tree opened busy (walked.Fail errno) new freed after is there at = absurd (err-ok errno (freed, after) at)

pub rename_path_turns : (tree : Tree) (cwd : ℕ) (old new : List ℕ) (opened busy : ℕ → Bool) (freed : Option ℕ) (after : Tree) → IsTree tree → is_directory tree cwd ≡ true
    → rename_path tree cwd old new opened busy ≡ Ok (freed, after) → Turns tree after opened busy freed
rename_path_turns tree cwd old new opened busy freed after is at answered = rename_led_turns tree opened busy (resolve tree cwd old) (resolve tree cwd new) freed after is (path_led tree cwd new is at) answered
