-- Where the heap stands for what the machine has, whichever places keys have that aren't in use, and no socket of the machine gets
-- another name, no key of the heap does.
use Rattle.std.proofs.Common.{◌≡◌, ℕ, cond, [], length, Option, None, Some, IsSome, is_some, refl, sym, ap, ◌∙◌, arith}
use Rattle.std.proofs.lemmas.List.{get_or_past}
use Rattle.kheap_slabs.specs.Objects.{InUse, object}
use Rattle.kheap_slabs.specs.declared.objects.Sock.{Sock}
use Rattle.kheap_slabs.specs.Heap.{Heap}
use Rattle.open_laws.specs.Owned.{HasItsOwners}
use Rattle.open_laws.specs.Socketed.{AreRenamed, socket_by}
use Rattle.open_laws.proofs.SocketLemmas.{placed_there}
use Rattle.open_laws.specs.Placed.{Numbers}
use Rattle.open_laws.proofs.PlaceLemmas.{placed_unchanged}
use Rattle.posix_defs.specs.Files.State.{Files}
use Rattle.posix_defs.specs.Sockets.{Sockets, sock_at}
use Rattle.usock_core.specs.Standing.{StandsFor as SocketsStandFor}
use Rattle.usock_core.proofs.StandingLemmas.{LeavesOthers-refl, found, used_from}
use Rattle.kheap_slabs.proofs.ObjectLemmas.{object_of}
use Rattle.proc_table.specs.Table.{TableView}
use Rattle.proc_numbers.specs.Having.{HaveOpen}
use Rattle.proc_numbers.specs.PipeOpening.{KeepsNumbers}
use Rattle.proc_numbers.proofs.Opens.{have_changed}
use Rattle.proc_numbers.proofs.Renaming.{socket_same}
use Rattle.proc_files.specs.Names.{name_of}
use Rattle.proc_files.proofs.Placed.{key_at, placed_node}
use Rattle.proc_files.proofs.Tables.{name_says, named_used, node_of, node_there}
use Rattle.proc_files.proofs.Ties.{none_is}

module _ (numbers : Numbers) (old new : Heap) (kept : TableView) (files now : Files) (owners : HasItsOwners old []) (have : HaveOpen numbers old kept files)
    (leads : (n : Numbers) → KeepsNumbers old numbers n → HaveOpen n old kept files → HaveOpen n new kept now) (same : (place : ℕ) → node_of now.sockets place ≡ node_of files.sockets place) where
  abbrev keyed : Sockets
  keyed = have.opened.socketed.keyed

  stands : SocketsStandFor old keyed
  stands = have.opened.socketed.stands

  -- keys that aren't in use may have any places, also one where nothing is
  abbrev far : ℕ → ℕ
  far key = cond (is_some (object old.socks key)) (numbers.socks key) (length now.sockets)

  far_used : (key : ℕ) → InUse old.socks key → far key ≡ numbers.socks key
  far_used key used = ap (λ b. cond b (numbers.socks key) (length now.sockets)) used

  far_there : (key : ℕ) → IsSome (sock_at keyed key) → far key ≡ numbers.socks key
  far_there key there = far_used key (used_from old keyed key stands.table there)

  renamed_far : AreRenamed far keyed files.sockets
  renamed_far =
      placed_unchanged (λ k socket placed. placed ≡ socket_by numbers.socks socket) (λ k socket placed. placed ≡ socket_by far socket) numbers.socks far keyed keyed (object files.sockets) (object files.sockets)
      (λ k. refl) (λ place. refl) far_there (λ k socket placed at said means. means ∙ socket_same numbers.socks far keyed stands.linked far_there k socket at) have.opened.socketed.renamed

  have_far : HaveOpen (record numbers { socks = far }) old kept files
  have_far =
      have_changed old old (LeavesOthers-refl old) numbers far far_used owners.held.targets files.sockets (record { keyed = keyed; stands = stands; renamed = renamed_far }) kept files have

  keeps_far : KeepsNumbers old numbers (record numbers { socks = far })
  keeps_far = record { descs = λ key used. refl; pipes = λ key used. refl; socks = far_used; frames = refl }

  -- so no socket is made
  was_used : (key : ℕ) → InUse new.socks key → InUse old.socks key
  was_used key used = by_sock (object old.socks key) refl
    where
      by_sock : (o : Option Sock) → object old.socks key ≡ o → IsSome (object old.socks key)
      by_sock (Some sock) is = ap is_some is
      by_sock None is = absurd (
          let then = (leads (record numbers { socks = far }) keeps_far have_far).opened.socketed in
          let sock = object_of new.socks key used in
          let there = (found new then.keyed key sock.0 then.stands.table sock.1).there in
          let past : sock_at now.sockets (far key) ≡ None =
          ap (λ o. sock_at now.sockets (cond (is_some o) (numbers.socks key) (length now.sockets))) is ∙ get_or_past now.sockets (length now.sockets) None (omega arith) in
          let both = sym past ∙ placed_there far then.keyed now.sockets key then.renamed there in cc)

  pub names_on : (key : ℕ) → name_of new.socks key ≡ name_of old.socks key
  names_on key = by_names (name_of new.socks key) (name_of old.socks key) refl refl
    where
      then : HaveOpen numbers new kept now
      then = leads numbers (record { descs = λ key used. refl; pipes = λ key used. refl; socks = λ key used. refl; frames = refl }) have

      had : (node : ℕ) → name_of new.socks key ≡ Some node → name_of old.socks key ≡ Some node
      had node is =
          let in_next : node_of then.opened.socketed.keyed key ≡ Some node = sym (name_says new then.opened.socketed.keyed then.opened.socketed.stands.table key) ∙ is in
          let sock = object_of old.socks key (was_used key (named_used new key node is)) in
          let there = (found old keyed key sock.0 stands.table sock.1).there in
          name_says old keyed stands.table key
          ∙ sym (placed_node numbers.socks keyed files.sockets have.opened.socketed.renamed key there)
          ∙ sym (same (numbers.socks key))
          ∙ placed_node numbers.socks then.opened.socketed.keyed now.sockets then.opened.socketed.renamed key (node_there then.opened.socketed.keyed key node in_next)
          ∙ in_next

      has : (node : ℕ) → name_of old.socks key ≡ Some node → name_of new.socks key ≡ Some node
      has node is =
          let in_keyed : node_of keyed key ≡ Some node = sym (name_says old keyed stands.table key) ∙ is in
          let there = node_there keyed key node in_keyed in
          let at =
          key_at numbers.socks then.opened.socketed.keyed now.sockets then.opened.socketed.renamed (numbers.socks key) node
          (same (numbers.socks key) ∙ placed_node numbers.socks keyed files.sockets have.opened.socketed.renamed key there ∙ in_keyed) in
          let used = was_used at.key (used_from new then.opened.socketed.keyed at.key then.opened.socketed.stands.table at.there) in
          let sock = object_of old.socks at.key used in
          let one : at.key ≡ key =
          have.opened.socketed.renamed.once at.key key (found old keyed at.key sock.0 stands.table sock.1).there there at.at in
          name_says new then.opened.socketed.keyed then.opened.socketed.stands.table key ∙ ap (node_of then.opened.socketed.keyed) (sym one) ∙ at.named

      by_names : (one other : Option ℕ) → name_of new.socks key ≡ one → name_of old.socks key ≡ other → name_of new.socks key ≡ name_of old.socks key
      by_names (Some node) other is was = is ∙ sym (had node is)
      by_names None None is was = is ∙ sym was
      by_names None (Some node) is was = absurd (none_is (sym is ∙ has node was))
