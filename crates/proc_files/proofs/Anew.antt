-- Where the heap stands for what the machine has once a call has made sockets, each key that was in use has the place that it had,
-- and no socket of the machine gets another name, no key of the heap does.
use Rattle.std.proofs.Common.{◌≡◌, ℕ, Option, None, Some, refl, sym, ap, ◌∙◌}
use Rattle.kheap_slabs.specs.Objects.{InUse}
use Rattle.kheap_slabs.proofs.ObjectLemmas.{object_of}
use Rattle.kheap_slabs.specs.Heap.{Heap}
use Rattle.open_laws.specs.Socketed.{AreSocketed}
use Rattle.open_laws.specs.Placed.{Numbers}
use Rattle.posix_defs.specs.Files.State.{Files}
use Rattle.usock_core.proofs.StandingLemmas.{found, used_from}
use Rattle.proc_table.specs.Table.{TableView}
use Rattle.proc_numbers.specs.Having.{HaveOpen}
use Rattle.proc_numbers.specs.PipeOpening.{KeepsNumbers}
use Rattle.proc_files.specs.Names.{name_of}
use Rattle.proc_files.proofs.Placed.{key_at, placed_node}
use Rattle.proc_files.proofs.Tables.{name_says, named_used, node_of, node_there}
use Rattle.proc_files.proofs.Ties.{none_is}

module _ (numbers after : Numbers) (old new : Heap) (kept : TableView) (files now : Files) (have : HaveOpen numbers old kept files) (haves : HaveOpen after new kept now)
    (keeps : KeepsNumbers old numbers after) (stay : (key : ℕ) → InUse old.socks key → InUse new.socks key) (same : (place : ℕ) → node_of now.sockets place ≡ node_of files.sockets place) where
  was : AreSocketed numbers old files.sockets
  was = have.opened.socketed

  is_now : AreSocketed after new now.sockets
  is_now = haves.opened.socketed

  had : (key node : ℕ) → name_of new.socks key ≡ Some node → name_of old.socks key ≡ Some node
  had key node is =
      let in_next : node_of is_now.keyed key ≡ Some node = sym (name_says new is_now.keyed is_now.stands.table key) ∙ is in
      let there = node_there is_now.keyed key node in_next in
      let placed : node_of now.sockets (after.socks key) ≡ Some node = placed_node after.socks is_now.keyed now.sockets is_now.renamed key there ∙ in_next in
      let at = key_at numbers.socks was.keyed files.sockets was.renamed (after.socks key) node (sym (same (after.socks key)) ∙ placed) in
      let used = used_from old was.keyed at.key was.stands.table at.there in
      let sock = object_of new.socks at.key (stay at.key used) in
      let one : at.key ≡ key =
      is_now.renamed.once at.key key (found new is_now.keyed at.key sock.0 is_now.stands.table sock.1).there there (keeps.socks at.key used ∙ at.at) in
      name_says old was.keyed was.stands.table key ∙ ap (node_of was.keyed) (sym one) ∙ at.named

  has : (key node : ℕ) → name_of old.socks key ≡ Some node → name_of new.socks key ≡ Some node
  has key node is =
      let in_keyed : node_of was.keyed key ≡ Some node = sym (name_says old was.keyed was.stands.table key) ∙ is in
      let used = named_used old key node is in
      let sock = object_of new.socks key (stay key used) in
      name_says new is_now.keyed is_now.stands.table key
      ∙ sym (placed_node after.socks is_now.keyed now.sockets is_now.renamed key (found new is_now.keyed key sock.0 is_now.stands.table sock.1).there)
      ∙ ap (node_of now.sockets) (keeps.socks key used)
      ∙ same (numbers.socks key)
      ∙ placed_node numbers.socks was.keyed files.sockets was.renamed key (node_there was.keyed key node in_keyed)
      ∙ in_keyed

  pub names_anew : (key : ℕ) → name_of new.socks key ≡ name_of old.socks key
  names_anew key = by_names (name_of new.socks key) (name_of old.socks key) refl refl
    where
      by_names : (one other : Option ℕ) → name_of new.socks key ≡ one → name_of old.socks key ≡ other → name_of new.socks key ≡ name_of old.socks key
      by_names (Some node) other is before = is ∙ sym (had key node is)
      by_names None None is before = is ∙ sym before
      by_names None (Some node) is before = absurd (none_is (sym is ∙ has key node before))
