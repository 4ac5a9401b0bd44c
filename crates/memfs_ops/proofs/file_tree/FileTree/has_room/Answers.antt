use Rattle.std.proofs.Common.{ℕ, List, sym, ap, ◌∙◌, subst}
use Rattle.std.specs.Prelude.{◌↔◌, IsTrue}
use Rattle.memfs_dir.specs.Listed.{IsFull}
use Rattle.memfs_ops.specs.FileTree.{TreeView, Stands, Pays}
use Rattle.memfs_ops.specs.declared.file_tree.FileTree.TheInside.{Inside}
use Rattle.memfs_ops.proofs.FetchLemmas.{block_lent, still_may_fetch, fetched_stands, few_bytes}
use Rattle.memfs_ops.proofs.CloseLemmas.{pays_fetched}
use Rattle.memfs_ops.proofs.StepLemmas.{free_on, full_alone, full_beside_none}
use Rattle.memfs_ops.proofs.file_tree.FileTree.has_room.Goals as goal

abbrev view : Inside → TreeView
view fs = record { names = fs.names; vnodes = fs.vnodes; blocks = fs.blocks; disk = fs.disk }

pub room_through-requires-clause-lent : goal.room_through-requires-clause-lent
room_through-requires-clause-lent c =
    let r = c.requires.stands in
    block_lent c.args.heap.now c.args.purse.now (view c.self.inside) r.0 r.1 (subst (λ (v : TreeView). Stands c.args.heap.now v r.0 r.1) (sym c.self.view_is) r.2) c.requires.may.fetch

pub room_through-requires-clause-sound : goal.room_through-requires-clause-sound
room_through-requires-clause-sound c =
    let r = c.requires.stands in
    (subst (λ (v : TreeView). Stands c.args.heap.now v r.0 r.1) (sym c.self.view_is) r.2).behind.sound

pub room_through-requires-clause-size : goal.room_through-requires-clause-size
room_through-requires-clause-size c = few_bytes c.args.self.now.disk.blocks c.requires.node.0 c.args.dir.now c.requires.node.1

pub returns-clause-value : goal.returns-clause-value
returns-clause-value c =
    let t = c.room_through in
    let disk : List (List ℕ) = c.self.inside.disk.blocks in
    subst (λ (v : TreeView). IsTrue t.result ↔ ¬ (IsFull v.disk.blocks c.args.dir.now)) c.self.view_is
    ((λ yes full. t.ensures.value.0 yes (full_alone disk c.args.dir.now full)), (λ no. t.ensures.value.1 (λ full. no (full_beside_none disk c.args.dir.now full))))

pub returns-clause-stands : goal.returns-clause-stands
returns-clause-stands c = λ tree pins stands.
    let t = c.room_through in
    fetched_stands c.args.heap.now t.new.heap c.args.purse.now t.new.purse (view c.self.inside) t.new.cache t.new.disk t.ensures.goes_on t.ensures.lent t.ensures.kept tree pins (subst (λ (v : TreeView). Stands c.args.heap.now v tree pins) (sym c.self.view_is) stands)

pub returns-clause-bytes : goal.returns-clause-bytes
returns-clause-bytes c = c.room_through.ensures.kept ∙ ap (λ (v : TreeView). v.disk.blocks) c.self.view_is

pub returns-clause-names : goal.returns-clause-names
returns-clause-names c = ap (λ (v : TreeView). v.names) c.self.view_is

pub returns-clause-pays : goal.returns-clause-pays
returns-clause-pays c =
    let t = c.room_through in
    let now : TreeView = record (view c.self.inside) { blocks = t.new.cache; disk = t.new.disk } in
    let may = still_may_fetch c.args.heap.now t.new.heap c.args.purse.now t.new.purse (view c.self.inside) t.new.cache t.new.disk t.ensures.goes_on t.ensures.lent c.requires.may.fetch in
    subst (λ (v : TreeView). Pays c.args.heap.now t.new.heap c.args.purse.now t.new.purse v now) c.self.view_is (pays_fetched c.args.heap.now t.new.heap c.args.purse.now t.new.purse (view c.self.inside) now t.ensures.goes_on may)

pub returns-clause-may : goal.returns-clause-may
returns-clause-may c =
    let t = c.room_through in
    let now : TreeView = record (view c.self.inside) { blocks = t.new.cache; disk = t.new.disk } in
    let may = still_may_fetch c.args.heap.now t.new.heap c.args.purse.now t.new.purse (view c.self.inside) t.new.cache t.new.disk t.ensures.goes_on t.ensures.lent c.requires.may.fetch in
    free_on c.args.heap.now t.new.heap c.args.purse.now t.new.purse (view c.self.inside) now c.requires.may t.ensures.goes_on may
