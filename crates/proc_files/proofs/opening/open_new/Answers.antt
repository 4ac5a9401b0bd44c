use Rattle.std.proofs.Common.{◌≡◌, ◌<◌, ◌∙◌, [], length, Some, ap, refl, sym, subst, w64}
use Rattle.std.proofs.lemmas.Int.{to_z-of_z}
use Rattle.kheap_slabs.specs.Heap.{Heap}
use Rattle.kheap_slabs.specs.Purse.{Purse}
use Rattle.desc_table.specs.Copying.{spends_leaves}
use Rattle.proc_numbers.proofs.NumberRooms.{spends_so}
use Rattle.kheap_laws.proofs.PaidLemmas.{IsPaid-trans, CanPay-kept}
use Rattle.open_laws.specs.Described.{target_in}
use Rattle.pipe_ends.proofs.LinkLemmas.{links_same}
use Rattle.posix_defs.specs.Calls.OnFiles.{description_on}
use Rattle.posix_defs.specs.Files.Descriptions.{has_flag, o_cloexec}
use Rattle.posix_defs.specs.Files.State.{with_open}
use Rattle.proc_numbers.specs.Having.{HaveOpen}
use Rattle.proc_numbers.specs.Naming.{named_at}
use Rattle.proc_numbers.proofs.Fronts.{queues_same}
use Rattle.proc_numbers.proofs.NumberOpens.{changes_named}
use Rattle.proc_numbers.proofs.Changes.{changes_after, opening}
use Rattle.proc_numbers.proofs.Made.{used_apart}
use Rattle.proc_files.specs.Opening.{MakesDesc, described_more, desc_on, with_desc}
use Rattle.proc_files.proofs.Makes.{given, made_listed, spent_fills, stays}
use Rattle.proc_files.proofs.opening.open_new.Goals as goal

pub open_one-requires-clause-listed : goal.open_one-requires-clause-listed
open_one-requires-clause-listed c =
    made_listed c.args.heap.now c.describe-desc.new.heap c.describe-desc.result c.args.target _ c.describe-desc.ensures.makes c.args.procs.now c.requires.listed

pub open_one-requires-clause-free : goal.open_one-requires-clause-free
open_one-requires-clause-free c = ap (λ (h : Heap). named_at h c.args.procs.now c.args.place.pid c.args.fd) c.describe-desc.ensures.makes.kept ∙ c.requires.free

pub returns-clause-opened : goal.returns-clause-opened
returns-clause-opened c = λ numbers files have.
    let flags = to_z-of_z w64 c.args.flags c.ranges.flags in
    let key = c.describe-desc.result in
    let makes : MakesDesc c.args.heap.now c.describe-desc.new.heap key c.args.target c.args.flags =
    subst (λ z. MakesDesc c.args.heap.now c.describe-desc.new.heap key c.args.target z) flags c.describe-desc.ensures.makes in
    let then = with_desc numbers files key in
    let more = described_more files (description_on (target_in numbers c.args.target) c.args.flags) in
    record {
      now = then;
      keeps = record {
        descs = λ other used. stays numbers.descs key (length files.descriptions) other (used_apart c.args.heap.now.descs key (desc_on c.args.target c.args.flags) makes.vacant makes.within other used);
        pipes = λ other used. refl;
        socks = λ other used. refl;
        frames = refl;
      };
      have =
          subst (λ b. HaveOpen then c.open_one.new.heap c.args.procs.now (with_open more c.args.place.pid c.args.fd (Some (record { description = length files.descriptions; cloexec = b }))))
          (c.has_flag.ensures ∙ ap (λ z. has_flag z o_cloexec) flags)
          (subst (λ place. HaveOpen then c.open_one.new.heap c.args.procs.now (with_open more c.args.place.pid c.args.fd (Some (record { description = place; cloexec = c.has_flag.result }))))
          (given numbers.descs key (length files.descriptions))
          (c.open_one.ensures.opened then more (have c.describe-desc.new.heap key makes)));
    }

pub returns-clause-owners : goal.returns-clause-owners
returns-clause-owners c =
    let makes : MakesDesc c.args.heap.now c.describe-desc.new.heap c.describe-desc.result c.args.target c.args.flags =
    subst (λ z. MakesDesc c.args.heap.now c.describe-desc.new.heap c.describe-desc.result c.args.target z) (to_z-of_z w64 c.args.flags c.ranges.flags) c.describe-desc.ensures.makes in
    c.open_one.ensures.owners [] (c.requires.wants c.describe-desc.new.heap c.describe-desc.result makes)

pub returns-clause-changes : goal.returns-clause-changes
returns-clause-changes c =
    let makes = c.describe-desc.ensures.makes in
    let mid = c.describe-desc.new.heap in
    changes_after c.args.heap.now mid c.open_one.new.heap c.args.procs.now c.args.place.pid (ap (λ (h : Heap). h.procs) makes.kept)
    (subst (λ (h : Heap). h ≡ opening c.args.heap.now h) (sym makes.kept) refl)
    (links_same c.args.heap.now mid (ap (λ (h : Heap). h.pipes) makes.kept))
    (changes_named mid c.open_one.new.heap c.args.procs.now c.args.place.pid c.args.fd _ (made_listed c.args.heap.now mid c.describe-desc.result c.args.target _ makes c.args.procs.now c.requires.listed) c.open_one.ensures.names)

pub returns-clause-stay : goal.returns-clause-stay
returns-clause-stay c =
    let makes = c.describe-desc.ensures.makes in let names = c.open_one.ensures.names in
    record {
      vnodes = ap (λ (h : Heap). h.vnodes) names.after ∙ ap (λ (h : Heap). h.vnodes) makes.kept;
      names = ap (λ (h : Heap). h.names) names.after ∙ ap (λ (h : Heap). h.names) makes.kept;
      blocks = ap (λ (h : Heap). h.blocks) names.after ∙ ap (λ (h : Heap). h.blocks) makes.kept;
      size = ap (λ (h : Heap). h.heap) names.after ∙ ap (λ (h : Heap). h.heap) makes.kept;
    }

pub returns-clause-queues : goal.returns-clause-queues
returns-clause-queues c =
    let makes = c.describe-desc.ensures.makes in let names = c.open_one.ensures.names in
    queues_same c.args.heap.now c.open_one.new.heap (ap (λ (h : Heap). h.pipes) names.after ∙ ap (λ (h : Heap). h.pipes) makes.kept) (ap (λ (h : Heap). h.socks) names.after ∙ ap (λ (h : Heap). h.socks) makes.kept)

pub returns-clause-paid : goal.returns-clause-paid
returns-clause-paid c =
    IsPaid-trans c.args.heap.now c.args.purse.now c.describe-desc.new.heap c.describe-desc.new.purse c.open_one.new.heap c.open_one.new.purse c.describe-desc.ensures.paid c.open_one.ensures.paid

pub returns-clause-fills : goal.returns-clause-fills
returns-clause-fills c =
    let makes = c.describe-desc.ensures.makes in let names = c.open_one.ensures.names in
    spent_fills c.args.heap.now c.open_one.new.heap c.args.purse.now c.open_one.new.purse
    (ap (λ (h : Heap). h.vnodes) names.after ∙ ap (λ (h : Heap). h.vnodes) makes.kept)
    (ap (λ (h : Heap). h.names) names.after ∙ ap (λ (h : Heap). h.names) makes.kept)
    (ap (λ (h : Heap). h.blocks) names.after ∙ ap (λ (h : Heap). h.blocks) makes.kept)
    (spends_so _ c.describe-desc.new.purse c.open_one.new.purse c.open_one.ensures.spent ∙ ap (λ (p : Purse). spends_leaves p c.open_one.new.purse) c.describe-desc.ensures.spent) c.requires.fills

pub returns-clause-socks : goal.returns-clause-socks
returns-clause-socks c = ap (λ (h : Heap). h.socks) c.open_one.ensures.names.after ∙ ap (λ (h : Heap). h.socks) c.describe-desc.ensures.makes.kept

pub returns-clause-locks : goal.returns-clause-locks
returns-clause-locks c = ap (λ (h : Heap). h.locks) c.open_one.ensures.names.after ∙ ap (λ (h : Heap). h.locks) c.describe-desc.ensures.makes.kept

pub open_one-requires-clause-pays : goal.open_one-requires-clause-pays
open_one-requires-clause-pays c = CanPay-kept c.args.heap.now c.describe-desc.new.heap c.args.purse.now c.describe-desc.new.purse c.describe-desc.ensures.paid c.requires.pays

pub open_one-requires-clause-left : goal.open_one-requires-clause-left
open_one-requires-clause-left c = λ none. subst (λ (p : Purse). 0 < p.left.leaf) (sym c.describe-desc.ensures.spent) c.requires.left_leaf
