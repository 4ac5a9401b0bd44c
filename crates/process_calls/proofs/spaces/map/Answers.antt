use Rattle.std.proofs.Common.{rules, ◌≡◌, ◌+◌, ◌-◌, ◌*◌, ◌/◌, ◌<◌, ◌≤◌, ℕ, ◌∙◌, arith, ap, length, refl, subst, sym}
use Rattle.kabi_types.specs.Arguments.{page_size}
use Rattle.kabi_types.specs.declared.errnos.Errno.{Errno}
use Rattle.kabi_types.specs.declared.errnos.Errno.TheVariants.{EMFILE}
use Rattle.posix_defs.specs.Process.{memory_of}
use Rattle.std.specs.Prelude.{is_some, option_map, ok_or, Option, None, Some, Ok, Err, Result}
use Rattle.kheap_slabs.specs.Objects.{object, put}
use Rattle.kheap_slabs.specs.Heap.{Heap}
use Rattle.kheap_laws.proofs.PaidLemmas.{IsPaid-nothing, IsPaid-trans}
use Rattle.posix_defs.specs.Memory.{after_map, is_mapped, lowest_run, with_pages, zero_page}
use Rattle.posix_defs.specs.Needs.{pages_in}
use Rattle.proc_table.specs.Procs.{memory_at}
use Rattle.proc_table.proofs.MemoryLemmas.{length-memory_at, memory_at-stands}
use Rattle.store_objects.specs.declared.objects.Objects.{Objects}
use Rattle.store_objects.specs.Standing.{StandsFor, remembered_in}
use Rattle.process_calls.proofs.LongRuns.{none_long, run_within}
use Rattle.process_calls.proofs.SpacesInHand.{kept_then, memory_is, nodes_back, runs_then, stand_then}
use Rattle.process_calls.proofs.WithRanges.{length-with_range}
use Rattle.process_calls.proofs.spaces.map.Goals as goal

back_is : (c : goal.After-set_proc_nodes)
    → c.set_proc_nodes.new.self ≡ record c.map.new.heap { procs = put c.map.new.heap.procs c.args.place.key (record c.space_of-space.ensures.proc { nodes = c.map.new.self }) }
back_is c =
    nodes_back c.args.objects.now c.map.new.heap c.set_proc_nodes.new.self c.args.place.pid c.args.place.key c.space_of-space.result c.map.new.self c.nodes.result c.space_of-space.ensures
    c.map.ensures.moves c.set_proc_nodes.ensures.kept c.nodes.ensures.value

pub map-requires-clause-owned : goal.map-requires-clause-owned
map-requires-clause-owned c = c.space_of-space.ensures.owned

pub set_proc_nodes-requires : goal.set_proc_nodes-requires
set_proc_nodes-requires c = ap is_some (ap (λ (h : Heap). object h.procs c.args.place.key) c.map.ensures.moves.kept ∙ c.space_of-space.ensures.there)

pub returns-clause-paid : goal.returns-clause-paid
returns-clause-paid c =
    IsPaid-trans c.args.objects.now.heap c.args.purse.now c.map.new.heap c.map.new.purse c.set_proc_nodes.new.self c.map.new.purse c.map.ensures.paid
    (IsPaid-nothing c.map.new.heap c.set_proc_nodes.new.self c.map.new.purse c.map.new.purse c.set_proc_nodes.ensures.takes refl refl)

pub returns-clause-kept : goal.returns-clause-kept
returns-clause-kept c = λ script kept.
    kept_then c.args.objects.now c.map.new.heap c.set_proc_nodes.new.self c.args.place.pid c.args.place.key c.space_of-space.result c.map.new.self c.space_of-space.ensures c.map.ensures.moves (back_is c)
    script kept c.nodes.ensures.groups

pub returns-clause-runs : goal.returns-clause-runs
returns-clause-runs c =
    runs_then c.args.objects.now c.map.new.heap c.set_proc_nodes.new.self c.args.place.pid c.args.place.key c.space_of-space.result c.map.new.self c.space_of-space.ensures c.map.ensures.moves (back_is c)
    c.requires.kept.0 c.requires.kept.1

answered : Option ℕ → Result ℕ Errno
answered o = ok_or (option_map (λ first. page_size * first) o) EMFILE

told_ok : (o : Option ℕ) (first : ℕ) → Ok first ≡ ok_or o EMFILE → Ok (first * 4096) ≡ answered o
unfolding answered
told_ok None first e = cc
told_ok (Some one) first e = let same : first ≡ one = (cc) in ap Ok (let n : first * 4096 ≡ 4096 * one = omega arith in n)

was_some : (o : Option ℕ) (first : ℕ) → Ok first ≡ ok_or o EMFILE → o ≡ Some first
was_some None first e = cc
was_some (Some one) first e = let same : first ≡ one = (cc) in ap Some (sym same)

told_err : (o : Option ℕ) (errno : Errno) → Err errno ≡ ok_or o EMFILE → Err errno ≡ answered o
unfolding answered
told_err None errno e = e
told_err (Some one) errno e = cc

many : (length pages : ℕ) → pages ≡ (length + 4096 - 1) / 4096 → pages ≡ pages_in length
many length pages e = omega arith

small : (first count : ℕ) → first + count ≤ 256 → first * 4096 < 4294967296
small first count less = omega arith

same_first : (a b : ℕ) → ◌≡◌ {A = Result ℕ Errno} (Ok (a * 4096)) (Ok (page_size * b)) → a ≡ b
same_first a b e = let n : a * 4096 ≡ 4096 * b = (cc) in omega arith

pub returns-then-length-gt-SPACE-clause-found : goal.returns-then-length-gt-SPACE-clause-found
unfolding answered
returns-then-length-gt-SPACE-clause-found c = λ script world stands.
    sym (ap answered (none_long (is_mapped (memory_of world.plain.table c.args.place.pid)) (pages_in c.args.length)
    (let big : 1048576 < c.args.length = c.if-length-gt-SPACE.true in omega arith)))

pub overflow_mul-result : goal.overflow_mul-result
overflow_mul-result c =
    let memory = memory_at c.args.objects.now.heap c.space_of-space.result in
    let known = c.map.ensures.found memory (memory_at-stands c.args.objects.now.heap c.space_of-space.result) in
    let some = was_some (lowest_run memory _) c.in_ok-first.first (sym c.in_ok-first.was ∙ known) in
    let within = run_within (is_mapped memory) _ c.in_ok-first.first some in
    record { fits = small c.in_ok-first.first _ within }

pub returns-in_err-first-clause-found : goal.returns-in_err-first-clause-found
unfolding answered
returns-in_err-first-clause-found c = λ script world stands.
    let memory = memory_at c.args.objects.now.heap c.space_of-space.result in
    let here = memory_is script c.args.objects.now world.plain c.args.place.pid c.args.place.key c.space_of-space.result c.space_of-space.ensures stands.processes in
    let known = c.map.ensures.found memory (memory_at-stands c.args.objects.now.heap c.space_of-space.result) in
    let gives : c.from_residual.result ≡ Err c.in_err-first.field-0.0 = search rules in
    gives ∙ told_err (lowest_run memory _) c.in_err-first.field-0.0 (sym c.in_err-first.was ∙ known)
    ∙ ap (λ n. answered (lowest_run memory n)) (many c.args.length _ refl)
    ∙ ap (λ m. answered (lowest_run m (pages_in c.args.length))) (sym here)

pub returns-clause-found : goal.returns-clause-found
unfolding answered
returns-clause-found c = λ script world stands.
    let memory = memory_at c.args.objects.now.heap c.space_of-space.result in
    let here = memory_is script c.args.objects.now world.plain c.args.place.pid c.args.place.key c.space_of-space.result c.space_of-space.ensures stands.processes in
    let known = c.map.ensures.found memory (memory_at-stands c.args.objects.now.heap c.space_of-space.result) in
    told_ok (lowest_run memory _) c.in_ok-first.first (sym c.in_ok-first.was ∙ known)
    ∙ ap (λ n. answered (lowest_run memory n)) (many c.args.length _ refl)
    ∙ ap (λ m. answered (lowest_run m (pages_in c.args.length))) (sym here)

pub returns-clause-mapped : goal.returns-clause-mapped
returns-clause-mapped c = λ script world first stands is.
    let memory = memory_at c.args.objects.now.heap c.space_of-space.result in
    let known = c.map.ensures.found memory (memory_at-stands c.args.objects.now.heap c.space_of-space.result) in
    let some = was_some (lowest_run memory _) c.in_ok-first.first (sym c.in_ok-first.was ∙ known) in
    let within = run_within (is_mapped memory) _ c.in_ok-first.first some in
    let new : Objects = record { heap = c.set_proc_nodes.new.self; procs = c.args.objects.now.procs; tree = c.args.objects.now.tree; names = c.args.objects.now.names; fifos = c.args.objects.now.fifos; locks = c.args.objects.now.locks } in
    let whole : length memory ≡ 256 = length-memory_at c.args.objects.now.heap c.space_of-space.result in
    let count = (c.args.length + 4096 - 1) / 4096 in
    subst (λ n. StandsFor script new (remembered_in world c.args.place.pid (with_pages (memory_of world.plain.table c.args.place.pid) first n) (after_map world.account.frames c.args.place.pid first n))) (many c.args.length count refl)
    (subst (λ f. StandsFor script new (remembered_in world c.args.place.pid (with_pages (memory_of world.plain.table c.args.place.pid) f count) (after_map world.account.frames c.args.place.pid f count))) (same_first c.in_ok-first.first first is)
    (stand_then c.args.objects.now c.map.new.heap c.set_proc_nodes.new.self c.args.place.pid c.args.place.key c.space_of-space.result c.map.new.self c.space_of-space.ensures c.map.ensures.moves (back_is c)
    script world (after_map world.account.frames c.args.place.pid c.in_ok-first.first count) (λ m. with_pages m c.in_ok-first.first count)
    stands c.nodes.ensures.groups
    (c.in_ok-first.ensures.memory memory whole)
    (length-with_range memory c.in_ok-first.first count (Some zero_page) (let l : c.in_ok-first.first + count ≤ 256 = within in omega (arith, whole)) ∙ whole)
    (λ number accounted. c.in_ok-first.ensures.account number world.account.frames c.args.place.pid accounted)))
