use Rattle.std.proofs.Common.{◌≡◌, ◌<◌, ◌∙◌, ℕ, zero, suc, false, replicate, ap, refl, sym, arith, inl, inr}
use Rattle.std.specs.Prelude.{slice_set}
use Rattle.std.proofs.lemmas.Bool.{cases_eq}
use Rattle.std.proofs.lemmas.List.{get_or-set_other, get_or-set_same, length-replicate, length-set}
use Rattle.proc_table.specs.Procs.{numbers_in}
use Rattle.proc_numbers.specs.Having.{places_in}
use Rattle.proc_numbers.proofs.PlacedLeaves.{long_proc, owns_placed}
use Rattle.proc_files.specs.Ending.{goes_at_exec, has_mark, is_marked}
use Rattle.proc_files.proofs.ending.marks_of.Goals as goal
use Rattle.kabi_types.specs.Arguments.{most_descriptors}

none_marked : (n fd : ℕ) → is_marked (replicate n false) fd ≡ false
none_marked zero fd = refl
none_marked (suc n) zero = refl
none_marked (suc n) (suc fd) = none_marked n fd

pub at-proc-requires-clause-stored : goal.at-proc-requires-clause-stored
at-proc-requires-clause-stored c =
    c.requires.listed.stored

pub descriptor_of-requires-clause-rows : goal.descriptor_of-requires-clause-rows
descriptor_of-requires-clause-rows c =
    long_proc c.args.heap.now c.args.place.key c.at-proc.result.now c.is_well_formed.ensures c.at-proc.ensures.kept

pub descriptor_of-requires-clause-owns : goal.descriptor_of-requires-clause-owns
descriptor_of-requires-clause-owns c =
    owns_placed c.args.heap.now c.args.procs.now c.args.place.pid c.args.place.key c.at-proc.result.now c.requires.listed c.requires.there c.at-proc.ensures.kept

pub loop-fd-init : goal.loop-fd-init
loop-fd-init c =
    record { below = λ k less. absurd (omega (arith, less)); behind = λ k least. none_marked most_descriptors k; long = length-replicate most_descriptors false }

pub loop-fd-preserved : goal.loop-fd-preserved
loop-fd-preserved c =
    let marks = c.loop-fd.marks in
    let fd = c.loop-fd.fd in
    let long = c.loop-fd.invariant.long in
    let within : fd < most_descriptors = (let most = c.requires.within in let test = c.loop-fd-test.true in omega (arith, most, test)) in
    record {
      below = λ k less. elim (cases_eq k fd) [
        | inl same ↦
            ap (λ n. is_marked (slice_set marks fd c.closes_at_exec.result) n) same ∙ get_or-set_same marks fd c.closes_at_exec.result false (omega (arith, long, within)) ∙ c.closes_at_exec.ensures
            ∙ ap has_mark c.descriptor_of.ensures ∙ ap (goes_at_exec (numbers_in c.args.heap.now c.at-proc.result.now)) (sym same)
        | inr apart ↦ get_or-set_other marks fd k c.closes_at_exec.result false apart ∙ c.loop-fd.invariant.below k (omega (arith, less, apart))
      ];
      behind = λ k least.
          get_or-set_other marks fd k c.closes_at_exec.result false (λ same. omega (arith, least, same)) ∙ c.loop-fd.invariant.behind k (omega (arith, least));
      long = length-set marks fd c.closes_at_exec.result ∙ long;
    }

pub returns-clause-below : goal.returns-clause-below
returns-clause-below c =
    λ fd less.
    c.loop-fd.invariant.below fd (omega (arith, less)) ∙ sym (ap (λ o. goes_at_exec (places_in (numbers_in c.args.heap.now) o) fd) c.at-proc.ensures.found)

pub returns-clause-behind : goal.returns-clause-behind
returns-clause-behind c =
    λ fd least. c.loop-fd.invariant.behind fd (omega (arith, least))
