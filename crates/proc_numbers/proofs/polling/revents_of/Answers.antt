use Rattle.std.proofs.Common.{◌≡◌, ◌+◌, ◌∙◌, ap, arith, length, map, refl, subst, sym, take}
use Rattle.std.specs.Prelude.{slice_set}
use Rattle.std.proofs.lemmas.List.{length-set, take_all}
use Rattle.posix_defs.specs.Calls.Polling.{polled_at}
use Rattle.open_laws.proofs.PolledLemmas.{kept_by}
use Rattle.proc_table.specs.Procs.{numbers_in}
use Rattle.proc_numbers.proofs.NamedOpen.{descriptors_are}
use Rattle.proc_numbers.proofs.PlacedLeaves.{long_proc, owns_placed}
use Rattle.proc_numbers.proofs.Polls.{number_opens, told_next}
use Rattle.proc_numbers.proofs.polling.revents_of.Goals as goal

pub loop-index-init : goal.loop-index-init
loop-index-init c = record { long = refl; told = λ numbers files have. refl }

pub loop-index-preserved : goal.loop-index-preserved
loop-index-preserved c = record {
  long = length-set c.loop-index.events c.loop-index.index c.polled.result ∙ c.loop-index.invariant.long;
  told = λ numbers files have.
      subst (λ n. take (c.loop-index.index + 1) (slice_set c.loop-index.events c.loop-index.index n)
      ≡ map (λ entry. polled_at files c.args.place.pid entry.fd entry.events) (take (c.loop-index.index + 1) c.args.entries.now))
      (sym (c.polled.ensures numbers have.list files c.args.place.pid have.opened
      (descriptors_are c.args.heap.now c.args.procs.now c.args.place.pid c.args.place.key c.at-proc.result.now c.requires.kept.listed c.requires.there c.at-proc.ensures.kept numbers files have
      ∙ kept_by numbers.descs (numbers_in c.args.heap.now c.at-proc.result.now))))
      (told_next (λ entry. polled_at files c.args.place.pid entry.fd entry.events) c.loop-index.events c.args.entries.now c.loop-index.index _
      (let long = c.loop-index.invariant.long in let few = c.requires.few in let less = c.loop-index-test.true in omega (arith, long, few, less)) c.loop-index-test.true
      (c.loop-index.invariant.told numbers files have));
}

pub returns : goal.returns
returns c = λ numbers files have.
    let end : length c.args.entries.now ≡ c.loop-index.index = let past = c.loop-index-test.false in let most = c.loop-index.auto.index-end in omega (arith, past, most) in
    c.in-Some.ensures.same
    ∙ ap (λ n. take n c.loop-index.events) end
    ∙ c.loop-index.invariant.told numbers files have
    ∙ ap (map (λ entry. polled_at files c.args.place.pid entry.fd entry.events)) (take_all c.loop-index.index c.args.entries.now c.loop-index-test.false)

pub at-proc-requires-clause-stored : goal.at-proc-requires-clause-stored
at-proc-requires-clause-stored c = c.requires.kept.listed.stored

pub polled-requires-clause-rows : goal.polled-requires-clause-rows
polled-requires-clause-rows c = long_proc c.args.heap.now c.args.place.key c.at-proc.result.now c.is_well_formed.ensures c.at-proc.ensures.kept

pub polled-requires-clause-owns : goal.polled-requires-clause-owns
polled-requires-clause-owns c =
    owns_placed c.args.heap.now c.args.procs.now c.args.place.pid c.args.place.key c.at-proc.result.now c.requires.kept.listed c.requires.there c.at-proc.ensures.kept

pub polled-requires-clause-there : goal.polled-requires-clause-there
polled-requires-clause-there c =
    number_opens c.args.heap.now c.args.procs.now c.args.place.pid c.args.place.key c.at-proc.result.now c.requires.kept.listed c.requires.there c.at-proc.ensures.kept
    c.requires.kept.owners _
