use Rattle.std.proofs.Common.{◌∙◌, ap, is_some, subst, sym}
use Rattle.kabi_types.specs.Arguments.{count_of}
use Rattle.lock_table.specs.Chain.{HoldsLocks}
use Rattle.posix_defs.specs.Calls.OnDescriptors.{close}
use Rattle.posix_defs.specs.Files.Closing.{after_close}
use Rattle.proc_numbers.specs.Having.{node_closed}
use Rattle.proc_numbers.proofs.NumberCloses.{no_some}
use Rattle.proc_numbers.proofs.Answered.{on_it, on_nothing}
use Rattle.proc_numbers.proofs.Changes.{changes_nothing}
use Rattle.proc_files.proofs.Changing.{holding_closed, holding_of}
use Rattle.proc_files.proofs.Unopened.{opened_found}
use Rattle.proc_files.specs.NameHolding.{HoldNames}
use Rattle.proc_numbers.specs.Found.{held_in}
use Rattle.proc_numbers.proofs.OpenedBy.{is_counted, is_held, is_held_at, is_none, is_there}
use Rattle.proc_files.proofs.closing.close_number.Goals as goal

pub returns-in_default-clause-answers : goal.returns-in_default-clause-answers
unfolding close
returns-in_default-clause-answers c = λ numbers others script plain hold.
    record {
      answers = record {
        files = plain.files;
        replies = on_nothing numbers c.args.heap.now c.args.procs.now script plain c.args.place.pid hold.held.opened c.args.on.now.fd _ (is_none c.args.heap.now c.args.procs.now c.args.place.pid c.args.on.now c.requires.opened (no_some c.args.on.now.found c.in_default.not-Some));
        holds = hold;
      };
      locks = λ held. held;
    }

pub close_open-requires-clause-opened : goal.close_open-requires-clause-opened
close_open-requires-clause-opened c = opened_found c.args.heap.now c.args.procs.now c.args.place.pid c.args.on.now c.requires.opened c.in-Some.found c.in-Some.is

pub returns-clause-answers : goal.returns-clause-answers
unfolding close
returns-clause-answers c = λ numbers others script plain hold.
    let count = is_counted c.args.heap.now c.args.procs.now c.args.place.pid c.args.on.now c.requires.opened c.in-Some.found c.in-Some.is in
    record {
      answers = record {
        files = after_close plain.files c.args.place.pid (count_of c.args.on.now.fd);
        replies = on_it numbers c.args.heap.now c.args.procs.now script plain c.args.place.pid hold.held.opened c.args.on.now.fd (held_in c.in-Some.found) c.in-Some.found.desc (is_held c.args.heap.now c.args.procs.now c.args.place.pid c.args.on.now c.requires.opened c.in-Some.found c.in-Some.is) (is_there c.args.heap.now c.args.procs.now c.args.place.pid c.args.on.now c.requires.opened c.in-Some.found c.in-Some.is) _;
        holds = subst (λ n. HoldNames numbers others c.close_open.new.heap c.args.procs.now c.close_open.new.tree c.close_open.new.names (after_close plain.files c.args.place.pid n)) count
            (c.close_open.ensures.closed numbers others plain.files hold);
      };
      locks = λ held.
          subst (λ n. HoldsLocks c.close_open.new.heap.locks c.close_open.new.locks (after_close plain.files c.args.place.pid n).locks) count
          (c.close_open.ensures.locks numbers others plain.files hold held);
    }

pub returns-in_default-clause-changes : goal.returns-in_default-clause-changes
returns-in_default-clause-changes c =
    holding_of c.args.heap.now c.args.heap.now c.args.procs.now c.args.place.pid (changes_nothing c.args.heap.now c.args.procs.now c.args.place.pid c.requires.listed (ap is_some c.requires.there))

pub returns-clause-changes : goal.returns-clause-changes
returns-clause-changes c = holding_closed c.args.heap.now c.close_open.new.heap c.args.procs.now c.args.place.pid _ c.close_open.ensures.closes

pub returns-clause-stays : goal.returns-clause-stays
returns-clause-stays c = λ none.
    c.close_open.ensures.stays
    (ap (node_closed c.args.heap.now)
    (is_held_at c.args.heap.now c.args.procs.now c.args.place.pid c.args.on.now c.requires.opened c.in-Some.found c.in-Some.is ∙ sym (is_held c.args.heap.now c.args.procs.now c.args.place.pid c.args.on.now c.requires.opened c.in-Some.found c.in-Some.is))
    ∙ none)
