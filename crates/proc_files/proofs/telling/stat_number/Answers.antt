use Rattle.std.proofs.Common.{◌∙◌, ap}
use Rattle.std.specs.Option.{option_map}
use Rattle.kabi_types.specs.declared.replies.Reply.TheVariants.{Stat}
use Rattle.posix_defs.specs.Answer.{replied}
use Rattle.proc_numbers.specs.Found.{opened_in}
use Rattle.proc_files.proofs.Holding.{held_in, hold_on, off_node, some_on}
use Rattle.proc_files.proofs.SeekAnswers.{fstat_bad, fstat_is}
use Rattle.proc_numbers.proofs.OpenedBy.{is_there, opened_is}
use Rattle.proc_files.proofs.telling.stat_number.Goals as goal

pub returns-in_default-clause-answers : goal.returns-in_default-clause-answers
returns-in_default-clause-answers c = λ numbers others script plain hold. record {
  files = plain.files;
  replies = fstat_bad script numbers plain c.args.place.pid c.args.on.now.fd
      (opened_is c.args.heap.now c.args.procs.now c.args.place.pid c.args.on.now c.requires.opened numbers plain.files hold.opened ∙ ap (option_map (opened_in numbers)) c.in_default.is);
  holds = hold;
}

pub info_of-requires : goal.info_of-requires
info_of-requires c =
    record { held = held_in c.args.heap.now c.args.procs.now c.args.tree.now c.requires.owners c.requires.hold c.in-Some.found.key c.in-Some.found.desc (is_there c.args.heap.now c.args.procs.now c.args.place.pid c.args.on.now c.requires.opened c.in-Some.found c.in-Some.is) }

pub returns-clause-answers : goal.returns-clause-answers
returns-clause-answers c = λ numbers others script plain hold. record {
  files = plain.files;
  replies =
      fstat_is script numbers plain c.args.place.pid c.args.on.now.fd c.in-Some.found
      (opened_is c.args.heap.now c.args.procs.now c.args.place.pid c.args.on.now c.requires.opened numbers plain.files hold.opened ∙ ap (option_map (opened_in numbers)) c.in-Some.is)
      ∙ ap (λ info. replied script plain c.args.place.pid (Stat info)) (c.info_of.ensures.value numbers plain.files _ hold.opened.opened.piped hold.tree);
  holds = hold_on numbers others c.args.heap.now c.args.procs.now c.args.tree.now c.info_of.new.tree plain.files c.info_of.ensures.stands hold;
}

pub returns-clause-hold : goal.returns-clause-hold
returns-clause-hold c = some_on c.args.heap.now c.args.procs.now c.args.tree.now c.info_of.new.tree c.info_of.ensures.stands c.requires.hold

pub returns-clause-stays : goal.returns-clause-stays
returns-clause-stays c = λ numbers files have off.
    c.info_of.ensures.stays
    (off_node numbers c.args.heap.now files c.args.place.pid c.args.on.now.fd c.in-Some.found have.opened.piped
    (c.requires.owners.held.targets c.in-Some.found.key c.in-Some.found.desc (is_there c.args.heap.now c.args.procs.now c.args.place.pid c.args.on.now c.requires.opened c.in-Some.found c.in-Some.is))
    (opened_is c.args.heap.now c.args.procs.now c.args.place.pid c.args.on.now c.requires.opened numbers files have ∙ ap (option_map (opened_in numbers)) c.in-Some.is) off)
