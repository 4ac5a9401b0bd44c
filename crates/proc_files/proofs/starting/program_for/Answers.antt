use Rattle.std.proofs.Common.{◌∙◌, ap, refl, subst, sym}
use Rattle.memfs_ops.specs.FileTree.{KeepsLed, KnowsWay, in_call}
use Rattle.posix_defs.specs.PathCalls.{exec_path, node_led}
use Rattle.posix_defs.specs.Paths.{resolve}
use Rattle.posix_defs.specs.Tree.{is_directory}
use Rattle.proc_files.specs.Holders.{holders}
use Rattle.proc_files.proofs.Written.{hold_written}
use Rattle.proc_files.proofs.starting.program_for.Goals as goal

pub program_of-requires-clause-stands : goal.program_of-requires-clause-stands
program_of-requires-clause-stands c =
    let works = c.requires.works in (
      works.files.tree,
      holders works.others works.files,
      works.hold.tree,
      ap (is_directory works.files.tree) (c.directory_of-cwd.ensures.works works.proc works.found) ∙ works.directory,
    )

pub returns-clause-value : goal.returns-clause-value
returns-clause-value c = λ numbers others plain table hold.
    c.program_of.ensures.value plain.files.tree (holders others plain.files) hold.tree
    ∙ ap (λ n. exec_path plain.files.tree n c.args.path.now c.args.script.now.programs) (sym (c.directory_of-cwd.ensures.plain plain.table table))

pub returns-clause-holds : goal.returns-clause-holds
returns-clause-holds c = λ numbers others files hold.
    hold_written numbers others c.args.heap.now c.program_of.new.heap c.args.procs.now c.args.tree.now c.program_of.new.self files files.tree hold c.program_of.ensures.pays.only
    (record { used = λ n. refl; directories = λ n. refl; sockets = λ n. refl; fifos = λ n. refl }) (c.program_of.ensures.stands files.tree (holders others files) hold.tree)

pub returns-clause-hold : goal.returns-clause-hold
returns-clause-hold c =
    let works = c.requires.works in
    record {
      numbers = works.numbers;
      others = works.others;
      files = works.files;
      hold = hold_written works.numbers works.others c.args.heap.now c.program_of.new.heap c.args.procs.now c.args.tree.now c.program_of.new.self works.files works.files.tree works.hold
          c.program_of.ensures.pays.only (record { used = λ n. refl; directories = λ n. refl; sockets = λ n. refl; fifos = λ n. refl })
          (c.program_of.ensures.stands works.files.tree (holders works.others works.files) works.hold.tree);
    }

pub returns-clause-saved : goal.returns-clause-saved
returns-clause-saved c = λ proc plain pins found stands knows line.
    let cwd = c.directory_of-cwd.ensures.works proc found in
    c.program_of.ensures.saved plain pins stands
    (subst (λ n. KnowsWay (in_call c.args.heap.now c.args.purse.now c.args.tree.now) plain n c.args.path.now) (sym cwd) knows)
    (λ number led. line number (ap (λ n. node_led (resolve plain n c.args.path.now)) (sym cwd) ∙ led))

pub returns-clause-kept : goal.returns-clause-kept
returns-clause-kept c = λ proc plain pins found stands.
    subst (λ n. KeepsLed c.program_of.new.self (resolve plain n c.args.path.now)) (c.directory_of-cwd.ensures.works proc found) (c.program_of.ensures.kept plain pins stands)

pub returns-clause-line : goal.returns-clause-line
returns-clause-line c = λ proc plain pins number found stands led.
    c.program_of.ensures.line plain pins number stands (ap (λ n. node_led (resolve plain n c.args.path.now)) (c.directory_of-cwd.ensures.works proc found) ∙ led)
