use Rattle.std.proofs.Common.{map, ap, None, refl, true, ◌∙◌}
use Rattle.kabi_types.specs.Arguments.{argument_fault, path_fault, paths_fault, renamed_fault}
use Rattle.posix_defs.specs.Control.{value_of}
use Rattle.posix_defs.specs.Made.{made, text_at}
use Rattle.prog_ctl.proofs.Asking.{bound_by_fault, fault_never, fault_on_path}
use Rattle.prog_ctl.proofs.asked.bound_at.Goals as goal

pub returns-then-takes_path : goal.returns-then-takes_path
returns-then-takes_path c =
    let numbers = map (value_of c.args.control.now) c.args.operands.now in
    c.only_if.ensures
    ∙ bound_by_fault c.args.kind numbers c.args.texts.now c.args.control.now.done c.args.bytes c.names_path.result (path_fault (text_at c.args.texts.now 0)) c.requires.price
    (fault_on_path c.args.kind numbers c.args.texts.now c.args.control.now.done (c.takes_path.ensures c.if-takes_path.true)) c.names_path.ensures

pub returns-then-is_never_wrong : goal.returns-then-is_never_wrong
returns-then-is_never_wrong c =
    let numbers = map (value_of c.args.control.now) c.args.operands.now in
    bound_by_fault c.args.kind numbers c.args.texts.now c.args.control.now.done c.args.bytes true None c.requires.price
    (fault_never c.args.kind numbers c.args.texts.now c.args.control.now.done (c.is_never_wrong.ensures c.if-is_never_wrong.true)) refl

pub returns-in-Link : goal.returns-in-Link
returns-in-Link c =
    let numbers = map (value_of c.args.control.now) c.args.operands.now in
    let texts = c.args.texts.now in
    c.only_if-in-Link.ensures
    ∙ bound_by_fault c.args.kind numbers texts c.args.control.now.done c.args.bytes c.names_paths.result (paths_fault (text_at texts 0) (text_at texts 1)) c.requires.price
    (ap (λ which. argument_fault (made which numbers texts c.args.control.now.done)) c.in-Link.is) c.names_paths.ensures

pub returns-in-Rename : goal.returns-in-Rename
returns-in-Rename c =
    let numbers = map (value_of c.args.control.now) c.args.operands.now in
    let texts = c.args.texts.now in
    c.only_if-in-Rename.ensures
    ∙ bound_by_fault c.args.kind numbers texts c.args.control.now.done c.args.bytes c.names_renamed.result (renamed_fault (text_at texts 0) (text_at texts 1)) c.requires.price
    (ap (λ which. argument_fault (made which numbers texts c.args.control.now.done)) c.in-Rename.is) c.names_renamed.ensures
