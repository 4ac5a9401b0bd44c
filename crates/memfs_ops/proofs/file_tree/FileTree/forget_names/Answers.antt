use Rattle.lru_index.specs.NameKeys.{name_key}
use Rattle.memfs_ops.proofs.LookLemmas.{looks_trans}
use Rattle.memfs_ops.proofs.file_tree.FileTree.forget_names.Goals as goal

pub forget_name-requires-clause-stands : goal.forget_name-requires-clause-stands
forget_name-requires-clause-stands c = c.requires.stands

pub forget_name-requires-2-clause-stands : goal.forget_name-requires-2-clause-stands
forget_name-requires-2-clause-stands c =
    let r = c.requires.stands in
    (r.0, r.1, c.forget_name.ensures.looks.stands r.0 r.1 r.2)

pub forget_name-requires-2-clause-may : goal.forget_name-requires-2-clause-may
forget_name-requires-2-clause-may c = c.forget_name.ensures.looks.may

pub returns-clause-looks : goal.returns-clause-looks
returns-clause-looks c =
    let f = c.forget_name in
    let g = c.forget_name-2 in
    looks_trans c.args.heap.now f.new.heap g.new.heap c.args.purse.now f.new.purse g.new.purse c.args.self.now f.new.self g.new.self f.ensures.looks g.ensures.looks

pub returns-clause-one : goal.returns-clause-one
returns-clause-one c = c.forget_name-2.ensures.others (name_key c.args.dir c.args.name.now) c.forget_name.ensures.gone

pub returns-clause-other : goal.returns-clause-other
returns-clause-other c = c.forget_name-2.ensures.gone
