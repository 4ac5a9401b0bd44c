use Rattle.proc_files.proofs.directories.directory_of.Goals as goal

pub at-requires-clause-stored : goal.at-requires-clause-stored
at-requires-clause-stored c = c.requires.listed.stored

pub returns : goal.returns
returns c = λ directory works.
    let here = c.at.result.now in
    works here
    c.at.ensures.found
