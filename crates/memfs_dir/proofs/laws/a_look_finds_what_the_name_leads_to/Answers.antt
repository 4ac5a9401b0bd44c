use Rattle.memfs_dir.proofs.Names.{first_at, nowhere, finds_at, finds_none}
use Rattle.memfs_dir.proofs.laws.a_look_finds_what_the_name_leads_to.Goals as goal

pub returns-clause-found : goal.returns-clause-found
returns-clause-found c = λ entries name place is.
    let first = first_at entries name place is in
    finds_at entries name place first.within first.here first.before

pub returns-clause-missing : goal.returns-clause-missing
returns-clause-missing c = λ entries name node none. finds_none entries name node (nowhere entries name none)
