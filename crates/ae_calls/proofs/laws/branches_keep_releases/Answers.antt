use Rattle.ae_calls.proofs.KeptReleases.{branches-keep, trunks-keep}
use Rattle.ae_calls.proofs.laws.branches_keep_releases.Goals as goal

pub returns-clause-trunk : goal.returns-clause-trunk
returns-clause-trunk g c = trunks-keep _ _ _ _ _

pub returns-clause-branch : goal.returns-clause-branch
returns-clause-branch g c = branches-keep _ _ _ _ _
