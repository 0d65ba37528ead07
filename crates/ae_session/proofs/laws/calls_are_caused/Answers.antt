use Rattle.ae_session.proofs.Causes.{caused, kept, whole}
use Rattle.ae_session.proofs.Projects.{counts}
use Rattle.ae_session.proofs.laws.calls_are_caused.Goals as goal

pub returns-clause-causes : goal.returns-clause-causes
returns-clause-causes g c = caused _ _ _ _ _

pub returns-clause-disk : goal.returns-clause-disk
returns-clause-disk g c = kept _ _ _ _ _

pub returns-clause-whole : goal.returns-clause-whole
returns-clause-whole g c = whole _ _ _ _

pub returns-clause-runs : goal.returns-clause-runs
returns-clause-runs g c = counts _ _ _ _
