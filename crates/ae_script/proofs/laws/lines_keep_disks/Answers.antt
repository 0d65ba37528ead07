use Rattle.ae_script.proofs.Keeping.{lines_keep}
use Rattle.ae_script.proofs.Looking.{looks_follow, looks_stay, stays_follow}
use Rattle.ae_script.proofs.laws.lines_keep_disks.Goals as goal

pub returns-clause-kept : goal.returns-clause-kept
returns-clause-kept g c = λ manner from done are seen. lines_keep _ _ manner seen from done are

pub returns-clause-looked : goal.returns-clause-looked
returns-clause-looked g c = looks_follow _ _

pub returns-clause-look : goal.returns-clause-look
returns-clause-look g c = looks_stay _ _

pub returns-clause-stayed : goal.returns-clause-stayed
returns-clause-stayed g c = stays_follow _ _
