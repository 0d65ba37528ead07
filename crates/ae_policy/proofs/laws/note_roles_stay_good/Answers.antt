use Rattle.ae_policy.proofs.GoodProject.{good_added, good_dropped}
use Rattle.ae_policy.proofs.laws.note_roles_stay_good.Goals as goal

pub returns-clause-adding : goal.returns-clause-adding
returns-clause-adding c project numbers role user good none = good_added project numbers role user good none

pub returns-clause-dropping : goal.returns-clause-dropping
returns-clause-dropping c project numbers role user good none = good_dropped project numbers role user good none
