use Rattle.ae_script.proofs.Acting.{all_means_done, caused_acts, done_means_all}
use Rattle.ae_script.proofs.laws.acts_end.Goals as goal

pub returns-clause-causes : goal.returns-clause-causes
returns-clause-causes g c = caused_acts _ _ _

pub returns-clause-all : goal.returns-clause-all
returns-clause-all g c = done_means_all _ _ _

pub returns-clause-done : goal.returns-clause-done
returns-clause-done g c = all_means_done _ _ _
