use Rattle.ae_script.proofs.Ends.{fault_of_last, told_first}
use Rattle.ae_script.proofs.Completed.{caused, never_of_line, whole}
use Rattle.ae_script.proofs.laws.scripts_end.Goals as goal

pub returns-clause-causes : goal.returns-clause-causes
returns-clause-causes g c = caused _ _ _ _

pub returns-clause-whole : goal.returns-clause-whole
returns-clause-whole g c = whole _ _ _ _

pub returns-clause-fault : goal.returns-clause-fault
returns-clause-fault g c = λ manner from disk site input left out taken fault of_line did. fault_of_last _ _ manner from did.done _ _ fault of_line (never_of_line _ _ _ _ fault of_line) did.runs did.ends

pub returns-clause-told : goal.returns-clause-told
returns-clause-told g c = λ manner from disk site input left out taken result did. told_first _ _ manner did.done _ _ result did.ends
