use Rattle.ae_laws.proofs.ExampleLogs.{is-provided, developer-passed, anybody-passed, ended-later, unclean, unbuilt, again, untested, is-waived, unset, passed-after}
use Rattle.ae_laws.proofs.laws.provenance_is_decided_by_value.Goals as goal

pub returns-clause-first : goal.returns-clause-first
returns-clause-first c = is-provided

pub returns-clause-developer : goal.returns-clause-developer
returns-clause-developer c = developer-passed

pub returns-clause-reviewer : goal.returns-clause-reviewer
returns-clause-reviewer c = anybody-passed

pub returns-clause-later_end : goal.returns-clause-later_end
returns-clause-later_end c = ended-later

pub returns-clause-clean : goal.returns-clause-clean
returns-clause-clean c = unclean

pub returns-clause-build : goal.returns-clause-build
returns-clause-build c = unbuilt

pub returns-clause-older : goal.returns-clause-older
returns-clause-older c = again

pub returns-clause-test : goal.returns-clause-test
returns-clause-test c = untested

pub returns-clause-waived : goal.returns-clause-waived
returns-clause-waived c = is-waived

pub returns-clause-set : goal.returns-clause-set
returns-clause-set c = unset

pub returns-clause-passed : goal.returns-clause-passed
returns-clause-passed c = passed-after
