use Rattle.ae_base.proofs.Results.{on_ok}
use Rattle.ae_base.specs.declared.want.Want.TheVariants as want
use Rattle.ae_outside.specs.Causes.{HasRisen}
use Rattle.ae_outside.specs.State.{reads}
use Rattle.ae_vault.specs.Commit.{IsClean}
use Rattle.ae_branch.specs.Begin.{refuses_trunk}
use Rattle.ae_branch.specs.Steps.{Opens}
use Rattle.ae_branch.proofs.Begun.{found_as, not_found_as}
use Rattle.ae_branch.proofs.Steps.{found_first}
use Rattle.ae_branch.proofs.source.open_source.Goals as goal

pub returns-in-Ok-clause-answer : goal.returns-in-Ok-clause-answer
returns-in-Ok-clause-answer g c =
    found_as g.D.Disk.tells (reads (g.D.Disk.state c.args.trunk.now)) c.args.name.now c.args.delta c.args.who.now c.in-Ok.state (HasRisen (g.D.Disk.faults c.args.trunk.now) (g.D.Disk.faults c.open_trunk.new.trunk)) c.source_from.result
    (found_first g.D.Disk.tells (Opens want.Nothing (refuses_trunk c.args.who.now c.args.delta) (reads (g.D.Disk.state c.args.trunk.now))) (HasRisen (g.D.Disk.faults c.args.trunk.now) (g.D.Disk.faults c.open_trunk.new.trunk)) c.in-Ok.state c.in-Ok.ensures.answer)
    c.source_from.ensures.source c.source_from.ensures.fails

pub returns-in-Ok-clause-clean : goal.returns-in-Ok-clause-clean
returns-in-Ok-clause-clean g c = on_ok c.source_from.result (g.D.Disk.tells → IsClean (g.D.Disk.state c.open_trunk.new.trunk)) c.in-Ok.ensures.clean

pub returns-in-Err-clause-answer : goal.returns-in-Err-clause-answer
returns-in-Err-clause-answer g c =
    not_found_as g.D.Disk.tells (reads (g.D.Disk.state c.args.trunk.now)) c.args.name.now c.args.delta c.args.who.now (HasRisen (g.D.Disk.faults c.args.trunk.now) (g.D.Disk.faults c.open_trunk.new.trunk)) c.in-Err.why c.in-Err.ensures.answer

pub returns-in-Ok-clause-opened : goal.returns-in-Ok-clause-opened
returns-in-Ok-clause-opened g c = λ tells unless. c.in-Ok.ensures.opened tells (λ none. none)
