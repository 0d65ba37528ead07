use Rattle.ae_vault.specs.Kept.{kept_joins}
use Rattle.ae_exec.specs.Stands.{StandsForLog}
use Rattle.ae_exec.proofs.Joining.{two-commands}
use Rattle.ae_exec.proofs.Refining.{refined_made}
use Rattle.ae_exec.proofs.Standing.{by_files, alike}
use Rattle.ae_exec.proofs.laws.calls_join.Goals as goal

pub returns-clause-runs : goal.returns-clause-runs
returns-clause-runs g c = λ tells t log logs more time first second.
    kept_joins StandsForLog (g.D.Disk.state c.args._base.now) (g.D.Disk.state c.args._disk.now) t log logs more time first second

pub returns-clause-done : goal.returns-clause-done
returns-clause-done g c = λ tells failed held log next refined.
    refined_made StandsForLog by_files alike (g.D.Disk.state c.args._base.now) (g.D.Disk.state c.args._disk.now) failed held log next refined

pub returns-clause-two : goal.returns-clause-two
returns-clause-two g c = λ tells. two-commands (g.D.Disk.state c.args._base.now) (g.D.Disk.state c.args._mid.now) (g.D.Disk.state c.args._disk.now)
