use Rattle.std.specs.Prelude.{◌≡◌, IfSome, List}
use Rattle.std.specs.List.{AllByRecursion}
use Rattle.std.proofs.Common.{rules, subst, sym}
use Rattle.ae_dist.specs.Steps.{AreReadFrom}
use Rattle.ae_dist.specs.declared.rows.Row.{Row}
use Rattle.ae_exec.specs.Reading.{IsInside}
use Rattle.ae_outside.specs.Causes.{HasRisen}
use Rattle.ae_outside.specs.State.{reads}
use Rattle.ae_vault.specs.Vault.{effective}
use Rattle.ae_branch.proofs.Begun.{lost_as, read_as}
use Rattle.ae_branch.proofs.beginning.read_source.Goals as goal

pub read_files-requires-clause-inside : goal.read_files-requires-clause-inside
read_files-requires-clause-inside g c =
    let rows_are : c.as_slice.result.now ≡ c.args.source.rows.items = search rules in
    subst (λ (rows : List Row). AllByRecursion (λ (row : Row). IfSome row.version IsInside) rows) (sym rows_are) c.requires.good.inside

pub returns-in-Ok-clause-answer : goal.returns-in-Ok-clause-answer
returns-in-Ok-clause-answer g c =
    let rows_are : c.as_slice.result.now ≡ c.args.source.rows.items = search rules in
    read_as g.D.Disk.tells (reads (g.D.Disk.state c.args.trunk.now)) c.args.source c.in-Ok.files (HasRisen (g.D.Disk.faults c.args.trunk.now) (g.D.Disk.faults c.read_files.new.disk)) c.joined.result
    (λ tells. subst (λ (rows : List Row). AreReadFrom (effective (reads (g.D.Disk.state c.args.trunk.now))) rows c.in-Ok.files) rows_are (c.in-Ok.ensures.files tells)) c.joined.ensures.acts c.joined.ensures.fails

pub returns-in-Err-clause-answer : goal.returns-in-Err-clause-answer
returns-in-Err-clause-answer g c =
    let rows_are : c.as_slice.result.now ≡ c.args.source.rows.items = search rules in
    lost_as g.D.Disk.tells (reads (g.D.Disk.state c.args.trunk.now)) c.args.source c.as_slice.result.now (HasRisen (g.D.Disk.faults c.args.trunk.now) (g.D.Disk.faults c.read_files.new.disk)) c.in-Err.why rows_are c.in-Err.ensures.stopped
