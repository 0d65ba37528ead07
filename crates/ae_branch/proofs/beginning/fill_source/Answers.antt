use Rattle.std.specs.Prelude.{◌≡◌, Some, None}
use Rattle.std.proofs.Common.{rules}
use Rattle.ae_outside.specs.Causes.{HasRisen}
use Rattle.ae_outside.specs.State.{reads}
use Rattle.ae_branch.specs.Begin.{refuses_rows}
use Rattle.ae_branch.specs.Beginning.{ReadsSource}
use Rattle.ae_branch.proofs.Stepping.{passed_as, refused_as}
use Rattle.ae_branch.proofs.beginning.fill_source.Goals as goal

pub returns-in-Some-clause-answer : goal.returns-in-Some-clause-answer
returns-in-Some-clause-answer g c =
    let why : refuses_rows c.args.source.rows.items ≡ Some c.in-Some.refusal = search rules in
    refused_as g.D.Disk.tells (refuses_rows c.args.source.rows.items) (λ (_ : Unit {0}). ReadsSource (reads (g.D.Disk.state c.args.trunk.now)) c.args.source) (HasRisen (g.D.Disk.faults c.args.trunk.now) (g.D.Disk.faults c.args.trunk.now)) c.in-Some.refusal why

pub returns-in-None-clause-answer : goal.returns-in-None-clause-answer
returns-in-None-clause-answer g c =
    let why : refuses_rows c.args.source.rows.items ≡ None = search rules in
    passed_as g.D.Disk.tells (refuses_rows c.args.source.rows.items) (λ (_ : Unit {0}). ReadsSource (reads (g.D.Disk.state c.args.trunk.now)) c.args.source) (HasRisen (g.D.Disk.faults c.args.trunk.now) (g.D.Disk.faults c.read_source.new.trunk))
    c.read_source.result why c.read_source.ensures.answer
