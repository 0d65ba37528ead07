use Rattle.std.proofs.Common.{ap}
use Rattle.std.specs.List.{find}
use Rattle.ae_types.specs.Clashes.{has_path}
use Rattle.ae_machine.specs.Paths.{paths_with}
use Rattle.ae_machine.proofs.ClashingPaths.{folders-front}
use Rattle.ae_machine.proofs.clashes.folder_there.Goals as goal

pub loop-at-init : goal.loop-at-init
loop-at-init c = ap (find (has_path (paths_with c.args.state.now c.args.files.now))) (folders-front c.args.path.now)
