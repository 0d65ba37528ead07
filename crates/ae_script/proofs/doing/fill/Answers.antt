use Rattle.std.proofs.Common.{refl}
use Rattle.ae_script.proofs.Edits.{edit_wanting}
use Rattle.ae_script.proofs.doing.fill.Goals as goal

pub returns-in-Err-clause-ends : goal.returns-in-Err-clause-ends
returns-in-Err-clause-ends g c = edit_wanting c.args.dir c.args.path.now _ _ c.bare.result.status _ _ c.bare.ensures.status c.bare.ensures.outcome refl
