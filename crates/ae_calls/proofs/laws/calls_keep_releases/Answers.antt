use Rattle.ae_calls.proofs.KeptReleases.{calls-keep}
use Rattle.ae_calls.proofs.laws.calls_keep_releases.Goals as goal

pub returns : goal.returns
returns g c = calls-keep _ _ _ _ _
