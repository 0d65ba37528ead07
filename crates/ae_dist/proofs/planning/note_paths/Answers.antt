use Rattle.std.proofs.Common.{◌≡◌, arith, subst, take}
use Rattle.std.proofs.lemmas.List.{take_all}
use Rattle.ae_base.specs.Names.{IsPath}
use Rattle.ae_bundle.specs.declared.bundle.BundleFile.{BundleFile}
use Rattle.ae_dist.specs.Steps.{ArePaths}
use Rattle.ae_dist.proofs.VersionsRead.{each_more}
use Rattle.ae_dist.proofs.planning.note_paths.Goals as goal

pub loop-file-init : goal.loop-file-init
loop-file-init c = tt

pub loop-file-preserved : goal.loop-file-preserved
loop-file-preserved c = each_more (λ (file : BundleFile). IsPath file.path) c.args.files.now c.loop-file.file-index c.file-item.result c.loop-file-test.true c.file-item.is c.loop-file.invariant c.bytes-path.ensures.path

pub returns : goal.returns
returns c =
    let all : take c.loop-file.file-index c.args.files.now ≡ c.args.files.now = take_all c.loop-file.file-index c.args.files.now (omega arith) in
    subst ArePaths all c.loop-file.invariant
