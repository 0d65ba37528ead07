use Rattle.std.proofs.Common.{◌≡◌, ◌++◌, ap, subst, slice_set, length, take, drop, map, ◌+◌, ◌<◌, arith}
use Rattle.std.proofs.lemmas.List.Edits.{map_over_more}
use Rattle.ae_types.specs.declared.change.ChangeFile.{ChangeFile}
use Rattle.ae_log.specs.After.{thawed}
use Rattle.ae_log.proofs.freezing.thaw_files.Goals as goal

pub loop-file-preserved : goal.loop-file-preserved
loop-file-preserved c =
    let inside : c.loop-file.file-index < length c.args.files.now.items = omega (arith, c.loop-file-test.true, ap length c.deref_mut-file-items.ensures.value) in
    subst (λ (file : ChangeFile). slice_set c.loop-file.file-items c.loop-file.file-index (thawed file) ≡ map thawed (take (c.loop-file.file-index + 1) c.args.files.now.items) ++ drop (c.loop-file.file-index + 1) c.args.files.now.items) c.file-item.is
    (map_over_more thawed c.args.files.now.items c.loop-file.file-items c.loop-file.file-index c.file-item.result inside c.loop-file.invariant c.file-item.is)
