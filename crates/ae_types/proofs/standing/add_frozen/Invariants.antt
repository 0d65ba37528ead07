use Rattle.std.proofs.Common.{◌≡◌, ◌++◌, take}
use Rattle.std.specs.List.{filter_map}
use Rattle.ae_types.specs.declared.change.ChangeFile.{ChangeFile}
use Rattle.ae_types.proofs.standing.add_frozen.Given as goal

abbrev pub invariant-loop-file : goal.invariant-loop-file
invariant-loop-file l = l.versions.items ≡ l.initial.versions.items ++ filter_map (λ (file : ChangeFile). file.frozen) (take l.file-index l.files)
