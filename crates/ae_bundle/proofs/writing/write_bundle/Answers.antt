use Rattle.std.proofs.Common.{◌++◌, List, ap, ◌∙◌}
use Rattle.std.specs.List.{flat_map}
use Rattle.ae_bundle.specs.declared.bundle.BundleFile.{BundleFile}
use Rattle.ae_bundle.specs.Bundled.{file_part, head_of}
use Rattle.ae_bundle.proofs.Turns.{written_text}
use Rattle.ae_bundle.proofs.writing.write_bundle.Goals as goal

pub returns : goal.returns
returns c = (
  c.requires,
  written_text c.in_ok-text.text.items c.put_head.new.text.items c.put_files.new.text.items c.put_end.new.text.items (head_of c.args.bundle.now) (flat_map file_part c.args.bundle.now.files)
      c.in_ok-text.ensures.items c.in_ok-put_head.ensures (c.in_ok-put_files.ensures ∙ ap (λ (fs : List BundleFile). c.put_head.new.text.items ++ flat_map file_part fs) c.as_slice.ensures) c.in_ok-put_end.ensures,
)
