use Rattle.std.proofs.Common.{sym, rules}
use Rattle.std.proofs.lemmas.Fn.{always_returns_same}
use Rattle.ae_types.specs.declared.change.ChangeFile.{ChangeFile}
use Rattle.ae_types.specs.Found.{file_path}
use Rattle.ae_base.specs.Rows.{text_cmp}
use Rattle.ae_types.proofs.Keys.{by_text}
use Rattle.ae_types.proofs.BinarySearch.{search-ok, search-err}
use Rattle.ae_types.proofs.lookup.file_in.Goals as goal

pub returns-in-Ok : goal.returns-in-Ok
returns-in-Ok c = sym (search-ok by_text file_path c.args.path.now c.args.files.now c.in-Ok.at c.index-files-at.result c.requires c.in-Ok.ensures.bound
    (c.in-Ok.ensures.position (λ (y : ChangeFile). text_cmp (file_path y) c.args.path.now) (always_returns_same _ _ _ (λ a r f' called. search rules)))
    c.index-files-at.is)

pub returns-in-Err : goal.returns-in-Err
returns-in-Err c = sym (search-err by_text file_path c.args.path.now c.args.files.now c.in-Err.field-0 c.requires
    (c.in-Err.ensures.position (λ (y : ChangeFile). text_cmp (file_path y) c.args.path.now) (always_returns_same _ _ _ (λ a r f' called. search rules))))
