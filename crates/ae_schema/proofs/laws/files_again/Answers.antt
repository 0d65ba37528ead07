use Rattle.std.proofs.Common.{List, ℕ, sym, subst}
use Rattle.ae_schema.specs.Records.{IsTextOf}
use Rattle.ae_schema.specs.Files.{files_fields}
use Rattle.ae_schema.proofs.laws.files_again.Goals as goal

pub returns-in-Ok : goal.returns-in-Ok
returns-in-Ok c ascend =
    c.read_files.ensures.only (c.args.files.now, c.args.locks.now) (c.in-Ok.ensures.fits, ascend)
    (subst (λ (bytes : List ℕ). IsTextOf bytes (files_fields (c.args.files.now, c.args.locks.now))) (sym c.as_slice.ensures.value) c.in-Ok.ensures.again)
