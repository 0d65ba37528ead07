use Rattle.std.proofs.Common.{Err, sym, subst}
use Rattle.ae_schema.specs.declared.format.Format.{Format}
use Rattle.ae_schema.specs.Formats.{IsOfFormat}
use Rattle.ae_types.specs.declared.blame.Blame.TheVariants as blame
use Rattle.ae_store.specs.Steps.{IsReading}
use Rattle.ae_store.proofs.Reading.{none_told}
use Rattle.ae_store.proofs.records.good_format.Goals as goal

pub returns-in-Err-clause-told : goal.returns-in-Err-clause-told
returns-in-Err-clause-told c =
    subst (λ s. IsReading (λ (format : Format). IsOfFormat format c.args.bytes.now) blame.Project (Err s)) (sym c.stop_of.ensures)
    (none_told c.args.bytes.now c.in-Err.error c.read_format.result c.in-Err.is c.read_format.ensures.only)
