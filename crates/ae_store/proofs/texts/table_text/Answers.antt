use Rattle.std.proofs.Common.{◌≡◌, ℕ, Some, sym, ap, subst, Vec, Global}
use Rattle.std.specs.Prelude.{option_copied}
use Rattle.ae_schema.specs.Files.{files_fields}
use Rattle.ae_schema.specs.Fits.{HoldsFiles}
use Rattle.ae_schema.specs.Records.{IsTextOf}
use Rattle.ae_store.specs.Changed.{canonical}
use Rattle.ae_store.specs.Batching.{TableIsWritten}
use Rattle.ae_store.proofs.BatchTexts.{table_written, if_ok}
use Rattle.ae_store.proofs.texts.table_text.Goals as goal

pub returns-in-Some-clause-written : goal.returns-in-Some-clause-written
returns-in-Some-clause-written c =
    let copied : option_copied c.args.state ≡ Some c.in-Some.state.now = ap option_copied c.in-Some.is in
    if_ok (λ (t : Vec ℕ Global). t.items ≡ canonical (files_fields (c.files.result.now, c.locks.result.now))) (λ _. HoldsFiles (c.files.result.now, c.locks.result.now)) (λ (t : Vec ℕ Global). IsTextOf t.items (files_fields (c.files.result.now, c.locks.result.now)))
    (λ _. TableIsWritten (option_copied c.args.state)) c.print_files.result
    (λ text is fits again. subst TableIsWritten (sym copied) (table_written c.in-Some.state.now c.files.result.now c.locks.result.now c.files.ensures c.locks.ensures c.note_sound.ensures text.items is again fits))
    c.print_files.ensures.value c.print_files.ensures.fits c.print_files.ensures.again
