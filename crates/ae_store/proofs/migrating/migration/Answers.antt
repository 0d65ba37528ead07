use Rattle.std.proofs.Common.{◌≡◌, ◌≢◌, [], Err, inr, sym, ◌∙◌, subst, arith}
use Rattle.std.proofs.lemmas.Bool.Decides.{nat_tests}
use Rattle.std.proofs.lemmas.Result.{err_from_is_err_and}
use Rattle.ae_base.specs.declared.want.Want.TheVariants.{All}
use Rattle.ae_outside.specs.Image.{Image}
use Rattle.ae_outside.specs.State.{reads}
use Rattle.ae_schema.specs.declared.format.Format.{Format}
use Rattle.ae_schema.specs.declared.format.Format.TheVariants.{One, Two}
use Rattle.ae_schema.specs.Formats.{IsOfFormat}
use Rattle.ae_vault.specs.Vault.{files}
use Rattle.ae_store.specs.Names.{project_file}
use Rattle.ae_store.specs.Records.{StandsIn}
use Rattle.ae_store.specs.Steps.{IsLoaded}
use Rattle.ae_store.proofs.Formats.{Tells}
use Rattle.ae_store.proofs.Migrated.{loaded_made, made_needed, untold_made}
use Rattle.ae_store.proofs.Reading.{some_bytes}
use Rattle.ae_store.proofs.migrating.migration.Goals as goal

pub returns-in_err-good_format-clause-made : goal.returns-in_err-good_format-clause-made
returns-in_err-good_format-clause-made g c = λ t.
    let here : Image = files (reads (g.D.Disk.state c.args.disk.now)) in
    let at : here project_file ≡ c.in_ok-bytes.bytes.items = c.in_ok-bytes.ensures.bytes t in
    let tested = sym c.is_empty.ensures ∙ c.if-is_empty.false in
    let same = c.in_ok-bytes.bytes.ok in
    let some : here project_file ≢ [] = λ e. some_bytes c.in_ok-bytes.bytes.items (λ none. grind (arith, nat_tests)) (sym at ∙ e) in
    let tells : Tells here (Err c.in_err-good_format.field-0.0) = subst (λ bytes. Tells (λ name. bytes) (Err c.in_err-good_format.field-0.0)) (c.as_slice.ensures.value ∙ sym at) c.in_err-good_format.ensures.told in
    let p = err_from_is_err_and c.from_residual-in_err-good_format.result c.from_residual-in_err-good_format.ensures.1 in
    rw (p.1, p.2) (untold_made here c.in_err-good_format.field-0.0 some tells)

pub returns-in_err-state-in-One-clause-made : goal.returns-in_err-state-in-One-clause-made
returns-in_err-state-in-One-clause-made g c = λ t.
    let here : Image = files (reads (g.D.Disk.state c.args.disk.now)) in
    let at : here project_file ≡ c.in_ok-bytes.bytes.items = c.in_ok-bytes.ensures.bytes t in
    let told : IsOfFormat One c.as_slice.result.now = subst (λ (format : Format). IsOfFormat format c.as_slice.result.now) c.in-One.is c.in_ok-good_format.ensures.told in
    let first : IsOfFormat One (here project_file) = subst (IsOfFormat One) (c.as_slice.ensures.value ∙ sym at) told in
    let stopped : IsLoaded One All here (Err c.in_err-state-in-One.field-0.0) = subst (λ (f : Image). IsLoaded One All f (Err c.in_err-state-in-One.field-0.0)) (c.in_ok-bytes.ensures.same t) (c.in_err-state-in-One.ensures.loaded t) in
    let p = err_from_is_err_and c.from_residual-in_err-state-in-One.result c.from_residual-in_err-state-in-One.ensures.1 in
    rw (p.1, p.2) (loaded_made here c.in_err-state-in-One.field-0.0 first stopped)

pub returns-in-One-clause-made : goal.returns-in-One-clause-made
returns-in-One-clause-made g c = λ t.
    let here : Image = files (reads (g.D.Disk.state c.args.disk.now)) in
    let stands : StandsIn One here c.in_ok-state-in-One.state = subst (λ (f : Image). StandsIn One f c.in_ok-state-in-One.state) (c.in_ok-bytes.ensures.same t) (c.in_ok-state-in-One.ensures.loaded t) in
    made_needed here c.in_ok-state-in-One.state c.made_of.result stands c.made_of.ensures.made c.made_of.ensures.stopped

pub returns-clause-made : goal.returns-clause-made
returns-clause-made g c = λ t.
    let here : Image = files (reads (g.D.Disk.state c.args.disk.now)) in
    let at : here project_file ≡ c.in_ok-bytes.bytes.items = c.in_ok-bytes.ensures.bytes t in
    let told : IsOfFormat Two c.as_slice.result.now = subst (λ (format : Format). IsOfFormat format c.as_slice.result.now) c.in-Two.is c.in_ok-good_format.ensures.told in
    inr (subst (IsOfFormat Two) (c.as_slice.ensures.value ∙ sym at) told)
