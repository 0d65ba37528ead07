use Rattle.std.proofs.Common.{◌≡◌, ◌≢◌, [], length, Err, sym, ◌∙◌, subst, arith}
use Rattle.std.proofs.lemmas.Bool.Decides.{nat_tests}
use Rattle.std.proofs.lemmas.Result.{err_from_is_err_and}
use Rattle.ae_base.specs.declared.want.Want.{Want}
use Rattle.ae_outside.specs.Image.{Image}
use Rattle.ae_outside.specs.State.{reads}
use Rattle.ae_schema.specs.declared.format.Format.TheVariants.{Two}
use Rattle.ae_schema.specs.Formats.{IsOfFormat}
use Rattle.ae_vault.specs.Vault.{files}
use Rattle.ae_store.specs.Names.{project_file}
use Rattle.ae_store.specs.Records.{looked_at, nothing}
use Rattle.ae_store.specs.Steps.{IsLoaded}
use Rattle.ae_store.proofs.Formats.{Tells, loaded_read, untold_read}
use Rattle.ae_store.proofs.Reading.{no_bytes, some_bytes}
use Rattle.ae_store.proofs.loading.read_state.Goals as goal

pub returns-then-is_empty-clause-loaded : goal.returns-then-is_empty-clause-loaded
returns-then-is_empty-clause-loaded g c =
    let tested = sym c.is_empty.ensures ∙ c.if-is_empty.true in
    let same = c.in_ok-bytes.bytes.ok in
    let none : length c.in_ok-bytes.bytes.items ≡ 0 = grind (arith, nat_tests) in
    λ t. (Two, nothing (c.in_ok-bytes.ensures.bytes t ∙ no_bytes c.in_ok-bytes.bytes.items none))

pub returns-in_err-format-clause-loaded : goal.returns-in_err-format-clause-loaded
returns-in_err-format-clause-loaded g c = λ t.
    let here : Image = files (reads (g.D.Disk.state c.args.disk.now)) in
    let at : here project_file ≡ c.in_ok-bytes.bytes.items = c.in_ok-bytes.ensures.bytes t in
    let tested = sym c.is_empty.ensures ∙ c.if-is_empty.false in
    let same = c.in_ok-bytes.bytes.ok in
    let some : here project_file ≢ [] = λ e. some_bytes c.in_ok-bytes.bytes.items (λ none. grind (arith, nat_tests)) (sym at ∙ e) in
    let tells : Tells here (Err c.in_err-format.field-0.0) = subst (λ bytes. Tells (λ name. bytes) (Err c.in_err-format.field-0.0)) (c.as_slice.ensures.value ∙ sym at) c.in_err-format.ensures.told in
    let p = err_from_is_err_and c.from_residual-in_err-format.result c.from_residual-in_err-format.ensures.1 in
    rw (p.1, p.2) (untold_read c.args.want here c.in_err-format.field-0.0 some tells)

pub returns-clause-loaded : goal.returns-clause-loaded
returns-clause-loaded g c = λ t.
    let here : Image = files (reads (g.D.Disk.state c.args.disk.now)) in
    let at : here project_file ≡ c.in_ok-bytes.bytes.items = c.in_ok-bytes.ensures.bytes t in
    let is : IsOfFormat c.in_ok-format.format (here project_file) = subst (IsOfFormat c.in_ok-format.format) (c.as_slice.ensures.value ∙ sym at) c.in_ok-format.ensures.told in
    let same : IsLoaded c.in_ok-format.format c.looked_at.result here c.load_project.result = subst (λ (f : Image). IsLoaded c.in_ok-format.format c.looked_at.result f c.load_project.result) (c.in_ok-bytes.ensures.same t) (c.load_project.ensures.loaded t) in
    let loaded : IsLoaded c.in_ok-format.format (looked_at c.in_ok-format.format c.args.want) here c.load_project.result = subst (λ (want : Want). IsLoaded c.in_ok-format.format want here c.load_project.result) c.looked_at.ensures same in
    loaded_read c.args.want here c.in_ok-format.format is c.load_project.result loaded
