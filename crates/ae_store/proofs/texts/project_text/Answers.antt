use Rattle.std.proofs.Common.{◌≡◌, ℕ, Option, Some, sym, ◌∙◌, ap, subst, Vec, Global}
use Rattle.std.specs.Prelude.{option_copied}
use Rattle.ae_schema.specs.declared.format.Format.TheVariants.{Two}
use Rattle.ae_schema.specs.Files.{project_fields}
use Rattle.ae_schema.specs.Fits.{HoldsProject}
use Rattle.ae_schema.specs.Records.{IsTextOf}
use Rattle.ae_types.specs.Observation.{Observation}
use Rattle.ae_store.specs.Changed.{canonical, text_of}
use Rattle.ae_store.specs.Batching.{ProjectIsWritten, IsNumbered}
use Rattle.ae_store.specs.Names.{project_file}
use Rattle.ae_store.proofs.BatchTexts.{project_is, project_written, project_numbered, if_ok}
use Rattle.ae_store.proofs.texts.project_text.Goals as goal

pub returns-in-Some-clause-text : goal.returns-in-Some-clause-text
returns-in-Some-clause-text c =
    let copied : option_copied c.args.state ≡ Some c.in-Some.state.now = ap option_copied c.in-Some.is in
    if_ok (λ (t : Vec ℕ Global). t.items ≡ canonical (project_fields Two (c.project.result.now, c.numbers.result.now))) (λ _. HoldsProject (c.project.result.now, c.numbers.result.now)) (λ (t : Vec ℕ Global). IsTextOf t.items (project_fields Two (c.project.result.now, c.numbers.result.now)))
    (λ (t : Vec ℕ Global). t.items ≡ text_of (option_copied c.args.state) project_file) c.print_project.result
    (λ text is fits again. is ∙ project_is c.in-Some.state.now c.project.result.now c.numbers.result.now c.project.ensures.project c.numbers.ensures ∙ ap (λ (s : Option Observation). text_of s project_file) (sym copied))
    c.print_project.ensures.value c.print_project.ensures.fits c.print_project.ensures.again

pub returns-in-Some-clause-written : goal.returns-in-Some-clause-written
returns-in-Some-clause-written c =
    let copied : option_copied c.args.state ≡ Some c.in-Some.state.now = ap option_copied c.in-Some.is in
    if_ok (λ (t : Vec ℕ Global). t.items ≡ canonical (project_fields Two (c.project.result.now, c.numbers.result.now))) (λ _. HoldsProject (c.project.result.now, c.numbers.result.now)) (λ (t : Vec ℕ Global). IsTextOf t.items (project_fields Two (c.project.result.now, c.numbers.result.now)))
    (λ _. ProjectIsWritten (option_copied c.args.state)) c.print_project.result
    (λ text is fits again. subst ProjectIsWritten (sym copied) (project_written c.in-Some.state.now c.project.result.now c.numbers.result.now c.project.ensures.project c.numbers.ensures c.project.ensures.sound text.items is again fits))
    c.print_project.ensures.value c.print_project.ensures.fits c.print_project.ensures.again

pub returns-in-Some-clause-numbered : goal.returns-in-Some-clause-numbered
returns-in-Some-clause-numbered c =
    let copied : option_copied c.args.state ≡ Some c.in-Some.state.now = ap option_copied c.in-Some.is in
    if_ok (λ (t : Vec ℕ Global). t.items ≡ canonical (project_fields Two (c.project.result.now, c.numbers.result.now))) (λ _. HoldsProject (c.project.result.now, c.numbers.result.now)) (λ (t : Vec ℕ Global). IsTextOf t.items (project_fields Two (c.project.result.now, c.numbers.result.now)))
    (λ _. IsNumbered (option_copied c.args.state)) c.print_project.result
    (λ text is fits again. subst IsNumbered (sym copied) (project_numbered c.in-Some.state.now c.project.result.now c.numbers.result.now c.project.ensures.project c.numbers.ensures c.project.ensures.sound fits))
    c.print_project.ensures.value c.print_project.ensures.fits c.print_project.ensures.again
