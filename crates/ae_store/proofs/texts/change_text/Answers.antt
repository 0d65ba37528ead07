use Rattle.std.proofs.Common.{◌≡◌, ℕ, sym, ◌∙◌, ap, Vec, Global}
use Rattle.std.specs.Prelude.{option_copied}
use Rattle.ae_schema.specs.declared.format.Format.TheVariants.{Two}
use Rattle.ae_schema.specs.Files.{change_fields}
use Rattle.ae_schema.specs.Fits.{HoldsChange}
use Rattle.ae_schema.specs.Records.{IsTextOf}
use Rattle.ae_store.specs.Changed.{canonical, text_of}
use Rattle.ae_store.specs.Batching.{ChangeIsWritten}
use Rattle.ae_store.specs.Names.{change_file}
use Rattle.ae_store.proofs.BatchTexts.{text_is, text_of_change, change_written, if_ok}
use Rattle.ae_store.proofs.texts.change_text.Goals as goal

pub returns-in-Some-clause-text : goal.returns-in-Some-clause-text
returns-in-Some-clause-text c =
    if_ok _ (λ _. HoldsChange Two c.in-Some.change.now) (λ (t : Vec ℕ Global). IsTextOf t.items (change_fields Two c.in-Some.change.now)) (λ (t : Vec ℕ Global). t.items ≡ text_of (option_copied c.args.state) (change_file c.args.number)) c.print_change.result
    (λ text is fits again. is ∙ ap text_of_change c.in-Some.ensures.change ∙ sym (text_is (option_copied c.args.state) c.args.number c.requires.within c.requires.numbered))
    c.print_change.ensures.value c.print_change.ensures.fits c.print_change.ensures.again

pub returns-in-Some-clause-written : goal.returns-in-Some-clause-written
returns-in-Some-clause-written c =
    if_ok (λ (t : Vec ℕ Global). t.items ≡ canonical (change_fields Two c.in-Some.change.now)) (λ _. HoldsChange Two c.in-Some.change.now) (λ (t : Vec ℕ Global). IsTextOf t.items (change_fields Two c.in-Some.change.now)) (λ _. ChangeIsWritten (option_copied c.args.state) c.args.number) c.print_change.result
    (λ text is fits again. change_written (option_copied c.args.state) c.args.number c.requires.within c.requires.numbered c.in-Some.ensures.sound c.in-Some.change.now c.in-Some.ensures.change text.items is again fits)
    c.print_change.ensures.value c.print_change.ensures.fits c.print_change.ensures.again

pub returns-in-None-clause-text : goal.returns-in-None-clause-text
returns-in-None-clause-text c =
    c.new.ensures.items ∙ ap text_of_change c.in-None.ensures.change ∙ sym (text_is (option_copied c.args.state) c.args.number c.requires.within c.requires.numbered)
