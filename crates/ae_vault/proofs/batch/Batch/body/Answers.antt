use Rattle.std.proofs.Common.{sym, ◌∙◌, ap}
use Rattle.ae_vault.specs.Batch.{BatchRecord}
use Rattle.ae_vault.specs.Body.{body_of}
use Rattle.ae_vault.proofs.BodyBack.{body_text}
use Rattle.ae_vault.proofs.batch.Batch.body.Goals as goal

pub returns-clause-one_text : goal.returns-clause-one_text
returns-clause-one_text c = λ bytes are is. body_text bytes c.args.self.now.entries are is ∙ sym (c.as_slice.ensures.value ∙ c.self.invariant.0 ∙ ap (λ (b : BatchRecord). body_of b.entries) c.self.view_is)
