use Rattle.std.proofs.Common.{◌∙◌}
use Rattle.std.proofs.lemmas.Result.{IfOk-weaker}
use Rattle.ae_base.proofs.Results.{ok_is_no_err}
use Rattle.ae_vault.proofs.BodyText.{kind_of_none, kind_absent, kind_with_bytes, kind_of_neither}
use Rattle.ae_vault.proofs.Erring.{damaged_is_no_fault}
use Rattle.ae_vault.proofs.body.read_kind.Goals as goal

pub returns-in-empty-clause-ok : goal.returns-in-empty-clause-ok
returns-in-empty-clause-ok c = tt

pub returns-in-empty-clause-no_fault : goal.returns-in-empty-clause-no_fault
returns-in-empty-clause-no_fault c = λ is. damaged_is_no_fault is

pub returns-then-kind-eq0-clause-damaged : goal.returns-then-kind-eq0-clause-damaged
returns-then-kind-eq0-clause-damaged c = λ is. absurd (ok_is_no_err _ _ is)

pub returns-then-kind-eq0-clause-no_fault : goal.returns-then-kind-eq0-clause-no_fault
returns-then-kind-eq0-clause-no_fault c = λ is. ok_is_no_err _ _ is

pub returns-then-kind-eq1-clause-no_fault : goal.returns-then-kind-eq1-clause-no_fault
returns-then-kind-eq1-clause-no_fault c = c.read_bytes.ensures.no_fault

pub returns-else-kind-eq1-clause-ok : goal.returns-else-kind-eq1-clause-ok
returns-else-kind-eq1-clause-ok c = tt

pub returns-else-kind-eq1-clause-no_fault : goal.returns-else-kind-eq1-clause-no_fault
returns-else-kind-eq1-clause-no_fault c = λ is. damaged_is_no_fault is

pub returns-in-empty-clause-damaged : goal.returns-in-empty-clause-damaged
returns-in-empty-clause-damaged c = λ is. kind_of_none c.args.name c.args.bytes.now c.in-empty.len_below

pub returns-then-kind-eq0-clause-ok : goal.returns-then-kind-eq0-clause-ok
returns-then-kind-eq0-clause-ok c = kind_absent c.args.name c.args.bytes.now c.in-len1-up.len_at_least c.if-kind-eq0.true

pub returns-then-kind-eq1-clause-ok : goal.returns-then-kind-eq1-clause-ok
returns-then-kind-eq1-clause-ok c = IfOk-weaker c.read_bytes.result _ _ (λ r read. kind_with_bytes c.args.name c.args.bytes.now c.in-len1-up.len_at_least c.if-kind-eq1.true ∙ read) c.read_bytes.ensures.ok

pub returns-then-kind-eq1-clause-damaged : goal.returns-then-kind-eq1-clause-damaged
returns-then-kind-eq1-clause-damaged c = λ is. kind_with_bytes c.args.name c.args.bytes.now c.in-len1-up.len_at_least c.if-kind-eq1.true ∙ c.read_bytes.ensures.damaged is

pub returns-else-kind-eq1-clause-damaged : goal.returns-else-kind-eq1-clause-damaged
returns-else-kind-eq1-clause-damaged c = λ is. kind_of_neither c.args.name c.args.bytes.now c.in-len1-up.len_at_least c.if-kind-eq0.false c.if-kind-eq1.false
