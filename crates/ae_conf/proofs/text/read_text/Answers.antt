use Rattle.std.proofs.Common.{◌≡◌, ℕ, ◌∙◌, ap, Err, inl, inr, subst}
use Rattle.ae_text.specs.Wrong.{IsError}
use Rattle.ae_conf.proofs.text.read_text.Goals as goal

pub returns-in-Err-Syntax-clause-bad : goal.returns-in-Err-Syntax-clause-bad
returns-in-Err-Syntax-clause-bad c line e =
    let same : c.in-Err-Syntax.line ≡ line = cc in
    subst (λ (l : ℕ). IsError c.args.bytes.now l) same (inl (c.read_tree.ensures.syntax c.in-Err-Syntax.line (c.in-Err-Syntax.is ∙ ap Err c.in-Err-Syntax.field-0-is)))

pub returns-in-Err-TooDeep-clause-bad : goal.returns-in-Err-TooDeep-clause-bad
returns-in-Err-TooDeep-clause-bad c line e =
    let same : c.in-Err-TooDeep.line ≡ line = cc in
    subst (λ (l : ℕ). IsError c.args.bytes.now l) same (inr (c.read_tree.ensures.too_deep c.in-Err-TooDeep.line (c.in-Err-TooDeep.is ∙ ap Err c.in-Err-TooDeep.field-0-is)))
