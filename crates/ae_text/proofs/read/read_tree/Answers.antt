use Rattle.std.proofs.Common.{◌≡◌, ℕ, inl, inr, subst, sym, ap, ◌∙◌}
use Rattle.ae_text.specs.Grammar.{line_of}
use Rattle.ae_text.specs.Wrong.{IsSyntax, IsTooDeep}
use Rattle.ae_text.specs.Steps.{state_of}
use Rattle.ae_text.specs.View.{node}
use Rattle.ae_text.specs.declared.read.TextError.TheVariants.{Syntax, TooDeep}
use Rattle.ae_text.proofs.Whole.{answer_found, one_tree, stopped_syntax, stopped_deep}
use Rattle.ae_text.proofs.Errors.{never_both, one_line, one_kind}
use Rattle.ae_text.proofs.GoodWords.{well_formed}
use Rattle.ae_text.proofs.read.read_tree.Goals as goal

pub returns-in-Ok-finished-clause-found : goal.returns-in-Ok-finished-clause-found
returns-in-Ok-finished-clause-found c =
    let ok = c.in-Ok.ensures.ok in
    let f = c.in-Ok-finished.ensures in
    answer_found c.args.bytes.now ok.1.0 (state_of c.in-Ok.state) ok.1.1 ok.0 (node c.in-Ok-finished.parsed.tree) c.in-Ok-finished.parsed.lines f.0 f.1

pub returns-in-Ok-finished-clause-well_formed : goal.returns-in-Ok-finished-clause-well_formed
returns-in-Ok-finished-clause-well_formed c =
    let ok = c.in-Ok.ensures.ok in
    let f = c.in-Ok-finished.ensures in
    let found = answer_found c.args.bytes.now ok.1.0 (state_of c.in-Ok.state) ok.1.1 ok.0 (node c.in-Ok-finished.parsed.tree) c.in-Ok-finished.parsed.lines f.0 f.1 in
    well_formed c.args.bytes.now (node c.in-Ok-finished.parsed.tree) c.in-Ok-finished.parsed.lines found

pub returns-in-Ok-finished-clause-only : goal.returns-in-Ok-finished-clause-only
returns-in-Ok-finished-clause-only c tree lines r =
    let ok = c.in-Ok.ensures.ok in
    let f = c.in-Ok-finished.ensures in
    let found = answer_found c.args.bytes.now ok.1.0 (state_of c.in-Ok.state) ok.1.1 ok.0 (node c.in-Ok-finished.parsed.tree) c.in-Ok-finished.parsed.lines f.0 f.1 in
    one_tree c.args.bytes.now (node c.in-Ok-finished.parsed.tree) tree c.in-Ok-finished.parsed.lines lines found r

pub returns-in-Ok-finished-clause-only_syntax : goal.returns-in-Ok-finished-clause-only_syntax
returns-in-Ok-finished-clause-only_syntax c line e =
    let ok = c.in-Ok.ensures.ok in
    let f = c.in-Ok-finished.ensures in
    let found = answer_found c.args.bytes.now ok.1.0 (state_of c.in-Ok.state) ok.1.1 ok.0 (node c.in-Ok-finished.parsed.tree) c.in-Ok-finished.parsed.lines f.0 f.1 in
    never_both c.args.bytes.now (node c.in-Ok-finished.parsed.tree) c.in-Ok-finished.parsed.lines line found (inl e)

pub returns-in-Ok-finished-clause-only_too_deep : goal.returns-in-Ok-finished-clause-only_too_deep
returns-in-Ok-finished-clause-only_too_deep c line e =
    let ok = c.in-Ok.ensures.ok in
    let f = c.in-Ok-finished.ensures in
    let found = answer_found c.args.bytes.now ok.1.0 (state_of c.in-Ok.state) ok.1.1 ok.0 (node c.in-Ok-finished.parsed.tree) c.in-Ok-finished.parsed.lines f.0 f.1 in
    never_both c.args.bytes.now (node c.in-Ok-finished.parsed.tree) c.in-Ok-finished.parsed.lines line found (inr e)

pub returns-in-Err-Syntax-clause-only : goal.returns-in-Err-Syntax-clause-only
returns-in-Err-Syntax-clause-only c tree lines r =
    let st = rw c.in-Err-Syntax.field-0-is at c.in-Err-Syntax.ensures.err in
    never_both c.args.bytes.now tree lines (line_of c.args.bytes.now c.in-Err-Syntax.at) r (inl (stopped_syntax c.args.bytes.now c.in-Err-Syntax.at st))

pub returns-in-Err-Syntax-clause-syntax : goal.returns-in-Err-Syntax-clause-syntax
returns-in-Err-Syntax-clause-syntax c line e =
    let st = rw c.in-Err-Syntax.field-0-is at c.in-Err-Syntax.ensures.err in
    let found : IsSyntax c.args.bytes.now (line_of c.args.bytes.now c.in-Err-Syntax.at) = stopped_syntax c.args.bytes.now c.in-Err-Syntax.at st in
    let told = rw c.in-Err-Syntax.at-is at c.line_at.ensures in
    let said : c.line_at.result ≡ line = cc in
    subst (λ (n : ℕ). IsSyntax c.args.bytes.now n) (sym told ∙ said) found

pub returns-in-Err-Syntax-clause-only_syntax : goal.returns-in-Err-Syntax-clause-only_syntax
returns-in-Err-Syntax-clause-only_syntax c line e =
    let st = rw c.in-Err-Syntax.field-0-is at c.in-Err-Syntax.ensures.err in
    let told = rw c.in-Err-Syntax.at-is at c.line_at.ensures in
    let same = one_line c.args.bytes.now line (line_of c.args.bytes.now c.in-Err-Syntax.at) (inl e) (inl (stopped_syntax c.args.bytes.now c.in-Err-Syntax.at st)) in
    ap Syntax (same ∙ sym told)

pub returns-in-Err-Syntax-clause-only_too_deep : goal.returns-in-Err-Syntax-clause-only_too_deep
returns-in-Err-Syntax-clause-only_too_deep c line e =
    let st = rw c.in-Err-Syntax.field-0-is at c.in-Err-Syntax.ensures.err in
    absurd (one_kind c.args.bytes.now (line_of c.args.bytes.now c.in-Err-Syntax.at) line (stopped_syntax c.args.bytes.now c.in-Err-Syntax.at st) e)

pub returns-in-Err-TooDeep-clause-only : goal.returns-in-Err-TooDeep-clause-only
returns-in-Err-TooDeep-clause-only c tree lines r =
    let st = rw c.in-Err-TooDeep.field-0-is at c.in-Err-TooDeep.ensures.err in
    never_both c.args.bytes.now tree lines (line_of c.args.bytes.now c.in-Err-TooDeep.at) r (inr (stopped_deep c.args.bytes.now c.in-Err-TooDeep.at st))

pub returns-in-Err-TooDeep-clause-too_deep : goal.returns-in-Err-TooDeep-clause-too_deep
returns-in-Err-TooDeep-clause-too_deep c line e =
    let st = rw c.in-Err-TooDeep.field-0-is at c.in-Err-TooDeep.ensures.err in
    let found : IsTooDeep c.args.bytes.now (line_of c.args.bytes.now c.in-Err-TooDeep.at) = stopped_deep c.args.bytes.now c.in-Err-TooDeep.at st in
    let told = rw c.in-Err-TooDeep.at-is at c.line_at-in-Err-TooDeep.ensures in
    let said : c.line_at-in-Err-TooDeep.result ≡ line = cc in
    subst (λ (n : ℕ). IsTooDeep c.args.bytes.now n) (sym told ∙ said) found

pub returns-in-Err-TooDeep-clause-only_syntax : goal.returns-in-Err-TooDeep-clause-only_syntax
returns-in-Err-TooDeep-clause-only_syntax c line e =
    let st = rw c.in-Err-TooDeep.field-0-is at c.in-Err-TooDeep.ensures.err in
    absurd (one_kind c.args.bytes.now line (line_of c.args.bytes.now c.in-Err-TooDeep.at) e (stopped_deep c.args.bytes.now c.in-Err-TooDeep.at st))

pub returns-in-Err-TooDeep-clause-only_too_deep : goal.returns-in-Err-TooDeep-clause-only_too_deep
returns-in-Err-TooDeep-clause-only_too_deep c line e =
    let st = rw c.in-Err-TooDeep.field-0-is at c.in-Err-TooDeep.ensures.err in
    let told = rw c.in-Err-TooDeep.at-is at c.line_at-in-Err-TooDeep.ensures in
    let same = one_line c.args.bytes.now line (line_of c.args.bytes.now c.in-Err-TooDeep.at) (inr e) (inr (stopped_deep c.args.bytes.now c.in-Err-TooDeep.at st)) in
    ap TooDeep (same ∙ sym told)
