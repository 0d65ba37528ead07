use Rattle.std.proofs.Common.{◌≡◌, ◌∙◌, List, Result, Err, ap, sym, subst, false}
use Rattle.ae_base.proofs.Results.{err_is}
use Rattle.ae_rlang.specs.declared.token.Lexeme.{Lexeme}
use Rattle.ae_rlang.specs.declared.report.Report.{Report}
use Rattle.ae_rlang.specs.declared.read.ReadReportError.{ReadReportError}
use Rattle.ae_rlang.specs.declared.read.ReadReportError.TheVariants.{Bad}
use Rattle.ae_rlang.specs.Answering.{IsRead, IsRefusedWith}
use Rattle.ae_rlang.specs.Scope.{totals_in}
use Rattle.ae_rlang.specs.Steps.{lexemes_seen, state_seen}
use Rattle.ae_rlang.proofs.Reader.{taken_report, stops_only, stops_refused, stops_only_refused, answered, answered_only, answered_only_refused}
use Rattle.ae_rlang.proofs.read.read_report.Goals as goal

pub returns-in_err-state-clause-only : goal.returns-in_err-state-clause-only
returns-in_err-state-clause-only c report h =
    let is : c.from_residual.result ≡ Err c.in_err-state.field-0.0 = err_is _ _ c.from_residual.ensures.1 in
    subst (λ (r : Result Report ReadReportError). IsRead report r) (sym is) (stops_only c.args.bytes.now c.in-Ok.lexemes.items c.as_slice-2.result.now c.in_err-state.field-0.0 c.in-Ok.ensures c.in_err-state.ensures.err report h)

pub returns-in_err-state-clause-refused : goal.returns-in_err-state-clause-refused
returns-in_err-state-clause-refused c line e =
    let is : c.from_residual.result ≡ Err c.in_err-state.field-0.0 = err_is _ _ c.from_residual.ensures.1 in
    let told : Err c.in_err-state.field-0.0 ≡ Err (Bad line) = sym is ∙ e in
    let bad : c.in_err-state.field-0.0 ≡ Bad line = cc in
    stops_refused c.args.bytes.now c.in-Ok.lexemes.items c.as_slice-2.result.now c.in_err-state.field-0.0 c.in-Ok.ensures c.in_err-state.ensures.err line bad

pub returns-in_err-state-clause-only_refused : goal.returns-in_err-state-clause-only_refused
returns-in_err-state-clause-only_refused c line h =
    let is : c.from_residual.result ≡ Err c.in_err-state.field-0.0 = err_is _ _ c.from_residual.ensures.1 in
    subst (λ (r : Result Report ReadReportError). IsRefusedWith line r) (sym is) (stops_only_refused c.args.bytes.now c.in-Ok.lexemes.items c.as_slice-2.result.now c.in_err-state.field-0.0 c.in-Ok.ensures c.in_err-state.ensures.err line h)

pub finished-requires : goal.finished-requires
finished-requires c free =
    let same = c.as_slice-2.ensures.value ∙ c.in-Ok-totals_of.ensures ∙ ap (λ (xs : List Lexeme). totals_in false (lexemes_seen xs)) c.as_slice.ensures.value in
    ∣ (c.args.bytes.now, taken_report c.args.bytes.now c.in-Ok.lexemes.items c.as_slice-2.result.now (state_seen c.in_ok-state.state) c.in-Ok.ensures same c.in_ok-state.ensures.ok free) ∣₁

pub returns-clause-found : goal.returns-clause-found
returns-clause-found c =
    let same = c.as_slice-2.ensures.value ∙ c.in-Ok-totals_of.ensures ∙ ap (λ (xs : List Lexeme). totals_in false (lexemes_seen xs)) c.as_slice.ensures.value in
    let a = answered c.args.bytes.now c.in-Ok.lexemes.items c.as_slice-2.result.now (state_seen c.in_ok-state.state) c.finished.result c.in-Ok.ensures same c.in_ok-state.ensures.ok c.finished.ensures.free c.finished.ensures.same c.finished.ensures.bad in
    a.good

pub returns-clause-only : goal.returns-clause-only
returns-clause-only c report h =
    let same = c.as_slice-2.ensures.value ∙ c.in-Ok-totals_of.ensures ∙ ap (λ (xs : List Lexeme). totals_in false (lexemes_seen xs)) c.as_slice.ensures.value in
    let a = answered c.args.bytes.now c.in-Ok.lexemes.items c.as_slice-2.result.now (state_seen c.in_ok-state.state) c.finished.result c.in-Ok.ensures same c.in_ok-state.ensures.ok c.finished.ensures.free c.finished.ensures.same c.finished.ensures.bad in
    answered_only c.args.bytes.now c.finished.result a report h

pub returns-clause-refused : goal.returns-clause-refused
returns-clause-refused c line e =
    let same = c.as_slice-2.ensures.value ∙ c.in-Ok-totals_of.ensures ∙ ap (λ (xs : List Lexeme). totals_in false (lexemes_seen xs)) c.as_slice.ensures.value in
    let a = answered c.args.bytes.now c.in-Ok.lexemes.items c.as_slice-2.result.now (state_seen c.in_ok-state.state) c.finished.result c.in-Ok.ensures same c.in_ok-state.ensures.ok c.finished.ensures.free c.finished.ensures.same c.finished.ensures.bad in
    a.bad line e

pub returns-clause-only_refused : goal.returns-clause-only_refused
returns-clause-only_refused c line h =
    let same = c.as_slice-2.ensures.value ∙ c.in-Ok-totals_of.ensures ∙ ap (λ (xs : List Lexeme). totals_in false (lexemes_seen xs)) c.as_slice.ensures.value in
    let a = answered c.args.bytes.now c.in-Ok.lexemes.items c.as_slice-2.result.now (state_seen c.in_ok-state.state) c.finished.result c.in-Ok.ensures same c.in_ok-state.ensures.ok c.finished.ensures.free c.finished.ensures.same c.finished.ensures.bad in
    answered_only_refused c.args.bytes.now c.finished.result a line h
