use Rattle.std.proofs.Common.{◌≡◌, ◌∙◌, true, ap, arith, map, string_bytes}
use Rattle.ae_script.proofs.Givers.{may_is}
use Rattle.ae_base.specs.Bytes.{read_as}
use Rattle.ae_base.specs.Names.{is_user}
use Rattle.ae_script.specs.Step.{may_give}
use Rattle.ae_session.specs.Request.{bad_word}
use Rattle.ae_session.proofs.Asking.{same_place, bad_answer}
use Rattle.ae_session.proofs.request.read_request.Goals as goal

pub returns-in-Ok-clause-may : goal.returns-in-Ok-clause-may
returns-in-Ok-clause-may c = may_is c.args.who.now _ _ c.args.now (c.in_ok-who.ensures ∙ ap (read_as is_user) c.as_bytes.ensures.value) c.in-Some.is (omega (arith, c.if-now-gt-LAST_MOMENT))

pub returns-in-Err-Bad-clause-bad : goal.returns-in-Err-Bad-clause-bad
returns-in-Err-Bad-clause-bad c = λ place is.
    let may : may_give c.args.who.now c.args.now ≡ true = may_is c.args.who.now _ _ c.args.now (c.in_ok-who.ensures ∙ ap (read_as is_user) c.as_bytes.ensures.value) c.in-Some.is (omega (arith, c.if-now-gt-LAST_MOMENT)) in
    let first = bad_answer (map string_bytes c.args.words.now) _ _ c.in-Err-Bad.field-0-is c.in-Err-Bad.ensures.answer in
    bad_word first.0 may first.1 (same_place _ _ _ is first.2)
