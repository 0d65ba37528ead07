use Rattle.std.proofs.Common.{◌≡◌, false, rules}
use Rattle.ae_text.specs.Pushdown.{is_sign_of}
use Rattle.ae_text.specs.Steps.{token_of}
use Rattle.ae_text.proofs.pushdown.is_sign.Goals as goal

pub returns-in_default : goal.returns-in_default
returns-in_default c =
    let none : false ≡ is_sign_of c.args.sign (token_of c.args.token.now) = search rules in
    none
