use Rattle.std.proofs.Common.{◌≡◌, ◌+◌, ◌*◌, ◌^◌, rules}
use Rattle.ae_text.specs.Scan.{fitting}
use Rattle.ae_text.proofs.scan.with_digit.Goals as goal

pub returns : goal.returns
returns c =
    let sum : c.checked_add.result ≡ fitting (10 * c.args.n + c.args.digit) (2 ^ 64) = search rules in
    sum
