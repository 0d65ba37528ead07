use Rattle.std.proofs.Common.{◌≡◌, None, rules}
use Rattle.ae_text.specs.Scan.{fitting}
use Rattle.ae_text.proofs.scan.byte_of.Goals as goal

pub returns-else-n-lt256 : goal.returns-else-n-lt256
returns-else-n-lt256 c =
    let none : None ≡ fitting c.args.n 256 = search rules in
    none
