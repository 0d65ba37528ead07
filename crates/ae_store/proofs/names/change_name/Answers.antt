use Rattle.std.proofs.Common.{ℕ, List, ◌<◌, ◌^◌, sym, subst, arith}
use Rattle.ae_outside.specs.DiskNames.{IsDiskName}
use Rattle.ae_store.proofs.FileNames.{change_file_named}
use Rattle.ae_store.proofs.names.change_name.Goals as goal

pub returns-clause-disk : goal.returns-clause-disk
returns-clause-disk c =
    let small : c.args.number < 2 ^ 16 = let most = c.number-digits.ensures.high in omega arith in
    subst (λ (name : List ℕ). IsDiskName name) (sym c.in_ok-name.ensures.ok) (change_file_named c.args.number small)
