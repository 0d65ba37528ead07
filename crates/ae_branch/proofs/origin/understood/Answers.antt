use Rattle.ae_base.specs.declared.refusal.Refusal.TheVariants.{NotABranch}
use Rattle.ae_branch.specs.Origin.{NamesOrigin, named, no_branch, not_understood}
use Rattle.ae_branch.specs.Steps.{done, memory, refused}
use Rattle.ae_branch.proofs.OriginRead.{damaged_as, not_empty, was_empty}
use Rattle.ae_branch.proofs.origin.understood.Goals as goal

pub returns-then-is_empty : goal.returns-then-is_empty
returns-then-is_empty c = refused NotABranch (λ told. no_branch (was_empty c.args.text.now c.is_empty.result c.is_empty.ensures c.if-is_empty.true))

pub returns-in-Ok-Some : goal.returns-in-Ok-Some
returns-in-Ok-Some c =
    let names = rw c.in-Ok-Some.field-0-is at c.in-Ok-Some.ensures in
    done c.in-Ok-Some.delta (λ told. named c.in-Ok-Some.delta names.0 names.1)

pub returns-in-Ok-None : goal.returns-in-Ok-None
returns-in-Ok-None c =
    let none = rw c.in-Ok-None.field-0-is at c.in-Ok-None.ensures in
    damaged_as (Unit {0}) (NamesOrigin c.args.text.now) ⊥ c.damaged_origin.result c.damaged_origin.ensures
    (λ told. not_understood (not_empty c.args.text.now c.is_empty.result c.is_empty.ensures c.if-is_empty.false) none)

pub returns-in-Err : goal.returns-in-Err
returns-in-Err c = memory
