use Rattle.std.proofs.Common.{Err, ap}
use Rattle.ae_outside.specs.State.{reads}
use Rattle.ae_branch.specs.Origin.{NamesOrigin, origin_bytes}
use Rattle.ae_branch.specs.Steps.{disk_fault, memory}
use Rattle.ae_branch.proofs.OriginRead.{first_bytes, names_whole}
use Rattle.ae_branch.proofs.Stepping.{answers_as}
use Rattle.ae_branch.proofs.origin.read_origin.Goals as goal

pub returns-in-Ok-clause-answer : goal.returns-in-Ok-clause-answer
returns-in-Ok-clause-answer g c =
    answers_as (Unit {0}) g.B.Disk.tells (NamesOrigin c.deref.result.now) (NamesOrigin (origin_bytes (reads (g.B.Disk.state c.args.disk.now)))) ⊥ _ (λ tells. tt)
    (λ tells said names. names_whole c.deref.result.now (origin_bytes (reads (g.B.Disk.state c.args.disk.now))) (first_bytes (reads (g.B.Disk.state c.args.disk.now)) c.deref.result.now c.in-Ok.text.items c.deref.ensures.value (c.in-Ok.ensures.bytes tells)) said names)
    (λ none. absurd none) c.understood.result c.understood.ensures

pub returns-in-Err-Failed-clause-answer : goal.returns-in-Err-Failed-clause-answer
returns-in-Err-Failed-clause-answer g c = disk_fault (c.in-Err-Failed.ensures.cause.rose (ap Err c.in-Err-Failed.field-0-is))

pub returns-in-Err-Memory-clause-answer : goal.returns-in-Err-Memory-clause-answer
returns-in-Err-Memory-clause-answer g c = memory
