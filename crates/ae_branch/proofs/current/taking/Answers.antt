use Rattle.std.proofs.Common.{Ok, refl}
use Rattle.ae_branch.specs.Finish.{TakesOn}
use Rattle.ae_branch.specs.Steps.{Is, done, went_on}
use Rattle.ae_branch.proofs.Steps.{found_first, stops_first}
use Rattle.ae_branch.proofs.current.taking.Goals as goal

pub returns-in-Ok : goal.returns-in-Ok
returns-in-Ok c = done c.args.state (λ told. went_on tt (Ok c.args.state) (found_first (Unit {0}) (TakesOn c.args.state c.args.carried.now) ⊥ tt c.in-Ok.ensures tt) refl)

pub returns-in-Err : goal.returns-in-Err
returns-in-Err c = stops_first (Unit {0}) (Unit {0}) (TakesOn c.args.state c.args.carried.now) (λ (taken : Unit {0}). Is c.args.state) ⊥ ⊥ (λ told. told) (λ none. none) c.in-Err.why c.in-Err.ensures
