use Rattle.std.proofs.Common.{◌∙◌, sym, ap, Some, Err}
use Rattle.ae_types.specs.Frozen.{present}
use Rattle.ae_places.specs.Placing.{extents, places_of}
use Rattle.ae_machine.specs.Space.{placing}
use Rattle.ae_machine.proofs.ending.places_for.Goals as goal

pub returns-in-Ok : goal.returns-in-Ok
unfolding placing
returns-in-Ok c =
    ap (λ tree. places_of (extents c.args.state.now) (present tree)) (sym c.as_slice.ensures.rows)
    ∙ c.in-Ok.ensures.places (extents c.args.state.now) c.in_ok-space.ensures ∙ ap Some (sym c.of.ensures)

pub returns-in-Err-Full : goal.returns-in-Err-Full
unfolding placing
returns-in-Err-Full c =
    ap (λ tree. places_of (extents c.args.state.now) (present tree)) (sym c.as_slice.ensures.rows)
    ∙ c.in-Err-Full.ensures.full (ap Err c.in-Err-Full.field-0-is) (extents c.args.state.now) c.in_ok-space.ensures
