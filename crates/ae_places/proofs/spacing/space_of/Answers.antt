use Rattle.std.proofs.Common.{◌≡◌, ◌∙◌, ap}
use Rattle.std.specs.Prelude.{map, filter}
use Rattle.ae_types.specs.Versions.{has_units, live}
use Rattle.ae_space.specs.Fit.{none_meet, are_inside}
use Rattle.ae_places.specs.Placing.{extent_of, extents}
use Rattle.ae_places.proofs.Extents.{extents-apart, extents-inside}
use Rattle.ae_places.proofs.spacing.space_of.Goals as goal

pub of_live-requires-clause-apart : goal.of_live-requires-clause-apart
of_live-requires-clause-apart c =
    let is : c.of.result ≡ extents c.args.state.now = c.of.ensures ∙ c.in_ok-extents.ensures ∙ ap (λ versions. map extent_of (filter has_units versions)) (c.as_slice.ensures ∙ c.in_ok-versions.ensures ∙ (λ i. live (c.files.ensures i) (c.changes.ensures i))) in
    ap none_meet is ∙ extents-apart c.args.state.now c.note_sound.ensures.sound

pub of_live-requires-clause-inside : goal.of_live-requires-clause-inside
of_live-requires-clause-inside c =
    let is : c.of.result ≡ extents c.args.state.now = c.of.ensures ∙ c.in_ok-extents.ensures ∙ ap (λ versions. map extent_of (filter has_units versions)) (c.as_slice.ensures ∙ c.in_ok-versions.ensures ∙ (λ i. live (c.files.ensures i) (c.changes.ensures i))) in
    ap are_inside is ∙ extents-inside c.args.state.now c.note_sound.ensures.sound
