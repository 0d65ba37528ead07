use Rattle.ae_branch.proofs.SourceGood.{source_inside}
use Rattle.ae_branch.proofs.source.source_of.Goals as goal

pub returns-clause-source : goal.returns-clause-source
returns-clause-source c = record { acts = c.in_ok-acts.ensures.acts; brief = c.in_ok-brief.ensures; rows = c.in_ok-rows.ensures }

pub returns-clause-good : goal.returns-clause-good
returns-clause-good c = record {
  formed = c.in_ok-acts.ensures.formed;
  inside = source_inside c.args.state.now c.args.delta c.in_ok-rows.rows.items c.note_sound.ensures.sound c.in_ok-rows.ensures;
}
