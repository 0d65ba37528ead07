use Rattle.std.proofs.Common.{rules, ap, ◌∙◌}
use Rattle.std.proofs.lemmas.Result.{on_ok_weaker}
use Rattle.ae_outside.specs.Trees.{with_rows}
use Rattle.ae_dirs.proofs.filling.fill_rows.Goals as goal

pub returns-clause-filled : goal.returns-clause-filled
returns-clause-filled g c = on_ok_weaker c.put_rows.result (λ put tells. put tells ∙ ap (with_rows c.args.rows.now) (search rules)) c.put_rows.ensures.put
