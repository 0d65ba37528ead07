use Rattle.std.proofs.Common.{◌∙◌, ap}
use Rattle.std.specs.Prelude.{option_copied}
use Rattle.std.proofs.lemmas.Result.{IfOk-weaker}
use Rattle.ae_vault.specs.Pieces.{are_pieces}
use Rattle.ae_exec.proofs.Commands.{pieces-good}
use Rattle.ae_exec.proofs.pieces.FrozenFiles.of.Goals as goal

pub returns-clause-good : goal.returns-clause-good
returns-clause-good c = IfOk-weaker c.by_first.result _ _ (λ frozen is.
    ap are_pieces is ∙ pieces-good (option_copied c.args.old) c.args.events.now c.note_state.ensures c.requires.follow c.requires.put.one) c.by_first.ensures.pieces
