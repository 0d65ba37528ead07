use Rattle.std.proofs.Common.{◌≡◌, ◌∙◌, ◌+◌, ℕ, min, take, sym, ap, subst, arith}
use Rattle.ae_types.specs.Trees.{TreeRow}
use Rattle.ae_session.specs.Summary.{bytes_of, most_told}
use Rattle.ae_session.proofs.Summed.{bytes_step, told_more}
use Rattle.ae_session.proofs.summary.bytes_of.Goals as goal

pub loop-file-preserved : goal.loop-file-preserved
loop-file-preserved c =
    let long : c.from.result ≡ c.file-item.result.version.length = c.from.ensures ∙ ap (λ (row : TreeRow). row.version.length) c.file.view_is in
    record {
      sum = subst (λ (n : ℕ). c.saturating_add-bytes.result ≡ min (bytes_of (take c.loop-file.file-index c.args.files.now) + n) most_told) long
          (told_more (bytes_of (take c.loop-file.file-index c.args.files.now)) c.from.result c.loop-file.bytes c.saturating_add-bytes.result c.loop-file.invariant.sum c.saturating_add-bytes.ensures)
          ∙ ap (λ (n : ℕ). min n most_told) (sym (bytes_step c.args.files.now c.loop-file.file-index c.file-item.result (omega (arith, c.loop-file-test.true)) c.file-item.is));
    }
