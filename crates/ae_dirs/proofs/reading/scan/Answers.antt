use Rattle.std.specs.Prelude.{All}
use Rattle.std.proofs.Common.{◌∙◌, sym, ap, subst, List, ℕ, []}
use Rattle.std.proofs.Math.Nat.{le_trans}
use Rattle.std.proofs.lemmas.List.Elements.{All-append, All-cons, All-nil}
use Rattle.ae_outside.specs.declared.dir.Content.{Content}
use Rattle.ae_outside.specs.Site.{IsAtMost, SiteState}
use Rattle.ae_dirs.specs.Reads.{file_bytes}
use Rattle.ae_dirs.proofs.ReadFiles.{one_path, one_read}
use Rattle.ae_dirs.proofs.reading.scan.Goals as goal

abbrev IsShort : List ℕ × Content → Type 0
IsShort row = IsAtMost file_bytes row.1

pub loop-path-preserved : goal.loop-path-preserved
loop-path-preserved g c = record {
  rows = λ tells. one_read file_bytes _ _ c.as_slice-path-items.result.now c.loop-path.path-index c.path-item.result _ _ _ _ c.loop-path-test.true c.path-item.is c.in_ok-copy.ensures
      (ap (λ (site : SiteState). site.trees c.args.dir) (c.loop-path.invariant.same tells)) (c.in_ok-content.ensures.content tells) (c.loop-path.invariant.rows tells) c.in_ok-push.ensures.items;
  limit = subst (All IsShort) (sym c.in_ok-push.ensures.items) (All-append IsShort c.loop-path.rows.items _ c.loop-path.invariant.limit (All-cons IsShort _ [] c.in_ok-content.ensures.limit (All-nil IsShort)));
  paths = one_path c.as_slice-path-items.result.now c.loop-path.path-index c.path-item.result _ _ _ _ c.loop-path-test.true c.path-item.is c.in_ok-copy.ensures c.loop-path.invariant.paths c.in_ok-push.ensures.items;
  same = λ tells. c.read.ensures.same tells ∙ c.loop-path.invariant.same tells;
  later = le_trans c.loop-path.invariant.later c.read.ensures.cause.later;
}
