use Rattle.std.proofs.Common.{◌≡◌, ◌∙◌, ap, sym, subst, arith, drop, List, [], ◌∷◌, ◌++◌, Option, Err, le_refl, refl}
use Rattle.std.proofs.lemmas.List.{drop_all, map_more}
use Rattle.ae_base.proofs.Results.{err_is}
use Rattle.ae_outside.proofs.Rising.{risen_later}
use Rattle.ae_outside.specs.State.{reads}
use Rattle.ae_outside.specs.Image.{Image, IsSame}
use Rattle.ae_outside.specs.Time.{same_on, same_reads, goes_on_refl}
use Rattle.ae_types.specs.Trees.{TreeRow, tree_path}
use Rattle.ae_vault.specs.Vault.{effective}
use Rattle.std.specs.Prelude.{IsSome}
use Rattle.std.proofs.lemmas.List.Elements.{All-nil}
use Rattle.ae_base.specs.Rows.{Row, paths_of}
use Rattle.ae_exec.specs.Bytes.{AreThere}
use Rattle.ae_exec.specs.Reading.{AreKept, FirstIsLost, versions_of}
use Rattle.ae_exec.proofs.Endings.{ends_for}
use Rattle.ae_exec.proofs.ReadInOrder.{kept-next, lost-next, lost-now}
use Rattle.ae_exec.proofs.RunRows.{one-inside, rows-step, row-more}
use Rattle.ae_exec.proofs.running.files_of_rows.Goals as goal

pub push_row-requires-clause-inside : goal.push_row-requires-clause-inside
push_row-requires-clause-inside g c = one-inside c.args.rows.now c.loop-row.row-index c.row-item.result c.loop-row-test.true c.row-item.is c.requires.inside

pub returns-in_err-push_row-clause-stopped : goal.returns-in_err-push_row-clause-stopped
returns-in_err-push_row-clause-stopped g c =
    let is : c.from_residual.result ≡ Err c.in_err-push_row.field-0.0 = err_is _ _ c.from_residual.ensures.1 in
    rw is (ends_for _ c.in_err-push_row.ensures.stopped (λ none. none) (λ refusal none. none)
    (λ name damaged tells.
    let same : effective (reads (g.D.Disk.state c.loop-row.disk)) ≡ effective (reads (g.D.Disk.state c.args.disk.now)) = ap effective (same_reads (g.D.Disk.state c.args.disk.now) (g.D.Disk.state c.loop-row.disk) (c.loop-row.invariant.same tells)) in
    record {
      is_pack = (damaged tells).is_pack;
      first = lost-now (effective (reads (g.D.Disk.state c.args.disk.now))) versions_of (λ (row : TreeRow). versions_of (row ∷ [])) rows-step
          c.args.rows.now c.loop-row.row-index c.row-item.result c.loop-row-test.true c.row-item.is (c.loop-row.invariant.lost tells)
          (subst (λ (x : Option Image). FirstIsLost x (versions_of (c.row-item.result ∷ []))) same (damaged tells).first);
    })
    (λ rose. risen_later _ _ _ c.loop-row.invariant.later rose) (λ none. none))

pub returns-clause-kept : goal.returns-clause-kept
returns-clause-kept g c = λ tells.
    let ended : drop c.loop-row.row-index c.args.rows.now ≡ [] = drop_all c.loop-row.row-index c.args.rows.now (omega arith) in
    c.loop-row.invariant.kept tells (subst (λ (rows : List TreeRow). AreKept (effective (reads (g.D.Disk.state c.args.disk.now))) (versions_of rows)) (sym ended) tt)

pub loop-row-preserved : goal.loop-row-preserved
loop-row-preserved g c = record {
  rows = λ tells. row-more _ _ c.args.rows.now c.loop-row.row-index c.row-item.result _ _ c.loop-row-test.true c.row-item.is
      (ap effective (same_reads (g.D.Disk.state c.args.disk.now) (g.D.Disk.state c.loop-row.disk) (c.loop-row.invariant.same tells))) (c.loop-row.invariant.rows tells) (c.in_ok-push_row.ensures.pushed tells);
  paths = c.in_ok-push_row.ensures.path ∙ (λ i. c.loop-row.invariant.paths i ++ tree_path (c.row-item.is i) ∷ []) ∙ sym (map_more tree_path c.args.rows.now c.loop-row.row-index c.row-item.result c.loop-row-test.true);
  there = c.in_ok-push_row.ensures.there c.loop-row.invariant.there;
  kept = λ tells rest.
      let same : effective (reads (g.D.Disk.state c.loop-row.disk)) ≡ effective (reads (g.D.Disk.state c.args.disk.now)) = ap effective (same_reads (g.D.Disk.state c.args.disk.now) (g.D.Disk.state c.loop-row.disk) (c.loop-row.invariant.same tells)) in
      kept-next (effective (reads (g.D.Disk.state c.args.disk.now))) versions_of (λ (row : TreeRow). versions_of (row ∷ [])) rows-step
      c.args.rows.now c.loop-row.row-index c.row-item.result c.loop-row-test.true c.row-item.is (c.loop-row.invariant.kept tells)
      (subst (λ (x : Option Image). AreKept x (versions_of (c.row-item.result ∷ []))) same (c.in_ok-push_row.ensures.kept tells)) rest;
  lost = λ tells rest.
      let same : effective (reads (g.D.Disk.state c.loop-row.disk)) ≡ effective (reads (g.D.Disk.state c.args.disk.now)) = ap effective (same_reads (g.D.Disk.state c.args.disk.now) (g.D.Disk.state c.loop-row.disk) (c.loop-row.invariant.same tells)) in
      lost-next (effective (reads (g.D.Disk.state c.args.disk.now))) versions_of (λ (row : TreeRow). versions_of (row ∷ [])) rows-step
      c.args.rows.now c.loop-row.row-index c.row-item.result c.loop-row-test.true c.row-item.is (c.loop-row.invariant.lost tells)
      (subst (λ (x : Option Image). AreKept x (versions_of (c.row-item.result ∷ []))) same (c.in_ok-push_row.ensures.kept tells)) rest;
  same = λ tells. same_on (g.D.Disk.state c.args.disk.now) (g.D.Disk.state c.loop-row.disk) (g.D.Disk.state c.push_row.new.disk) (c.loop-row.invariant.same tells) (c.push_row.ensures.same tells);
  later = omega (arith, c.loop-row.invariant.later, c.push_row.ensures.later);
}

pub loop-row-init : goal.loop-row-init
loop-row-init g c = record {
  rows = λ tells. c.new-files.ensures;
  paths = ap paths_of c.new-files.ensures;
  there = subst AreThere (sym c.new-files.ensures) (All-nil (λ (row : Row). IsSome row.1));
  kept = λ tells rest. rest;
  lost = λ tells rest. rest;
  same = λ tells. goes_on_refl IsSame (g.D.Disk.state c.args.disk.now) (λ image. refl);
  later = le_refl _;
}
