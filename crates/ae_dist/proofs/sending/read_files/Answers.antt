use Rattle.std.proofs.Common.{◌≡◌, ap, arith, le_refl, refl, rules, subst, ◌∙◌, List, take, map}
use Rattle.std.proofs.lemmas.List.{take_all}
use Rattle.std.specs.Prelude.{IfSome, Option, ◌++◌, ◌∷◌, []}
use Rattle.ae_outside.proofs.Rising.{risen_later}
use Rattle.ae_outside.specs.Image.{Image, IsSame}
use Rattle.ae_outside.specs.State.{reads}
use Rattle.ae_outside.specs.Time.{same_on, same_reads, goes_on_refl}
use Rattle.ae_vault.specs.Vault.{effective}
use Rattle.ae_exec.specs.Reading.{AreKept, IsInside}
use Rattle.ae_exec.proofs.Endings.{ends_for}
use Rattle.ae_dist.specs.declared.rows.Row.{Row}
use Rattle.ae_dist.specs.Sending.{sent_file, versions_of}
use Rattle.ae_dist.specs.Steps.{AreReadFrom, file_key, row_key}
use Rattle.ae_dist.proofs.VersionsRead.{each_at, lost_among, read_next, sized_next}
use Rattle.ae_dist.proofs.sending.read_files.Goals as goal

pub push_file-requires-clause-inside : goal.push_file-requires-clause-inside
push_file-requires-clause-inside g c = each_at (λ (row : Row). IfSome row.version IsInside) c.args.rows.now c.loop-row.row-index c.row-item.result c.loop-row-test.true c.row-item.is c.requires.inside

pub loop-row-init : goal.loop-row-init
loop-row-init g c = record {
  files = λ tells. record { are = c.new-files.ensures; kept = tt };
  sized = ap (map file_key) c.new-files.ensures;
  same = λ tells. goes_on_refl IsSame (g.D.Disk.state c.args.disk.now) (λ image. refl);
  later = le_refl _;
}

pub returns-in-Err-clause-stopped : goal.returns-in-Err-clause-stopped
returns-in-Err-clause-stopped g c =
    ends_for c.in-Err.why c.in-Err.ensures.stopped (λ none. none) (λ refusal none. none)
    (λ name lost tells. lost_among c.args.rows.now c.loop-row.row-index c.row-item.result c.loop-row-test.true c.row-item.is (reads (g.D.Disk.state c.args.disk.now)) (reads (g.D.Disk.state c.loop-row.disk)) c.loop-row.files name
    (ap effective (same_reads (g.D.Disk.state c.args.disk.now) (g.D.Disk.state c.loop-row.disk) (c.loop-row.invariant.same tells))) (c.loop-row.invariant.files tells) (lost tells))
    (λ rose. risen_later _ _ _ c.loop-row.invariant.later rose) (λ none. none)

pub returns-in-Err-clause-same : goal.returns-in-Err-clause-same
returns-in-Err-clause-same g c = λ tells. same_on (g.D.Disk.state c.args.disk.now) (g.D.Disk.state c.loop-row.disk) (g.D.Disk.state c.push_file.new.disk) (c.loop-row.invariant.same tells) (c.push_file.ensures.same tells)

pub returns-in-Err-clause-later : goal.returns-in-Err-clause-later
returns-in-Err-clause-later g c = omega (arith, c.loop-row.invariant.later, c.push_file.ensures.later)

pub loop-row-preserved : goal.loop-row-preserved
loop-row-preserved g c =
    let pushed : g.D.Disk.tells → c.push_file.new.files ≡ c.loop-row.files ++ sent_file (effective (reads (g.D.Disk.state c.loop-row.disk))) c.row-item.result ∷ [] = search rules in
    let kept : g.D.Disk.tells → AreKept (effective (reads (g.D.Disk.state c.loop-row.disk))) (versions_of (c.row-item.result ∷ [])) = search rules in
    let sized : map file_key c.push_file.new.files ≡ map file_key c.loop-row.files ++ row_key c.row-item.result ∷ [] = search rules in
    record {
      files = λ tells.
          let same : effective (reads (g.D.Disk.state c.loop-row.disk)) ≡ effective (reads (g.D.Disk.state c.args.disk.now)) = ap effective (same_reads (g.D.Disk.state c.args.disk.now) (g.D.Disk.state c.loop-row.disk) (c.loop-row.invariant.same tells)) in
          read_next c.args.rows.now c.loop-row.row-index c.row-item.result c.loop-row-test.true c.row-item.is (effective (reads (g.D.Disk.state c.args.disk.now))) c.loop-row.files c.push_file.new.files (c.loop-row.invariant.files tells)
          (subst (λ (files : Option Image). c.push_file.new.files ≡ c.loop-row.files ++ sent_file files c.row-item.result ∷ []) same (pushed tells))
          (subst (λ (files : Option Image). AreKept files (versions_of (c.row-item.result ∷ []))) same (kept tells));
      sized = sized_next c.args.rows.now c.loop-row.row-index c.row-item.result c.loop-row-test.true c.row-item.is c.loop-row.files c.push_file.new.files c.loop-row.invariant.sized sized;
      same = λ tells. same_on (g.D.Disk.state c.args.disk.now) (g.D.Disk.state c.loop-row.disk) (g.D.Disk.state c.push_file.new.disk) (c.loop-row.invariant.same tells) (c.push_file.ensures.same tells);
      later = omega (arith, c.loop-row.invariant.later, c.push_file.ensures.later);
    }

pub returns-clause-files : goal.returns-clause-files
returns-clause-files g c = λ tells.
    let all : take c.loop-row.row-index c.args.rows.now ≡ c.args.rows.now = take_all c.loop-row.row-index c.args.rows.now (omega arith) in
    subst (λ (rows : List Row). AreReadFrom (effective (reads (g.D.Disk.state c.args.disk.now))) rows c.loop-row.files) all (c.loop-row.invariant.files tells)

pub returns-clause-sized : goal.returns-clause-sized
returns-clause-sized g c =
    let all : take c.loop-row.row-index c.args.rows.now ≡ c.args.rows.now = take_all c.loop-row.row-index c.args.rows.now (omega arith) in
    c.loop-row.invariant.sized ∙ ap (map row_key) all
