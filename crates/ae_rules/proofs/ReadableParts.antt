-- Where each part by itself keeps its rules, keys find what they are to find.
use Rattle.std.proofs.Common.{◌≡◌, None, true, ◌&&◌}
use Rattle.std.specs.Prelude.{length}
use Rattle.std.specs.Ordering.{nat_cmp}
use Rattle.std.proofs.lemmas.Bool.{and_parts}
use Rattle.ae_types.specs.Observation.{Observation}
use Rattle.ae_types.specs.Ordered.{Ascends, ascends, itself}
use Rattle.ae_types.specs.Found.{number_of_change}
use Rattle.ae_types.specs.Rules.{project_is_good, files_are_good, bad_change}
use Rattle.ae_types.proofs.RulesAlone.{deltas-ascend, project-facts, rows-facts, locks-rise, changes-facts}
use Rattle.ae_types.proofs.RulesAre.{none-bad}
use Rattle.ae_rules.specs.Blamed.{IsReadable}

pub numbers-rise : (o : Observation) → (project_is_good o.project o.numbers && ascends nat_cmp number_of_change o.changes) ≡ true → Ascends nat_cmp itself o.numbers
numbers-rise o e = (project-facts o.project o.numbers (and_parts (project_is_good o.project o.numbers) (ascends nat_cmp number_of_change o.changes) e).0).numbers_ascend

pub readable : (o : Observation) → (project_is_good o.project o.numbers && ascends nat_cmp number_of_change o.changes) ≡ true → files_are_good (length o.project.deltas) o.files o.locks ≡ true → bad_change o.numbers o.changes ≡ None → IsReadable o
readable o e f g =
    let p = and_parts (project_is_good o.project o.numbers) (ascends nat_cmp number_of_change o.changes) e in
    let project = project-facts o.project o.numbers p.0 in
    record {
      numbers = project.numbers_ascend;
      deltas = deltas-ascend o.project.deltas project.numbered;
      rows = rows-facts (length o.project.deltas) o.files o.locks f;
      locks = locks-rise (length o.project.deltas) o.files o.locks f;
      changes = changes-facts o.numbers o.changes p.1 (none-bad o.numbers o.changes g);
    }
