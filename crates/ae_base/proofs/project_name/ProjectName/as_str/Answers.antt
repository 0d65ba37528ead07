use Rattle.ae_base.proofs.Ascii.{utf8_project_name}
use Rattle.ae_base.proofs.project_name.ProjectName.as_str.Goals as goal

pub unreachable-requires : goal.unreachable-requires
unreachable-requires c = c.in-Err.ensures.cases.0 (rw c.bytes.ensures.value (utf8_project_name c.args.self.now c.bytes.ensures.name))
