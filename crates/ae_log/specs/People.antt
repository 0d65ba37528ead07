-- The people of a change: each is who made the last event of one kind, where no event that takes it back is later.
use Rattle.std.specs.Prelude.{ℕ, List, Option}
use Rattle.ae_log.specs.declared.event.EventKind.{EventKind}
use Rattle.ae_log.specs.declared.event.EventKind.TheVariants as on
use Rattle.ae_log.specs.Log.{Course, Mark, makes, ends, leaves, standing, who_of}

abbrev pub developer_mark : EventKind → Mark
developer_mark on.Begin = makes
developer_mark on.BeginUndo = ends
developer_mark _ = leaves

abbrev pub reviewing_mark : EventKind → Mark
reviewing_mark on.ReviewBegin = makes
reviewing_mark on.ReviewBeginUndo = ends
reviewing_mark (on.End tree to places) = ends
reviewing_mark on.EndUndo = ends
reviewing_mark on.Fail = ends
reviewing_mark on.IFail = ends
reviewing_mark _ = leaves

abbrev pub reviewer_mark : EventKind → Mark
reviewer_mark on.Pass = makes
reviewer_mark on.PassUndo = ends
reviewer_mark (on.End tree to places) = ends
reviewer_mark on.EndUndo = ends
reviewer_mark on.Fail = ends
reviewer_mark on.IFail = ends
reviewer_mark _ = leaves

abbrev pub integrator_mark : EventKind → Mark
integrator_mark on.IBegin = makes
integrator_mark on.IBeginUndo = ends
integrator_mark on.IFail = ends
integrator_mark _ = leaves

-- who began its development
abbrev pub developer : Course → Option (List ℕ)
developer course = who_of (standing developer_mark course)

-- who began its review
abbrev pub reviewing : Course → Option (List ℕ)
reviewing course = who_of (standing reviewing_mark course)

-- who passed it
abbrev pub reviewer : Course → Option (List ℕ)
reviewer course = who_of (standing reviewer_mark course)

-- who began its integration
abbrev pub integrator : Course → Option (List ℕ)
integrator course = who_of (standing integrator_mark course)
