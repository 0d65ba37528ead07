-- The values of a view are of their types: a byte is a number below 256, a path is one, and the rows of a snapshot ascend.
use Rattle.std.specs.Prelude.{ℕ, List, IfSome, All}
use Rattle.ae_base.specs.Bytes.{AreBytes}
use Rattle.ae_base.specs.Names.{IsPath}
use Rattle.ae_base.specs.Rows.{Ascends, Row, Rows}
use Rattle.ae_outside.specs.declared.dir.Content.{Content}
use Rattle.ae_outside.specs.declared.dir.Content.TheVariants.{Bytes}
use Rattle.ae_evidence.specs.declared.runs.RunRow.{RunRow}
use Rattle.ae_evidence.specs.Made.{IsExit}
use Rattle.ae_machine.specs.declared.view.View.{View}

-- what was read of a file are bytes
abbrev pub IsContent : Content → Type 0
IsContent (Bytes bytes) = AreBytes bytes
IsContent _ = Unit {0}

abbrev pub IsReadFile : List ℕ × Content → Type 0
IsReadFile row = IsPath row.0 × IsContent row.1

-- a path, and the bytes of its file where there is one
abbrev pub IsTrackedFile : Row → Type 0
IsTrackedFile row = IsPath row.0 × IfSome row.1 AreBytes

-- files, each once and ascending by path
abbrev pub AreTrackedFiles : Rows → Type 0
AreTrackedFiles rows = Ascends rows × All IsTrackedFile rows

pub record IsRun (run : RunRow) : Type 0 where
  pub path : IfSome run.path IsPath
  pub exit : IsExit run.exit
  pub before : AreTrackedFiles run.before
  pub after : AreTrackedFiles run.after

pub record IsView (view : View) : Type 0 where
  pub attributes : IsContent view.attributes
  pub develop : All IsReadFile view.develop
  pub runs : All IsRun view.runs
