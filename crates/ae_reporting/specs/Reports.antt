-- What a report says of what stands, or why it says nothing.
use Rattle.std.specs.Prelude.{◌≡◌, ℕ, Bool, true, false, List, Option, Some, None, Result, Ok, Err}
use Rattle.std.specs.Str.{bytes_eq}
use Rattle.ae_base.specs.Limits.{most_attribute_bytes}
use Rattle.ae_base.specs.declared.refusal.Refusal.{Refusal}
use Rattle.ae_base.specs.declared.refusal.Refusal.TheVariants.{NoProject, WrongProject, NoAttributes, Limit, BadReport, ReportNumber}
use Rattle.ae_base.specs.declared.words.Which.TheVariants.{AttributeBytes}
use Rattle.ae_outside.specs.declared.dir.Content.{Content}
use Rattle.ae_outside.specs.declared.dir.Content.TheVariants.{Absent, Bytes, TooLong}
use Rattle.ae_types.specs.Found.{if_there}
use Rattle.ae_types.specs.Observation.{Observation}
use Rattle.ae_rlang.specs.Report.{Deeds}
use Rattle.ae_rlang.specs.Reads.{IsReport, IsRefused}
use Rattle.ae_report.specs.Out.{out}

-- what is asked for: of which project, where one is named, and the path of the report
pub record Asked : Type 0 where
  pub project : Option (List ℕ)
  pub path : List ℕ

-- the lines of a report, or why there are none
abbrev pub Answer : Type 0
Answer = Result (List ℕ) Refusal

-- whether this is the project that is asked for
abbrev pub is_asked : Asked → Observation → Bool
is_asked asked o = if_there asked.project (bytes_eq o.project.name)

-- What bytes print of what stands.
pub data Prints (o : Observation) (bytes : List ℕ) : Answer → Type 0 where
  -- they are a report, and these are its lines
  printed : (report : Deeds) (lines : List ℕ) → IsReport bytes report → out report o ≡ Ok lines → Prints o bytes (Ok lines)
  -- they are a report, and the first number that leaves its range does so in this line
  out_of_range : (report : Deeds) (line : ℕ) → IsReport bytes report → out report o ≡ Err line → Prints o bytes (Err (ReportNumber line))
  -- they are no report, and are refused with this line
  bad : (line : ℕ) → IsRefused bytes line → Prints o bytes (Err (BadReport line))

-- the project that is asked for stands
pub record IsThere (stands : Option Observation) (asked : Asked) (o : Observation) : Type 0 where
  pub stands_so : stands ≡ Some o
  pub is_asked_for : is_asked asked o ≡ true

-- Why a file of this path with this content has no bytes to read.
pub data IsFileRefused (path : List ℕ) (content : Content) : Refusal → Type 0 where
  no_file : content ≡ Absent → IsFileRefused path content (NoAttributes path)
  -- it has more than 65,536 bytes
  too_long : content ≡ TooLong → IsFileRefused path content (Limit AttributeBytes most_attribute_bytes)

-- What is answered where this stands, or nothing, and the file of the report has this content.
pub data Reports (stands : Option Observation) (asked : Asked) (content : Content) : Answer → Type 0 where
  no_project : stands ≡ None → Reports stands asked content (Err NoProject)
  other_project : (o : Observation) → stands ≡ Some o → is_asked asked o ≡ false → Reports stands asked content (Err WrongProject)
  of_no_bytes : (o : Observation) (refusal : Refusal) → IsThere stands asked o → IsFileRefused asked.path content refusal → Reports stands asked content (Err refusal)
  of_bytes : (o : Observation) (bytes : List ℕ) (answer : Answer) → IsThere stands asked o → content ≡ Bytes bytes → Prints o bytes answer → Reports stands asked content answer
