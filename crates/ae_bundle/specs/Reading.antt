-- A text that is read in pieces: what came of it, and what comes next.
use Rattle.std.specs.Prelude.{◌≡◌, ◌+◌, ◌≤◌, ◌<◌, ℕ, Bool, true, false, List, [], ◌∷◌, ◌++◌, length, Option, Some, None, Result, Ok, Err}
use Rattle.std.specs.Fmt.{decimal}
use Rattle.std.specs.declared.cmp.Ordering.TheVariants.{Less}
use Rattle.sha2.specs.Hashers.{Holds256}
use Rattle.sha2.specs.declared.Sha256.{Sha256}
use Rattle.ae_base.specs.Limits.{most_attribute_bytes, most_change_files, most_frozen_bytes}
use Rattle.ae_base.specs.Rows.{text_cmp}
use Rattle.ae_base.specs.Words.{action_word, usage_word}
use Rattle.ae_base.specs.declared.words.Action.{Action}
use Rattle.ae_base.specs.declared.words.Usage.{Usage}
use Rattle.ae_bundle.specs.declared.bundle.Bundle.{Bundle}
use Rattle.ae_bundle.specs.declared.bundle.BundleFile.{BundleFile}
use Rattle.ae_bundle.specs.declared.error.BundleError.{BundleError}
use Rattle.ae_bundle.specs.declared.fields.FileLine.{FileLine}
use Rattle.ae_bundle.specs.declared.reading.Next.{Next}
use Rattle.ae_bundle.specs.declared.reading.Next.TheVariants as comes
use Rattle.ae_bundle.specs.declared.reading.Reading.{Reading}
use Rattle.ae_bundle.specs.Bundled.{line_end, blank, line, first_line, brief_label, description_label, counted, file_label, front_of, text_of, FitsFile, FitsSoFar, bytes_of, most_bytes_of}

-- ---- the words of a line

-- the byte doesn't stand in the text
abbrev pub Without : ℕ → List ℕ → Type 0
Without byte [] = Unit {0}
Without byte (b ∷ bs) = (b ≡ byte → ⊥) × Without byte bs

-- cut at its first blank, the text has this before it and this after it
pub record IsCut (text first rest : List ℕ) : Type 0 where
  pub parts : text ≡ first ++ blank ∷ rest
  pub whole : Without blank first

-- the digits of a length, up to the most that it may be
pub record IsSize (most : ℕ) (digits : List ℕ) (size : ℕ) : Type 0 where
  pub within : size ≤ most
  pub written : digits ≡ decimal size

-- the line has these words, cut one after the other
pub record HasWords (text : List ℕ) (action : Action) (usage : Usage) (path : List ℕ) (size : ℕ) : Type 0 where
  pub after_action : List ℕ
  pub after_usage : List ℕ
  pub digits : List ℕ
  pub first : IsCut text (action_word action) after_action
  pub second : IsCut after_action (usage_word usage) after_usage
  pub third : IsCut after_usage path digits
  pub last : IsSize (most_bytes_of action) digits size

-- the line says how many bytes of a text follow
pub record Announces (label text : List ℕ) (size : ℕ) : Type 0 where
  pub written : text ≡ label ++ decimal size
  pub within : size ≤ most_attribute_bytes

-- the line before a file's bytes
abbrev pub line_of : FileLine → List ℕ
line_of file = file_label file.action file.usage file.path ++ decimal file.size

pub record IsFileLine (text : List ℕ) (file : FileLine) : Type 0 where
  pub written : text ≡ line_of file
  pub fits : FitsFile file.action file.usage file.path file.size

-- ---- what came

-- no line of a text is longer: an action, a usage, a path and a length, with blanks between
abbrev pub most_line_bytes : ℕ
most_line_bytes = 277

-- a label, how many bytes are to follow, and those of them that came
abbrev pub opened : List ℕ → ℕ → List ℕ → List ℕ
opened label size held = label ++ (decimal size ++ line_end ∷ held)

abbrev pub before_brief : List ℕ
before_brief = line first_line

abbrev pub before_description : Bundle → List ℕ
before_description draft = before_brief ++ counted brief_label draft.brief

abbrev pub before_cause : Bundle → List ℕ
before_cause draft = before_description draft ++ counted description_label draft.description

-- what came whole
abbrev pub before : Next → Bundle → List ℕ
before comes.Head draft = []
before comes.Brief draft = before_brief
before (comes.BriefBytes size) draft = before_brief
before comes.Description draft = before_description draft
before (comes.DescriptionBytes size) draft = before_description draft
before comes.Cause draft = before_cause draft
before comes.File draft = front_of draft
before (comes.FileBytes file) draft = front_of draft
before comes.End draft = text_of draft

-- what came of what isn't whole: of a line, or of the bytes that a line announced
abbrev pub begun : Next → List ℕ → List ℕ
begun comes.Head held = held
begun comes.Brief held = held
begun (comes.BriefBytes size) held = opened brief_label size held
begun comes.Description held = held
begun (comes.DescriptionBytes size) held = opened description_label size held
begun comes.Cause held = held
begun comes.File held = held
begun (comes.FileBytes file) held = opened (file_label file.action file.usage file.path) file.size held
begun comes.End held = []

-- how many bytes a line announced, where they come
abbrev pub size_of : Next → Option ℕ
size_of (comes.BriefBytes size) = Some size
size_of (comes.DescriptionBytes size) = Some size
size_of (comes.FileBytes file) = Some file.size
size_of _ = None

-- a line comes
abbrev pub awaits_line : Next → Bool
awaits_line comes.Head = true
awaits_line comes.Brief = true
awaits_line comes.Description = true
awaits_line comes.Cause = true
awaits_line comes.File = true
awaits_line _ = false

-- all came
abbrev pub at_end : Next → Bool
at_end comes.End = true
at_end _ = false

-- all that came
abbrev pub fed : Reading → List ℕ
fed reading = before reading.next reading.draft ++ begun reading.next reading.held.items

-- ---- what is kept of it

-- the path comes after those of the files
abbrev pub IsAfter : List ℕ → List BundleFile → Type 0
IsAfter path [] = Unit {0}
IsAfter path (file ∷ files) = (text_cmp file.path path ≡ Less) × IsAfter path files

-- there is room for the file, and it comes after the others
pub record MayFollow (draft : Bundle) (file : FileLine) : Type 0 where
  pub room : length draft.files < most_change_files
  pub after : IsAfter file.path draft.files
  pub bytes : bytes_of draft.files + file.size ≤ most_frozen_bytes

-- the file may come next
pub record MayCome (draft : Bundle) (file : FileLine) : Type 0 where
  pub fits : FitsFile file.action file.usage file.path file.size
  pub follows : MayFollow draft file

-- a line that isn't at its end
pub record IsLine (held : List ℕ) : Type 0 where
  pub short : length held ≤ most_line_bytes
  pub whole : Without line_end held

-- a line, and no file so far
pub record IsEarlyLine (draft : Bundle) (held : List ℕ) : Type 0 where
  pub line : IsLine held
  pub none : draft.files ≡ []

-- bytes of a text, and no file so far
pub record IsEarlyText (draft : Bundle) (size : ℕ) (held : List ℕ) : Type 0 where
  pub begun : length held ≤ size
  pub within : size ≤ most_attribute_bytes
  pub none : draft.files ≡ []

pub record IsFile (draft : Bundle) (file : FileLine) (held : List ℕ) : Type 0 where
  pub begun : length held ≤ file.size
  pub may : MayCome draft file

abbrev pub IsBegun : Next → Bundle → List ℕ → Type 0
IsBegun comes.Head draft held = IsEarlyLine draft held
IsBegun comes.Brief draft held = IsEarlyLine draft held
IsBegun (comes.BriefBytes size) draft held = IsEarlyText draft size held
IsBegun comes.Description draft held = IsEarlyLine draft held
IsBegun (comes.DescriptionBytes size) draft held = IsEarlyText draft size held
IsBegun comes.Cause draft held = IsEarlyLine draft held
IsBegun comes.File draft held = IsLine held
IsBegun (comes.FileBytes file) draft held = IsFile draft file held
IsBegun comes.End draft held = 1 ≤ length draft.files

-- what the digest has taken in: all but a line that isn't whole. After the last line it isn't needed.
abbrev pub Digests : Next → Bundle → List ℕ → Sha256 → Type 0
Digests comes.Head draft held hasher = Holds256 hasher []
Digests comes.Brief draft held hasher = Holds256 hasher before_brief
Digests (comes.BriefBytes size) draft held hasher = Holds256 hasher (before_brief ++ opened brief_label size held)
Digests comes.Description draft held hasher = Holds256 hasher (before_description draft)
Digests (comes.DescriptionBytes size) draft held hasher = Holds256 hasher (before_description draft ++ opened description_label size held)
Digests comes.Cause draft held hasher = Holds256 hasher (before_cause draft)
Digests comes.File draft held hasher = Holds256 hasher (front_of draft)
Digests (comes.FileBytes file) draft held hasher = Holds256 hasher (front_of draft ++ opened (file_label file.action file.usage file.path) file.size held)
Digests comes.End draft held hasher = Unit {0}

-- a reading that may go on
pub record IsGood (reading : Reading) : Type 0 where
  pub limits : FitsSoFar reading.draft
  pub sum : reading.sum ≡ bytes_of reading.draft.files
  pub begun : IsBegun reading.next reading.draft reading.held.items
  pub digest : Digests reading.next reading.draft reading.held.items reading.hasher

-- ---- what a step does

-- the file of a line and its bytes
abbrev pub file_of : FileLine → List ℕ → BundleFile
file_of file bytes = record { path = file.path; action = file.action; usage = file.usage; bytes = bytes }

-- the line that is held was digested with its end, and is held no more
pub record Passes (old new : Reading) : Type 0 where
  pub digest : (front : List ℕ) → Holds256 old.hasher front → Holds256 new.hasher (front ++ line old.held.items)
  pub held : new.held.items ≡ []
  pub next : new.next ≡ old.next
  pub draft : new.draft ≡ old.draft
  pub sum : new.sum ≡ old.sum

-- it takes these bytes in
pub record Takes (old new : Reading) (bytes : List ℕ) : Type 0 where
  pub good : IsGood new
  pub fed : fed new ≡ fed old ++ bytes

-- it takes the first bytes of the piece in, and leaves the rest
pub record TakesFront (old new : Reading) (piece rest : List ℕ) : Type 0 where
  pub good : IsGood new
  pub fed : fed new ++ rest ≡ fed old ++ piece
  pub less : length rest < length piece

-- ---- what is seen of a reader: what came, or the error that it has answered
abbrev pub seen : Result Reading BundleError → Result (List ℕ) BundleError
seen (Ok reading) = Ok (fed reading)
seen (Err error) = Err error
