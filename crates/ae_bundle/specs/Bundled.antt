-- The text of a change set.
use Rattle.std.specs.Prelude.{◌≡◌, ◌+◌, ◌≤◌, ℕ, Bool, true, false, List, [], ◌∷◌, ◌++◌, length, codes}
use Rattle.std.specs.List.{flat_map, AllByRecursion}
use Rattle.std.specs.Fmt.{decimal}
use Rattle.std.specs.Str.{bytes_eq}
use Rattle.hex.specs.Hex.{encode_lower}
use Rattle.sha2.specs.Sha256.{sha256}
use Rattle.ae_base.specs.Limits.{most_attribute_bytes, most_change_files, most_file_bytes, most_frozen_bytes}
use Rattle.ae_base.specs.Names.{IsPath}
use Rattle.ae_base.specs.Rows.{text_cmp}
use Rattle.ae_base.specs.Words.{action_word, usage_word, cause_word}
use Rattle.ae_base.specs.declared.words.Action.{Action}
use Rattle.ae_base.specs.declared.words.Action.TheVariants as action
use Rattle.ae_base.specs.declared.words.Usage.{Usage}
use Rattle.ae_base.specs.declared.words.Usage.TheVariants as usage
use Rattle.ae_types.specs.Ordered.{Ascends}
use Rattle.ae_bundle.specs.declared.bundle.Bundle.{Bundle}
use Rattle.ae_bundle.specs.declared.bundle.BundleFile.{BundleFile}

-- ---- the text

-- the end of a line, and what stands between the words of one
abbrev pub line_end : ℕ
line_end = 10

abbrev pub blank : ℕ
blank = 32

-- a line: its text, and its end
abbrev pub line : List ℕ → List ℕ
line text = text ++ line_end ∷ []

-- a label, how many bytes follow, and on the next lines these bytes
abbrev pub counted : List ℕ → List ℕ → List ℕ
counted label bytes = label ++ (decimal (length bytes) ++ line_end ∷ (bytes ++ line_end ∷ []))

abbrev pub first_line : List ℕ
first_line = codes "aegis-change 1"

abbrev pub brief_label : List ℕ
brief_label = codes "brief "

abbrev pub description_label : List ℕ
description_label = codes "description "

abbrev pub cause_label : List ℕ
cause_label = codes "cause "

abbrev pub end_label : List ℕ
end_label = codes "end "

-- what is done to a file, what it is for, and its path, with a blank after each
abbrev pub file_label : Action → Usage → List ℕ → List ℕ
file_label action usage path =
    action_word action ++ blank ∷ (usage_word usage ++ blank ∷ (path ++ blank ∷ []))

abbrev pub file_part : BundleFile → List ℕ
file_part file = counted (file_label file.action file.usage file.path) file.bytes

-- the lines before the files
abbrev pub head_of : Bundle → List ℕ
head_of bundle =
    line first_line
    ++ counted brief_label bundle.brief
    ++ counted description_label bundle.description
    ++ line (cause_label ++ cause_word bundle.cause)

-- all that stands before the last line
abbrev pub front_of : Bundle → List ℕ
front_of bundle = head_of bundle ++ flat_map file_part bundle.files

-- the last line of a text with this front: the front's SHA-256 in hex digits
abbrev pub end_of : List ℕ → List ℕ
end_of front = end_label ++ encode_lower (sha256 front)

abbrev pub text_of : Bundle → List ℕ
text_of bundle = front_of bundle ++ line (end_of (front_of bundle))

-- ---- which change sets have a text

-- a removed file has no bytes
abbrev pub most_bytes_of : Action → ℕ
most_bytes_of action.Create = most_file_bytes
most_bytes_of action.Modify = most_file_bytes
most_bytes_of action.Remove = 0

abbrev pub is_config : Usage → Bool
is_config usage.Config = true
is_config _ = false

-- a file of so many bytes: `aegis.conf` has the usage of its own, and no other file has it
pub record FitsFile (action : Action) (usage : Usage) (path : List ℕ) (size : ℕ) : Type 0 where
  pub is_path : IsPath path
  pub config : is_config usage ≡ bytes_eq path (codes "aegis.conf")
  pub within : size ≤ most_bytes_of action

abbrev pub FileFits : BundleFile → Type 0
FileFits file = FitsFile file.action file.usage file.path (length file.bytes)

-- how many bytes the files have
abbrev pub bytes_of : List BundleFile → ℕ
bytes_of [] = 0
bytes_of (file ∷ files) = length file.bytes + bytes_of files

abbrev pub bundle_path : BundleFile → List ℕ
bundle_path file = file.path

-- within the limits, whether it has a file or not
pub record FitsSoFar (bundle : Bundle) : Type 0 where
  pub brief : length bundle.brief ≤ most_attribute_bytes
  pub description : length bundle.description ≤ most_attribute_bytes
  pub few : length bundle.files ≤ most_change_files
  pub ascend : Ascends text_cmp bundle_path bundle.files
  pub files : AllByRecursion FileFits bundle.files
  pub bytes : bytes_of bundle.files ≤ most_frozen_bytes

-- within the limits
pub record Fits (bundle : Bundle) : Type 0 where
  pub some : 1 ≤ length bundle.files
  pub limits : FitsSoFar bundle

-- ---- the grammar

-- these bytes are the text of this change set
abbrev pub Bundled : List ℕ → Bundle → Type 0
Bundled bytes bundle = Fits bundle × (bytes ≡ text_of bundle)

-- no text of a change set begins with these bytes
abbrev pub BeginsNone : List ℕ → Type 0
BeginsNone bytes = (more : List ℕ) (bundle : Bundle) → Bundled (bytes ++ more) bundle → ⊥

-- the most bytes of a text
abbrev pub most_text_bytes : ℕ
most_text_bytes = 68157440
