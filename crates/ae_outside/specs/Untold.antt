-- The states that stand for a disk and a site that tell nothing.
use Rattle.std.specs.Prelude.{◌≡◌, ℕ, Bool, true, false, if◌then◌else◌, List, [], refl}
use Rattle.std.proofs.Common.{ap, ◌∙◌}
use Rattle.std.specs.Str.{bytes_eq}
use Rattle.ae_outside.specs.Image.{Image, cut_to}
use Rattle.ae_outside.specs.State.{DiskState}
use Rattle.ae_outside.specs.Trees.{no_files}
use Rattle.ae_outside.specs.Site.{SiteState}

pub cut_nothing : (name : List ℕ) (image : Image) → image ≡ (λ n. []) → cut_to (λ n. []) name image ≡ (λ n. [])
cut_nothing name image is = ap (cut_to (λ n. []) name) is ∙ (λ i n. at (bytes_eq name n) i)
  where
    at : (b : Bool) → ◌≡◌ {A = List ℕ} (if b then [] else []) []
    at true = refl
    at false = refl

-- nothing is read, and nothing is left
abbrev pub untold_disk : DiskState
untold_disk = record { moment = 0; reads_at = λ u name. []; image_at = λ u image. image ≡ (λ name. []); reads_is_image = λ u le. refl; cut_is_image = λ u name image le is. cut_nothing name image is }

-- no files, and no runs
abbrev pub untold_site : SiteState
untold_site = record { trees = λ dir. no_files; runs = [] }
