-- How a word spells a pattern. Letters of the word count alike in either case.
use Rattle.std.specs.Char.{is_ascii_lowercase, to_ascii_lowercase}
use Rattle.std.specs.Prelude.{◌≡◌, ◌≢◌, ℕ, List, [], ◌∷◌, Bool, true, false, ◌==◌, ◌&&◌, ◌||◌, if◌then◌else◌}
use Rattle.ae_base.specs.Bytes.{dash, underscore}

-- the pattern after the run of small letters at its front
abbrev pub behind_run : List ℕ → List ℕ
behind_run [] = []
behind_run (c ∷ cs) = if is_ascii_lowercase c then behind_run cs else c ∷ cs

-- the word spells the pattern
pub data Matches : List ℕ → List ℕ → Type 0 where
  nothing : Matches [] []
  -- a capital letter, or any other sign, is there
  there : {c b : ℕ} {pattern word : List ℕ} → is_ascii_lowercase c ≡ false → c ≢ underscore → to_ascii_lowercase b ≡ to_ascii_lowercase c → Matches pattern word → Matches (c ∷ pattern) (b ∷ word)
  -- a small letter is there
  letter : {c b : ℕ} {pattern word : List ℕ} → is_ascii_lowercase c ≡ true → to_ascii_lowercase b ≡ c → Matches pattern word → Matches (c ∷ pattern) (b ∷ word)
  -- it and the rest of its run are not
  cut : {c : ℕ} {pattern word : List ℕ} → is_ascii_lowercase c ≡ true → Matches (behind_run pattern) word → Matches (c ∷ pattern) word
  -- an underscore is there as `_` or `-`
  mark : {b : ℕ} {pattern word : List ℕ} → ((b == underscore) || (b == dash)) ≡ true → Matches pattern word → Matches (underscore ∷ pattern) (b ∷ word)
  -- or not at all
  no_mark : {pattern word : List ℕ} → Matches pattern word → Matches (underscore ∷ pattern) word

-- the first byte fits, and what is after it goes on
abbrev pub taken : (ℕ → Bool) → (List ℕ → Bool) → List ℕ → Bool
taken fits next [] = false
taken fits next (b ∷ bs) = fits b && next bs

-- nothing is left
abbrev pub is_empty : {A : Type 0} → List A → Bool
is_empty [] = true
is_empty (x ∷ xs) = false

-- the same as a test; after a cut the small letters of the run are passed over
unfoldable pub spells : Bool → List ℕ → List ℕ → Bool
spells is_cut [] word = is_empty word
spells is_cut (c ∷ cs) word =
    if is_ascii_lowercase c then (if is_cut then spells true cs word else (taken (λ b. to_ascii_lowercase b == c) (spells false cs) word || spells true cs word))
    else if c == underscore then (taken (λ b. (b == underscore) || (b == dash)) (spells false cs) word || spells false cs word)
    else taken (λ b. to_ascii_lowercase b == to_ascii_lowercase c) (spells false cs) word
