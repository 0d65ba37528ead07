-- A chain has the value that its links give, one after another.
use Rattle.std.proofs.Common.{◌≡◌, ℕ, List, [], ◌∷◌, refl}
use Rattle.std.specs.Prelude.{Result, Ok, Err}
use Rattle.ae_rlang.specs.Report.{Meant}
use Rattle.ae_rlang.specs.View.{MeantLink, by_side, by_not, by_time, linked, all_linked}
use Rattle.ae_report.specs.declared.value.Value.{Value}
use Rattle.ae_report.specs.Results.{and_then}
use Rattle.ae_report.specs.Values.{Known, value, with_link, with_links}

pub link-value : (e : Meant) (l : MeantLink) (known : Known) (v : Value) → value e known ≡ Ok v → value (linked e l) known ≡ with_link l known v
link-value e (by_side line operator right) known v is = rw is refl
link-value e (by_not line) known v is = rw is refl
link-value e (by_time line) known v is = rw is refl

link-stops : (e : Meant) (l : MeantLink) (known : Known) (line : ℕ) → value e known ≡ Err line → value (linked e l) known ≡ Err line
link-stops e (by_side at operator right) known line is = rw is refl
link-stops e (by_not at) known line is = rw is refl
link-stops e (by_time at) known line is = rw is refl

links-stop : (e : Meant) (ls : List MeantLink) (known : Known) (line : ℕ) → value e known ≡ Err line → value (all_linked e ls) known ≡ Err line
links-stop e [] known line is = is
links-stop e (l ∷ ls) known line is = links-stop (linked e l) ls known line (link-stops e l known line is)

-- where the value before the links is known
pub links-value : (e : Meant) (ls : List MeantLink) (known : Known) (v : Value) → value e known ≡ Ok v → value (all_linked e ls) known ≡ with_links ls known v
links-value e [] known v is = is
links-value e (l ∷ ls) known v is = go (with_link l known v) (link-value e l known v is) (links-value (linked e l) ls known)
  where
    go : (r : Result Value ℕ) → value (linked e l) known ≡ r → ((w : Value) → value (linked e l) known ≡ Ok w → value (all_linked (linked e l) ls) known ≡ with_links ls known w)
        → value (all_linked (linked e l) ls) known ≡ and_then r (with_links ls known)
    go (Ok w) found rest = rest w found
    go (Err line) found rest = links-stop (linked e l) ls known line found
