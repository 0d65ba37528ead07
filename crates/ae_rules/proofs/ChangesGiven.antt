-- What is known of each change of a list.
use Rattle.std.proofs.Common.{◌≡◌, ℕ, ◌<◌, sym, subst, List, get_or}
use Rattle.std.specs.Prelude.{length}
use Rattle.ae_types.specs.declared.change.Change.{Change}
use Rattle.ae_types.specs.Found.{number_of_change}
use Rattle.ae_types.specs.Sound.{IsGoodChange, AreChanges}
use Rattle.ae_types.proofs.BinarySearch.{place-in}
use Rattle.ae_types.proofs.Keys.{by_number}
use Rattle.ae_types.proofs.Members.{In}
use Rattle.ae_types.proofs.Searched.{in-found}

pub good-at : (numbers : List ℕ) (changes : List Change) (i : ℕ) (change : Change) → AreChanges numbers changes → i < length changes → change ≡ get_or changes i change → IsGoodChange change
good-at ns xs i x a h is = a.good x.number x (in-found by_number number_of_change xs a.ascend x (subst (In xs) (sym is) (place-in xs i x h)))
