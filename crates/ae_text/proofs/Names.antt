-- A set of names keeps in step with the fields.
use Rattle.std.proofs.Common.{◌≡◌, ℕ, Bool, true, false, cond, ◌||◌, List, [], ◌∷◌, ◌++◌, refl, sym, ap, ◌∙◌}
use Rattle.std.specs.Str.{bytes_eq}
use Rattle.std.specs.Ordering.{nat_cmp, is_eq}
use Rattle.std.specs.Cmp.Lexicographic.{slice_cmp, texts_ties}
use Rattle.std.specs.BTreeSet.{BTreeSet, contains}
use Rattle.ae_text.specs.Tree.{Node}
use Rattle.ae_text.specs.Names.{AreNamesOf}
use Rattle.ae_text.specs.Pushdown.{has_name}

has_more : (k : List ℕ) (fs : List (List ℕ × Node)) (f : List ℕ × Node) → has_name k (fs ++ f ∷ []) ≡ (bytes_eq f.0 k || has_name k fs)
has_more k [] f = refl
has_more k (g ∷ fs) f = ap (λ (b : Bool). bytes_eq g.0 k || b) (has_more k fs f) ∙ swap (bytes_eq g.0 k) (bytes_eq f.0 k) where
  swap : (a b : Bool) → (a || (b || has_name k fs)) ≡ (b || (a || has_name k fs))
  swap true true = refl
  swap true false = refl
  swap false true = refl
  swap false false = refl

or_else : (a b : Bool) → cond a true b ≡ (a || b)
or_else true b = refl
or_else false b = refl

pub names_more : (old new : BTreeSet (List ℕ)) (fs gs : List (List ℕ × Node)) (key name : List ℕ) (v : Node) → AreNamesOf old fs → key ≡ name
    → ((q : List ℕ) → contains (slice_cmp nat_cmp) new q ≡ cond (is_eq (slice_cmp nat_cmp key q)) true (contains (slice_cmp nat_cmp) old q)) → gs ≡ fs ++ (name, v) ∷ [] → AreNamesOf new gs
names_more old new fs gs key name v names-are same updates gs-are k =
    let test : is_eq (slice_cmp nat_cmp key k) ≡ bytes_eq name k = ap (λ (xs : List ℕ). is_eq (slice_cmp nat_cmp xs k)) same ∙ sym (texts_ties name k) in
    updates k ∙ ap (λ (b : Bool). cond b true (contains (slice_cmp nat_cmp) old k)) test ∙ or_else (bytes_eq name k) (contains (slice_cmp nat_cmp) old k) ∙ ap (λ (b : Bool). bytes_eq name k || b) (names-are k) ∙ sym (has_more k fs (name, v)) ∙ ap (has_name k) (sym gs-are)
