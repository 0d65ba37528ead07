-- Texts that pass a test.
use Rattle.std.proofs.Common.{◌≡◌, ℕ, List, Bool, true, false, Option, Some, None, Result, Ok, Err, IsTrue, refl, sym, ap, ◌∙◌}
use Rattle.std.specs.Prelude.{IfOk, IfSome}
use Rattle.ae_text.specs.Tree.{Node, str}
use Rattle.ae_base.specs.Bytes.{read_as}

-- a text that is read passes the test
pub read_passes : (test : List ℕ → Bool) (text x : List ℕ) → Some x ≡ read_as test text → IsTrue (test x) × (x ≡ text)
read_passes test text x e = by (test text) refl
  where
    by : (b : Bool) → test text ≡ b → IsTrue (test x) × (x ≡ text)
    by true pass = let told : Some x ≡ Some text = rw pass at e in let is : x ≡ text = cc told in (rw is pass, is)
    by false no_text = let told : Some x ≡ None = rw no_text at e in absurd (cc told)

-- what is read of a string is spelled as it
pub read_text : {E : Type 0} (test : List ℕ → Bool) (n : Node) (bytes : List ℕ) → n ≡ str bytes → (read : Result (Option (List ℕ)) E)
    → IfOk read (λ x. x ≡ read_as test bytes) → IfOk read (λ o. IfSome o (λ x. IsTrue (test x) × (str x ≡ n)))
read_text test n bytes same (Ok (Some x)) h = let passes = read_passes test bytes x h in (passes.0, ap str passes.1 ∙ sym same)
read_text test n bytes same (Ok None) h = tt
read_text test n bytes same (Err e) h = tt
