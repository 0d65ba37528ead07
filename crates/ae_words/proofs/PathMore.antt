-- A path more, and the path of the file with attributes.
use Rattle.std.proofs.Common.{◌≡◌, ◌<◌, ◌≤◌, ℕ, Bool, Option, is_some, refl, true, false, cond, not, ◌&&◌, nat_le, List, [], ◌∷◌, ◌++◌, Some, None, sym, ap, ◌∙◌, length, arith}
use Rattle.std.proofs.lemmas.Bool.Decides.{nat_tests}
use Rattle.ae_base.specs.Names.{is_path}
use Rattle.ae_base.specs.Bytes.{read_as}
use Rattle.ae_words.specs.Meaning.{with_path, with_value, most}
use Rattle.ae_words.specs.declared.command.Command.{Command}
use Rattle.ae_words.specs.declared.table.Setting.TheVariants as setting

not_full : (n : ℕ) → n < most → nat_le most n ≡ false
not_full n h = grind (arith, nat_tests)

pub with_path-read : (c : Command) (w p : List ℕ) (ps : List (List ℕ)) → length c.paths < most → Some p ≡ read_as is_path w → ps ≡ c.paths ++ p ∷ []
    → Some (record c { paths = ps }) ≡ with_path c w
with_path-read c w p ps room read more = one (nat_le most (length c.paths)) (is_path w) (not_full (length c.paths) room) (sym read)
  where
    one : (full is : Bool) → full ≡ false → cond is (Some w) None ≡ Some p → Some (record c { paths = ps }) ≡ cond (not full && is) (Some (record c { paths = c.paths ++ w ∷ [] })) None
    one true is r e = absurd cc
    one false true r e = let same : w ≡ p = cc in ap (λ (x : List (List ℕ)). Some (record c { paths = x })) (more ∙ ap (λ (x : List ℕ). c.paths ++ x ∷ []) (sym same))
    one false false r e = absurd cc

pub with_path-full : (c : Command) (w : List ℕ) → most ≤ length c.paths → None ≡ with_path c w
with_path-full c w many =
    let full : nat_le most (length c.paths) ≡ true = grind (arith, nat_tests) in
    ap (λ (full : Bool). cond (not full && is_path w) (Some (record c { paths = c.paths ++ w ∷ [] })) None) (sym full)

pub with_path-none : (c : Command) (w : List ℕ) → None ≡ read_as is_path w → None ≡ with_path c w
with_path-none c w read = one (nat_le most (length c.paths)) (is_path w) read
  where
    one : (full is : Bool) → None ≡ cond is (Some w) None → None ≡ cond (not full && is) (Some (record c { paths = c.paths ++ w ∷ [] })) None
    one true is r = refl
    one false true r = absurd cc
    one false false r = refl

pub with_attributes-read : (c : Command) (w : List ℕ) (o : Option (List ℕ)) → o ≡ read_as is_path w → cond (is_some o) (Some (record c { attributes = o })) None ≡ with_value setting.File c w
with_attributes-read c w o read = one (is_path w) read
  where
    one : (is : Bool) → o ≡ cond is (Some w) None → cond (is_some o) (Some (record c { attributes = o })) None ≡ cond is (Some (record c { attributes = Some w })) None
    one true e = rw e refl
    one false e = rw e refl
