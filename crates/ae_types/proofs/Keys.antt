-- The orders of paths, of numbers and of runs.
use Rattle.std.proofs.Common.{◌≡◌, ℕ, ◌<◌, refl, sym, ◌∙◌, ap, List, [], ◌∷◌, Option, Some, None, Bool, true, false, cond, nat_eq, eqb-true, arith, ◌&&◌}
use Rattle.std.specs.Ordering.{nat_cmp}
use Rattle.std.specs.Prelude.{nat_lt}
use Rattle.std.proofs.lemmas.Bool.{ltb-true, and_parts}
use Rattle.std.specs.declared.cmp.Ordering.TheVariants.{Less, Equal, Greater}
use Rattle.std.specs.Cmp.{nat_cmp_is}
use Rattle.std.specs.FinMap.{slice_cmp-IsAntisymmetric, nat_cmp-IsAntisymmetric}
use Rattle.std.specs.Cmp.Lexicographic.{same_text as same_bytes}
use Rattle.std.proofs.lemmas.Cmp.{nat_list_cmp_total, nat_cmp_total, nat_list_eq_equiv, nat_eq_equiv}
use Rattle.std.specs.Str.{bytes_eq}
use Rattle.ae_base.specs.Rows.{text_cmp}
use Rattle.std.specs.Cmp.Lexicographic.{on_texts}
use Rattle.std.specs.Option.{option_eq}
use Rattle.ae_base.specs.declared.words.Ground.{Ground}
use Rattle.ae_base.specs.declared.words.Ground.TheVariants as part
use Rattle.ae_base.specs.declared.words.Kind.{Kind}
use Rattle.ae_base.specs.declared.words.Kind.TheVariants as kind
use Rattle.ae_types.specs.Runs.{RunKey, run_cmp, run_place, during_place, kind_place, path_place, same_run, same_during, same_kind}
use Rattle.ae_types.proofs.Ordered.{Order}

abbrev pub by_text : Order (List ℕ)
by_text = record { cmp = text_cmp; total = nat_list_cmp_total; anti = slice_cmp-IsAntisymmetric nat_cmp-IsAntisymmetric; same = bytes_eq; same_is = λ j k e. same_bytes j k (sym e); same_self = nat_list_eq_equiv.refl }

abbrev pub by_number : Order ℕ
by_number = record { cmp = nat_cmp; total = nat_cmp_total; anti = nat_cmp-IsAntisymmetric; same = nat_eq; same_is = eqb-true; same_self = nat_eq_equiv.refl }

-- ---- what runs were of

same_during-is : (g h : Ground) → same_during g h ≡ true → g ≡ h
same_during-is part.Develop part.Develop e = refl
same_during-is part.Integrate part.Integrate e = refl
same_during-is part.Develop part.Integrate e = cc
same_during-is part.Integrate part.Develop e = cc

same_kind-is : (g h : Kind) → same_kind g h ≡ true → g ≡ h
same_kind-is kind.Build kind.Build e = refl
same_kind-is kind.Test kind.Test e = refl
same_kind-is kind.BaselineTest kind.BaselineTest e = refl
same_kind-is kind.RegressionTest kind.RegressionTest e = refl
same_kind-is kind.Build kind.Test e = cc
same_kind-is kind.Build kind.BaselineTest e = cc
same_kind-is kind.Build kind.RegressionTest e = cc
same_kind-is kind.Test kind.Build e = cc
same_kind-is kind.Test kind.BaselineTest e = cc
same_kind-is kind.Test kind.RegressionTest e = cc
same_kind-is kind.BaselineTest kind.Build e = cc
same_kind-is kind.BaselineTest kind.Test e = cc
same_kind-is kind.BaselineTest kind.RegressionTest e = cc
same_kind-is kind.RegressionTest kind.Build e = cc
same_kind-is kind.RegressionTest kind.Test e = cc
same_kind-is kind.RegressionTest kind.BaselineTest e = cc

same_during-self : (g : Ground) → same_during g g ≡ true
same_during-self part.Develop = refl
same_during-self part.Integrate = refl

same_kind-self : (k : Kind) → same_kind k k ≡ true
same_kind-self kind.Build = refl
same_kind-self kind.Test = refl
same_kind-self kind.BaselineTest = refl
same_kind-self kind.RegressionTest = refl

pub same_path-is : (p q : Option (List ℕ)) → option_eq bytes_eq p q ≡ true → p ≡ q
same_path-is None None e = refl
same_path-is (Some p) (Some q) e = ap (λ t. Some t) (same_bytes p q (sym e))
same_path-is None (Some q) e = cc
same_path-is (Some p) None e = cc

same_path-self : (p : Option (List ℕ)) → option_eq bytes_eq p p ≡ true
same_path-self None = refl
same_path-self (Some p) = nat_list_eq_equiv.refl p

pub same_run-is : (j k : RunKey) → same_run j k ≡ true → j ≡ k
same_run-is j k e =
    let first = and_parts _ _ e in
    let second = and_parts _ _ first.0 in
    let g = same_during-is j.during k.during second.0 in
    let n = same_kind-is j.kind k.kind second.1 in
    let p = same_path-is j.path k.path first.1 in
    λ i. record { during = g i; kind = n i; path = p i }

pub same_run-self : (k : RunKey) → same_run k k ≡ true
same_run-self k = ap (λ a. a && same_kind k.kind k.kind && option_eq bytes_eq k.path k.path) (same_during-self k.during) ∙ ap (λ a. a && option_eq bytes_eq k.path k.path) (same_kind-self k.kind) ∙ same_path-self k.path

-- keys of the same text are the same
head_of : List ℕ → ℕ
head_of [] = 0
head_of (x ∷ xs) = x

rest_of : List ℕ → List ℕ
rest_of [] = []
rest_of (x ∷ xs) = xs

during-placed : (g h : Ground) → during_place g ≡ during_place h → g ≡ h
during-placed part.Develop part.Develop e = refl
during-placed part.Integrate part.Integrate e = refl
during-placed part.Develop part.Integrate e = absurd (omega arith)
during-placed part.Integrate part.Develop e = absurd (omega arith)

kind_at : ℕ → Kind
kind_at n = cond (nat_eq n 0) kind.Build (cond (nat_eq n 1) kind.Test (cond (nat_eq n 2) kind.BaselineTest kind.RegressionTest))

kind-placed : (k : Kind) → kind_at (kind_place k) ≡ k
unfolding kind_at
kind-placed kind.Build = refl
kind-placed kind.Test = refl
kind-placed kind.BaselineTest = refl
kind-placed kind.RegressionTest = refl

path-texts : (p q : Option (List ℕ)) → path_place p ≡ path_place q → p ≡ q
path-texts None None e = refl
path-texts (Some p) (Some q) e = ap (λ t. Some t) (tails e)
  where
    tails : 1 ∷ p ≡ 1 ∷ q → p ≡ q
    tails e = cc
path-texts None (Some q) e = cc
path-texts (Some p) None e = cc

pub run-anti : (j k : RunKey) → run_cmp j k ≡ Equal → j ≡ k
unfolding head_of rest_of
run-anti j k e =
    let t : run_place j ≡ run_place k = slice_cmp-IsAntisymmetric nat_cmp-IsAntisymmetric (run_place j) (run_place k) e in
    let g = during-placed j.during k.during (ap head_of t) in
    let n : j.kind ≡ k.kind = sym (kind-placed j.kind) ∙ ap (λ ts. kind_at (head_of (rest_of ts))) t ∙ kind-placed k.kind in
    let p = path-texts j.path k.path (ap (λ ts. rest_of (rest_of ts)) t) in
    λ i. record { during = g i; kind = n i; path = p i }

abbrev pub by_run : Order RunKey
by_run = record { cmp = run_cmp; total = on_texts run_place; anti = run-anti; same = same_run; same_is = same_run-is; same_self = same_run-self }

-- a smaller number is below
pub less : (j k : ℕ) → j < k → nat_cmp j k ≡ Less
less j k h = sym (nat_cmp_is j k Less h)

-- what is below is a smaller number
pub less-is : (j k : ℕ) → nat_cmp j k ≡ Less → j < k
less-is j k h = go (nat_lt j k) refl
  where
    never : {P : Type 0} → (b : Bool) → cond b Equal Greater ≡ Less → P
    never true e = cc
    never false e = cc

    go : (b : Bool) → nat_lt j k ≡ b → j < k
    go true e = ltb-true j k e
    go false e = never (nat_eq j k) (sym (ap (λ c. cond c Less (cond (nat_eq j k) Equal Greater)) e) ∙ h)
