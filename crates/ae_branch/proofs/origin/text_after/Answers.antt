use Rattle.std.proofs.Common.{◌≡◌, ℕ, List, ◌++◌, eqb, Bor}
use Rattle.std.proofs.lemmas.Bool.Decides.{Decides-eqb}
use Rattle.std.proofs.lemmas.Slice.Eq.{strip_prefix_is}
use Rattle.ae_bundle.proofs.Turns.{match_none, match_some}
use Rattle.ae_branch.proofs.origin.text_after.Goals as goal

pub returns-clause-some : goal.returns-clause-some
returns-clause-some c = match_some ((rest : List ℕ) → c.args.text.now ≡ c.args.front.now ++ rest → ⊥) (λ (x : Bor (List ℕ)). c.args.text.now ≡ c.args.front.now ++ x.now) c.strip_prefix.result
    (strip_prefix_is {A = ℕ} {E = eqb} Decides-eqb c.args.text.now c.args.front.now c.strip_prefix.result c.strip_prefix.ensures.cases)

pub returns-clause-none : goal.returns-clause-none
returns-clause-none c = match_none ((rest : List ℕ) → c.args.text.now ≡ c.args.front.now ++ rest → ⊥) (λ (x : Bor (List ℕ)). c.args.text.now ≡ c.args.front.now ++ x.now) c.strip_prefix.result
    (strip_prefix_is {A = ℕ} {E = eqb} Decides-eqb c.args.text.now c.args.front.now c.strip_prefix.result c.strip_prefix.ensures.cases)
