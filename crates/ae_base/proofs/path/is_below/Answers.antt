use Rattle.std.proofs.Common.{ℕ, eqb, ◌∷◌}
use Rattle.std.proofs.lemmas.Bool.Decides.{Decides-eqb}
use Rattle.std.proofs.lemmas.Slice.Eq.{strip_prefix_is}
use Rattle.ae_base.proofs.PathParts.{below_rest}
use Rattle.ae_base.proofs.path.is_below.Goals as goal

pub returns-in-Some : goal.returns-in-Some
returns-in-Some c =
    let stripped = strip_prefix_is {A = ℕ} {E = eqb} Decides-eqb c.args.path.now c.args.folder.now c.strip_prefix.result c.strip_prefix.ensures.cases in
    let is = rw c.in-Some.is at stripped in
    below_rest c.args.path.now c.args.folder.now c.in-Some.rest.now c.begins_with_slash.result is c.begins_with_slash.ensures

pub returns-in-None : goal.returns-in-None
returns-in-None c =
    let stripped = strip_prefix_is {A = ℕ} {E = eqb} Decides-eqb c.args.path.now c.args.folder.now c.strip_prefix.result c.strip_prefix.ensures.cases in
    let none = rw c.in-None.is at stripped in
    (λ yes. absurd (cc yes), λ below. absurd (none (47 ∷ below.0) below.1))
