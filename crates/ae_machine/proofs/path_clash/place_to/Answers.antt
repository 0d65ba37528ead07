use Rattle.std.proofs.Common.{ℕ, sym, ap, ◌∙◌, eqb, rules}
use Rattle.std.proofs.lemmas.Bool.Decides.{Decides-eqb}
use Rattle.std.proofs.lemmas.Slice.Eq.{strip_prefix_is}
use Rattle.ae_machine.specs.PathClash.{place_to}
use Rattle.ae_machine.proofs.InFolder.{place-other, place-rest}
use Rattle.ae_machine.proofs.path_clash.place_to.Goals as goal

pub returns-in-Some : goal.returns-in-Some
returns-in-Some c =
    let stripped = strip_prefix_is {A = ℕ} {E = eqb} Decides-eqb c.args.path.now c.args.folder.now c.strip_prefix.result c.strip_prefix.ensures.cases in
    let is = rw c.in-Some.is at stripped in
    c.place_of_rest.ensures ∙ sym (ap (place_to c.args.folder.now) is ∙ place-rest c.args.folder.now c.in-Some.rest.now)

pub returns-in-None : goal.returns-in-None
returns-in-None c =
    let stripped = strip_prefix_is {A = ℕ} {E = eqb} Decides-eqb c.args.path.now c.args.folder.now c.strip_prefix.result c.strip_prefix.ensures.cases in
    let none = rw c.in-None.is at stripped in
    rw (place-other c.args.folder.now c.args.path.now none) (search rules)
