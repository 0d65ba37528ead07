-- The commands that the examples' aegis.conf gives.
use Rattle.std.proofs.Common.{◌≡◌, ◌≢◌, ℕ, refl, ◌∙◌, ap, arith, List, [], ◌∷◌, map, Some, Ok}
use Rattle.std.specs.Prelude.{codes}
use Rattle.std.specs.Str.{bytes_eq}
use Rattle.std.proofs.lemmas.Bool.{false≢true}
use Rattle.ae_base.specs.declared.words.Kind.{Kind}
use Rattle.ae_base.specs.declared.words.Kind.TheVariants as kind
use Rattle.ae_text.specs.Canonical.{piece, text}
use Rattle.ae_text.specs.Grammar.{Reads, ReadsFields, IsSentence, line_of}
use Rattle.ae_text.specs.Token.{Placed}
use Rattle.ae_text.specs.Tree.{str, fields, Members, no_members, member}
use Rattle.ae_text.specs.WellFormed.{IsWellFormed}
use Rattle.ae_text.proofs.Again.{text_again}
use Rattle.ae_conf.specs.Config.{config, commands_in, build_name, test_name}
use Rattle.ae_conf.specs.declared.expansion.Values.{Values}
use Rattle.ae_conf.specs.Fields.{fields_in}
use Rattle.ae_conf.proofs.Configs.{config_text}
use Rattle.ae_machine.specs.Runs.{command_by, command_by_config}
use Rattle.ae_laws.specs.Examples.{config_bytes, command_of}

abbrev said : Members
said = member build_name (str (codes "b")) (member test_name (str (codes "t")) no_members)

names-differ : build_name ≢ test_name
names-differ e = absurd (false≢true (ap (λ name. bytes_eq name test_name) e))

well-formed : IsWellFormed (fields said)
well-formed = ((cc, tt, (cc, tt, tt)), ((names-differ, tt), tt, (tt, tt, tt)), (tt, (tt, tt)))

is-text : config_bytes ≡ text (fields said)
unfolding piece
is-text = refl

reads : (lines : List ℕ) × Reads config_bytes (fields said) lines
reads = text_again (fields said) config_bytes well-formed ((omega arith, tt), ((omega arith, tt), tt)) is-text

two-places : (ps : List Placed) (places : List ℕ) → IsSentence ps said places → (one : ℕ) × (other : ℕ) × (places ≡ one ∷ other ∷ [])
two-places ps [] h = absurd h
two-places ps (one ∷ []) h = absurd h.11
two-places ps (one ∷ other ∷ []) h = (one, other, refl)
two-places ps (one ∷ other ∷ more ∷ places) h = let rest = h.11 in absurd rest.11

two-lines : (lines : List ℕ) → ReadsFields config_bytes said lines → (one : ℕ) × (other : ℕ) × (lines ≡ one ∷ other ∷ [])
two-lines lines r =
    let places = two-places r.all r.places r.sentence in
    (line_of config_bytes places.0, line_of config_bytes places.1, r.lines_are ∙ ap (map (line_of config_bytes)) places.2)

config-is : (one : ℕ) × (other : ℕ) × (config config_bytes ≡ Ok (commands_in (fields_in (fields said)) (one ∷ other ∷ [])))
config-is =
    let lines = two-lines reads.0 reads.1 in
    (lines.0, lines.1, config_text config_bytes (fields said) reads.0 reads.1 ∙ ap (λ lines. Ok (commands_in (fields_in (fields said)) lines)) lines.2)

by-kind : (values : Values) (k : Kind) (one other : ℕ) → command_by_config values k (Ok (commands_in (fields_in (fields said)) (one ∷ other ∷ []))) ≡ Ok (command_of k)
by-kind values kind.Build one other = refl
by-kind values kind.Test one other = refl
by-kind values kind.BaselineTest one other = refl
by-kind values kind.RegressionTest one other = refl

-- whatever it may put in
pub gives : (values : Values) (k : Kind) → command_by values k (Some config_bytes) ≡ Ok (command_of k)
gives values k = ap (command_by_config values k) config-is.2 ∙ by-kind values k config-is.0 config-is.1
