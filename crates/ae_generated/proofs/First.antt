-- The lines that have no numbers in them.
use Rattle.std.specs.Prelude.{◌≡◌, ◌≤◌, ◌==◌, ℕ, Bool, true, false, List, [], ◌∷◌, length, codes, Some, if◌then◌else◌}
use Rattle.std.proofs.Common.{refl, arith}
use Rattle.ae_generator.specs.Lines.{first_lines, config_lines}
use Rattle.ae_lines.specs.declared.line.Line.TheVariants.{As, At, Put}
use Rattle.ae_outside.specs.declared.dir.Dir.TheVariants.{Here, Develop}
use Rattle.ae_words.specs.Grammar.{reads}
use Rattle.ae_words.specs.Items.{word}
use Rattle.ae_words.specs.Meaning.{blank, step, is_whole}
use Rattle.ae_words.specs.Spelling.{spells}
use Rattle.ae_words.specs.declared.command.Command.{Command}
use Rattle.ae_words.specs.declared.table.Function.TheVariants as function
use Rattle.ae_words.proofs.FirstBad.{answer_command}
use Rattle.ae_generated.proofs.Commands.{bare, on_paths}
use Rattle.ae_generated.proofs.Lines.{do_made}
use Rattle.ae_generated.proofs.Made.{IsMade, AreMade, no_lines, one_more}

as_gen : IsMade (codes "as gen\n")
as_gen = record { content = codes "as gen"; ended = refl; plain = refl; short = omega arith; line_says = As (codes "gen"); means = refl; no_test = λ (command : Command) same test. absurd cc }

at_moment : IsMade (codes "at 1000000000\n")
at_moment = record { content = codes "at 1000000000"; ended = refl; plain = refl; short = omega arith; line_says = At 1000000000; means = refl; no_test = λ (command : Command) same test. absurd cc }

new_project : IsMade (codes "do -npr gen\n")
unfolding reads step blank word spells is_whole
new_project =
    let behind : List (List ℕ) = codes "gen" ∷ [] in
    let c : Command = record (bare function.NewProject) { name = Some (codes "gen") } in
    do_made (codes "do -npr gen\n") (codes "-npr" ∷ behind) c refl refl (omega arith) (answer_command function.NewProject (codes "-npr") behind refl c refl refl) refl (λ same. cc)

put_attributes : IsMade (codes "put here p.attr \"developer_may_review = true; developer_may_integrate = true; reviewer_may_integrate = true; default_test_exemption = true;\"\n")
put_attributes = record {
  content = codes "put here p.attr \"developer_may_review = true; developer_may_integrate = true; reviewer_may_integrate = true; default_test_exemption = true;\"";
  ended = refl;
  plain = refl;
  short = omega arith;
  line_says = Put Here (codes "p.attr") (codes "developer_may_review = true; developer_may_integrate = true; reviewer_may_integrate = true; default_test_exemption = true;");
  means = refl;
  no_test = λ (command : Command) same test. absurd cc;
}

attributes : IsMade (codes "do -pa -f p.attr\n")
unfolding reads step blank word spells is_whole
attributes =
    let behind : List (List ℕ) = codes "-f" ∷ codes "p.attr" ∷ [] in
    let c : Command = record (bare function.ProjectAttributes) { attributes = Some (codes "p.attr") } in
    do_made (codes "do -pa -f p.attr\n") (codes "-pa" ∷ behind) c refl refl (omega arith) (answer_command function.ProjectAttributes (codes "-pa") behind refl c refl refl) refl (λ same. cc)

developer : IsMade (codes "do -nd gen\n")
unfolding reads step blank word spells is_whole
developer =
    let behind : List (List ℕ) = codes "gen" ∷ [] in
    let c : Command = record (bare function.NewDeveloper) { users = codes "gen" ∷ [] } in
    do_made (codes "do -nd gen\n") (codes "-nd" ∷ behind) c refl refl (omega arith) (answer_command function.NewDeveloper (codes "-nd") behind refl c refl refl) refl (λ same. cc)

reviewer : IsMade (codes "do -nrv gen\n")
unfolding reads step blank word spells is_whole
reviewer =
    let behind : List (List ℕ) = codes "gen" ∷ [] in
    let c : Command = record (bare function.NewReviewer) { users = codes "gen" ∷ [] } in
    do_made (codes "do -nrv gen\n") (codes "-nrv" ∷ behind) c refl refl (omega arith) (answer_command function.NewReviewer (codes "-nrv") behind refl c refl refl) refl (λ same. cc)

integrator : IsMade (codes "do -ni gen\n")
unfolding reads step blank word spells is_whole
integrator =
    let behind : List (List ℕ) = codes "gen" ∷ [] in
    let c : Command = record (bare function.NewIntegrator) { users = codes "gen" ∷ [] } in
    do_made (codes "do -ni gen\n") (codes "-ni" ∷ behind) c refl refl (omega arith) (answer_command function.NewIntegrator (codes "-ni") behind refl c refl refl) refl (λ same. cc)

put_change : IsMade (codes "put here c.attr \"regression_test_exempt = true;\"\n")
put_change = record {
  content = codes "put here c.attr \"regression_test_exempt = true;\"";
  ended = refl;
  plain = refl;
  short = omega arith;
  line_says = Put Here (codes "c.attr") (codes "regression_test_exempt = true;");
  means = refl;
  no_test = λ (command : Command) same test. absurd cc;
}

pub first_made : AreMade first_lines
unfolding first_lines
first_made =
    one_more as_gen
    (one_more at_moment
    (one_more new_project
    (one_more put_attributes
    (one_more attributes
    (one_more developer
    (one_more reviewer
    (one_more integrator
    (one_more put_change no_lines))))))))

pub first_length : length first_lines ≡ 9
unfolding first_lines
first_length = refl

-- ---- lines of changes

pub new_change : IsMade (codes "do -nc -f c.attr\n")
unfolding reads step blank word spells is_whole
new_change =
    let behind : List (List ℕ) = codes "-f" ∷ codes "c.attr" ∷ [] in
    let c : Command = record (bare function.NewChange) { attributes = Some (codes "c.attr") } in
    do_made (codes "do -nc -f c.attr\n") (codes "-nc" ∷ behind) c refl refl (omega arith) (answer_command function.NewChange (codes "-nc") behind refl c refl refl) refl (λ same. cc)

new_config : IsMade (codes "do -nf -c 10 aegis.conf\n")
unfolding reads step blank word spells is_whole
new_config =
    let behind : List (List ℕ) = codes "-c" ∷ codes "10" ∷ codes "aegis.conf" ∷ [] in
    let c : Command = on_paths function.NewFile 10 (codes "aegis.conf" ∷ []) in
    do_made (codes "do -nf -c 10 aegis.conf\n") (codes "-nf" ∷ behind) c refl refl (omega arith) (answer_command function.NewFile (codes "-nf") behind refl c refl refl) refl (λ same. cc)

put_config : IsMade (codes "put develop.10 aegis.conf \"build_command = \\\"exit 0\\\";\"\n")
put_config = record {
  content = codes "put develop.10 aegis.conf \"build_command = \\\"exit 0\\\";\"";
  ended = refl;
  plain = refl;
  short = omega arith;
  line_says = Put (Develop 10) (codes "aegis.conf") (codes "build_command = \"exit 0\";");
  means = refl;
  no_test = λ (command : Command) same test. absurd cc;
}

pub config_made : (k : ℕ) → AreMade (config_lines k) × (length (config_lines k) ≤ 2)
unfolding config_lines
config_made k = at (k == 1)
  where
    at : (b : Bool) → AreMade (if b then codes "do -nf -c 10 aegis.conf\n" ∷ codes "put develop.10 aegis.conf \"build_command = \\\"exit 0\\\";\"\n" ∷ [] else [])
        × (length (if b then codes "do -nf -c 10 aegis.conf\n" ∷ codes "put develop.10 aegis.conf \"build_command = \\\"exit 0\\\";\"\n" ∷ [] else []) ≤ 2)
    at true = (one_more new_config (one_more put_config no_lines), omega arith)
    at false = (no_lines, omega arith)
