-- The command of each run is what was read of aegis.conf gives for it.
use Rattle.std.proofs.Common.{◌≡◌, ℕ, refl, ap, List, Bool, true, false, cond, Option, Some, None, Result, Ok, Err, inl, inr}
use Rattle.std.specs.List.{list_all}
use Rattle.std.specs.Option.{option_map, option_map_or, option_and_then}
use Rattle.std.specs.Prelude.{◌⊎◌, IfSome}
use Rattle.std.specs.Map.{lookup}
use Rattle.std.specs.Str.{bytes_eq}
use Rattle.ae_base.specs.declared.words.Kind.{Kind}
use Rattle.ae_base.specs.declared.words.Kind.TheVariants as kind
use Rattle.ae_text.specs.Tree.{Node}
use Rattle.ae_conf.specs.Config.{Template, Config, config, config_by, as_read, template_of, template_named, text_of, line_of, line_named, commands_in, config_kinds, build_name, test_name, read_or_line}
use Rattle.ae_conf.specs.declared.config.Config.{Config as Read}
use Rattle.ae_conf.specs.declared.expansion.Values.{Values}
use Rattle.ae_conf.specs.Fields.{Fields, fields_in, first_wrong}
use Rattle.ae_conf.specs.Reading.{IsText, IsNoText, reading}
use Rattle.ae_conf.specs.Values.{command_in, command_text, text_in, may_stand_in_command, IsCommand}
use Rattle.ae_machine.specs.Commands.{GivesCommands, command_from, config_read, read_or_bad, template_read}
use Rattle.ae_machine.specs.declared.commands.ConfigRead.TheVariants.{Bad, Good}
use Rattle.ae_machine.specs.Runs.{command_by, command_by_config, command_by_template, template_for}

-- ---- the commands that are read may be run

text-stands : (text : List ℕ) → IfSome (command_text text) IsCommand
text-stands text = go (list_all may_stand_in_command text) refl
  where
    go : (b : Bool) → list_all may_stand_in_command text ≡ b → IfSome (cond b (Some text) None) IsCommand
    go true is = is
    go false is = tt

then-stands : {A : Type 0} (x : Option A) (f : A → Option (List ℕ)) → ((a : A) → IfSome (f a) IsCommand) → IfSome (option_and_then f x) IsCommand
then-stands (Some a) f each = each a
then-stands None f each = tt

in-stands : (node : Node) → IfSome (command_in node) IsCommand
in-stands node = then-stands (text_in node) command_text text-stands

template-stands : (text : Option (List ℕ)) (line : Option ℕ) → IfSome text IsCommand → IfSome (option_map text_of (option_and_then (λ text. option_map (template_of text) line) text)) IsCommand
template-stands (Some text) (Some line) is = is
template-stands (Some text) None is = tt
template-stands None line is = tt

named-stands : (name : List ℕ) (fields : Fields) (lines : List ℕ) → IfSome (option_map text_of (template_named name fields lines)) IsCommand
named-stands name fields lines =
    template-stands (option_and_then command_in (lookup (bytes_eq name) fields)) (line_named name fields lines)
    (then-stands (lookup (bytes_eq name) fields) command_in in-stands)

pub gives-commands : (bytes : Option (List ℕ)) → GivesCommands (config_read bytes)
gives-commands None = tt
gives-commands (Some bytes) = go (reading bytes)
  where
    right : (tree : Node) (lines : List ℕ) (wrong : Option ℕ) → GivesCommands (read_or_bad (option_map_or Err wrong (Ok (commands_in (fields_in tree) lines))))
    right tree lines (Some line) = tt
    right tree lines None = (named-stands build_name (fields_in tree) lines, named-stands test_name (fields_in tree) lines)

    go : (is : IsText bytes ⊎ IsNoText bytes) → GivesCommands (read_or_bad (config_by bytes is))
    go (inl text) = right text.0 text.1 (first_wrong config_kinds (fields_in text.0) text.1)
    go (inr error) = tt

-- ---- the command of a run

as-given : (t : Option Template) → option_map (λ text. template_of text (line_of t)) (option_map text_of t) ≡ t
as-given (Some t) = refl
as-given None = refl

by-kind : (values : Values) (k : Kind) (config : Config) → command_by_template values (template_read k (as_read config)) ≡ command_by_template values (template_for k config)
by-kind values kind.Build config = ap (command_by_template values) (as-given config.build)
by-kind values kind.Test config = ap (command_by_template values) (as-given config.test)
by-kind values kind.BaselineTest config = ap (command_by_template values) (as-given config.test)
by-kind values kind.RegressionTest config = ap (command_by_template values) (as-given config.test)

by-config : (values : Values) (k : Kind) (result : Result Config ℕ) → command_from values k (read_or_bad result) ≡ command_by_config values k result
by-config values k (Ok config) = by-kind values k config
by-config values k (Err line) = refl

pub command-read : (values : Values) (k : Kind) (bytes : Option (List ℕ)) → command_from values k (config_read bytes) ≡ command_by values k bytes
command-read values k (Some bytes) = by-config values k (config bytes)
command-read values k None = refl

-- ---- what was read

pub read-good : (result : Result Config ℕ) (read : Read) → read_or_line result ≡ Ok read → Good read ≡ read_or_bad result
read-good (Ok config) read e = cc
read-good (Err line) read e = cc

pub read-bad : (result : Result Config ℕ) (line : ℕ) → read_or_line result ≡ Err line → Bad line ≡ read_or_bad result
read-bad (Ok config) line e = cc
read-bad (Err other) line e = cc
