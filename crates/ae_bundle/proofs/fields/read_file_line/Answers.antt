use Rattle.ae_bundle.proofs.LineWords.{line_words, no_path, no_fit, line_is_file, path_read}
use Rattle.ae_bundle.proofs.fields.read_file_line.Goals as goal

pub returns-in_default-clause-none : goal.returns-in_default-clause-none
returns-in_default-clause-none c = λ file is. c.in_default.ensures.none file.action file.usage file.path file.size (line_words _ file is)

pub returns-in_default-2-clause-none : goal.returns-in_default-2-clause-none
returns-in_default-2-clause-none c = no_path _ _ _ _ _ c.in_ok-path.field-0 c.in-Some.ensures.some c.in_ok-path.ensures c.in_default-2.is

pub returns-then-not-usage_fits-clause-none : goal.returns-then-not-usage_fits-clause-none
returns-then-not-usage_fits-clause-none c =
    let read = path_read c.in_ok-path.field-0 c.in-Some.words.path.now c.in-Some-2.path c.in_ok-path.ensures c.in-Some-2.is in
    no_fit _ _ _ _ c.in-Some-2.path _ c.usage_fits.result c.in-Some.ensures.some read.0 c.usage_fits.ensures c.if-not-usage_fits.true

pub returns-clause-some : goal.returns-clause-some
returns-clause-some c =
    let read = path_read c.in_ok-path.field-0 c.in-Some.words.path.now c.in-Some-2.path c.in_ok-path.ensures c.in-Some-2.is in
    line_is_file _ _ _ _ c.in-Some-2.path _ c.in-Some.ensures.some read.0 read.1 (c.usage_fits.ensures.0 c.if-not-usage_fits.false)
