use Rattle.std.proofs.Common.{◌≡◌, ◌++◌, List, ℕ, ap, ◌∙◌}
use Rattle.std.proofs.lemmas.Result.{on_ok_weaker}
use Rattle.ae_base.specs.Words.{cause_word}
use Rattle.ae_bundle.specs.Bundled.{line, counted, first_line, brief_label, description_label, cause_label}
use Rattle.ae_bundle.proofs.Turns.{written_head}
use Rattle.ae_bundle.proofs.writing.put_head.Goals as goal

pub returns : goal.returns
returns c =
    let bundle = c.args.bundle.now in
    let one = c.in_ok-extend_from_slice.ensures.items in
    let two : c.put_text.new.text.items ≡ c.extend_from_slice.new.self.items ++ counted brief_label bundle.brief = c.in_ok-put_text.ensures ∙ ap (λ (xs : List ℕ). c.extend_from_slice.new.self.items ++ counted brief_label xs) c.bytes.ensures.value in
    let three : c.put_text-2.new.text.items ≡ c.put_text.new.text.items ++ counted description_label bundle.description = c.in_ok-put_text-2.ensures ∙ ap (λ (xs : List ℕ). c.put_text.new.text.items ++ counted description_label xs) c.bytes-2.ensures.value in
    on_ok_weaker c.put_cause.result (λ four. written_head c.args.text.now.items c.extend_from_slice.new.self.items c.put_text.new.text.items c.put_text-2.new.text.items c.put_cause.new.text.items
    (line first_line) (counted brief_label bundle.brief) (counted description_label bundle.description) (line (cause_label ++ cause_word bundle.cause)) one two three four) c.put_cause.ensures
