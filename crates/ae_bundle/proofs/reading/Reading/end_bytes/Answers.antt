use Rattle.std.proofs.Common.{◌≡◌, ◌++◌, ◌∷◌, [], ℕ, List, length, sym, ap, subst, ◌∙◌, refl}
use Rattle.std.specs.Global.{Vec}
use Rattle.sha2.specs.Hashers.{Holds256}
use Rattle.sha2.specs.declared.Sha256.{Sha256}
use Rattle.std.proofs.lemmas.Result.{on_ok_weaker}
use Rattle.ae_bundle.specs.Reading.{fed, file_of}
use Rattle.ae_bundle.proofs.Steps.{description_bytes_ok, file_bytes_ok, good-holds}
use Rattle.ae_bundle.proofs.reading.Reading.end_bytes.Goals as goal

pub returns-in-DescriptionBytes : goal.returns-in-DescriptionBytes
returns-in-DescriptionBytes c =
    let bytes : c.of-bytes.result ≡ c.args.self.now.held.items = c.of-bytes.ensures ∙ ap (λ (v : Vec ℕ). v.items) c.replace.ensures.value in
    let none : c.replace.new.dest.items ≡ [] = ap (λ (v : Vec ℕ). v.items) c.replace.ensures.after ∙ c.new.ensures.items in
    description_bytes_ok c.args.self.now _ c.in-DescriptionBytes.field-0 c.requires.good (sym c.replace-2.ensures.value ∙ c.in-DescriptionBytes.is) c.requires.full
    (c.update.ensures (fed c.args.self.now) (good-holds c.args.self.now (length c.args.self.now.held.items) c.requires.good c.requires.full)) refl
    (ap (λ (xs : List ℕ). record c.args.self.now.draft { description = xs }) bytes) none refl

pub returns-in-FileBytes : goal.returns-in-FileBytes
returns-in-FileBytes c =
    let bytes : c.of-bytes.result ≡ c.args.self.now.held.items = c.of-bytes.ensures ∙ ap (λ (v : Vec ℕ). v.items) c.replace.ensures.value in
    let none : c.replace.new.dest.items ≡ [] = ap (λ (v : Vec ℕ). v.items) c.replace.ensures.after ∙ c.new.ensures.items in
    let same = c.add_file.ensures.same in
    let holds = c.update.ensures (fed c.args.self.now) (good-holds c.args.self.now (length c.args.self.now.held.items) c.requires.good c.requires.full) in
    on_ok_weaker c.add_file.result (λ files. file_bytes_ok c.args.self.now c.add_file.new.self c.in-FileBytes.file c.requires.good (sym c.replace-2.ensures.value ∙ c.in-FileBytes.is) c.requires.full
    (subst (λ (h : Sha256). Holds256 h (fed c.args.self.now ++ 10 ∷ [])) (sym same.2) holds)
    (same.0 ∙ c.replace-2.ensures.after)
    (files ∙ ap (λ (xs : List ℕ). record c.args.self.now.draft { files = c.args.self.now.draft.files ++ file_of c.in-FileBytes.file xs ∷ [] }) bytes)
    (ap (λ (v : Vec ℕ). v.items) same.1 ∙ none) c.add_file.ensures.sum) c.add_file.ensures.files
