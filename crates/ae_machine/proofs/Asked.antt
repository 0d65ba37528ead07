-- A file of attributes whose bytes have a bad line.
use Rattle.std.proofs.Common.{◌≡◌, ℕ, Result, Err, sym, ap, subst}
use Rattle.ae_base.specs.declared.refusal.Refusal.TheVariants.{BadAttributes}
use Rattle.ae_conf.specs.Answers.{IsAnswer}
use Rattle.ae_conf.specs.declared.error.ConfError.{ConfError}
use Rattle.ae_conf.specs.declared.error.ConfError.TheVariants.{Line}
use Rattle.ae_machine.specs.Attributes.{or_bad_line}

-- a bad line is refused
pub line-refused : {A : Type 0} (answer : Result A ℕ) (error : ConfError) (line : ℕ) → IsAnswer answer (Err error) → error ≡ Line line → Err (BadAttributes line) ≡ or_bad_line answer
line-refused {A} answer error line h e = let P : ConfError → Type 0 = λ error. IsAnswer answer (Err error) in ap or_bad_line (sym (subst P e h))
