-- Every command that has an undo is reversed by it.
use Rattle.std.proofs.Common.{◌≡◌, refl, sym, ◌∙◌, ap}
use Rattle.ae_types.proofs.Ordered.{none-some}
use Rattle.ae_words.specs.declared.table.Function.{Function}
use Rattle.ae_words.specs.declared.table.Function.TheVariants as function
use Rattle.ae_machine.specs.Laws.{undo_of, AreReversed, Reverses}
use Rattle.ae_machine.specs.Legal.{Occasion}
use Rattle.ae_laws.proofs.ReversedMaking.{reverses-new_change}
use Rattle.ae_laws.proofs.ReversedBegins.{reverses-develop_begin, reverses-integrate_begin}
use Rattle.ae_laws.proofs.ReversedEnd.{reverses-develop_end}
use Rattle.ae_laws.proofs.ReversedFiles.{reverses-new_file, reverses-new_test, reverses-copy_file}
use Rattle.ae_laws.proofs.ReversedRemovals.{reverses-remove_file}
use Rattle.ae_laws.proofs.ReversedReviews.{reverses-review_begin, reverses-review_pass}

by-function : (done undone : Occasion) (f : Function) → done.command.function ≡ f → AreReversed done undone
by-function done undone function.NewChange is = reverses-new_change done undone is
by-function done undone function.DevelopBegin is = reverses-develop_begin done undone is
by-function done undone function.CopyFile is = reverses-copy_file done undone is
by-function done undone function.NewFile is = reverses-new_file done undone is
by-function done undone function.NewTest is = reverses-new_test done undone is
by-function done undone function.RemoveFile is = reverses-remove_file done undone is
by-function done undone function.DevelopEnd is = reverses-develop_end done undone is
by-function done undone function.ReviewBegin is = reverses-review_begin done undone is
by-function done undone function.ReviewPass is = reverses-review_pass done undone is
by-function done undone function.IntegrateBegin is = reverses-integrate_begin done undone is
by-function done undone f is = λ log o events legal stood may accepted undo may_then differ copies. none-some undone.command.function (sym (ap undo_of is) ∙ undo.function)

pub reverses : Reverses
reverses done undone = by-function done undone done.command.function refl
