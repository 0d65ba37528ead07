use Rattle.std.proofs.Common.{◌++◌, List, ℕ, ap, sym, false}
use Rattle.ae_rlang.specs.Scope.{totals_in}
use Rattle.ae_rlang.specs.Steps.{lexemes_seen}
use Rattle.ae_rlang.proofs.Reader.{totals_pushed, totals_all}
use Rattle.ae_rlang.proofs.read.totals_of.Goals as goal

pub loop-lexeme-init : goal.loop-lexeme-init
loop-lexeme-init c = ap (λ (ts : List (List ℕ)). ts ++ totals_in false (lexemes_seen c.args.lexemes.now)) (sym c.new-totals.ensures.items)

pub loop-lexeme-preserved : goal.loop-lexeme-preserved
loop-lexeme-preserved c =
    totals_pushed c.args.lexemes.now c.loop-lexeme.totals.items c.loop-lexeme.behind c.loop-lexeme.lexeme-index c.lexeme-item.result c.in_ok-totals.totals.items c.is_total-behind.result
    c.loop-lexeme.invariant c.loop-lexeme-test.true c.lexeme-item.is c.in_ok-totals.ensures c.is_total-behind.ensures

pub returns : goal.returns
returns c = totals_all c.args.lexemes.now c.loop-lexeme.totals.items c.loop-lexeme.behind c.loop-lexeme.lexeme-index c.loop-lexeme.invariant c.loop-lexeme-test.false
