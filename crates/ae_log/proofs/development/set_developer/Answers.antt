use Rattle.ae_log.proofs.development.set_developer.Goals as goal

pub returns : goal.returns
returns c = λ i. record c.args.change.now { developer = c.args.developer; files = c.new.ensures i; evidence = c.drop_runs.ensures i }
