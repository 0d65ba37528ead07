use Rattle.ae_log.proofs.integration.set_integrator.Goals as goal

pub returns : goal.returns
returns c = λ i. record c.args.change.now { integrator = c.args.integrator; evidence = c.drop_runs.ensures i }
