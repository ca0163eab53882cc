use Rattle.sja_driver.proofs.logged_step.try_step.Goals as goal

pub returns-in-Window-clause-acts : goal.returns-in-Window-clause-acts
returns-in-Window-clause-acts g c = rw c.in-Window.is (c.window_step.ensures.acts c.args.port.now)

pub returns-in-Release-clause-acts : goal.returns-in-Release-clause-acts
returns-in-Release-clause-acts g c = rw c.in-Release.is (c.release_step.ensures.acts c.args.port.now)

pub returns-in-Write-clause-acts : goal.returns-in-Write-clause-acts
returns-in-Write-clause-acts g c = rw c.in-Write.is (c.write_step.ensures c.args.end.now)

pub returns-in-Load-clause-acts : goal.returns-in-Load-clause-acts
returns-in-Load-clause-acts g c = rw c.in-Load.is (c.load_step.ensures c.args.end.now)
