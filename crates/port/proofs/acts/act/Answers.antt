use Rattle.port.proofs.acts.act.Goals as goal

pub returns-in-Command : goal.returns-in-Command
returns-in-Command c = rw c.in-Command.is c.command.ensures

pub returns-in-Give : goal.returns-in-Give
returns-in-Give c = rw c.in-Give.is c.give.ensures

pub returns-in-Take : goal.returns-in-Take
returns-in-Take c = rw c.in-Take.is c.take.ensures

pub returns-in-Online : goal.returns-in-Online
returns-in-Online c = rw c.in-Online.is (c.raise_online.ensures c.args.tape.now)

pub returns-in-Offline : goal.returns-in-Offline
returns-in-Offline c = rw c.in-Offline.is c.drop_online.ensures
