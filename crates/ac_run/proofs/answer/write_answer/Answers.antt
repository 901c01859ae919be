use Rattle.ac_run.proofs.answer.write_answer.Goals as goal

pub returns-in-Hosts : goal.returns-in-Hosts
returns-in-Hosts g c = rw c.in-Hosts.is c.write_hosts.ensures
