use Rattle.ac_cli.specs.declared.memory.MemFile.{MemFile}
use Rattle.ac_run.specs.Tasks.{task_of}
use Rattle.ac_cli.specs.Program.{sample_task}
use Rattle.ac_cli.proofs.RanTasks.{of_task}
use Rattle.ac_cli.proofs.program.answer_sample.Goals as goal

pub returns : goal.returns
returns g c =
    record {
      from = c.inputs.result;
      to = c.ran_gathered.new.inputs;
      tells = c.inputs.ensures;
      ran = of_task _ (λ (feed : MemFile). 0) c.inputs.result c.ran_gathered.new.inputs _ _ (task_of c.job.result) sample_task c.job.ensures c.ran_gathered.ensures.ran;
    }
