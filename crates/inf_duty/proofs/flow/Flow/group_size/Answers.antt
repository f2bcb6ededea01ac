use Rattle.inf_duty.proofs.FlowFacts.{dir_sized, file_sized}
use Rattle.inf_duty.proofs.flow.Flow.group_size.Goals as goal

pub returns-in-File : goal.returns-in-File
returns-in-File c = file_sized c.args.self.now c.in-File.step c.group_size.result c.in-File.is c.group_size.ensures

pub returns-in-Dir : goal.returns-in-Dir
returns-in-Dir c = dir_sized c.args.self.now c.in-Dir.step c.group_size-in-Dir.result c.in-Dir.is c.group_size-in-Dir.ensures
