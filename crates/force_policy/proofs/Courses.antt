-- The plans under force are those of both policies, under force.
use Rattle.region_layout.specs.declared.layout.Policy.TheVariants.{Force}
use Rattle.plan_records.proofs.AbortCourse as abort
use Rattle.plan_records.proofs.CommitCourse as commit
use Rattle.plan_records.proofs.WriteCourse as write
use Rattle.force_policy.specs.Laws.{WritesGoOn, GivesGoOn, CommitsGoOn, AbortsGoOn}

pub writes_go_on : WritesGoOn
writes_go_on shape p s u running = write.writes_go_on Force shape p s u running

pub gives_go_on : GivesGoOn
gives_go_on shape p s g = write.gives_go_on shape p s g

pub commits_go_on : CommitsGoOn
commits_go_on shape p s c can = commit.commits_go_on Force shape p c.transaction s c.deletions can

pub aborts_go_on : AbortsGoOn
aborts_go_on shape p s u can = abort.aborts_go_on Force shape p u.transaction s u.updates can
