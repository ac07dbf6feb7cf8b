use Rattle.eval_laws.proofs.Making.{run_added, run_alone, run_empty, run_rendered_last, run_taken}
use Rattle.eval_laws.proofs.changes.new_runs_come_last.Goals as goal

pub returns-clause-added : goal.returns-clause-added
returns-clause-added c = run_added

pub returns-clause-alone : goal.returns-clause-alone
returns-clause-alone c = run_alone

pub returns-clause-empty : goal.returns-clause-empty
returns-clause-empty c = run_empty

pub returns-clause-kept : goal.returns-clause-kept
returns-clause-kept c = run_taken

pub returns-clause-made : goal.returns-clause-made
returns-clause-made c = run_rendered_last
