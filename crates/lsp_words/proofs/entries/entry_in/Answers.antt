use Rattle.lsp_words.proofs.Finding.{found_here, later_here}
use Rattle.lsp_words.proofs.entries.entry_in.Goals as goal

pub returns-in-Some-clause-value : goal.returns-in-Some-clause-value
returns-in-Some-clause-value c = found_here _ _ _ _ _ _ c.loop-part-test.true c.loop-part.invariant c.in-Some.ensures.value

pub loop-part-preserved : goal.loop-part-preserved
loop-part-preserved c = later_here _ _ _ _ _ c.loop-part-test.true c.loop-part.invariant c.in-None.ensures.value
