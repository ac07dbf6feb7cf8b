use Rattle.std.proofs.lemmas.Iterator.Adapters.{YieldsList-from_rev_slice}
use Rattle.std.proofs.lemmas.Iterator.Consumers.{YieldsList-end}
use Rattle.devdry_folders.proofs.Counting.{counting_all, counting_more, counting_none}
use Rattle.devdry_folders.proofs.sight_status.counting_files.Goals as goal

pub loop-sight-init : goal.loop-sight-init
loop-sight-init c = counting_none c.new-files.result c.new-files.ensures

pub loop-sight-preserved : goal.loop-sight-preserved
loop-sight-preserved c = counting_more c.loop-sight.files c.add_file.new.files c.loop-sight.yielded c.in-Some.sight c.loop-sight.invariant c.in_ok-add_file.ensures

pub returns : goal.returns
returns c =
    let all = YieldsList-end (YieldsList-from_rev_slice c.args.sights.now cc) c.loop-sight.yielded _ c.loop-sight.yielded_by _ _ c.in-None.is c.next.ensures.steps in
    counting_all c.loop-sight.files c.loop-sight.yielded c.args.sights.now c.loop-sight.invariant all.0
