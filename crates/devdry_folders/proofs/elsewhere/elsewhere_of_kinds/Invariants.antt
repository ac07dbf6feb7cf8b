use Rattle.std.proofs.Common.{take}
use Rattle.devdry_folders.specs.Nothing.{AreElsewhereOf}
use Rattle.devdry_folders.proofs.elsewhere.elsewhere_of_kinds.Given as goal

-- the folders so far are those of the kinds so far
abbrev pub invariant-loop-kind : goal.invariant-loop-kind
invariant-loop-kind g l = AreElsewhereOf (g.D.Disk.may_answer l.disk) l.root (take l.kind-index l.kinds) l.others.items
