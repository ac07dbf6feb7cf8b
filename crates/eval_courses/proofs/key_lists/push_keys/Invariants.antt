use Rattle.std.proofs.Common.{◌≡◌, ◌++◌, take, map}
use Rattle.eval_courses.proofs.key_lists.push_keys.Given as goal

abbrev pub invariant-loop-part : goal.invariant-loop-part
invariant-loop-part g l = l.keys.items ≡ l.initial.keys.items ++ map g.P.Written.written (take l.part-index l.parts)
