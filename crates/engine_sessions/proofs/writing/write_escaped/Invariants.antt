use Rattle.std.proofs.Common.{◌≡◌, ◌≤◌, ◌-◌, ◌++◌, take, drop}
use Rattle.text_bytes.specs.Escapes.{escape_text}
use Rattle.engine_sessions.specs.Sinks.{Takes}
use Rattle.engine_sessions.proofs.writing.write_escaped.Given as goal

-- what was written so far, and after it bytes that stand for themselves
abbrev pub invariant-loop-at : goal.invariant-loop-at
invariant-loop-at g l = record {
  within : l.done ≤ l.at;
  plain : escape_text (take l.at l.text) ≡ escape_text (take l.done l.text) ++ take (l.at - l.done) (drop l.done l.text);
  so_far : Takes (g.W.Sink.shown l.initial.sink) (escape_text (take l.done l.text)) (g.W.Sink.shown l.sink);
}
