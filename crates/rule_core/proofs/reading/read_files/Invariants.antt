use Rattle.std.proofs.Common.{◌≡◌, ◌++◌, take}
use Rattle.std.specs.List.{flat_map}
use Rattle.rule_core.specs.Rules.{file_messages, file_rules}
use Rattle.rule_core.proofs.reading.read_files.Given as goal

abbrev pub invariant-loop-file : goal.invariant-loop-file
invariant-loop-file l = record {
  rules : l.rules ≡ l.initial.rules ++ flat_map (file_rules l.profile) (take l.file-index l.files);
  messages : l.messages.items ≡ l.initial.messages.items ++ flat_map (file_messages l.profile) (take l.file-index l.files);
}
