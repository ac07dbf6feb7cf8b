use Rattle.std.proofs.Common.{◌≡◌, take, map}
use Rattle.std.specs.List.{flat_map, sum_by}
use Rattle.rule_core.specs.Counts.{line_tokens}
use Rattle.rule_core.specs.Drafts.{draft_of}
use Rattle.rule_core.specs.Notes.{has_names, is_silent, nowhere, some_names}
use Rattle.rule_core.specs.Rules.{names_of}
use Rattle.rule_core.proofs.notes.read_outlines.Given as goal

abbrev pub invariant-loop-line : goal.invariant-loop-line
invariant-loop-line l = record {
  names : l.outlines.names ≡ flat_map (λ x. some_names (names_of (draft_of l.profile x.text))) (take l.line-index l.lines);
  named : l.outlines.named ≡ map (λ x. has_names (names_of (draft_of l.profile x.text))) (take l.line-index l.lines);
  silent : l.outlines.silent ≡ map (λ x. is_silent (draft_of l.profile x.text)) (take l.line-index l.lines);
  tokens : l.outlines.tokens ≡ sum_by (λ x. line_tokens (draft_of l.profile x.text) nowhere) (take l.line-index l.lines);
}
