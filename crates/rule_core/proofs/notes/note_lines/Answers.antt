use Rattle.std.proofs.Common.{◌≡◌, List, ◌∙◌, ap, map, sum_by, arith}
use Rattle.std.specs.List.{count_by}
use Rattle.rule_types.specs.Jumps.{landings}
use Rattle.rule_types.specs.declared.jumps.Landing.{Landing}
use Rattle.rule_core.specs.Counts.{line_tokens}
use Rattle.rule_core.specs.Drafts.{draft_of}
use Rattle.rule_core.specs.Notes.{Outlines, nowhere}
use Rattle.rule_core.specs.Rules.{names_of, reading_of}
use Rattle.rule_core.proofs.Noting.{lines_counted, lines_landed, lines_quiet}
use Rattle.rule_core.proofs.notes.note_lines.Goals as goal

pub returns-clause-landings : goal.returns-clause-landings
returns-clause-landings c =
    lines_landed c.args.profile c.args.lines.now c.deref.result.now c.deref-2.result.now c.deref-3.result.now c.in_ok-landings.landings.items
    (c.deref.ensures.value ∙ ap (λ (o : Outlines). o.named) c.names.view_is ∙ c.in_ok-names.ensures.named)
    (c.deref-2.ensures.value ∙ ap (λ (o : Outlines). o.names) c.names.view_is ∙ c.in_ok-names.ensures.names)
    (c.deref-3.ensures.value ∙ c.in_ok-landings_of.ensures)
    c.in_ok-landings.ensures

pub returns-clause-silent : goal.returns-clause-silent
returns-clause-silent c = lines_quiet c.args.profile c.args.lines.now c.names.inside.silent.items (ap (λ (o : Outlines). o.silent) c.names.view_is ∙ c.in_ok-names.ensures.silent)

pub returns-clause-tokens : goal.returns-clause-tokens
returns-clause-tokens c =
    let found : c.deref-4.result.now ≡ landings (map (λ r. names_of r.read) (map (reading_of c.args.profile) c.args.lines.now)) = c.deref-4.ensures.value ∙ returns-clause-landings c in
    let lost = c.lost_count.ensures ∙ ap (λ (ls : List Landing). count_by (λ l. l.lost) ls) found in
    let all : c.names.inside.tokens ≡ sum_by (λ l. line_tokens (draft_of c.args.profile l.text) nowhere) c.args.lines.now = ap (λ (o : Outlines). o.tokens) c.names.view_is ∙ c.in_ok-names.ensures.tokens in
    let counted = lines_counted c.args.profile c.args.lines.now in
    omega (arith, c.saturating_sub-tokens.ensures, lost, all, counted)
