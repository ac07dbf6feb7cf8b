use Rattle.std.proofs.Common.{Bool, map, Ok, sym, ◌∙◌, ap}
use Rattle.std.specs.List.{slice_split}
use Rattle.text_core.specs.Choices.{is_bar}
use Rattle.text_core.specs.Fnmatch.{fnmatch_part}
use Rattle.text_core.proofs.Fnmatching.{fnmatch_long, fnmatch_short, parts_last, parts_more}
use Rattle.text_core.proofs.choice.Choice.read_fnmatch.Goals as goal

pub returns-then-text-gt-MAX_LEN-clause-value : goal.returns-then-text-gt-MAX_LEN-clause-value
returns-then-text-gt-MAX_LEN-clause-value c = λ _. fnmatch_long c.args.reading c.args.text.now c.if-text-gt-MAX_LEN.true

pub loop-place-preserved : goal.loop-place-preserved
loop-place-preserved c = rw c.in_ok-push.ensures.items (
    parts_more (fnmatch_part c.args.reading c.has_special-is_pattern.result) c.loop-place.parts.items c.in_ok-part.part c.loop-place.rest.now
    c.in-Some.place c.split_at.result.0.now c.split_at-in-Some.result.1.now
    (sym c.in-Some.ensures.value) c.split_at.ensures.front c.split_at-in-Some.ensures.back c.in_ok-part.ensures
    ∙ c.loop-place.invariant)

pub returns-clause-value : goal.returns-clause-value
returns-clause-value c =
    fnmatch_short c.args.reading c.args.text.now c.if-text-gt-MAX_LEN.false
    ∙ ap (λ (b : Bool). Ok (map (fnmatch_part c.args.reading b) (slice_split is_bar c.args.text.now))) (sym c.has_special-is_pattern.ensures)
    ∙ ap Ok (sym c.loop-place.invariant)
    ∙ rw c.in_ok-of_parts.ensures (ap Ok (sym (
    parts_last (fnmatch_part c.args.reading c.has_special-is_pattern.result) c.loop-place.parts.items c.in_ok-last.last c.loop-place.rest.now
    (sym c.in_default.ensures.value) c.in_ok-last.ensures)))
