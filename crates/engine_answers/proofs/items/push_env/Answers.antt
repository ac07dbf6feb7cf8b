use Rattle.std.proofs.Common.{◌≡◌, ◌++◌, ap, sym, ◌∙◌, option_map}
use Rattle.engine_answers.specs.Inner.{front_of, lines_as_is}
use Rattle.engine_answers.proofs.AsIs.{as_they_are, escapes}
use Rattle.engine_answers.proofs.InFront.{env_alone, nothing_in_front}
use Rattle.engine_answers.proofs.Plain.{added_is}
use Rattle.engine_answers.proofs.items.push_env.Goals as goal

pub returns-then-escaped_count-count : goal.returns-then-escaped_count-count
returns-then-escaped_count-count c =
    let added = added_is c.args.lines.now.items (lines_as_is c.args.pairs.now) c.deref.result.now c.len-before.result (c.len-before.ensures ∙ c.args.lines.now.ok.0) (c.deref.ensures.value ∙ c.in_ok-count.ensures.lines) in
    let counted : escapes (lines_as_is c.args.pairs.now) ≡ c.in_ok-count.count = ap escapes (sym added) ∙ sym c.escaped_count.ensures ∙ c.if-escaped_count-count.true in
    c.in_ok-count.ensures.lines
    ∙ ap (λ l. c.args.lines.now.items ++ l)
    (as_they_are c.args.pairs.now (counted ∙ c.in_ok-count.ensures.count) ∙ sym (env_alone (front_of (option_map (λ s. s.now) c.args.sources)) (nothing_in_front (λ s. s.now) c.args.sources (sym c.is_some.ensures ∙ c.if-is_some.false)) c.args.pairs.now))
