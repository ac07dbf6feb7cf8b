use Rattle.std.proofs.Common.{◌≡◌, ◌+◌, ◌-◌, ◌≤◌, length, sym, ◌∙◌, arith, ℕ}
use Rattle.std.proofs.lemmas.Result.{err_from_is_err_and}
use Rattle.text_core.proofs.Cutting.{choice_long, choice_short, choice_more, choice_fault, choice_last, choice_last_fault}
use Rattle.text_core.proofs.choice.Choice.read_by.Goals as goal

pub returns-then-text-gt-MAX_LEN-clause-value : goal.returns-then-text-gt-MAX_LEN-clause-value
returns-then-text-gt-MAX_LEN-clause-value c = λ _. choice_long c.args.reading c.args.text.now c.if-text-gt-MAX_LEN.true

pub returns-in_err-part-clause-value : goal.returns-in_err-part-clause-value
returns-in_err-part-clause-value c =
    let p = err_from_is_err_and c.from_residual.result c.from_residual.ensures.1 in
    rw (p.1, p.2) (λ m. choice_short c.args.reading c.args.text.now c.if-text-gt-MAX_LEN.false ∙ sym c.loop-place.invariant.read
    ∙ choice_fault c.args.reading c.loop-place.parts.items c.in_err-part.field-0.0 (length c.args.text.now - length c.loop-place.rest.now) c.in-Some.place c.loop-place.rest.now c.split_at.result.0.now
    (sym c.in-Some.ensures.value) c.split_at.ensures.front (c.in_err-part.ensures m))

pub loop-place-preserved : goal.loop-place-preserved
loop-place-preserved c =
    let at : ℕ = length c.args.text.now - length c.loop-place.rest.now in
    let prefix : length c.split_at.result.0.now ≡ c.in-Some.place = c.split_at.ensures.front_len in
    let back : length c.split_at-in-Some.result.1.now + (c.in-Some.place + 1) ≡ length c.loop-place.rest.now = c.split_at-in-Some.ensures.back_len in
    let within : length c.loop-place.rest.now ≤ length c.args.text.now = c.loop-place.invariant.rest in
    let next : at + length c.split_at.result.0.now + 1 ≡ length c.args.text.now - length c.split_at-in-Some.result.1.now = omega arith in
    record {
      read = rw c.in_ok-push.ensures.items (
          choice_more c.args.reading c.loop-place.parts.items c.in_ok-part.part at (length c.args.text.now - length c.split_at-in-Some.result.1.now) c.in-Some.place
          c.loop-place.rest.now c.split_at.result.0.now c.split_at-in-Some.result.1.now
          (sym c.in-Some.ensures.value) c.split_at.ensures.front c.split_at-in-Some.ensures.back c.in_ok-part.ensures next
          ∙ c.loop-place.invariant.read);
      rest = omega arith;
    }

pub returns-in_err-last-clause-value : goal.returns-in_err-last-clause-value
returns-in_err-last-clause-value c =
    let p = err_from_is_err_and c.from_residual-in_err-last.result c.from_residual-in_err-last.ensures.1 in
    rw (p.1, p.2) (λ m. choice_short c.args.reading c.args.text.now c.if-text-gt-MAX_LEN.false ∙ sym c.loop-place.invariant.read
    ∙ choice_last_fault c.args.reading c.loop-place.parts.items c.in_err-last.field-0.0 (length c.args.text.now - length c.loop-place.rest.now) c.loop-place.rest.now
    (sym c.in_default.ensures.value) (c.in_err-last.ensures m))

pub returns-clause-value : goal.returns-clause-value
returns-clause-value c =
    choice_short c.args.reading c.args.text.now c.if-text-gt-MAX_LEN.false ∙ sym c.loop-place.invariant.read
    ∙ rw c.in_ok-of_parts.ensures (choice_last c.args.reading c.loop-place.parts.items c.in_ok-last.last (length c.args.text.now - length c.loop-place.rest.now) c.loop-place.rest.now
    (sym c.in_default.ensures.value) c.in_ok-last.ensures)
