use Rattle.std.proofs.Common.{◌≡◌, ◌+◌, ◌-◌, ◌≤◌, length, sym, ◌∙◌, ap, arith, ℕ, Ok}
use Rattle.std.proofs.lemmas.Result.{err_from_is_err_and}
use Rattle.text_core.proofs.Scanning.{plain_done, read_more, read_fault, read_all}
use Rattle.text_core.proofs.pattern.Pattern.read_at.Goals as goal

pub returns-in_err-head : goal.returns-in_err-head
returns-in_err-head c =
    let p = err_from_is_err_and c.from_residual-in_err-head.result c.from_residual-in_err-head.ensures.1 in
    rw (p.1, p.2) (λ _. sym c.loop-byte.invariant.read
    ∙ read_fault c.args.reading c.loop-byte.items.items c.in_err-head.field-0.0 (c.args.at + (length c.args.text.now - length c.loop-byte.rest.now)) c.in-Some.byte.now c.in-Some.after.now c.loop-byte.rest.now c.in-Some.ensures.cases.0 (sym c.in_err-head.ensures.value))

pub loop-byte-init : goal.loop-byte-init
loop-byte-init c =
    let within : c.plain_length.result ≤ length c.args.text.now = c.plain_length.ensures.within in
    let left : length c.split_at.result.1.now + c.plain_length.result ≡ length c.args.text.now = c.split_at.ensures.back_len in
    let next : c.args.at + c.plain_length.result ≡ c.args.at + (length c.args.text.now - length c.split_at.result.1.now) = omega arith in
    record {
      read = rw (c.in_ok-push_bytes.ensures, c.in_ok-items.ensures.items) (
          plain_done c.args.reading c.args.text.now c.split_at.result.0.now c.split_at.result.1.now c.args.at c.plain_length.result (c.args.at + (length c.args.text.now - length c.split_at.result.1.now))
          c.plain_length.ensures.value c.split_at.ensures.front c.split_at.ensures.back next);
      rest = omega arith;
    }

pub loop-byte-preserved : goal.loop-byte-preserved
loop-byte-preserved c = record {
  read =
      let at : ℕ = c.args.at + (length c.args.text.now - length c.loop-byte.rest.now) in
      let shorter : length c.in-Some.after.now + 1 ≡ length c.loop-byte.rest.now = c.in-Some.ensures.cases.1 in
      let left : length c.split_at-in-Some.result.1.now + c.in_ok-head.head.following ≡ length c.in-Some.after.now = c.split_at-in-Some.ensures.back_len in
      let within : length c.loop-byte.rest.now ≤ length c.args.text.now = c.loop-byte.invariant.rest in
      let next : at + 1 + c.in_ok-head.head.following ≡ c.args.at + (length c.args.text.now - length c.split_at-in-Some.result.1.now) = omega arith in
      let fits : c.in_ok-head.head.following ≤ length c.in-Some.after.now = omega arith in
      rw c.in_ok-push.ensures.items (
      read_more c.args.reading c.loop-byte.items.items c.in_ok-head.head.item c.in_ok-head.head.following at (c.args.at + (length c.args.text.now - length c.split_at-in-Some.result.1.now))
      c.in-Some.byte.now c.in-Some.after.now c.loop-byte.rest.now c.split_at-in-Some.result.1.now
      c.in-Some.ensures.cases.0 (sym c.in_ok-head.ensures.value) c.split_at-in-Some.ensures.back fits next
      ∙ c.loop-byte.invariant.read);
  rest = omega (arith, c.in-Some.ensures.cases.1, c.split_at-in-Some.ensures.back_len);
}

pub returns : goal.returns
returns c =
    sym c.loop-byte.invariant.read
    ∙ read_all c.args.reading c.loop-byte.items.items c.loop-byte.rest.now (c.args.at + (length c.args.text.now - length c.loop-byte.rest.now)) c.in_default.ensures.cases
    ∙ ap Ok (sym c.of_items.ensures)
