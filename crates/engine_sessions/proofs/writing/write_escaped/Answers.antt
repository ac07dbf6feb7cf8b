use Rattle.std.proofs.Common.{◌≡◌, ◌-◌, ◌+◌, false, List, ℕ, length, take, get_or, arith, sym, ◌∙◌}
use Rattle.std.proofs.lemmas.List.{append-nil}
use Rattle.std.proofs.lemmas.Result.{err_from_is_err_and, on_err_weaker}
use Rattle.text_bytes.specs.Escapes.{escape_byte, escape_text, is_escaped}
use Rattle.engine_sessions.proofs.Escaped.{breaks-in-escape, breaks-in-run, plain-more, reported, takes-more, unreported}
use Rattle.engine_sessions.proofs.writing.write_escaped.Goals.{in-Some+in_ok-write_all+in_ok-write_all-2, in_default}
use Rattle.engine_sessions.proofs.writing.write_escaped.Goals as goal

pub returns-in_err-write_all-clause-part : goal.returns-in_err-write_all-clause-part
returns-in_err-write_all-clause-part g c =
    let so_far = c.loop-at.invariant in
    let p = err_from_is_err_and c.from_residual.result c.from_residual.ensures.1 in
    rw p.1 (breaks-in-run _ _ _ c.args.text.now _ c.loop-at.done c.loop-at.at so_far.plain so_far.so_far c.in_err-write_all.ensures.part)

pub returns-in_err-write_all-2-clause-part : goal.returns-in_err-write_all-2-clause-part
returns-in_err-write_all-2-clause-part g c =
    let text : List ℕ = c.args.text.now in
    let so_far = c.loop-at.invariant in
    let b : ℕ = get_or text c.loop-at.at 0 in
    let is : c.in-Some.shown ≡ escape_byte b = reported (is_escaped b) (escape_byte b) c.in-Some.shown (sym c.escaped_byte.ensures ∙ c.in-Some.is) in
    let p = err_from_is_err_and c.from_residual-in_err-write_all-2.result c.from_residual-in_err-write_all-2.ensures.1 in
    rw p.1 (breaks-in-escape _ _ _ _ text _ c.loop-at.done c.loop-at.at c.loop-at-test.true so_far.plain so_far.so_far c.in_ok-write_all.ensures.whole (rw is at c.in_err-write_all-2.ensures.part))

pub loop-at-preserved : goal.loop-at-preserved
loop-at-preserved g c =
    let text : List ℕ = c.args.text.now in
    let so_far = c.loop-at.invariant in
    let at : ℕ = c.loop-at.at in
    let b : ℕ = get_or text at 0 in
    elim c.match-escaped_byte.branch [
      | in-Some+in_ok-write_all+in_ok-write_all-2 w ↦ (
          let is : w.in-Some.shown ≡ escape_byte b = reported (is_escaped b) (escape_byte b) w.in-Some.shown (sym c.escaped_byte.ensures ∙ w.in-Some.is) in
          let none : at + 1 - (at + 1) ≡ 0 = omega arith in
          rw (w.done-is, w.sink-is) record {
            within = omega arith;
            plain = rw none (sym (append-nil (escape_text (take (at + 1) text))));
            so_far = takes-more _ _ _ _ text _ c.loop-at.done at c.loop-at-test.true so_far.plain so_far.so_far w.in_ok-write_all.ensures.whole (rw is at w.in_ok-write_all-2.ensures.whole);
          })
      | in_default w ↦ (
          let stays : is_escaped b ≡ false = unreported (is_escaped b) (escape_byte b) (λ shown h. w.in_default.not-Some shown (c.escaped_byte.ensures ∙ h)) in
          rw (w.done-is, w.sink-is) record {
            within = omega (arith, so_far.within);
            plain = plain-more text _ c.loop-at.done at so_far.within c.loop-at-test.true stays so_far.plain;
            so_far = so_far.so_far;
          })
    ]

pub returns-clause-part : goal.returns-clause-part
returns-clause-part g c =
    let text : List ℕ = c.args.text.now in
    let so_far = c.loop-at.invariant in
    let all : c.loop-at.at ≡ length text = omega (arith, c.loop-at-test.false, c.loop-at.auto.at-end) in
    on_err_weaker c.write_all-2.result (λ h. breaks-in-run _ _ _ text _ c.loop-at.done (length text) (rw all at so_far.plain) so_far.so_far h) c.write_all-2.ensures.part
