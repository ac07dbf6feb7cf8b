use Rattle.std.proofs.Common.{arith, ◌≡◌, ◌++◌, ◌+◌, ◌-◌, ◌<◌, ℕ, List, [], length, refl, ap, ◌∙◌, append_assoc, subst, sym}
use Rattle.std.proofs.lemmas.List.{length-append}
use Rattle.device_core.specs.Filling.{taken}
use Rattle.device_core.proofs.Steps.{Filling, skips, puts, ends, stays, overflows, held_is_pending, none_used, nothing_held, taken_more, taken_size}
use Rattle.device_core.proofs.Chunks.{none_before, run_size, first_run_some}
use Rattle.device_core.proofs.filling.scan.Goals as goal

pub loop-end-init : goal.loop-end-init
loop-end-init c = record {
  goes = refl;
  filled = none_used c.args.pending.now c.args.piece.now c.args.begins c.requires.pending;
  after = omega arith;
  fits = omega (arith, c.requires.within);
}

pub returns-then-len-ne0-clause-before : goal.returns-then-len-ne0-clause-before
returns-then-len-ne0-clause-before c n l = none_before c.args.pending.now c.args.piece.now c.loop-end.end n (omega arith) c.loop-end.invariant.filled.none

pub returns-then-len-ne0-clause-scans : goal.returns-then-len-ne0-clause-scans
returns-then-len-ne0-clause-scans c =
    let i = c.loop-end.invariant in
    let size = taken_size c.args.piece.now c.loop-end.start c.loop-end.end i.after i.filled.inside in
    ends i.filled c.loop-end-test.true
    (λ none. c.if-len-ne0.true (omega (arith, none, size, length-append c.args.pending.now (taken c.args.piece.now c.loop-end.start c.loop-end.end))))
    c.if-empty_line.true

pub loop-end-preserved-then-empty_line : goal.loop-end-preserved-then-empty_line
loop-end-preserved-then-empty_line c =
    let i = c.loop-end.invariant in
    let next : ℕ = c.loop-end.end + 1 in
    let old : c.args.pending.now ++ taken c.args.piece.now c.loop-end.start c.loop-end.end ≡ [] = nothing_held c.args.pending.now c.args.piece.now c.loop-end.start c.loop-end.end c.if-len-ne0.false in
    let new : c.args.pending.now ++ taken c.args.piece.now next next ≡ [] = nothing_held c.args.pending.now c.args.piece.now next next (omega (arith, c.if-len-ne0.false)) in
    record {
      filled = subst (λ held. Filling c.args.pending.now c.args.piece.now next held c.loop-end.at_start) (old ∙ sym new) (skips i.filled c.loop-end-test.true old c.if-empty_line.true);
      after = omega arith;
      fits = omega (arith, c.if-len-ne0.false);
      goes = i.goes;
    }

pub returns-then-free-run-clause-before : goal.returns-then-free-run-clause-before
returns-then-free-run-clause-before c n l =
    let i = c.loop-end.invariant in
    let piece : List ℕ = c.args.piece.now in
    let free : ℕ = c.args.room - (length c.args.pending.now + (c.loop-end.end - c.loop-end.start)) in
    let run = run_size piece c.loop-end.end c.run_length-run.result c.loop-end-test.true c.run_length-run.ensures.value c.run_length-run.ensures.within in
    let shorter : free < c.run_length-run.result = c.if-free-run.true in
    let below = stays free i.filled c.if-empty_line.false (omega (arith, run.0, shorter)) in
    none_before c.args.pending.now piece (c.loop-end.end + free) n (omega arith) below.0

pub returns-then-free-run-clause-scans : goal.returns-then-free-run-clause-scans
returns-then-free-run-clause-scans c =
    let i = c.loop-end.invariant in
    let piece : List ℕ = c.args.piece.now in
    let free : ℕ = c.args.room - (length c.args.pending.now + (c.loop-end.end - c.loop-end.start)) in
    let run = run_size piece c.loop-end.end c.run_length-run.result c.loop-end-test.true c.run_length-run.ensures.value c.run_length-run.ensures.within in
    let shorter : free < c.run_length-run.result = c.if-free-run.true in
    let inside : c.loop-end.end + free < length piece = omega (arith, run.1, shorter) in
    let size = taken_size piece c.loop-end.start (c.loop-end.end + free) (omega (arith, i.after)) (omega (arith, inside)) in
    overflows free c.args.room (c.args.pending.now ++ taken piece c.loop-end.start (c.loop-end.end + free)) i.filled c.if-empty_line.false (omega (arith, run.0, shorter)) inside
    (ap (λ l. c.args.pending.now ++ l) (taken_more piece c.loop-end.start c.loop-end.end free i.after) ∙ sym (append_assoc c.args.pending.now _ _))
    (length-append c.args.pending.now _ ∙ omega (arith, size, i.after, i.fits))

pub loop-end-preserved : goal.loop-end-preserved
loop-end-preserved c =
    let i = c.loop-end.invariant in
    let piece : List ℕ = c.args.piece.now in
    let n : ℕ = c.run_length-run.result in
    let run = run_size piece c.loop-end.end n c.loop-end-test.true c.run_length-run.ensures.value c.run_length-run.ensures.within in
    let some : 0 < n = rw run.0 (first_run_some piece c.loop-end.end c.loop-end-test.true) in
    record {
      filled = puts n (c.args.pending.now ++ taken piece c.loop-end.start (c.loop-end.end + n)) i.filled c.if-empty_line.false some (omega (arith, run.0)) run.1
          (ap (λ l. c.args.pending.now ++ l) (taken_more piece c.loop-end.start c.loop-end.end n i.after) ∙ sym (append_assoc c.args.pending.now _ _));
      after = omega (arith, i.after);
      fits = omega (arith, i.fits, i.after, c.if-free-run.false);
      goes = i.goes;
    }

pub returns-after-loop-end-clause-used : goal.returns-after-loop-end-clause-used
returns-after-loop-end-clause-used c = rw c.loop-end.invariant.goes c.loop-end.invariant.filled.inside

pub returns-after-loop-end-clause-before : goal.returns-after-loop-end-clause-before
returns-after-loop-end-clause-before c n l =
    let used : n < c.loop-end.end = rw c.loop-end.invariant.goes at l in
    none_before c.args.pending.now c.args.piece.now c.loop-end.end n (omega (arith, used)) c.loop-end.invariant.filled.none

pub returns-after-loop-end-clause-scans : goal.returns-after-loop-end-clause-scans
returns-after-loop-end-clause-scans c =
    let f = c.loop-end.invariant.filled in
    rw c.loop-end.invariant.goes (record {
      all = omega (arith, f.inside, c.loop-end-test.false);
      none = f.none;
      rest = f.rest;
      pending = held_is_pending (c.args.pending.now ++ _) (c.args.pending.now ++ taken c.args.piece.now c.loop-end.start c.loop-end.end) c.loop-end.at_start f.rest f.begins;
    })
