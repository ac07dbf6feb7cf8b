use Rattle.std.proofs.Common.{◌≡◌, ◌<◌, ◌+◌, ◌-◌, ap, sym, ◌∙◌, drop, length, take, arith, drop-drop, length-drop, false}
use Rattle.device_core.specs.Filling.{first_run, has_empty_line}
use Rattle.device_core.proofs.RunEnds.{chunk_goes_on}
use Rattle.device_core.proofs.run_ends.run_length.Goals as goal

pub loop-len-preserved : goal.loop-len-preserved
loop-len-preserved c =
    let text = drop c.loop-len.len c.args.text.now in
    let size : c.loop-len.len + 64 + 1 - c.loop-len.len ≡ 65 = omega arith in
    let none : has_empty_line (take 65 text) ≡ false = sym (c.has_empty_line.ensures ∙ ap (λ n. has_empty_line (take n text)) size) ∙ c.if-has_empty_line.false in
    let here : 64 < length text = omega (arith, c.loop-len-test.true, length-drop c.loop-len.len c.args.text.now) in
    let on = chunk_goes_on 64 text here none in
    let next : length (first_run (drop 64 text)) ≡ length (first_run (drop (c.loop-len.len + 64) c.args.text.now)) = ap (λ t. length (first_run t)) (drop-drop 64 c.loop-len.len c.args.text.now) in
    record {
      within = omega arith;
      goes = omega (arith, c.loop-len.invariant.goes, on, next);
    }
