use Rattle.std.proofs.Common.{◌≡◌, ℕ, List, ◌∷◌, [], ◌++◌, length, Option, None, ap, arith, ◌∙◌}
use Rattle.text_core.specs.Elements.{symbol_len}
use Rattle.text_core.proofs.Reaching.{symbol_len-none}
use Rattle.text_core.proofs.Tables.{end_next, reports_after, reports_all, reports_longer, reports_start}
use Rattle.text_core.proofs.symbols.symbol_lens.Goals as goal

pub loop-left-init : goal.loop-left-init
loop-left-init c =
    let pushed : c.push.new.self.items ≡ None ∷ [] = c.in_ok-push.ensures.items ∙ ap (λ (ls : List (Option ℕ)). ls ++ None ∷ []) c.in_ok-lens.ensures.items in
    record {
      reported = reports_start symbol_len None c.push.new.self.items c.args.text.now pushed symbol_len-none;
      len = ap length pushed;
    }

pub next_len-len-requires : goal.next_len-len-requires
next_len-len-requires c =
    rw c.as_slice.ensures.value (
    reports_after symbol_len c.loop-left.lens.items c.args.text.now c.split_at.result.1.now c.loop-left.left c.loop-left.invariant.reported c.loop-left-test.true c.split_at.ensures.back)

pub loop-left-preserved : goal.loop-left-preserved
loop-left-preserved c = record {
  reported =
      reports_longer symbol_len c.loop-left.lens.items c.push-in-loop-left.new.self.items c.next_len-len.result c.args.text.now c.loop-left.left
      c.loop-left.invariant.reported c.loop-left.invariant.len c.loop-left-test.true
      (c.next_len-len.ensures ∙ ap symbol_len (end_next c.args.text.now c.split_at.result.1.now c.loop-left.left c.split_at.ensures.back))
      c.in_ok-push-2.ensures.items;
  len = omega (arith, c.in_ok-push-2.ensures.len);
}

pub returns : goal.returns
returns c = reports_all symbol_len c.loop-left.lens.items c.args.text.now c.loop-left.left c.loop-left.invariant.reported c.loop-left-test.false
