use Rattle.std.proofs.Common.{◌≡◌, [], rules, true, sym, ◌∙◌, arith}
use Rattle.text_core.specs.Brackets.{elements_at}
use Rattle.text_core.specs.Elements.{symbol_len}
use Rattle.text_core.proofs.Tables.{reports_drop, reports_tail}
use Rattle.text_core.proofs.Closing.{elements_close, elements_end, elements_more, elements_open, with_elements-none}
use Rattle.text_core.proofs.brackets.read_to_end.Goals as goal

pub loop-byte-init : goal.loop-byte-init
loop-byte-init c = record {
  read =
      let none : c.new-elements.result.items ≡ [] = search rules in
      rw none (with_elements-none (elements_at c.args.reading true c.args.text.now 0));
  rest = omega arith;
  symbols = c.requires;
}

pub element_of-requires : goal.element_of-requires
element_of-requires c =
    reports_tail symbol_len c.args.lens.now c.loop-byte.rest.now c.in-Some.byte.now c.in-Some.after.now c.loop-byte.invariant.symbols c.in-Some.ensures.cases.0

pub returns-then-closes_set-clause-value : goal.returns-then-closes_set-clause-value
returns-then-closes_set-clause-value c =
    sym (elements_close c.args.reading c.loop-byte.is_first c.loop-byte.elements.items c.in-Some.byte.now c.in-Some.after.now c.loop-byte.rest.now c.in-Some.ensures.cases.0
    (sym c.closes_set.ensures ∙ c.if-closes_set.true))
    ∙ c.loop-byte.invariant.read

pub returns-in_default-element_of-clause-value : goal.returns-in_default-element_of-clause-value
returns-in_default-element_of-clause-value c =
    sym (elements_open c.args.reading c.loop-byte.is_first c.loop-byte.elements.items c.in-Some.byte.now c.in-Some.after.now c.loop-byte.rest.now c.in-Some.ensures.cases.0
    (sym c.closes_set.ensures ∙ c.if-closes_set.false) (sym c.element_of.ensures.value ∙ c.in_default-element_of.is))
    ∙ c.loop-byte.invariant.read

pub loop-byte-preserved : goal.loop-byte-preserved
loop-byte-preserved c = record {
  read = rw c.in_ok-push.ensures.items (
      elements_more c.args.reading c.loop-byte.is_first c.loop-byte.elements.items c.in-Some.byte.now c.in-Some.after.now c.loop-byte.rest.now c.in-Some.ensures.cases.0
      c.in-Some-element_of.found c.split_at.result.1.now (sym c.closes_set.ensures ∙ c.if-closes_set.false) (sym c.in-Some-element_of.ensures.value) c.split_at.ensures.back
      ∙ c.loop-byte.invariant.read);
  rest = omega (arith, c.in-Some.ensures.cases.1, c.split_at.ensures.back_len);
  symbols =
      reports_drop symbol_len c.args.lens.now c.in-Some.after.now c.split_at.result.1.now c.in-Some-element_of.found.following
      (reports_tail symbol_len c.args.lens.now c.loop-byte.rest.now c.in-Some.byte.now c.in-Some.after.now c.loop-byte.invariant.symbols c.in-Some.ensures.cases.0)
      c.split_at.ensures.back;
}

pub returns-clause-value : goal.returns-clause-value
returns-clause-value c =
    sym (elements_end c.args.reading c.loop-byte.is_first c.loop-byte.elements.items c.loop-byte.rest.now c.in_default.ensures.cases) ∙ c.loop-byte.invariant.read
