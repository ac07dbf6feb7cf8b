use Rattle.std.proofs.Common.{[], sym, ap, ◌∙◌}
use Rattle.rule_tokens.specs.Cuts.{copied}
use Rattle.eval_rendering.specs.Lengthened.{lengthened}
use Rattle.eval_rendering.specs.Names.{name_piece}
use Rattle.eval_rendering.proofs.Naming.{lengthened_nothing, name_ends, name_proceeds, name_stops}
use Rattle.eval_rendering.proofs.names.rendered_name.Goals as goal

pub returns-in_default-kept : goal.returns-in_default-kept
returns-in_default-kept c =
    sym (name_stops (record c.args.state.now { selected = c.args.selected }) c.in-Some.byte.now c.in-Some.after.now c.loop-byte.rest.now c.loop-byte.text c.in-Some.ensures.cases.0 (sym c.in_default-kept.ensures.value) c.loop-byte.invariant.fits)
    ∙ c.loop-byte.invariant.whole

pub loop-byte-preserved : goal.loop-byte-preserved
loop-byte-preserved c =
    let state = record c.args.state.now { selected = c.args.selected } in
    let piece = name_piece state (copied c.in-Some-kept.cut) in record {
      whole =
          name_proceeds state c.in-Some.byte.now c.in-Some.after.now c.loop-byte.rest.now (copied c.in-Some-kept.cut) c.in-Some-kept.next.now c.loop-byte.text c.push_cut.new.text
          c.in-Some.ensures.cases.0 (sym c.in-Some-kept.ensures.value) c.push_cut.ensures
          ∙ c.loop-byte.invariant.whole;
      fits = ap (λ s. lengthened s []) c.push_cut.ensures ∙ lengthened_nothing c.loop-byte.text piece ∙ sym c.push_cut.ensures;
    }

pub loop-byte-preserved-in-Some-kept : goal.loop-byte-preserved-in-Some-kept
loop-byte-preserved-in-Some-kept c =
    let state = record c.args.state.now { selected = c.args.selected } in
    let piece = name_piece state (copied c.in-Some-kept.cut) in record {
      whole =
          name_proceeds state c.in-Some.byte.now c.in-Some.after.now c.loop-byte.rest.now (copied c.in-Some-kept.cut) c.in-Some-kept.next.now c.loop-byte.text c.push_cut.new.text
          c.in-Some.ensures.cases.0 (sym c.in-Some-kept.ensures.value) c.push_cut.ensures
          ∙ c.loop-byte.invariant.whole;
      fits = ap (λ s. lengthened s []) c.push_cut.ensures ∙ lengthened_nothing c.loop-byte.text piece ∙ sym c.push_cut.ensures;
    }

pub loop-byte-preserved-in-Some-kept-2 : goal.loop-byte-preserved-in-Some-kept-2
loop-byte-preserved-in-Some-kept-2 c =
    let state = record c.args.state.now { selected = c.args.selected } in
    let piece = name_piece state (copied c.in-Some-kept.cut) in record {
      whole =
          name_proceeds state c.in-Some.byte.now c.in-Some.after.now c.loop-byte.rest.now (copied c.in-Some-kept.cut) c.in-Some-kept.next.now c.loop-byte.text c.push_cut.new.text
          c.in-Some.ensures.cases.0 (sym c.in-Some-kept.ensures.value) c.push_cut.ensures
          ∙ c.loop-byte.invariant.whole;
      fits = ap (λ s. lengthened s []) c.push_cut.ensures ∙ lengthened_nothing c.loop-byte.text piece ∙ sym c.push_cut.ensures;
    }

pub loop-byte-preserved-in-Some-kept-3 : goal.loop-byte-preserved-in-Some-kept-3
loop-byte-preserved-in-Some-kept-3 c =
    let state = record c.args.state.now { selected = c.args.selected } in
    let piece = name_piece state (copied c.in-Some-kept.cut) in record {
      whole =
          name_proceeds state c.in-Some.byte.now c.in-Some.after.now c.loop-byte.rest.now (copied c.in-Some-kept.cut) c.in-Some-kept.next.now c.loop-byte.text c.push_cut.new.text
          c.in-Some.ensures.cases.0 (sym c.in-Some-kept.ensures.value) c.push_cut.ensures
          ∙ c.loop-byte.invariant.whole;
      fits = ap (λ s. lengthened s []) c.push_cut.ensures ∙ lengthened_nothing c.loop-byte.text piece ∙ sym c.push_cut.ensures;
    }

pub loop-byte-preserved-in-Some-kept-4 : goal.loop-byte-preserved-in-Some-kept-4
loop-byte-preserved-in-Some-kept-4 c =
    let state = record c.args.state.now { selected = c.args.selected } in
    let piece = name_piece state (copied c.in-Some-kept.cut) in record {
      whole =
          name_proceeds state c.in-Some.byte.now c.in-Some.after.now c.loop-byte.rest.now (copied c.in-Some-kept.cut) c.in-Some-kept.next.now c.loop-byte.text c.push_cut.new.text
          c.in-Some.ensures.cases.0 (sym c.in-Some-kept.ensures.value) c.push_cut.ensures
          ∙ c.loop-byte.invariant.whole;
      fits = ap (λ s. lengthened s []) c.push_cut.ensures ∙ lengthened_nothing c.loop-byte.text piece ∙ sym c.push_cut.ensures;
    }

pub returns : goal.returns
returns c =
    sym (name_ends (record c.args.state.now { selected = c.args.selected }) c.loop-byte.rest.now c.loop-byte.text c.in_default.ensures.cases c.loop-byte.invariant.fits)
    ∙ c.loop-byte.invariant.whole
