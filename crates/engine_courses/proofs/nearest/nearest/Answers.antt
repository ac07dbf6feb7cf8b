use Rattle.std.proofs.Common.{Some, option_map, ap, sym, ◌∙◌}
use Rattle.engine_courses.specs.Nearest.{Candidate}
use Rattle.engine_courses.proofs.Passing.{all_seen, one_more, with_next}
use Rattle.engine_courses.proofs.nearest.nearest.Goals as goal
use Rattle.engine_courses.proofs.nearest.nearest.Goals.{in-Some, in_default}

pub loop-place-preserved : goal.loop-place-preserved
loop-place-preserved c =
    let more = one_more c.args.text.now c.args.places.now c.loop-place.place-index c.place-item.result c.loop-place-test.true c.place-item.is in
    elim c.match-candidate_of.branch [
      | in-Some w ↦
          w.best-is
          ∙ w.nearer.ensures
          ∙ ap (λ best. with_next best (Some w.in-Some.found)) c.loop-place.invariant
          ∙ ap (with_next _) (sym w.in-Some.is ∙ c.candidate_of.ensures)
          ∙ sym more
      | in_default w ↦
          w.best-is
          ∙ c.loop-place.invariant
          ∙ ap (with_next _) (sym w.in_default.is ∙ c.candidate_of.ensures)
          ∙ sym more
    ]

pub returns-in-Some-best : goal.returns-in-Some-best
returns-in-Some-best c =
    ap Some (ap (λ (near : Candidate). near.1) c.found.view_is)
    ∙ ap (option_map (λ found. found.1)) (sym c.in-Some-best.is ∙ c.loop-place.invariant)
    ∙ all_seen c.args.text.now c.args.places.now c.loop-place.place-index c.loop-place-test.false

pub returns-in-None : goal.returns-in-None
returns-in-None c =
    ap (option_map (λ found. found.1)) (sym c.in-None.is ∙ c.loop-place.invariant)
    ∙ all_seen c.args.text.now c.args.places.now c.loop-place.place-index c.loop-place-test.false
