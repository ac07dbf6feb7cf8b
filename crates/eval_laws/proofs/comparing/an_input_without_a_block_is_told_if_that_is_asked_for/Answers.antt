use Rattle.std.proofs.Common.{◌||◌, true, false, Bool, ◌≡◌, refl, ap, ap₂, ◌∙◌}
use Rattle.engine_sessions.specs.Readers.{is_for_people}
use Rattle.eval_laws.proofs.OneBlock.{none_told}
use Rattle.eval_laws.proofs.comparing.an_input_without_a_block_is_told_if_that_is_asked_for.Goals as goal

either : (a : Bool) → (a || true) ≡ true
either true = refl
either false = refl

pub returns : goal.returns
returns c = record {
  all = λ line found opening unused all. none_told line found opening unused true (ap (λ (b : Bool). b || is_for_people line.format) all);
  people = λ line found opening unused people. none_told line found opening unused true (ap (λ (b : Bool). line.all || b) people ∙ either line.all);
  unasked = λ line found opening unused all people. none_told line found opening unused false (ap₂ (λ (a b : Bool). a || b) all people);
}
