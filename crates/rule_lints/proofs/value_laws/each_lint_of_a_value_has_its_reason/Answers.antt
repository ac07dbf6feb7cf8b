use Rattle.std.proofs.Common.{◌≡◌, Bool, true, false, ◌&&◌, Option, None, option_and_then, refl, ap, ◌∙◌}
use Rattle.std.specs.Bool.{then_some}
use Rattle.text_bytes.specs.Text.{Text}
use Rattle.rule_lints.specs.Parts.{comparison_of}
use Rattle.rule_lints.specs.Never.{idle_value}
use Rattle.rule_lints.specs.Values.{is_compared}
use Rattle.rule_lints.specs.declared.subjects.Subject.{Subject}
use Rattle.rule_lints.proofs.value_laws.each_lint_of_a_value_has_its_reason.Goals as goal

no_text : (compared : Bool) (value : Text) → then_some (compared && false) value ≡ None
no_text true value = refl
no_text false value = refl

pub returns : goal.returns
returns c = record {
  never = λ s w e. ap (λ (o : Option Subject). option_and_then (λ subject. option_and_then (idle_value subject) (comparison_of w.part)) o) e;
  blank = λ s w e. ap (λ (b : Bool). then_some (is_compared w.part && b) w.token.parts.value) e ∙ no_text (is_compared w.part) w.token.parts.value;
}
