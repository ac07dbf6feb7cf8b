use Rattle.std.proofs.Common.{◌≡◌, ◌+◌, ◌-◌, ◌++◌, length, ap, arith, length-append}
use Rattle.std.proofs.lemmas.List.{take_at}
use Rattle.text_bytes.specs.Text.{Text}
use Rattle.eval_state.specs.Named.{NamedValue}
use Rattle.eval_assignments.specs.Attributes.{named_whole}
use Rattle.eval_laws.proofs.naming.an_attribute_above_keeps_what_stands_before_it.Goals as goal

kept : (is : NamedValue) (front found : Text) → named_whole is (front ++ is.attribute) found ≡ front ++ found
kept is front found =
    let long : length (front ++ is.attribute) ≡ length front + length is.attribute = length-append front is.attribute in
    ap (λ (text : Text). text ++ found) (take_at front is.attribute (length (front ++ is.attribute) - length is.attribute) (omega (arith, long)))

pub returns : goal.returns
returns c = kept
