use Rattle.std.proofs.Common.{◌≡◌, false, refl, rules, tests}
use Rattle.std.proofs.lemmas.Iterator.{YieldsList-from_slice}
use Rattle.std.proofs.lemmas.Iterator.Search.{any_from_yields_List}
use Rattle.std.specs.List.{list_any}
use Rattle.text_core.specs.Fnmatch.{is_special}
use Rattle.rule_remarks.proofs.form.parts_form.Goals as goal

pub returns-in-false-true : goal.returns-in-false-true
returns-in-false-true c =
    let none : false ≡ list_any is_special c.args.text.now =
    any_from_yields_List is_special _ _ false c.in-false-true.ensures.ran (YieldsList-from_slice c.args.text.now (cc)) (λ x b q k. search (rules, tests)) in
    rw (← none, ← c.in-false-true.ensures') refl

pub returns-in-false-false : goal.returns-in-false-false
returns-in-false-false c =
    let none : false ≡ list_any is_special c.args.text.now =
    any_from_yields_List is_special _ _ false c.in-false-false.ensures.ran (YieldsList-from_slice c.args.text.now (cc)) (λ x b q k. search (rules, tests)) in
    rw (← none, ← c.in-false-false.ensures') refl
