use Rattle.std.proofs.Common.{◌≡◌, drop, None, Option, sym, ◌∙◌, ap}
use Rattle.std.specs.Option.{option_map}
use Rattle.text_core.specs.Brackets.{closed_of}
use Rattle.text_core.specs.Spell.{sign_len}
use Rattle.text_core.specs.declared.brackets.Expression.{Expression}
use Rattle.text_core.proofs.Fnmatching.{bracket_by, bracket_set}
use Rattle.text_core.proofs.fnmatch.bracket.Goals as goal

pub returns-in_default-clause-value : goal.returns-in_default-clause-value
returns-in_default-clause-value c =
    let back : c.split_at.result.1.now ≡ drop (sign_len c.args.after.now) c.args.after.now = cc (c.split_at.ensures.back, c.sign_len-sign.ensures.value) in
    c.alone.ensures
    ∙ bracket_by c.args.reading c.args.after.now c.split_at.result.1.now None back (sym (ap (λ (e : Option Expression). option_map closed_of e) c.in_default.is) ∙ c.in_ok-expression.ensures.value)

pub returns-clause-value : goal.returns-clause-value
returns-clause-value c =
    let back : c.split_at.result.1.now ≡ drop (sign_len c.args.after.now) c.args.after.now = cc (c.split_at.ensures.back, c.sign_len-sign.ensures.value) in
    bracket_set c.args.reading c.args.after.now c.split_at.result.1.now (closed_of c.in-Some.expression) c.set_of.result c.is_negated.result c.as_slice.result.now back
    (sym (ap (λ (e : Option Expression). option_map closed_of e) c.in-Some.is) ∙ c.in_ok-expression.ensures.value)
    c.set_of.ensures c.is_negated.ensures c.as_slice.ensures.value
