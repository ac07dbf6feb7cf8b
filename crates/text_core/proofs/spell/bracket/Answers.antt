use Rattle.std.proofs.Common.{◌≡◌, sym, ◌∙◌, drop}
use Rattle.text_core.specs.Sets.{set_of, set_takes}
use Rattle.text_core.specs.Spell.{sign_len}
use Rattle.text_core.proofs.Opened.{bracket_open, bracket_class, bracket_set}
use Rattle.text_core.proofs.spell.bracket.Goals as goal

pub returns-in_default-clause-value : goal.returns-in_default-clause-value
returns-in_default-clause-value c =
    let body : c.split_at.result.1.now ≡ drop (sign_len c.args.after.now) c.args.after.now = cc (c.split_at.ensures.back, c.sign_len-sign.ensures.value) in
    rw c.alone.ensures (sym (bracket_open c.args.reading c.args.at c.args.after.now c.split_at.result.1.now body (sym c.members_len.ensures.value ∙ c.in_default.is)))

pub returns-in-Some-class_place-clause-value : goal.returns-in-Some-class_place-clause-value
returns-in-Some-class_place-clause-value c =
    let body : c.split_at.result.1.now ≡ drop (sign_len c.args.after.now) c.args.after.now = cc (c.split_at.ensures.back, c.sign_len-sign.ensures.value) in
    let class = bracket_class c.args.reading c.args.at c.args.after.now c.split_at.result.1.now body c.in-Some.len c.split_at-2.result.0.now (sym c.in-Some.ensures.value) c.split_at-2.ensures.front c.in-Some-class_place.place (sym c.in-Some-class_place.ensures.value) in
    cc (class, c.sign_len-sign.ensures.value)

pub returns-clause-value : goal.returns-clause-value
returns-clause-value c =
    let body : c.split_at.result.1.now ≡ drop (sign_len c.args.after.now) c.args.after.now = cc (c.split_at.ensures.back, c.sign_len-sign.ensures.value) in
    let set = bracket_set c.args.reading c.args.at c.args.after.now c.split_at.result.1.now body c.in-Some.len c.split_at-2.result.0.now (sym c.in-Some.ensures.value) c.split_at-2.ensures.front (sym c.class_place.ensures.value ∙ c.in_default-class_place.is) in
    let made : c.set_of.result ≡ set_of (set_takes c.args.reading c.is_negated.result c.split_at-2.result.0.now) = c.set_of.ensures in
    cc (set, made, c.is_negated.ensures, c.sign_len-sign.ensures.value)
