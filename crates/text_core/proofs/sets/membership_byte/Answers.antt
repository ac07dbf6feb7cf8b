use Rattle.std.proofs.Common.{◌≡◌, ◌+◌, ◌-◌, ◌*◌, ◌<◌, ◌≤◌, Bool, true, false, cond, refl, sym, ◌∙◌, ap, subst, arith, ℕ}
use mir.Val.{bool_byte}
use Rattle.text_core.specs.Brackets.{between_takes}
use Rattle.text_core.specs.Sets.{bits_of}
use Rattle.text_core.proofs.Members.{bits_of-none, bits_of_small, bits_of-more}
use Rattle.text_core.proofs.sets.membership_byte.Goals as goal

bool_byte-cond : (b : Bool) → bool_byte b ≡ cond b 1 0
bool_byte-cond true = refl
bool_byte-cond false = refl

cond_le_one : (b : Bool) → cond b 1 0 ≤ 1
cond_le_one true = omega arith
cond_le_one false = omega arith

pub loop-j-init : goal.loop-j-init
loop-j-init c = sym (bits_of-none (between_takes c.args.reading c.args.negated c.args.between) (c.args.first + 8))

pub overflow_mul-bits : goal.overflow_mul-bits
overflow_mul-bits c =
    let small : c.loop-j.bits < 128 = subst (λ (n : ℕ). n < 128) (sym c.loop-j.invariant) (bits_of_small (between_takes c.args.reading c.args.negated c.args.between) (c.args.first + (8 - c.loop-j.j)) c.loop-j.j c.loop-j-test.true) in
    omega arith

pub overflow_add-bits : goal.overflow_add-bits
overflow_add-bits c =
    let small : c.loop-j.bits < 128 = subst (λ (n : ℕ). n < 128) (sym c.loop-j.invariant) (bits_of_small (between_takes c.args.reading c.args.negated c.args.between) (c.args.first + (8 - c.loop-j.j)) c.loop-j.j c.loop-j-test.true) in
    let one : cond c.takes.result 1 0 ≤ 1 = cond_le_one c.takes.result in
    let is : c.from.result ≡ cond c.takes.result 1 0 = c.from.ensures ∙ bool_byte-cond c.takes.result in
    omega arith

pub loop-j-preserved : goal.loop-j-preserved
loop-j-preserved c =
    let p : ℕ → Bool = between_takes c.args.reading c.args.negated c.args.between in
    let at : ℕ = c.args.first + (7 - c.loop-j.j) in
    let same : at ≡ c.args.first + (8 - (c.loop-j.j + 1)) = omega arith in
    let next : at + 1 ≡ c.args.first + (8 - c.loop-j.j) = omega arith in
    let is : c.from.result ≡ cond (p at) 1 0 = c.from.ensures ∙ bool_byte-cond c.takes.result ∙ ap (λ (b : Bool). cond b 1 0) c.takes.ensures in
    let step : bits_of p at (c.loop-j.j + 1) ≡ cond (p at) 1 0 + 2 * bits_of p (c.args.first + (8 - c.loop-j.j)) c.loop-j.j = bits_of-more p at (c.args.first + (8 - c.loop-j.j)) c.loop-j.j next in
    let now : c.loop-j.bits ≡ bits_of p (c.args.first + (8 - c.loop-j.j)) c.loop-j.j = c.loop-j.invariant in
    let sum : c.loop-j.bits * 2 + c.from.result ≡ cond (p at) 1 0 + 2 * bits_of p (c.args.first + (8 - c.loop-j.j)) c.loop-j.j = omega (arith, is, now) in
    sum ∙ sym step ∙ ap (λ (n : ℕ). bits_of p n (c.loop-j.j + 1)) same
