use Rattle.std.proofs.Common.{◌≡◌, ◌*◌, ◌<◌, length, ap, ◌∙◌, arith, ℕ, List, below_more, get_or, get_or-set_same, get_or-set_other, ◌≢◌, rules}
use Rattle.std.proofs.lemmas.List.FromFn.{fill_by_all}
use Rattle.text_core.specs.Brackets.{between_takes}
use Rattle.text_core.specs.Sets.{set_of, bits_of}
use Rattle.text_core.specs.declared.byte_set.ByteSet.{ByteSet}
use Rattle.text_core.proofs.sets.set_of.Goals as goal

pub loop-i-preserved : goal.loop-i-preserved
loop-i-preserved c = record {
  len = search rules;
  done = below_more _ _
      (λ k h. let other : k ≢ c.loop-i.i = omega arith in rw get_or-set_other (c.loop-i.invariant.done k h))
      (let within : c.loop-i.i < length c.loop-i.bits = omega arith in
      let reversed : c.loop-i.i * 8 ≡ 8 * c.loop-i.i = omega arith in
      rw get_or-set_same (c.membership_byte.ensures ∙ ap (λ (n : ℕ). bits_of (between_takes c.args.reading c.args.negated c.args.between) n 8) reversed));
}

pub returns : goal.returns
unfolding set_of
returns c =
    let all : (k : ℕ) → k < 32 → get_or c.loop-i.bits k 0 ≡ bits_of (between_takes c.args.reading c.args.negated c.args.between) (8 * k) 8 = λ k h. c.loop-i.invariant.done k (omega arith) in
    ap (λ (bits : List ℕ). let set : ByteSet = record { bits = bits } in set) (fill_by_all (λ i. bits_of (between_takes c.args.reading c.args.negated c.args.between) (8 * i) 8) c.loop-i.bits 32 0 c.loop-i.invariant.len all)
