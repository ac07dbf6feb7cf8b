use Rattle.std.proofs.Common.{◌≡◌, ◌∷◌, drop, map}
use Rattle.std.specs.List.{join_with_byte}
use Rattle.text_bytes.specs.Names.{minus}
use Rattle.builtin_path.proofs.texts.joined.Given as goal

abbrev pub invariant-loop-text : goal.invariant-loop-text
invariant-loop-text l =
    join_with_byte minus (l.whole.items ∷ map (λ t. t.now) (drop l.text-index l.others))
    ≡ join_with_byte minus (map (λ t. t.now) l.fn.texts)
