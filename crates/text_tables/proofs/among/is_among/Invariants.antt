use Rattle.std.proofs.Common.{◌≡◌, drop, map}
use Rattle.text_tables.specs.Texts.{is_among}
use Rattle.text_tables.proofs.among.is_among.Given as goal

abbrev pub invariant-loop-other : goal.invariant-loop-other
invariant-loop-other l = is_among (map (λ t. t.now) (drop l.other-index l.texts)) l.text ≡ is_among (map (λ t. t.now) l.texts) l.text
