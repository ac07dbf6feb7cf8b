use Rattle.std.proofs.Common.{map, take, drop}
use Rattle.text_tables.specs.Surplus.{ShownLine, line_of, surplus_by}
use Rattle.text_tables.proofs.Tallying.{Proceeds}
use Rattle.text_tables.proofs.tallies.surplus.Given as goal

abbrev pub invariant-loop-line : goal.invariant-loop-line
invariant-loop-line l =
    Proceeds line_of l.tally (map {B = ShownLine} (λ p. (p.0.now, p.1.now)) l.more.items) (map (λ p. p.0.now) (take l.line-index l.lines)) (map {B = ShownLine} (λ p. (p.0.now, p.1.now)) (drop l.line-index l.lines))
    (surplus_by line_of (map {B = ShownLine} (λ p. (p.0.now, p.1.now)) l.lines) (map (λ p. p.0.now) l.fn.others)) (map (λ p. p.0.now) l.fn.others)
