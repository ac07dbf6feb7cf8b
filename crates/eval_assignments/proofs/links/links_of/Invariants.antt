use Rattle.std.proofs.Common.{◌≡◌, ◌++◌, drop, map, option_map}
use Rattle.std.specs.Option.{option_or}
use Rattle.eval_assignments.specs.Links.{first_refused, plain_links}
use Rattle.eval_assignments.proofs.links.links_of.Given as goal

abbrev pub invariant-loop-word : goal.invariant-loop-word
invariant-loop-word l = record {
  kept : l.links.kept.items ++ plain_links (map (λ t. t.now) (drop l.word-index l.words)) ≡ plain_links (map (λ t. t.now) l.fn.words);
  refused : option_or (option_map (λ t. t.now) l.links.refused) (first_refused (map (λ t. t.now) (drop l.word-index l.words))) ≡ first_refused (map (λ t. t.now) l.fn.words);
}
