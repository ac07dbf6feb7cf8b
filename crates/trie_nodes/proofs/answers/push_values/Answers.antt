use Rattle.std.proofs.Common.{◌∷◌, [], ◌∙◌, ap}
use Rattle.std.proofs.lemmas.List.{map-append}
use Rattle.trie_nodes.specs.Found.{found_entries, found_entry}
use Rattle.trie_nodes.proofs.Listing.{push_next}
use Rattle.trie_nodes.proofs.answers.push_values.Goals as goal

pub loop-j-preserved : goal.loop-j-preserved
loop-j-preserved g c =
    push_next (g.D.Database.values c.args.database.now) (found_entries c.loop-j.found.items) (found_entries c.push.new.self.items) (found_entry c.value.result) c.loop-j.j c.values_of-numbers.result.end c.loop-j-test.true
    c.value.ensures (ap found_entries c.in_ok-push.ensures.items ∙ map-append found_entry c.loop-j.found.items (c.value.result ∷ [])) ∙ c.loop-j.invariant
