use Rattle.std.proofs.Common.{rules, ◌≡◌, ◌++◌, None, ◌∙◌}
use Rattle.trie_nodes.specs.Query.{query, shown}
use Rattle.eval_commands.proofs.Filtering.{all_count}
use Rattle.eval_commands.proofs.lookups.counted_properties.Goals as goal

pub returns-in_default : goal.returns-in_default
returns-in_default g c =
    let none : c.args.request.now.filter ≡ None = search rules in
    let is : shown c.in_ok-found.found.items ≡ query (g.K.Knowledge.known c.args.knowledge.now).entries (c.args.request.now.prefix ++ c.args.modalias.now) = search rules in
    rw none (is ∙ all_count _)
