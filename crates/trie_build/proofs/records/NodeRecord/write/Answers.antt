use Rattle.std.proofs.Common.{◌≡◌, [], ◌∷◌, flat_map, refl}
use Rattle.trie_build.specs.Numbers.{number_bytes}
use Rattle.trie_build.specs.Records.{node_bytes}
use Rattle.trie_build.proofs.Written.{all_after}
use Rattle.trie_build.proofs.records.NodeRecord.write.Goals as goal

pub returns-clause-node : goal.returns-clause-node
returns-clause-node c =
    let n = c.args.self.now in
    let numbers : c.put_numbers.new.bytes ≡ flat_map number_bytes (n.set ∷ n.first ∷ n.count ∷ n.first_value ∷ n.values ∷ []) = c.put_numbers.ensures in
    all_after c.extend_from_slice.result _ _ _ (node_bytes n) c.extend_from_slice.ensures.items (rw (c.copy_from_slice.ensures.after, numbers) (refl {a = node_bytes n}))
