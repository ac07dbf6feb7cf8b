use Rattle.std.proofs.Common.{◌≡◌, [], ◌∷◌, flat_map, refl}
use Rattle.trie_build.specs.Header.{header_bytes}
use Rattle.trie_build.specs.Numbers.{number_bytes}
use Rattle.trie_build.proofs.Written.{all_after}
use Rattle.trie_build.proofs.header.Header.write.Goals as goal

pub returns-clause-header : goal.returns-clause-header
returns-clause-header c =
    let h = c.args.self.now in
    let numbers : c.put_numbers.new.bytes ≡ flat_map number_bytes (h.version ∷ h.nodes ∷ h.values ∷ h.sets ∷ h.text ∷ h.reserved ∷ []) = c.put_numbers.ensures in
    all_after c.extend_from_slice.result _ _ _ (header_bytes h) c.extend_from_slice.ensures.items (rw (c.copy_from_slice.ensures.after, numbers) (refl {a = header_bytes h}))
