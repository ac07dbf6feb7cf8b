use Rattle.std.proofs.Common.{◌≡◌, drop, map}
use Rattle.text_tables.specs.Texts.{with_texts}
use Rattle.builtin_link.specs.Link.{given_keys}
use Rattle.builtin_link.proofs.link.add_keys.Given as goal

abbrev pub invariant-loop-key : goal.invariant-loop-key
invariant-loop-key l =
    with_texts l.needs (given_keys l.settings (map (λ key. key.now) (drop l.key-index l.keys))) ≡ with_texts l.fn.needs (given_keys l.settings (map (λ key. key.now) l.keys))
