use Rattle.std.proofs.Common.{◌≡◌, ◌∙◌, arith, ap, sym, length}
use Rattle.std.proofs.lemmas.List.{length-map}
use Rattle.std.specs.List.{sum_by}
use Rattle.trie_build.specs.Content.{shown}
use Rattle.trie_build.specs.Shown.{node_sets}
use Rattle.trie_build.proofs.Sizing.{Text, shown_len}
use Rattle.trie_build.specs.Sizes.{names_of}
use Rattle.trie_build.proofs.size.index_fits.Goals as goal

pub returns : goal.returns
returns c =
    let names : sum_by (λ (t : Text). length t.now) c.deref.result.now ≡ sum_by length (names_of c.args.entries.now) =
    shown_len c.deref.result.now ∙ ap (λ l. sum_by length (shown l)) c.deref.ensures.value ∙ ap (sum_by length) c.in_ok-names.ensures in
    let sets : length c.in_ok-sets.sets.items ≡ length (node_sets c.args.nodes.now) = sym (length-map c.in_ok-sets.sets.items (λ (t : Text). t.now)) ∙ ap length c.in_ok-sets.ensures in (
      λ t. omega (arith, names, c.texts_fit.ensures.0 t, sets, c.if-records-gt-MAX_INDEX_LEN.false),
      λ h. c.texts_fit.ensures.1 (omega (arith, names, h, sets, c.if-records-gt-MAX_INDEX_LEN.false)),
    )
