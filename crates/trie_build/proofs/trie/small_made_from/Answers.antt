use Rattle.std.proofs.Common.{◌≡◌, ◌≤◌, ◌∙◌, ap, subst, sym, true}
use Rattle.trie_build.specs.Content.{Content}
use Rattle.trie_build.specs.Shown.{index_len_by}
use Rattle.trie_build.proofs.Sizing.{measured}
use Rattle.trie_build.specs.Sizes.{index_len, max_index_len}
use Rattle.trie_build.proofs.trie.small_made_from.Goals as goal

pub returns-then-not-branch-clause-fits : goal.returns-then-not-branch-clause-fits
returns-then-not-branch-clause-fits c =
    let held : Content = record { entries = c.args.entries.now; numbers = c.in_ok-made.made.numbers.items; nodes = c.in_ok-made.made.nodes.items } in
    let len : index_len_by c.deref.result.now c.args.entries.now ≡ index_len c.args.entries.now = ap (λ l. index_len_by l c.args.entries.now) c.deref.ensures.value ∙ measured held c.in_ok-made.ensures.trie in
    λ _ keeps.
    let fits : c.in_ok-index_fits.field-0 ≡ true = c.in_ok-index_fits.ensures.1 (subst (λ n. n ≤ max_index_len) (sym len) keeps.index) in cc

pub returns-clause-fits : goal.returns-clause-fits
returns-clause-fits c =
    let held : Content = record { entries = c.args.entries.now; numbers = c.in_ok-made.made.numbers.items; nodes = c.in_ok-made.made.nodes.items } in
    let len : index_len_by c.deref.result.now c.args.entries.now ≡ index_len c.args.entries.now = ap (λ l. index_len_by l c.args.entries.now) c.deref.ensures.value ∙ measured held c.in_ok-made.ensures.trie in
    record {
      entries = c.requires.few;
      nodes = c.in_ok-made.ensures.fits;
      index = subst (λ n. n ≤ max_index_len) len (c.in_ok-index_fits.ensures.0 c.if-not-branch.false);
    }
