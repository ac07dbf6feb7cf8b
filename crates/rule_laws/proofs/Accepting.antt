-- The image of entries is an index, and how long it is.
use Rattle.std.proofs.Common.{◌≡◌, List, length, ◌∙◌, ap, arith}
use Rattle.trie_nodes.specs.Orders.{Rising}
use Rattle.trie_nodes.specs.declared.entry.Entry.{Entry}
use Rattle.trie_build.specs.Sizes.{KeepsBounds, index_len}
use Rattle.trie_build.specs.Accepted.{Accepted}
use Rattle.trie_build.specs.Header.{whole_len}
use Rattle.trie_build.specs.Written.{SaysDraft, written}
use Rattle.trie_build.proofs.Placement.{written_says}
use Rattle.trie_build.specs.Entries.{AreTyped}
use Rattle.trie_build.specs.Image.{draft_of, image}
use Rattle.trie_build.proofs.Fitting.{few_values, sets_len, sound, text_len, writable}
use Rattle.trie_build.proofs.Imaging.{nodes_len, values_len}
use Rattle.trie_build.proofs.Sounding.{written_accepted}

pub image_accepted : (es : List Entry) → Rising es → KeepsBounds es → AreTyped es → Accepted (image es)
unfolding image
image_accepted es rising bounds typed = written_accepted (draft_of es) (writable es rising bounds typed) (sound es rising bounds)

pub image_len : (es : List Entry) → Rising es → KeepsBounds es → AreTyped es → length (image es) ≡ index_len es
unfolding image
image_len es rising bounds typed =
    let says : SaysDraft (written (draft_of es)) (draft_of es) = written_says (draft_of es) (writable es rising bounds typed) in
    says.whole ∙ ap whole_len says.header
    ∙ omega (
      arith,
      nodes_len es,
      values_len es,
      few_values es rising bounds,
      sets_len es rising bounds,
      text_len es rising bounds,
    )
