-- The index of files that are not too many.
use Rattle.std.proofs.Common.{◌≡◌, ℕ, ◌≤◌, List, None, length, arith}
use Rattle.std.specs.List.Sorted.{IsPermutation}
use Rattle.text_bytes.specs.declared.SourceFile.{SourceFile}
use Rattle.hwdb_core.specs.Sources.{WithinBounds, entries_of}
use Rattle.hwdb_core.proofs.Orders.{rising_counting}
use Rattle.trie_nodes.specs.Orders.{Rising}
use Rattle.trie_nodes.specs.Query.{query, sourced}
use Rattle.trie_nodes.specs.declared.entry.Entry.{Entry}
use Rattle.trie_nodes.specs.Values.{listed}
use Rattle.trie_build.specs.Sizes.{KeepsBounds, max_index_len}
use Rattle.engine_reports.proofs.Bounding.{never_too_large}
use Rattle.trie_build.specs.Accepted.{Accepted}
use Rattle.trie_build.specs.Contents.{contents}
use Rattle.trie_build.specs.Entries.{AreTyped}
use Rattle.trie_build.specs.Image.{image}
use Rattle.rule_laws.proofs.Accepting.{image_accepted, image_len}
use Rattle.rule_laws.proofs.HwdbListing.{image_permutes}
use Rattle.rule_laws.proofs.Answering.{query_is, sources_are}
use Rattle.rule_laws.proofs.Typing.{are_typed}

module _ (files : List SourceFile) (within : WithinBounds files) where
  abbrev es : List Entry
  es = entries_of files

  abbrev reported : List Entry
  reported = listed (contents (image es)).nodes (contents (image es)).values

  rising : Rising es
  rising = rising_counting None files

  bounds : KeepsBounds es
  bounds = never_too_large files within

  typed : AreTyped es
  typed = are_typed files within

  pub accepted : Accepted (image es)
  accepted = image_accepted es rising bounds typed

  pub short : length (image es) ≤ max_index_len
  short = omega (arith, image_len es rising bounds typed, bounds.index)

  pub lists : IsPermutation es reported
  lists = image_permutes es rising bounds typed

  pub answers : (modalias : List ℕ) → query reported modalias ≡ query es modalias
  answers modalias = query_is es rising bounds typed modalias

  pub reports : (modalias : List ℕ) → sourced reported modalias ≡ sourced es modalias
  reports modalias = sources_are es rising bounds typed modalias
