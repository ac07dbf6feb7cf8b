-- An index of version 1 names no files.
use Rattle.std.proofs.Common.{◌≡◌, ℕ, List, [], ap}
use Rattle.trie_nodes.specs.Bounds.{first_version}
use Rattle.trie_build.specs.Header.{header_of}
use Rattle.trie_build.specs.Records.{text_of, value, value_at, value_start}
use Rattle.trie_build.specs.declared.records.ValueRecord.{ValueRecord}
use Rattle.trie_build.specs.Contents.{value_of}

module _ (bytes : List ℕ) (j : ℕ) (first : (header_of bytes).version ≡ first_version) where
  read : value bytes j ≡ value_at first_version bytes (value_start (header_of bytes) j)
  unfolding value
  read = ap (λ v. value_at v bytes (value_start (header_of bytes) j)) first

  pub no_file : (value_of bytes j).file ≡ []
  no_file = ap (λ (v : ValueRecord). text_of bytes v.file) read

  pub no_line : (value_of bytes j).line ≡ 0
  no_line = ap (λ (v : ValueRecord). v.line) read
