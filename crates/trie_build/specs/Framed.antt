-- Serves inner proofs only: a file whose header is right, and how its parts are found.
use Rattle.std.specs.Prelude.{◌≡◌, List, ℕ}
use Rattle.trie_build.specs.Header.{header_of, places_of}
use Rattle.trie_build.specs.Accepted.{Holds}
use Rattle.trie_build.specs.declared.index_fault.IndexFault.TheVariants.{Short, Magic, Version, Size}
use Rattle.trie_build.specs.declared.checked_records.Records.TheInside.{Inside}

-- the first four checks hold
pub record IsFramed (bytes : List ℕ) : Type 0 where
  pub short : Holds Short bytes
  pub magic : Holds Magic bytes
  pub version : Holds Version bytes
  pub size : Holds Size bytes

-- the fields are those that the bytes give
pub record AreRecords (a : Inside) : Type 0 where
  pub framed : IsFramed a.bytes.now
  pub header : a.header ≡ header_of a.bytes.now
  pub places : a.places ≡ places_of (header_of a.bytes.now)

-- the bytes that they are in
abbrev pub recorded : Inside → List ℕ
recorded a = a.bytes.now
