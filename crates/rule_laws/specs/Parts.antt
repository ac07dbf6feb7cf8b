-- Texts that are in the bytes of a file.
use Rattle.std.specs.Prelude.{◌≡◌, ◌++◌}
use Rattle.text_bytes.specs.Text.{Text}
use Rattle.trie_nodes.specs.Query.{Origin}

-- a text is a part of other bytes: these are what comes before it, the text, and what follows it
pub record IsPartOf (bytes text : Text) : Type 0 where
  pub before : Text
  pub following : Text
  pub whole : bytes ≡ before ++ text ++ following

-- the texts of an answer are parts of some bytes
pub record IsFoundIn (bytes : Text) (answer : Origin) : Type 0 where
  pub key : IsPartOf bytes answer.key
  pub value : IsPartOf bytes answer.value
  pub file : IsPartOf bytes answer.file
