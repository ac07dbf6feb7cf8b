-- The first check that a file fails, once its header is right.
use Rattle.std.proofs.Common.{ℕ, ◌<◌, List, arith}
use Rattle.trie_build.specs.Accepted.{FailsFirst, HasShape, Holds, check_place}
use Rattle.trie_build.specs.Framed.{IsFramed}
use Rattle.trie_build.specs.declared.index_fault.IndexFault.{IndexFault}
use Rattle.trie_build.specs.declared.index_fault.IndexFault.TheVariants.{Short, Magic, Version, Size, Shape, Label, Text, Order}

module _ (bytes : List ℕ) (framed : IsFramed bytes) (shape : HasShape bytes) where
  before_label : (other : IndexFault) → check_place other < 5 → Holds other bytes
  before_label Short h = framed.short
  before_label Magic h = framed.magic
  before_label Version h = framed.version
  before_label Size h = framed.size
  before_label Shape h = shape
  before_label Label h = absurd (omega arith)
  before_label Text h = absurd (omega arith)
  before_label Order h = absurd (omega arith)

  before_text : Holds Label bytes → (other : IndexFault) → check_place other < 6 → Holds other bytes
  before_text label Label h = label
  before_text label Text h = absurd (omega arith)
  before_text label Order h = absurd (omega arith)
  before_text label Short h = framed.short
  before_text label Magic h = framed.magic
  before_text label Version h = framed.version
  before_text label Size h = framed.size
  before_text label Shape h = shape

  before_order : Holds Label bytes → Holds Text bytes → (other : IndexFault) → check_place other < 7 → Holds other bytes
  before_order label text Text h = text
  before_order label text Order h = absurd (omega arith)
  before_order label text Short h = framed.short
  before_order label text Magic h = framed.magic
  before_order label text Version h = framed.version
  before_order label text Size h = framed.size
  before_order label text Shape h = shape
  before_order label text Label h = label

  pub fails_label : (Holds Label bytes → ⊥) → FailsFirst bytes Label
  fails_label fails = record { earlier = before_label; fails = fails }

  pub fails_text : Holds Label bytes → (Holds Text bytes → ⊥) → FailsFirst bytes Text
  fails_text label fails = record { earlier = before_text label; fails = fails }

  pub fails_order : Holds Label bytes → Holds Text bytes → (Holds Order bytes → ⊥) → FailsFirst bytes Order
  fails_order label text fails = record { earlier = before_order label text; fails = fails }
