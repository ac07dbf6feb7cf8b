-- Serves inner proofs only: the items of a pattern that is held in little room.
use Rattle.std.specs.Prelude.{ℕ, ◌==◌, if◌then◌else◌, List, map}
use Rattle.std.specs.Rc.{rc_slice_items}
use Rattle.text_bytes.specs.Names.{question_mark, star}
use Rattle.text_core.specs.declared.item.Item.{Item}
use Rattle.text_core.specs.declared.item.Item.TheVariants.{Byte, One, Many}
use Rattle.text_core.specs.declared.packed.Held.{Held}
use Rattle.text_core.specs.declared.packed.Held.TheVariants.{Written, Whole}

-- The item that a byte is written as, outside of sets: a star is Many, a question mark One, and any other byte itself.
abbrev pub written : ℕ → Item
written b = if b == star then Many else if b == question_mark then One else Byte b

-- The items of a pattern, by how they are held.
abbrev pub held_items : Held → List Item
held_items (Written bytes) = map written (rc_slice_items bytes)
held_items (Whole items) = rc_slice_items items
