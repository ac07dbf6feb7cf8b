-- Three indexes, byte by byte.
use Rattle.std.specs.Prelude.{ℕ, List, ◌∷◌, [], ◌++◌, codes}
use Rattle.text_core.specs.declared.item.Item.TheVariants.{Byte, Many}
use Rattle.trie_nodes.specs.declared.entry.Entry.{Entry}
use Rattle.trie_build.specs.Numbers.{number_bytes}

-- numbers, one after another
abbrev pub numbers_bytes : List ℕ → List ℕ
numbers_bytes [] = []
numbers_bytes (n ∷ ns) = number_bytes n ++ numbers_bytes ns

-- the index of no entries: the root alone
abbrev pub empty_index : List ℕ
empty_index =
    codes "devdryhw" ++ numbers_bytes (2 ∷ 1 ∷ 0 ∷ 0 ∷ 0 ∷ 0 ∷ [])
    ++ numbers_bytes (0 ∷ 0 ∷ 1 ∷ 0 ∷ 0 ∷ 0 ∷ [])

-- ` K=V` for `a*`, in line 2 of t.hwdb
abbrev pub one_entry : Entry
one_entry = record { pattern = Byte 97 ∷ Many ∷ []; key = codes "K"; value = codes "V"; order = 0; file = codes "t.hwdb"; line = 2 }

abbrev pub one_entry_index : List ℕ
one_entry_index =
    codes "devdryhw" ++ numbers_bytes (2 ∷ 3 ∷ 1 ∷ 0 ∷ 8 ∷ 0 ∷ [])
    ++ numbers_bytes (0 ∷ 0 ∷ 1 ∷ 1 ∷ 0 ∷ 0 ∷ [])
    ++ (1 ∷ 97 ∷ 0 ∷ 0 ∷ []) ++ numbers_bytes (0 ∷ 2 ∷ 1 ∷ 0 ∷ 0 ∷ [])
    ++ (3 ∷ 0 ∷ 0 ∷ 0 ∷ []) ++ numbers_bytes (0 ∷ 3 ∷ 0 ∷ 0 ∷ 1 ∷ [])
    ++ numbers_bytes (0 ∷ 1 ∷ 1 ∷ 1 ∷ 0 ∷ 2 ∷ 6 ∷ 2 ∷ [])
    ++ codes "KVt.hwdb"

-- ` KEY=V` for `a*`, as an index of version 1 has it, with no file and no line
abbrev pub bare_entry : Entry
bare_entry = record { pattern = Byte 97 ∷ Many ∷ []; key = codes "KEY"; value = codes "V"; order = 7; file = []; line = 0 }

abbrev pub bare_entry_index : List ℕ
bare_entry_index =
    codes "devdryhw" ++ numbers_bytes (1 ∷ 3 ∷ 1 ∷ 0 ∷ 4 ∷ 0 ∷ [])
    ++ numbers_bytes (0 ∷ 0 ∷ 1 ∷ 1 ∷ 0 ∷ 0 ∷ [])
    ++ (1 ∷ 97 ∷ 0 ∷ 0 ∷ []) ++ numbers_bytes (0 ∷ 2 ∷ 1 ∷ 0 ∷ 0 ∷ [])
    ++ (3 ∷ 0 ∷ 0 ∷ 0 ∷ []) ++ numbers_bytes (0 ∷ 3 ∷ 0 ∷ 0 ∷ 1 ∷ [])
    ++ numbers_bytes (0 ∷ 3 ∷ 3 ∷ 1 ∷ 7 ∷ [])
    ++ codes "KEYV"
