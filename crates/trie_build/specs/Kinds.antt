-- The kinds of nodes: the root, and one kind for each item of a pattern that leads to a node.
use Rattle.std.specs.Prelude.{ℕ}

-- the root, to which nothing leads
abbrev pub root_kind : ℕ
root_kind = 0

-- one byte
abbrev pub byte_kind : ℕ
byte_kind = 1

-- any byte
abbrev pub one_kind : ℕ
one_kind = 2

-- any number of bytes, also none
abbrev pub many_kind : ℕ
many_kind = 3

-- a byte of a set
abbrev pub among_kind : ℕ
among_kind = 4
