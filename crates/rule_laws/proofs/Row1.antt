-- An index of version 1, byte by byte.
use Rattle.std.proofs.Common.{◌≡◌, ℕ, zero, suc, ◌<◌, [], ◌∷◌, refl, arith}
use Rattle.trie_build.specs.Accepted.{IsInPlace, IsLabelled, children_before, values_before}
use Rattle.trie_build.specs.Numbers.{number_at}
use Rattle.trie_build.specs.Records.{node}
use Rattle.trie_build.specs.declared.index_fault.IndexFault.{IndexFault}
use Rattle.trie_build.specs.declared.index_fault.IndexFault.TheVariants.{Short, Magic, Version, Size, Shape, Label, Text, Order}
use Rattle.trie_nodes.specs.Paths.{paths}
use Rattle.trie_nodes.specs.Tree.{path}
use Rattle.rule_laws.specs.Rows.{bare_entry, bare_entry_index}
use Rattle.rule_laws.specs.Version1.{HasTexts1, Holds1, OrdersRise1, listed_1, value_1}

pub lists : listed_1 bare_entry_index ≡ bare_entry ∷ []
unfolding number_at node path paths
lists = refl

in_place : (i : ℕ) → i < 3 → IsInPlace i (children_before bare_entry_index i) (values_before bare_entry_index i) (node bare_entry_index i)
unfolding number_at node
in_place zero h = record { first = refl; later = omega arith; first_value = refl }
in_place (suc zero) h = record { first = refl; later = omega arith; first_value = refl }
in_place (suc (suc zero)) h = record { first = refl; later = omega arith; first_value = refl }
in_place (suc (suc (suc i))) h = absurd (omega arith)

labelled : (i : ℕ) → i < 3 → IsLabelled 0 i (node bare_entry_index i)
unfolding number_at node
labelled zero h = record { root = (λ e. refl, λ e. refl); known = omega arith; byte = λ e. refl; first_zero = refl; second_zero = refl; no_set = λ e. refl; a_set = λ e. absurd (omega arith) }
labelled (suc zero) h = record { root = (λ e. absurd (omega arith), λ e. absurd (omega arith)); known = omega arith; byte = λ e. absurd (e refl); first_zero = refl; second_zero = refl; no_set = λ e. refl; a_set = λ e. absurd (omega arith) }
labelled (suc (suc zero)) h = record { root = (λ e. absurd (omega arith), λ e. absurd (omega arith)); known = omega arith; byte = λ e. refl; first_zero = refl; second_zero = refl; no_set = λ e. refl; a_set = λ e. absurd (omega arith) }
labelled (suc (suc (suc i))) h = absurd (omega arith)

texts : (j : ℕ) → j < 1 → HasTexts1 4 (value_1 bare_entry_index j)
unfolding number_at
texts zero h = record { some = omega arith; key = omega arith; value = omega arith }
texts (suc j) h = absurd (omega arith)

ordered : (i : ℕ) → i < 3 → OrdersRise1 bare_entry_index (node bare_entry_index i)
unfolding number_at node
ordered zero h = λ j from below. absurd (omega arith)
ordered (suc zero) h = λ j from below. absurd (omega arith)
ordered (suc (suc zero)) h = λ j from below. absurd (omega arith)
ordered (suc (suc (suc i))) h = absurd (omega arith)

pub accepted : (check : IndexFault) → Holds1 check bare_entry_index
unfolding number_at node
accepted Short = omega arith
accepted Magic = refl
accepted Version = refl
accepted Size = record { some = omega arith; nodes = omega arith; values = omega arith; sets = omega arith; reserved = refl; whole = refl }
accepted Shape = record { each = in_place; children = refl; values = refl }
accepted Label = labelled
accepted Text = texts
accepted Order = ordered
