use Rattle.std.proofs.Common.{◌≡◌, ℕ, List, rules}
use Rattle.trie_build.specs.Accepted.{HasShape, Holds}
use Rattle.trie_build.specs.Framed.{IsFramed}
use Rattle.trie_build.specs.declared.index_fault.IndexFault.TheVariants.{Label, Text, Order}
use Rattle.trie_build.proofs.Failing.{fails_label, fails_text, fails_order}
use Rattle.trie_build.proofs.checks.check.Goals as goal

pub returns-then-not-has_labels : goal.returns-then-not-has_labels
returns-then-not-has_labels c =
    let read : List ℕ = c.in_ok-records.records in
    let framed : IsFramed c.args.bytes.now = search rules in
    let same : read ≡ c.args.bytes.now = search rules in
    let shape : HasShape read = search rules in
    let fails : Holds Label read → ⊥ = search rules in
    fails_label c.args.bytes.now framed (rw same at shape) (rw same at fails)

pub returns-then-not-has_texts : goal.returns-then-not-has_texts
returns-then-not-has_texts c =
    let read : List ℕ = c.in_ok-records.records in
    let framed : IsFramed c.args.bytes.now = search rules in
    let same : read ≡ c.args.bytes.now = search rules in
    let shape : HasShape read = search rules in
    let label : Holds Label read = search rules in
    let fails : Holds Text read → ⊥ = search rules in
    fails_text c.args.bytes.now framed (rw same at shape) (rw same at label) (rw same at fails)

pub returns-then-not-has_orders : goal.returns-then-not-has_orders
returns-then-not-has_orders c =
    let read : List ℕ = c.in_ok-records.records in
    let framed : IsFramed c.args.bytes.now = search rules in
    let same : read ≡ c.args.bytes.now = search rules in
    let shape : HasShape read = search rules in
    let label : Holds Label read = search rules in
    let text : Holds Text read = search rules in
    let fails : Holds Order read → ⊥ = search rules in
    fails_order c.args.bytes.now framed (rw same at shape) (rw same at label) (rw same at text) (rw same at fails)
