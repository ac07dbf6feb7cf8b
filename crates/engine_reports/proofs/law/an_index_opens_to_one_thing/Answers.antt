use Rattle.std.proofs.Common.{◌≡◌, ◌∙◌, Option, Some, None, Result, Err, inl, inr, ap, sym}
use Rattle.text_bytes.specs.Text.{Text}
use Rattle.trie_build.proofs.Faults.{no_fault, one_fault}
use Rattle.trie_build.specs.declared.index_fault.IndexFault.{IndexFault}
use Rattle.trie_build.specs.Contents.{Contents}
use Rattle.engine_reports.specs.Indexes.{Opens}
use Rattle.engine_reports.proofs.law.an_index_opens_to_one_thing.Goals as goal

to_one : (index : Option Text) (one other : Option (Result Contents IndexFault)) → Opens index one → Opens index other → one ≡ other
to_one None one other p q = p ∙ sym q
to_one (Some bytes) one other (inl p) (inl q) = p.1 ∙ sym q.1
to_one (Some bytes) one other (inl p) (inr q) = absurd (no_fault bytes q.0 p.0 q.1)
to_one (Some bytes) one other (inr p) (inl q) = absurd (no_fault bytes p.0 q.0 p.1)
to_one (Some bytes) one other (inr p) (inr q) = p.2 ∙ ap (λ fault. Some (Err fault)) (one_fault bytes p.0 q.0 p.1 q.1) ∙ sym q.2

pub returns : goal.returns
returns c = to_one
