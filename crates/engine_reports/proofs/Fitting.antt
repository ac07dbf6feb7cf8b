-- The entries that fit a modalias answer it as all do.
use Rattle.std.proofs.Common.{◌≡◌, ℕ, Bool, true, false, cond, List, ◌∷◌, [], refl, ap}
use Rattle.std.specs.List.{filter}
use Rattle.file_messages.specs.declared.message.Message.{Message}
use Rattle.trie_nodes.specs.Query.{fitting}
use Rattle.trie_nodes.specs.declared.entry.Entry.{Entry}
use Rattle.engine_sessions.specs.declared.line.Line.{Line}
use Rattle.engine_reports.specs.Answers.{answer_lines}
use Rattle.engine_reports.specs.Outcomes.{query_outcome}

kept : {X : Type 0} (p : X → Bool) (b : Bool) (x : X) (xs : List X) → p x ≡ b → filter p xs ≡ xs → filter p (cond b (x ∷ xs) xs) ≡ cond b (x ∷ xs) xs
kept p true x xs e h = rw e (ap (λ ys. x ∷ ys) h)
kept p false x xs e h = h

twice : {X : Type 0} (p : X → Bool) (xs : List X) → filter p (filter p xs) ≡ filter p xs
twice p [] = refl
twice p (x ∷ xs) = kept p (p x) x (filter p xs) refl (twice p xs)

pub fitting_twice : (entries : List Entry) (modalias : List ℕ) → fitting (fitting entries modalias) modalias ≡ fitting entries modalias
fitting_twice entries modalias = twice _ entries

pub answers_so : (line : Line) (entries : List Entry) (messages : List Message) → query_outcome line (fitting entries line.modalias.now) messages ≡ query_outcome line entries messages
unfolding answer_lines
answers_so line entries messages = rw (fitting_twice entries line.modalias.now) refl
