-- How a call fails, by why its block is not answered.
use Rattle.std.proofs.Common.{◌≡◌, ℕ, true, false, [], ◌∷◌, ◌++◌, take, refl, ap, sym, ◌∙◌, subst}
use Rattle.std.proofs.lemmas.List.{append-nil}
use Rattle.text_bytes.specs.Text.{Text}
use Rattle.device_core.specs.Runs.{complete_runs}
use Rattle.device_core.specs.Splits.{Split, BeginsTooLong, SplitFailsBy}
use Rattle.device_core.specs.declared.splitter.SplitFault.{SplitFault}
use Rattle.device_core.specs.declared.splitter.SplitFault.TheVariants.{TooLong, Ended as SplitEnded}
use Rattle.engine_sessions.specs.Answers.{number_after}
use Rattle.engine_sessions.specs.Known.{known_blocks}
use Rattle.engine_sessions.specs.Sessions.{Held, closed, CallFailsBy}
use Rattle.engine_sessions.specs.Holding.{IsBlockRefused, IsSplitRefused}
use Rattle.engine_sessions.specs.declared.session.SessionFault.{SessionFault}
use Rattle.engine_sessions.specs.declared.session.SessionFault.TheVariants.{Block, Memory, Ended}
use Rattle.engine_sessions.proofs.KnownLemmas.{known_first, known_too_long}

-- the block that was completed is not answered
pub block_refused : {A : Type 0} (fault : SessionFault) (old new : Held A) (piece block : Text) (used : ℕ)
    → complete_runs (old.pending ++ take used piece) ≡ block ∷ [] → IsBlockRefused fault (number_after old.answered) block → old.ended ≡ false → new ≡ closed old
    → CallFailsBy fault old (known_blocks true (old.pending ++ piece)) new
block_refused (Block number fault) old new piece block used found refused going e =
    let first = known_first old.pending piece block used found in
    (record { block = block; others = first.0; first = first.1; gives = refused.1; numbered = refused.0 }, going, e)
block_refused Memory old new piece block used found refused going e = (going, e)
block_refused Ended old new piece block used found refused going e = absurd refused

-- the splitter takes no more
pub split_fails : {A : Type 0} (fault : SplitFault) (refused : SessionFault) (old new : Held A) (piece : Text) (split split_new : Split)
    → IsSplitRefused fault (number_after old.answered) refused → SplitFailsBy fault split piece split_new → split.pending ≡ old.pending → split.ended ≡ false → old.ended ≡ false → new ≡ closed old
    → CallFailsBy refused old (known_blocks true (old.pending ++ piece)) new
split_fails (TooLong line) refused old new piece split split_new is fails same split_going going e =
    let begins : BeginsTooLong (old.pending ++ piece) line = subst (λ text. BeginsTooLong text line) (append-nil (split.pending ++ piece) ∙ ap (λ pending. pending ++ piece) same) (fails.0 []) in
    let known = known_too_long (old.pending ++ piece) line begins in
    subst (λ f. CallFailsBy f old (known_blocks true (old.pending ++ piece)) new) (sym is)
    (record { block = known.0; others = known.1; first = known.2; gives = known.3; numbered = refl }, going, e)
split_fails SplitEnded refused old new piece split split_new is fails same split_going going e = let both : true ≡ false = sym fails.0 ∙ split_going in absurd cc
