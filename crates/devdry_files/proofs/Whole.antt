-- Reads of an input, one after another.
use Rattle.std.proofs.Common.{◌≡◌, ℕ, ◌+◌, ◌∙◌, Bool, true, false, List, [], ◌∷◌, ◌++◌, length, refl, ap, sym, subst, inl, inr, length-append}
use Rattle.text_bytes.specs.Text.{Text}
use Rattle.engine_sessions.specs.Counts.{Counts}
use Rattle.engine_sessions.specs.Reported.{followed_by, led_by}
use Rattle.engine_sessions.specs.Sources.{Gives, SourceState}
use Rattle.engine_sessions.proofs.Counting.{counts-none}
use Rattle.engine_sessions.proofs.Reported.{followed_by-nil}
use Rattle.engine_sessions.specs.Inputs.{most_turns}
use Rattle.engine_sessions.specs.Turns.{joined}
use Rattle.engine_sessions.proofs.ReadPieces.{joined-push, left_after, led_by-nil, none_left_after, one_more, reads_after}
use Rattle.devdry_files.specs.Pieces.{Adds, AddsNot}
use Rattle.devdry_files.specs.Whole.{ReadsNot, ReadsText, ReadsWhole}
use Rattle.devdry_files.specs.declared.input_reading.InputFault.{InputFault}
use Rattle.devdry_files.specs.declared.input_reading.InputFault.TheVariants.{Memory, Read}

-- So many reads were made, and their pieces are the text.
pub record AfterReads (made : ℕ) (text : Text) (before now : SourceState) : Type 0 where
  pub reads : ReadsText before text now
  pub count : length reads.read ≡ made

pub at_start : (text : Text) (input : SourceState) → text ≡ [] → AfterReads 0 text input input
at_start text input e = rw e (record {
  reads = record {
    read = [];
    is_text = refl;
    pieces = sym (followed_by-nil input.pieces);
    left = sym (led_by-nil input.left);
    counts = record { reads = counts-none input.reads; well = refl };
  };
  count = refl;
})

-- one piece more is read
one_piece : (text piece : Text) (before now later : SourceState) → ReadsText before text now → Gives now piece later → ReadsText before (text ++ piece) later
one_piece text piece before now later r g =
    let both : joined (r.read ++ piece ∷ []) ≡ text ++ piece = joined-push r.read piece ∙ ap (λ t. t ++ piece) r.is_text in
    record {
      read = r.read ++ piece ∷ [];
      is_text = both;
      pieces = one_more before now later r.read piece r.pieces g.pieces;
      left = left_after before now later r.read piece (r.left ∙ ap (λ t. led_by t now.left) (sym r.is_text)) g.left ∙ ap (λ t. led_by t later.left) both;
      counts = reads_after (length r.read) before now later r.read piece refl r.counts g;
    }

pub more : (made : ℕ) (text next : Text) (before now later : SourceState) → AfterReads made text before now → Adds true text next now later → AfterReads (made + 1) next before later
unfolding one_piece
more made text next before now later a d = rw d.added (record {
  reads = one_piece text d.piece before now later a.reads d.gives;
  count = length-append a.reads.read (d.piece ∷ []) ∙ ap (λ n. n + 1) a.count;
})

pub finished : (made : ℕ) (text next : Text) (before now later : SourceState) → AfterReads made text before now → Adds false text next now later → ReadsWhole before next later
finished made text next before now later a d = rw d.added (record {
  reads = one_piece text d.piece before now later a.reads d.gives;
  none_left = none_left_after now.left later.left d.piece (d.ends refl).0 d.gives.left (d.ends refl).1;
})

pub failed : (fault : InputFault) (made : ℕ) (text : Text) (before now later : SourceState) → AfterReads made text before now → AddsNot fault now later → ReadsNot fault before later
failed Read made text before now later a f = inl (record { text = text; until = now; reads = a.reads; fails = f })
failed Memory made text before now later a f = record { text = text ++ f.0; reads = one_piece text f.0 before now later a.reads f.1 }

pub used_up : (text : Text) (before now : SourceState) → AfterReads most_turns text before now → ReadsNot Read before now
used_up text before now a = inr (record {
  some = record { text = text; reads = a.reads };
  all = subst (λ n. Counts n before.reads now.reads) a.count a.reads.counts.reads;
})
