-- What is kept of the lines of a file when each was read: which names they have for jumps, and about which there is
-- nothing to say.
use Rattle.std.specs.Prelude.{◌≡◌, ⊤, ℕ, ◌+◌, Bool, true, false, not, ◌&&◌, ◌||◌, if◌then◌else◌, List, [], ◌∷◌, ◌++◌, map, zip, is_some, Result, Ok, Err}
use Rattle.text_bytes.specs.Texts.{is_empty}
use Rattle.file_messages.specs.declared.message.MessageKind.{MessageKind}
use Rattle.rule_types.specs.Jumps.{Names}
use Rattle.rule_types.specs.declared.jumps.Landing.{Landing}
use Rattle.rule_core.specs.Counts.{line_tokens}
use Rattle.rule_core.specs.Drafts.{Draft}
use Rattle.rule_core.specs.Rules.{Reading, line_findings, names_of}
use Rattle.rule_types.specs.declared.spot.Spot.{Spot}

-- whether a rule has a label or a jump
abbrev pub has_names : Names → Bool
has_names n = is_some n.label || is_some n.goto

-- whether there is nothing to say about a line, wherever jumps lead: it is a rule without names for jumps, and nothing is found about it
abbrev pub is_silent : Result Draft (Spot MessageKind) → Bool
is_silent (Err wrong) = false
is_silent (Ok d) = not (has_names (names_of (Ok d))) && is_empty d.findings

-- each of these lines about which that is told is one about which nothing is found; of each line it is told whether that is so
abbrev pub AreSilent : List Bool → List (Reading × Landing) → Type 0
AreSilent [] [] = ⊤
AreSilent [] (x ∷ lines) = ⊥
AreSilent (s ∷ silent) [] = ⊥
AreSilent (s ∷ silent) (x ∷ lines) = (s ≡ true → line_findings x.0.read x.1 ≡ []) × AreSilent silent lines

-- what becomes of the jump and of the label of a line that has neither
abbrev pub nowhere : Landing
nowhere = record { lost = false; unused = false }

-- the names of a line, if it has some
abbrev pub some_names : Names → List Names
some_names n = if has_names n then n ∷ [] else []

-- what becomes of the jumps of lines, of which each is told whether it has names, given those of the lines that have some
abbrev pub spread : List Bool → List Landing → List Landing
spread [] given = []
spread (false ∷ named) given = nowhere ∷ spread named given
spread (true ∷ named) [] = nowhere ∷ spread named []
spread (true ∷ named) (l ∷ given) = l ∷ spread named given

-- lines, with what becomes of the jump and of the label of each set
abbrev pub relanded : List (Reading × Landing) → List Landing → List (Reading × Landing)
relanded lines ls = zip (map (λ x. x.0) lines) (spread (map (λ x. true) lines) ls)

-- what is kept of lines: the names of those that have some, of each whether it has some and whether nothing is to be said about it, and
-- the tokens left in their rules if no jump is lost
pub record Outlines : Type 0 where
  pub names : List Names
  pub named : List Bool
  pub silent : List Bool
  pub tokens : ℕ

-- what is kept of lines and of one more
abbrev pub with_outline : Outlines → Result Draft (Spot MessageKind) → Outlines
with_outline o read = record {
  names = o.names ++ some_names (names_of read);
  named = o.named ++ has_names (names_of read) ∷ [];
  silent = o.silent ++ is_silent read ∷ [];
  tokens = o.tokens + line_tokens read nowhere;
}
