-- Serves inner proofs only: texts of which some may fit, wherever they are in memory.
use Rattle.std.specs.Prelude.{List, map}
use Rattle.text_bytes.specs.Text.{Text}
use Rattle.eval_rendering.specs.declared.holding.Members.{Members}
use Rattle.eval_rendering.specs.declared.holding.Members.TheVariants.{Kept, Given}

-- the texts that these are
abbrev pub listed : Members → List Text
listed (Kept texts) = map (λ t. t.items) texts.now
listed (Given texts) = map (λ t. t.now) texts.now
