use Rattle.std.proofs.Common.{arith, ◌≡◌, ◌<◌, ◌∙◌, ap, ◌++◌, get_or, List, ℕ}
use Rattle.std.proofs.lemmas.List.Elements.{All-append}
use Rattle.std.proofs.lemmas.List.{take_all}
use Rattle.text_bytes.specs.Escapes.{escape_text, escape_byte}
use Rattle.text_bytes.proofs.Escaping.{IsShown, escape_byte-shown, escape_text-same, escape_text-more}
use Rattle.text_bytes.proofs.escapes.escape.Goals as goal

pub loop-byte-preserved : goal.loop-byte-preserved
loop-byte-preserved c =
    let text : List ℕ = c.args.text.now in
    let i : ℕ = c.loop-byte.byte-index in
    let pushed : c.push_escaped.new.shown.items ≡ c.loop-byte.shown.items ++ escape_byte (get_or text i 0) = c.in_ok-push_escaped.ensures in
    let fits : get_or text i 0 < 256 = omega (arith, c.type_inv.text i) in
    record {
      value = pushed ∙ ap (λ (bs : List ℕ). bs ++ escape_byte (get_or text i 0)) c.loop-byte.invariant.value ∙ escape_text-more text i c.loop-byte-test.true;
      plain = rw pushed (All-append IsShown c.loop-byte.shown.items (escape_byte (get_or text i 0)) c.loop-byte.invariant.plain (escape_byte-shown (get_or text i 0) fits));
    }

pub returns-clause-same : goal.returns-clause-same
returns-clause-same c h =
    let text : List ℕ = c.args.text.now in
    c.loop-byte.invariant.value ∙ ap escape_text (take_all c.loop-byte.byte-index text c.loop-byte-test.false) ∙ escape_text-same text h
