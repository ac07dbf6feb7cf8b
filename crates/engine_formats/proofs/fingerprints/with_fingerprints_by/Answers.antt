use Rattle.std.proofs.Common.{◌≡◌, ◌+◌, ◌∷◌, [], ◌++◌, ap, arith, decimal, map, string_bytes, ◌∙◌}
use Rattle.text_bytes.specs.Names.{colon}
use Rattle.text_tables.specs.Tallies.{left_of}
use Rattle.text_tables.proofs.Tallying.{counts_more, tally_start}
use Rattle.engine_formats.specs.Diagnostics.{shown}
use Rattle.engine_formats.specs.Fingerprints.{shown_given}
use Rattle.engine_formats.specs.declared.diagnostic.Diagnostic.{Diagnostic}
use Rattle.engine_formats.proofs.Counts.{counted_item, given_item, same_length}
use Rattle.engine_formats.proofs.fingerprints.with_fingerprints_by.Goals as goal

pub loop-index-init : goal.loop-index-init
loop-index-init c = record {
  counts = tally_start c.new-tally.result c.new-tally.ensures;
  so_far = ap (map shown_given) c.in_ok-given.ensures.items;
}

pub bounds-marks-index : goal.bounds-marks-index
bounds-marks-index c = omega (arith, same_length string_bytes shown c.args.marks.now c.args.diagnostics.now c.requires)

pub push_fingerprinted-requires : goal.push_fingerprinted-requires
push_fingerprinted-requires c =
    let len = same_length string_bytes shown c.args.marks.now c.args.diagnostics.now c.requires in
    counts_more string_bytes c.loop-index.tally c.args.marks.now c.loop-index.index _ c.loop-index.invariant.counts (omega (arith, len)) (omega (arith, len))

pub loop-index-preserved : goal.loop-index-preserved
loop-index-preserved c =
    let len = same_length string_bytes shown c.args.marks.now c.args.diagnostics.now c.requires in
    let text = c.as_str-mark.ensures.value ∙ ap string_bytes c.index-marks-index.is in
    record {
      counts =
          counted_item string_bytes c.loop-index.tally c.push_fingerprinted.new.tally c.args.marks.now c.loop-index.index _ c.as_str-mark.result.now c.loop-index.invariant.counts (omega (arith, len))
          text c.in_ok-push_fingerprinted.ensures.counts;
      so_far =
          given_item string_bytes shown c.loop-index.tally c.args.marks.now c.args.diagnostics.now (map shown_given c.loop-index.given.items) (map shown_given c.push_fingerprinted.new.given.items) c.loop-index.index _ _
          c.as_str-mark.result.now c.loop-index.invariant.counts c.requires c.loop-index-test.true text c.loop-index.invariant.so_far
          (c.in_ok-push_fingerprinted.ensures.given
          ∙ ap (λ (d : Diagnostic). map shown_given c.loop-index.given.items
          ++ record { diagnostic = shown d; fingerprint = decimal (left_of c.loop-index.tally c.as_str-mark.result.now + 1) ++ colon ∷ c.as_str-mark.result.now } ∷ [])
          c.index-diagnostics-index.is);
    }
