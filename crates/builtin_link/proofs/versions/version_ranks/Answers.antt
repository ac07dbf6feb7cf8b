use Rattle.std.proofs.Common.{◌≡◌, ◌∷◌, ◌++◌, ◌<◌, [], ◌==◌, length, false, rules}
use Rattle.builtin_link.specs.Versions.{later_parts, part_ranks, rank, tilde, version_ranks, without}
use Rattle.builtin_link.proofs.Ranks.{one_more}
use Rattle.builtin_link.proofs.versions.version_ranks.Goals as goal

pub loop-left-preserved : goal.loop-left-preserved
loop-left-preserved c =
    let some : 0 < c.loop-left.left = search rules in
    let rest : c.in_ok-text.text.now ≡ without tilde c.loop-left.text.now = search rules in
    let more : (length c.in_ok-text.text.now == 0) ≡ false = search rules in
    let new : c.add_rank.new.ranks.items ≡ c.loop-left.ranks.items ++ rank tilde c.loop-left.text.now ∷ [] = search rules in
    let last : c.add_part.new.ranks.items ≡ c.push-in-loop-left.new.self.items ++ part_ranks c.in_ok-text.text.now = search rules in
    let following : c.in_ok-text-2.text.now ≡ later_parts c.in_ok-text.text.now = search rules in
    let next : c.push-in-loop-left.new.self.items ≡ c.add_rank.new.ranks.items ++ 1 ∷ [] = search rules in
    one_more c.loop-left.ranks.items c.add_rank.new.ranks.items c.push-in-loop-left.new.self.items c.add_part.new.ranks.items (version_ranks c.args.version.now)
    c.loop-left.left c.loop-left.text.now c.in_ok-text.text.now c.in_ok-text-2.text.now some rest more new next last following c.loop-left.invariant
