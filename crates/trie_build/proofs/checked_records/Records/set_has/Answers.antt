use Rattle.std.proofs.Common.{◌/◌, ◌<◌, arith}
use Rattle.trie_build.proofs.Bits.{bit_is}
use Rattle.trie_build.proofs.checked_records.Records.set_has.Goals as goal

pub returns : goal.returns
returns c =
    let small : c.args.byte / 8 < 32 = omega arith in
    rw (c.self.invariant.places, c.self.view_is) (bit_is c.args.self.now c.args.s c.args.byte small)
