-- `take` meets its contract: a node that stops the load is one of the piece.
use Rattle.std.proofs.Common.{◌/◌, sym, length, take, arith, length-append, length-take}
use Rattle.endian.specs.Bytes.{whole_nodes}
use Rattle.endian.proofs.BytesLaws.{length_whole}
use Rattle.node.specs.Nodes.{kbwg}
use Rattle.node.specs.Said.{bit_layout}
use Rattle.answers.specs.RowLaws.{rows-passed}
use Rattle.load.specs.RepackingLaws.{misfit-within}
use Rattle.load.specs.Loading.{sound_row, held_then}
use Rattle.load.proofs.StateLaws.{sound}
use Rattle.load.proofs.loader.Loader.take.Goals as goal

pub stopped-requires : goal.stopped-requires
stopped-requires c =
    let s = c.args.self.now in
    let bytes = held_then s c.args.piece.now in
    let h = sound s _ (rows-passed (sound_row s (length c.args.nodes.now)) _ (sym c.in_ok-check.ensures)) in
    let m = misfit-within (bit_layout s.layout) kbwg (whole_nodes bytes) (s.taken / 4) (sym c.in-Err.ensures.stop) in
    omega (arith, m, length_whole bytes, length-append (take s.held_count s.held) c.args.piece.now, length-take s.held_count s.held)
