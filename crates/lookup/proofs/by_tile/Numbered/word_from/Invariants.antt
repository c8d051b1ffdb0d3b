-- The tiles put and those of the walk that is left are the whole's. The measure: the room of the buffer, then the nodes from the place on.
use Rattle.std.proofs.Common.{length, suc, ◌+◌, ◌-◌, ◌*◌}
use Rattle.laws.specs.Buffers.{Left}
use Rattle.lookup.specs.Walks.{word_from}
use Rattle.lookup.proofs.by_tile.Numbered.word_from.Given as goal

abbrev pub invariant-loop-p : goal.invariant-loop-p
invariant-loop-p l =
    Left (word_from l.self.counts.now l.self.nodes.now (length l.initial.word) 0 l.p-2 l.idx-2) l.initial.word l.n l.word
    (word_from l.self.counts.now l.self.nodes.now (length l.word - l.n) l.n l.p l.idx)

abbrev pub decreases-loop-p : goal.decreases-loop-p
decreases-loop-p l = (length l.word - l.n) * suc (length l.self.nodes.now) + (length l.self.nodes.now - l.p)
