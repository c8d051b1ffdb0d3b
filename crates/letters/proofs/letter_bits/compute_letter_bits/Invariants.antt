-- The nodes from i on are done.
use Rattle.node.specs.Nodes.{kbwg, accepts}
use Rattle.letters.specs.LetterBits.{every}
use Rattle.letters.proofs.RunFilling.{RunFilling}
use Rattle.letters.proofs.letter_bits.compute_letter_bits.Given as goal

abbrev pub invariant-loop-i : goal.invariant-loop-i
invariant-loop-i l = record {
  all : RunFilling every l.nodes l.initial.letter_bits l.letter_bits l.all l.i;
  accepting : RunFilling (accepts kbwg) l.nodes l.initial.accepting_bits l.accepting_bits l.accepting l.i;
}
