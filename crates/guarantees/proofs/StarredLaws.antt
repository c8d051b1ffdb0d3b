-- The starred cases hold: each is computed from the definitions themselves.
use Rattle.std.specs.Prelude.{refl}
use Rattle.laws.specs.BitSets.{bit_set}
use Rattle.laws.specs.Lists.{All}
use Rattle.laws.specs.Sorting.{inserted_all}
use Rattle.node.specs.Nodes.{fits}
use Rattle.answers.specs.Answers.{first_of}
use Rattle.graph.specs.Runs.{run, largest_arc, last_ends}
use Rattle.graph.specs.Words.{in_order, spelled, words_within, words}
use Rattle.laws.specs.Tables.{table}
use Rattle.endian.specs.Bytes.{whole_nodes, part_node}
use Rattle.load.specs.Repacking.{fitting, first_misfit}
use Rattle.load.specs.Loading.{begin, feed, finish, holding, state_after, nodes_after, zeros}
use Rattle.lookup.specs.Steps.{lent, difference, sum}
use Rattle.lookup.specs.Walks.{find_in, arc_of, step_to, words_between, passed, passed_after, passed_first, number_ending, index_from, index_of_word}
use Rattle.lookup.specs.Walks.{word_index, words_here, turn_in, word_from, word_by_index}
use Rattle.letters.specs.LetterBits.{letter_bits_of, bits_written, tiles_of}
use Rattle.letters.specs.AlphaSets.{copies, spent, accepts_at, completes, closing, along, cross_copies, cross_letters, cross_from, cross_set}
use Rattle.pieces.specs.Pieces.{load_pieces, fed_pieces, feed_all}
use Rattle.export.specs.Blocks.{met, block_at}
use Rattle.windows1252.specs.Windows1252.{byte_of}
use Rattle.macondo_file.specs.Alphabet.{letters, letter_of}
use Rattle.macondo_file.specs.File.{arcs_of, set_of, blocks, letter_sets, block_of, macondo_nodes}
use Rattle.lxd_file.specs.File.{runs, child, lxd_node, lxd_nodes}
use Rattle.guarantees.specs.Starred.{Holds, cases}

pub starred : All Holds cases
unfolding cases fits fitting run in_order spelled words_within words table load_pieces fed_pieces feed_all begin feed finish first_of holding
    state_after nodes_after whole_nodes part_node first_misfit zeros largest_arc last_ends lent difference sum find_in arc_of step_to
    words_between passed passed_after passed_first number_ending index_from index_of_word word_index words_here turn_in word_from
    word_by_index bit_set letter_bits_of bits_written tiles_of copies spent accepts_at completes closing along cross_copies cross_letters
    cross_from cross_set inserted_all met block_at letters letter_of arcs_of set_of blocks letter_sets block_of macondo_nodes byte_of runs
    child lxd_node lxd_nodes
starred = (refl, (refl, (refl, (refl, (refl, (refl, (refl, (refl, (refl, (refl, (refl, tt)))))))))))
