-- `number_sets` meets its contract. The list is in two parts: the blocks with their numbers, and the dictionary of the sets.
use Rattle.std.specs.Prelude.{◌≡◌, ◌*◌, length}
use Rattle.std.proofs.Common.{◌∙◌, rules, arith}
use Rattle.letter_sets.proofs.NumberLaws.{numbering_start, numbering-next, numbering-done}
use Rattle.letter_sets.proofs.RunLaws.{set-by}
use Rattle.letter_sets.proofs.number_sets.Goals as goal
use Rattle.letter_sets.proofs.number_sets.Goals.{At-loop-j}

part : (c : At-loop-j) → length c.loop-j.list ≡ 3 * length c.args.nodes.now
part c = c.loop-j.auto.list ∙ c.split_at_mut-list.ensures.front_len

pub loop-j-init : goal.loop-j-init
loop-j-init c =
    let room = c.split_at_mut-list.ensures.back_len in
    numbering_start _ _ _ _ c.split_at_mut-list.result.1.now (omega arith) c.split_at_mut-list.ensures.front (search rules)

pub number_key-numbered-requires-clause-tree : goal.number_key-numbered-requires-clause-tree
number_key-numbered-requires-clause-tree c = c.loop-j.invariant.tree

pub loop-j-preserved : goal.loop-j-preserved
loop-j-preserved c =
    let l = part (goal.at.loop-j-preserved c).At-loop-j in
    numbering-next _ _ _ _ c.requires.blocks_in_bounds c.requires.nodes_in_bounds l c.loop-j.invariant c.loop-j-test.true c.number_key-numbered.ensures
    c.letter_set-set.ensures

pub returns : goal.returns
returns c =
    let l = part (goal.at.returns c).At-loop-j in
    let all = numbering-done _ _ _ _ c.requires.blocks_in_bounds c.requires.nodes_in_bounds l c.loop-j.invariant c.loop-j-test.false in
    λ labels labelled ranked. rw (← set-by labels c.args.ranks.now c.args.nodes.now labelled ranked) all
