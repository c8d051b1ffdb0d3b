-- `verdicts::replies` meets its contract: each call is made by its number.
use Rattle.std.proofs.Common.{◌≡◌, arith}
use Rattle.replay.specs.Judged as R
use Rattle.replay.proofs.VerdictLaws.{replies_as, counts_as}
use Rattle.replay.proofs.verdicts.replies.Goals as goal

pub returns-in-1 : goal.returns-in-1
returns-in-1 c = replies_as 1 c.in-1.is R.node-fields c.node_fields.ensures

pub returns-in-2 : goal.returns-in-2
returns-in-2 c = replies_as 2 c.in-2.is R.pack c.pack.ensures

pub returns-in-3 : goal.returns-in-3
returns-in-3 c = replies_as 3 c.in-3.is R.repack-node c.repack_node.ensures

pub returns-in-4 : goal.returns-in-4
returns-in-4 c = replies_as 4 c.in-4.is R.repack_in_place c.repack.ensures

pub returns-in-5 : goal.returns-in-5
returns-in-5 c = replies_as 5 c.in-5.is R.load c.load.ensures

pub returns-in-6 : goal.returns-in-6
returns-in-6 c = counts_as c.in-6.is c.count.ensures

pub returns-in-7 : goal.returns-in-7
returns-in-7 c = replies_as 7 c.in-7.is R.word-to-number c.word_index.ensures

pub returns-in-8 : goal.returns-in-8
returns-in-8 c = replies_as 8 c.in-8.is R.number-to-word c.word_by_index.ensures

pub returns-in-9 : goal.returns-in-9
returns-in-9 c = replies_as 9 c.in-9.is R.run-lookup c.seek.ensures

pub returns-in-10 : goal.returns-in-10
returns-in-10 c = replies_as 10 c.in-10.is R.run_step c.step.ensures

pub returns-in-11 : goal.returns-in-11
returns-in-11 c = replies_as 11 c.in-11.is R.letter-bits c.letter_bits.ensures

pub returns-in-12 : goal.returns-in-12
returns-in-12 c = replies_as 12 c.in-12.is R.accepts-alpha c.accepts_alpha.ensures

pub returns-in-13 : goal.returns-in-13
returns-in-13 c = replies_as 13 c.in-13.is R.alpha-cross-set c.alpha_cross_set.ensures

pub returns-in-14 : goal.returns-in-14
returns-in-14 c = replies_as 14 c.in-14.is R.macondo c.to_macondo.ensures

pub returns-in-15 : goal.returns-in-15
returns-in-15 c = replies_as 15 c.in-15.is R.lxd c.to_lxd.ensures

pub returns-in-16 : goal.returns-in-16
returns-in-16 c = replies_as 16 c.in-16.is R.pages c.write_page.ensures

pub returns-in-17 : goal.returns-in-17
returns-in-17 c = replies_as 17 c.in-17.is R.next_word c.next_word.ensures

pub returns-in-18 : goal.returns-in-18
returns-in-18 c = replies_as 18 c.in-18.is R.read-words c.read_words.ensures

pub returns-in_default : goal.returns-in_default
returns-in_default c =
    let is : c.args.call ≡ 19 = omega arith in
    replies_as 19 is R.build c.build.ensures
