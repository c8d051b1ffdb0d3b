-- `load_in_pieces` meets its contract: the feeds that are left, from the state, nodes and answers reached, leave what all feeds leave.
use Rattle.std.proofs.Common.{◌≡◌, ◌∙◌, length, arith}
use Rattle.pieces.proofs.CutLaws.{feed-next, feed-rest, load-left}
use Rattle.pieces.proofs.load_in_pieces.Goals as goal

pub loop-place-preserved : goal.loop-place-preserved
loop-place-preserved c =
    let l = c.loop-place in
    let e = c.split_at.ensures in
    feed-next l.answers l.loader l.nodes c.args.cuts.now l.rest.now l.place c.loop-place-test.true c.min.ensures e.front e.back c.feed-fed.ensures
    c.store_answer.ensures ∙ l.invariant

pub returns : goal.returns
returns c =
    let l = c.loop-place in
    let a = c.args in
    let e : length a.cuts.now ≡ l.place = omega arith in
    let m = rw e at c.store_answer-2.ensures in
    let rest = feed-rest l.answers l.loader l.nodes a.cuts.now l.rest.now l.place c.loop-place-test.false c.feed-fed-2.ensures m in
    load-left a.announced a.layout a.nodes.now a.cuts.now a.bytes.now a.answers.now _ c.begin-begun.ensures (rest ∙ l.invariant) c.finish.ensures
