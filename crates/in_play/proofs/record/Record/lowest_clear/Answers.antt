-- `in_play::lowest_clear` meets its contract: the groups passed have no clear bit, so those left from a group on are all.
use Rattle.std.proofs.Common.{ℕ, List, ◌≡◌, ◌≢◌, ◌∙◌, sym, ap, arith, ◌+◌, ◌*◌, ◌/◌, ◌<◌}
use Rattle.std.specs.Int.Count.{count_trailing_zeros}
use Rattle.std.proofs.Math.Seq.{slice}
use Rattle.in_play.specs.InPlay.{not_in_play}
use Rattle.in_play.specs.Groups.{Bytes, joined, clear_bits, last_clear, first_or}
use Rattle.in_play.proofs.GroupLaws.{group_joined}
use Rattle.in_play.proofs.ScanLaws.{left_from, all_left, lowest-here, none_here, lowest-last, last_some, last-below}
use Rattle.in_play.proofs.record.Record.lowest_clear.Goals as goal
use Rattle.in_play.proofs.record.Record.lowest_clear.Goals.{After-from_le_bytes-clear, After-last_clear}

pub loop-g-init : goal.loop-g-init
loop-g-init c = sym (all_left c.args.self.bits.now c.args.self.total)

-- a group that was read
module _ (c : After-from_le_bytes-clear) where
  abbrev bits : List ℕ
  bits = c.args.self.bits.now

  abbrev total : ℕ
  total = c.args.self.total

  abbrev g : ℕ
  g = c.loop-g.g

  abbrev clear : ℕ
  clear = clear_bits c.from_le_bytes-clear.result

  bytes : Bytes bits
  bytes = c.args.self.bytes

  here : g < total / 64
  here = omega (arith, c.whole_groups-group-items.ensures.count)

  clear-is : clear ≡ clear_bits (joined (slice (g * 8) (g * 8 + 8) bits))
  clear-is =
      let groups = c.whole_groups-group-items.ensures.groups in
      ap clear_bits (c.from_le_bytes-clear.ensures ∙ group_joined bits (total / 64) g groups here (omega arith))

  lowest-is : clear ≢ 0 → first_or 0 (not_in_play bits total) ≡ 64 * g + count_trailing_zeros 64 clear
  lowest-is n =
      ap (first_or 0) (sym c.loop-g.invariant)
      ∙ lowest-here bits total bytes (omega arith) g (omega arith) (λ z. n (clear-is ∙ z)) 0
      ∙ ap (λ v. 64 * g + count_trailing_zeros 64 v) (sym clear-is)

  passed : clear ≡ 0 → left_from bits total (g + 1) ≡ not_in_play bits total
  passed z = sym (none_here bits total bytes (omega arith) g (omega arith) (sym clear-is ∙ z)) ∙ c.loop-g.invariant

pub returns-then-clear-ne0 : goal.returns-then-clear-ne0
returns-then-clear-ne0 c = omega (arith, lowest-is (goal.at.returns-then-clear-ne0 c).After-from_le_bytes-clear c.if-clear-ne0.true)

pub loop-g-preserved : goal.loop-g-preserved
loop-g-preserved c = passed (goal.at.loop-g-preserved c).After-from_le_bytes-clear c.if-clear-ne0.false

-- the last group, in which there must be one
module _ (c : After-last_clear) where
  abbrev words : List ℕ
  words = c.args.self.bits.now

  abbrev size : ℕ
  size = c.args.self.total

  known : Bytes words
  known = c.args.self.bytes

  all_there : left_from words size (size / 64) ≡ not_in_play words size
  all_there =
      let l = c.loop-g in
      let done : l.g ≡ size / 64 = omega (arith, c.whole_groups-group-items.ensures.count) in
      ap (left_from words size) (sym done) ∙ l.invariant

  some-there : last_clear words size ≢ 0
  some-there = last_some words size known (omega arith) (rw all_there c.requires)

  low-is : count_trailing_zeros 64 c.last_clear.result ≡ count_trailing_zeros 64 (last_clear words size)
  low-is = ap (count_trailing_zeros 64) c.last_clear.ensures

pub overflow_add-result-2 : goal.overflow_add-result-2
overflow_add-result-2 c = omega (arith, low-is c, last-below (words c) (size c) (known c) (omega arith) (some-there c))

pub returns : goal.returns
returns c = let e = ap (first_or 0) (sym (all_there c)) ∙ lowest-last (words c) (size c) (known c) (omega arith) (some-there c) 0 in
    omega (arith, low-is c)
