-- `in_play::count_clear` meets its contract: those counted and those left from a group on are all.
use Rattle.std.proofs.Common.{ℕ, List, ◌≡◌, ◌∙◌, sym, ap, arith, ◌+◌, ◌/◌, ◌<◌, length}
use Rattle.std.specs.Int.Count.{ones}
use Rattle.in_play.specs.InPlay.{not_in_play}
use Rattle.in_play.specs.Groups.{clear_bits}
use Rattle.in_play.proofs.GroupLaws.{group_joined}
use Rattle.in_play.proofs.ScanLaws.{left_from, all_left, left-most, count_next, count-last}
use Rattle.in_play.proofs.record.Record.count_clear.Goals as goal
use Rattle.in_play.proofs.record.Record.count_clear.Goals.{After-count_zeros-count, After-last_clear}

pub loop-group-init : goal.loop-group-init
loop-group-init c = omega (arith, ap length (all_left c.args.self.bits.now c.args.self.total))

-- the group's part of what is left
module _ (c : After-count_zeros-count) where
  abbrev bits : List ℕ
  bits = c.args.self.bits.now

  abbrev total : ℕ
  total = c.args.self.total

  abbrev g : ℕ
  g = c.loop-group.group-index

  group-is : length (left_from bits total g) ≡ c.count_zeros-count.result + length (left_from bits total (g + 1))
  group-is =
      let h : g < total / 64 = omega (arith, c.whole_groups-group-items.ensures.count) in
      let e = c.from_le_bytes.ensures ∙ group_joined bits (total / 64) g c.whole_groups-group-items.ensures.groups h (omega arith) in
      count_next bits total c.args.self.bytes (omega arith) g (omega arith)
      ∙ ap (λ n. n + length (left_from bits total (g + 1))) (sym (c.count_zeros-count.ensures.value ∙ ap (λ n. ones (clear_bits n)) e))

pub overflow_add-count : goal.overflow_add-count
overflow_add-count c = omega (arith, group-is c, left-most (bits c) (total c))

pub loop-group-preserved : goal.loop-group-preserved
loop-group-preserved c = omega (arith, group-is c)

-- the last group's part is all that is left
last-is : (c : After-last_clear) → let a = c.args.self in let l = c.loop-group in
    length (not_in_play a.bits.now a.total) ≡ l.count + ones c.last_clear.result
last-is c =
    let a = c.args.self in
    let l = c.loop-group in
    let done : l.group-index ≡ a.total / 64 = omega (arith, c.whole_groups-group-items.ensures.count) in
    sym l.invariant ∙ ap (λ n. l.count + n)
    (ap (λ g. length (left_from a.bits.now a.total g)) done
    ∙ count-last a.bits.now a.total c.args.self.bytes (omega arith)
    ∙ sym (ap ones c.last_clear.ensures))

pub overflow_add-result : goal.overflow_add-result
overflow_add-result c = omega (arith, last-is c, left-most c.args.self.bits.now c.args.self.total)

pub returns : goal.returns
returns c = sym (last-is c)
