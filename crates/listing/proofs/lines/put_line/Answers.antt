-- `lines::put_line` meets its contract: a line is its four parts, put one after the other.
use native.Mathlib.Omega.{arith}
use Rattle.endian.specs.Puts.{put-size}
use Rattle.listing.proofs.LinesLaws.{line-parts}
use Rattle.listing.proofs.PutLaws.{put-parts}
use Rattle.listing.proofs.lines.put_line.Goals as goal
use Rattle.listing.proofs.lines.put_line.Goals.{After-put_byte-tiles, After-put_number-tab, After-put_tiles-end, Start}

pub put_number-tab-requires : goal.put_number-tab-requires
put_number-tab-requires c = omega (arith, c.requires, line-parts c.args.number c.args.word.now)

-- the states after the number, its tab and the tiles
abbrev start : After-put_number-tab → Start
start s = (goal.at.After-put_number-tab s).Start

abbrev number_put : After-put_byte-tiles → After-put_number-tab
number_put s = (goal.at.After-put_byte-tiles s).After-put_number-tab

abbrev tab-put : After-put_tiles-end → After-put_byte-tiles
tab-put s = (goal.at.After-put_tiles-end s).After-put_byte-tiles

pub put_byte-tiles-requires : goal.put_byte-tiles-requires
put_byte-tiles-requires c =
    let n = (goal.at.put_byte-tiles-requires c).After-put_number-tab in
    let s = start n in
    let p = n.put_number-tab.ensures in
    omega (arith, s.requires, line-parts s.args.number s.args.word.now, p.place, put-size p)

pub put_tiles-end-requires : goal.put_tiles-end-requires
put_tiles-end-requires c =
    let t = (goal.at.put_tiles-end-requires c).After-put_byte-tiles in
    let n = number_put t in
    let s = start n in
    let p = n.put_number-tab.ensures in
    let q = t.put_byte-tiles.ensures in
    let l = line-parts s.args.number s.args.word.now in
    omega (arith, s.requires, l, p.place, put-size p, q.place, put-size q)

pub put_byte-requires : goal.put_byte-requires
put_byte-requires c =
    let w = (goal.at.put_byte-requires c).After-put_tiles-end in
    let t = tab-put w in
    let n = number_put t in
    let s = start n in
    let p = n.put_number-tab.ensures in
    let q = t.put_byte-tiles.ensures in
    let r = w.put_tiles-end.ensures in
    let l = line-parts s.args.number s.args.word.now in
    omega (arith, s.requires, l, p.place, put-size p, q.place, put-size q, r.place, put-size r)

pub returns : goal.returns
returns c =
    let w = (goal.at.returns c).After-put_tiles-end in
    let t = tab-put w in
    let n = number_put t in
    let a = (start n).args in
    put-parts a.number a.word.now n.put_number-tab.ensures t.put_byte-tiles.ensures w.put_tiles-end.ensures c.put_byte.ensures
