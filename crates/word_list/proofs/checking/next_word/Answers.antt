-- `checking::next_word` meets its contract: the first test of the row that holds refuses, and where none does there is a word.
use Rattle.std.proofs.Common.{rules, tests, ◌≡◌, sym, true, false, ◌||◌, eqb, ltb, length, lt-ltb, le-ltb, arith}
use Rattle.std.proofs.lemmas.Bool.{not-false}
use Rattle.word_list.proofs.CheckLaws.{bad_length, bad-end, bad-tile}
use Rattle.word_list.proofs.checking.next_word.Goals as goal

pub returns-then-not-contains : goal.returns-then-not-contains
returns-then-not-contains c =
    let t = c.in_ok-tiles in
    let bad : (eqb t.tiles.now 0 || ltb 64 t.tiles.now) ≡ true = search (rules, tests) in
    bad_length t.tiles.now t.rest.now t.ensures.cases.0 bad

pub returns-in_err-word : goal.returns-in_err-word
returns-in_err-word c =
    let t = c.in_ok-tiles in
    let fits : (eqb t.tiles.now 0 || ltb 64 t.tiles.now) ≡ false = search (rules, tests) in
    let short : ltb (length t.rest.now) t.tiles.now ≡ true = lt-ltb (length t.rest.now) t.tiles.now (omega (arith, c.in_err-word.ensures.cases)) in
    rw c.from_residual-in_err-word.ensures (bad-end t.tiles.now t.rest.now t.ensures.cases.0 fits short)

pub returns-else-are_tiles : goal.returns-else-are_tiles
returns-else-are_tiles c =
    let t = c.in_ok-tiles in
    let p = rw c.from.ensures at c.in_ok-word.ensures.cases in
    let fits : (eqb t.tiles.now 0 || ltb 64 t.tiles.now) ≡ false = search (rules, tests) in
    let inside : ltb (length t.rest.now) t.tiles.now ≡ false = le-ltb (length t.rest.now) t.tiles.now p.0 in
    bad-tile t.tiles.now t.rest.now t.ensures.cases.0 fits inside (rw (sym p.1) (not-false _ (sym c.if-are_tiles.ensures)))
