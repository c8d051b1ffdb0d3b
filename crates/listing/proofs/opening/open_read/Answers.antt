-- `opening::open_read` meets its contract: more bytes than may be listed are those of a longer input, and any fewer are all; the length,
-- the load and the count, in this order, each end the opening as its definition says.
use mathlib.Core.Path.{sym}
use Rattle.std.proofs.lemmas.Result.{err_from_is_err_and}
use native.Mathlib.Omega.{arith}
use Prim.Native.Nat.{◌≤◌, ◌<◌}
use lib.ListN.{length, take, length-take}
use lib.Seq.{length-take-le}
use Rattle.listing.specs.Wordlist.{most_bytes}
use Rattle.listing.proofs.OpeningLaws.{loads_as, nodes-within, read-longer, opens-read, open-longer, open-unloaded, open-loaded}
use Rattle.listing.proofs.opening.open_read.Goals as goal
use Rattle.listing.proofs.opening.open_read.Goals.{After-load_input-arg-1, Start}

pub returns-then-read-gt-MOST_BYTES : goal.returns-then-read-gt-MOST_BYTES
returns-then-read-gt-MOST_BYTES c input h = open-longer c.requires.1 (read-longer c.args.input.now input c.args.read c.requires.0 (omega (arith, c.if-read-gt-MOST_BYTES.true)) h)

abbrev start : After-load_input-arg-1 → Start
start s = (goal.at.After-load_input-arg-1 s).Start

-- fewer bytes were read than the buffer has room for
within : (s : After-load_input-arg-1) → (start s).args.read < length (start s).args.input.now
within s = omega (arith, (start s).requires.0, s.if-read-gt-MOST_BYTES.false)

pub slice_bounds-load_input-end : goal.slice_bounds-load_input-end
slice_bounds-load_input-end c = sym (length-take-le _ _ (omega (arith, c.requires.0, c.if-read-gt-MOST_BYTES.false)))

-- and no more than may be listed
few : (s : After-load_input-arg-1) → length (take (start s).args.read (start s).args.input.now) ≤ most_bytes
few s = omega (arith, length-take (start s).args.read (start s).args.input.now, s.if-read-gt-MOST_BYTES.false)

pub returns-in_err-count : goal.returns-in_err-count
returns-in_err-count c =
    let e = (goal.at.returns-in_err-count c).After-load_input-arg-1 in
    let s = start e in
    let p = err_from_is_err_and c.from_residual.result c.from_residual.ensures.1 in
    rw (p.1, p.2) (opens-read s.args.input.now s.args.read (within e) (open-unloaded s.requires.1 (few e) _ (loads_as c.in_err-count.was c.load_input.ensures)))

pub slice_bounds-count_loaded-end : goal.slice_bounds-count_loaded-end
slice_bounds-count_loaded-end c =
    let a = c.args in nodes-within (take a.read a.input.now) a.nodes.now (loads_as c.in_ok-count.was c.load_input.ensures)

pub slice_bounds-count_loaded-end-2 : goal.slice_bounds-count_loaded-end-2
slice_bounds-count_loaded-end-2 c =
    let a = c.args in
    sym (length-take-le _ _ (nodes-within (take a.read a.input.now) a.nodes.now (loads_as c.in_ok-count.was c.load_input.ensures)))

pub returns : goal.returns
returns c =
    let e = (goal.at.returns c).After-load_input-arg-1 in
    let s = start e in
    let l = loads_as c.in_ok-count.was c.load_input.ensures in
    opens-read s.args.input.now s.args.read (within e) (open-loaded s.requires.1 (few e) _ _ l c.count_loaded.ensures)
